-- The smallest sum of squares of the vertices that are not ignored, and the bins that have it. Assumes nothing.
use Rattle.std.specs.Prelude.{◌≡◌, refl, ◌⊎◌, Bool, true, false, ◌&&◌, cond, List, [], ◌∷◌, ◌++◌, ℕ, zero, suc, ◌+◌, ◌*◌, ◌≤◌, ◌<◌, min, leb, ℤ, take, drop, Float}
use Rattle.std.proofs.Common.{sym, ap, ◌∙◌, subst, inl, inr, mul-le-mul, arith, leb-true, leb-false}
use Rattle.lists.specs.Both.{and_left, and_right}
use Rattle.lists.specs.Members.{Has}
use Rattle.body_rows.specs.Body.{Patch, Row, patches_of}
use Rattle.plan_definition.specs.Places.{Place}
use Rattle.peg_definition.specs.Peg.{Hit, apart, hits_of, near, nearest_bins, reach, row_hits, squares_sum, standing}
use Rattle.peg_definition.specs.Nearest.{Among, Closest, listed, nearest_bins_lem}
use Rattle.peg_distance.specs.Words.{beyond}

-- the smallest sum of squares, more than any that counts if there is no vertex
unfoldable pub least_of : List Hit → ℕ
least_of [] = beyond
least_of (h ∷ hs) = min h.square (least_of hs)

-- a vertex of a bin has a sum of squares
abbrev pub Ties : ℕ → ℕ → List Hit → Type 0
Ties s b [] = ⊥
Ties s b (h ∷ hs) = ((h.square ≡ s) × (h.bin ≡ b)) ⊎ Ties s b hs

-- ---- the least

pub least_most : (hs : List Hit) → least_of hs ≤ beyond
unfolding least_of
least_most [] = omega arith
least_most (h ∷ hs) = let e = least_most hs in omega arith

pub least_append : (gs hs : List Hit) → least_of (gs ++ hs) ≡ min (least_of gs) (least_of hs)
unfolding least_of
least_append [] hs = let e = least_most hs in omega arith
least_append (h ∷ gs) hs = let e = least_append gs hs in omega arith

-- no vertex has less
pub ties_least : (s b : ℕ) (hs : List Hit) → Ties s b hs → least_of hs ≤ s
unfolding least_of
ties_least s b [] t = absurd t
ties_least s b (h ∷ hs) (inl e) = let q = e.0 in omega arith
ties_least s b (h ∷ hs) (inr t) = let q = ties_least s b hs t in omega arith

-- one has it
pub least_ties : (hs : List Hit) → least_of hs < beyond → (b : ℕ) × Ties (least_of hs) b hs
unfolding least_of
least_ties [] l = absurd (omega arith)
least_ties (h ∷ hs) l = go (leb h.square (least_of hs)) refl (λ k. least_ties hs k)
  where
    go : (t : Bool) → leb h.square (least_of hs) ≡ t → (least_of hs < beyond → (b : ℕ) × Ties (least_of hs) b hs) → (b : ℕ) × Ties (min h.square (least_of hs)) b (h ∷ hs)
    go true e r = let q = leb-true h.square (least_of hs) e in let z : h.square ≡ min h.square (least_of hs) = omega arith in (h.bin, inl (z, refl))
    go false e r =
        let q = leb-false h.square (least_of hs) e in
        let z : least_of hs ≡ min h.square (least_of hs) = omega arith in
        let p = r (omega arith) in
        (p.0, inr (subst (λ (n : ℕ). Ties n p.0 hs) z p.1))

-- ---- appended

pub ties_left : (s b : ℕ) (gs hs : List Hit) → Ties s b gs → Ties s b (gs ++ hs)
ties_left s b [] hs t = absurd t
ties_left s b (h ∷ gs) hs (inl e) = inl e
ties_left s b (h ∷ gs) hs (inr t) = inr (ties_left s b gs hs t)

pub ties_right : (s b : ℕ) (gs hs : List Hit) → Ties s b hs → Ties s b (gs ++ hs)
ties_right s b [] hs t = t
ties_right s b (h ∷ gs) hs t = inr (ties_right s b gs hs t)

pub ties_either : (s b : ℕ) (gs hs : List Hit) → Ties s b (gs ++ hs) → Ties s b gs ⊎ Ties s b hs
ties_either s b [] hs t = inr t
ties_either s b (h ∷ gs) hs (inl e) = inl (inl e)
ties_either s b (h ∷ gs) hs (inr t) = go (ties_either s b gs hs t)
  where
    go : Ties s b gs ⊎ Ties s b hs → Ties s b (h ∷ gs) ⊎ Ties s b hs
    go (inl u) = inl (inr u)
    go (inr u) = inr u

-- ---- what the definition lists

ties_hit : (s b : ℕ) (hs : List Hit) → Ties s b hs → (h : Hit) × (Among h hs × ((h.square ≡ s) × (h.bin ≡ b)))
ties_hit s b [] t = absurd t
ties_hit s b (h ∷ hs) (inl e) = (h, (inl refl, e))
ties_hit s b (h ∷ hs) (inr t) = let p = ties_hit s b hs t in (p.0, (inr p.1.0, p.1.1))

hit_ties : (h : Hit) (hs : List Hit) → Among h hs → Ties h.square h.bin hs
hit_ties h [] m = absurd m
hit_ties h (g ∷ hs) (inl e) = inl (ap (λ (x : Hit). x.square) (sym e), ap (λ (x : Hit). x.bin) (sym e))
hit_ties h (g ∷ hs) (inr m) = inr (hit_ties h hs m)

-- a listed bin has the smallest
pub listed_ties : (b : ℕ) (hs : List Hit) → Has b (nearest_bins hs) → least_of hs < beyond → Ties (least_of hs) b hs
listed_ties b hs m l =
    let c : Closest hs b = (nearest_bins_lem hs).no_farther b m in
    let p = least_ties hs l in
    let q = ties_hit (least_of hs) p.0 hs p.1 in
    let low : least_of hs ≤ c.hit.square = ties_least c.hit.square c.hit.bin hs (hit_ties c.hit hs c.among) in
    let high : c.hit.square ≤ q.0.square = c.least q.0 q.1.0 in
    let is : q.0.square ≡ least_of hs = q.1.1.0 in
    let e : c.hit.square ≡ least_of hs = omega arith in
    subst (λ (n : ℕ). Ties n b hs) e (subst (λ (n : ℕ). Ties c.hit.square n hs) c.of_bin (hit_ties c.hit hs c.among))

-- and a bin that has it is listed
pub ties_listed : (b : ℕ) (hs : List Hit) → Ties (least_of hs) b hs → Has b (nearest_bins hs)
ties_listed b hs t =
    let q = ties_hit (least_of hs) b hs t in
    subst (λ (n : ℕ). Has n (nearest_bins hs)) q.1.1.1
    (listed hs q.0 q.1.0 (λ g m. let l : least_of hs ≤ g.square = ties_least g.square g.bin hs (hit_ties g hs m) in let e : q.0.square ≡ least_of hs = q.1.1.0 in omega arith))

-- ---- the vertices of a row

-- all have the row's bin
pub row_bin : (peg : Place) (bin : ℕ) (place : Place) (ps : List Float) (s b : ℕ) → Ties s b (row_hits peg bin place ps) → b ≡ bin
unfolding row_hits
row_bin peg bin place [] s b t = absurd t
row_bin peg bin place (x ∷ []) s b t = absurd t
row_bin peg bin place (x ∷ y ∷ []) s b t = absurd t
row_bin peg bin place (x ∷ y ∷ z ∷ ps) s b t = go (near peg (standing place x y z)) t (λ u. row_bin peg bin place ps s b u)
  where
    first : Ties s b (record { bin = bin; square = squares_sum peg (standing place x y z) } ∷ row_hits peg bin place ps) → (Ties s b (row_hits peg bin place ps) → b ≡ bin) → b ≡ bin
    first (inl e) r = sym e.1
    first (inr u) r = r u

    go : (c : Bool) → Ties s b (cond c (record { bin = bin; square = squares_sum peg (standing place x y z) } ∷ row_hits peg bin place ps) (row_hits peg bin place ps))
        → (Ties s b (row_hits peg bin place ps) → b ≡ bin) → b ≡ bin
    go true u r = first u r
    go false u r = r u

-- how near they come has nothing to do with the bin
pub row_least_bin : (peg : Place) (bin other : ℕ) (place : Place) (ps : List Float) → least_of (row_hits peg bin place ps) ≡ least_of (row_hits peg other place ps)
unfolding row_hits least_of
row_least_bin peg bin other place [] = refl
row_least_bin peg bin other place (x ∷ []) = refl
row_least_bin peg bin other place (x ∷ y ∷ []) = refl
row_least_bin peg bin other place (x ∷ y ∷ z ∷ ps) = go (near peg (standing place x y z)) (row_least_bin peg bin other place ps)
  where
    go : (c : Bool) → least_of (row_hits peg bin place ps) ≡ least_of (row_hits peg other place ps)
        → least_of (cond c (record { bin = bin; square = squares_sum peg (standing place x y z) } ∷ row_hits peg bin place ps) (row_hits peg bin place ps))
        ≡ least_of (cond c (record { bin = other; square = squares_sum peg (standing place x y z) } ∷ row_hits peg other place ps) (row_hits peg other place ps))
    go true e = ap (λ (n : ℕ). min (squares_sum peg (standing place x y z)) n) e
    go false e = e

-- each counts: its sum of squares is less than `beyond`
few_square : (n : ℕ) → n ≤ reach → n * n ≤ reach * reach
few_square n h = mul-le-mul {n₁ = n} {m₁ = n} {n₂ = reach} {m₂ = reach} h h

near_few : (peg p : Place) → near peg p ≡ true → squares_sum peg p < beyond
near_few peg p e =
    let x = apart p.x peg.x in
    let y = apart p.y peg.y in
    let z = apart p.z peg.z in
    let yz = and_right (leb x reach) (leb y reach && leb z reach) e in
    let hx = few_square x (leb-true x reach (and_left (leb x reach) (leb y reach && leb z reach) e)) in
    let hy = few_square y (leb-true y reach (and_left (leb y reach) (leb z reach) yz)) in
    let hz = few_square z (leb-true z reach (and_right (leb y reach) (leb z reach) yz)) in
    sums (x * x) (y * y) (z * z) hx hy hz
  where
    sums : (a b c : ℕ) → a ≤ reach * reach → b ≤ reach * reach → c ≤ reach * reach → a + b + c < beyond
    sums a b c h i j = omega arith

pub row_few : (peg : Place) (bin : ℕ) (place : Place) (ps : List Float) (s b : ℕ) → Ties s b (row_hits peg bin place ps) → s < beyond
unfolding row_hits
row_few peg bin place [] s b t = absurd t
row_few peg bin place (x ∷ []) s b t = absurd t
row_few peg bin place (x ∷ y ∷ []) s b t = absurd t
row_few peg bin place (x ∷ y ∷ z ∷ ps) s b t = go (near peg (standing place x y z)) refl t (λ u. row_few peg bin place ps s b u)
  where
    first : near peg (standing place x y z) ≡ true → Ties s b (record { bin = bin; square = squares_sum peg (standing place x y z) } ∷ row_hits peg bin place ps)
        → (Ties s b (row_hits peg bin place ps) → s < beyond) → s < beyond
    first q (inl e) r = subst (λ (n : ℕ). n < beyond) e.0 (near_few peg (standing place x y z) q)
    first q (inr u) r = r u

    go : (c : Bool) → near peg (standing place x y z) ≡ c
        → Ties s b (cond c (record { bin = bin; square = squares_sum peg (standing place x y z) } ∷ row_hits peg bin place ps) (row_hits peg bin place ps))
        → (Ties s b (row_hits peg bin place ps) → s < beyond) → s < beyond
    go true q u r = first q u r
    go false q u r = r u

-- ---- the vertices of a body

-- each counts
pub hits_few : (peg : Place) (patches : List Patch) (places : List Place) (s b : ℕ) → Ties s b (hits_of peg patches places) → s < beyond
unfolding hits_of
hits_few peg [] places s b t = absurd t
hits_few peg (p ∷ patches) [] s b t = absurd t
hits_few peg (p ∷ patches) (q ∷ places) s b t =
    go (ties_either s b (row_hits peg p.row.bin q p.positions) (hits_of peg patches places) t) (λ u. hits_few peg patches places s b u)
  where
    go : Ties s b (row_hits peg p.row.bin q p.positions) ⊎ Ties s b (hits_of peg patches places) → (Ties s b (hits_of peg patches places) → s < beyond) → s < beyond
    go (inl u) r = row_few peg p.row.bin q p.positions s b u
    go (inr u) r = r u

-- so there is none where the least is beyond
pub hits_empty : (hs : List Hit) → ((s b : ℕ) → Ties s b hs → s < beyond) → least_of hs ≡ beyond → hs ≡ []
hits_empty [] f e = refl
hits_empty (h ∷ hs) f e =
    let t : Ties h.square h.bin (h ∷ hs) = inl (refl, refl) in
    let l = f h.square h.bin t in
    let m = ties_least h.square h.bin (h ∷ hs) t in
    absurd (omega arith)

-- normals and indices play no part
pub hits_shape : (peg : Place) (rows : List Row) (ps ns ns' : List Float) (is is' : List ℕ) (places : List Place)
    → hits_of peg (patches_of rows ps ns is) places ≡ hits_of peg (patches_of rows ps ns' is') places
unfolding hits_of patches_of
hits_shape peg [] ps ns ns' is is' places = refl
hits_shape peg (r ∷ rows) ps ns ns' is is' [] = refl
hits_shape peg (r ∷ rows) ps ns ns' is is' (q ∷ places) =
    ap (λ (l : List Hit). row_hits peg r.bin q (take (3 * r.vertices) ps) ++ l)
    (hits_shape peg rows (drop (3 * r.vertices) ps) (drop (3 * r.vertices) ns) (drop (3 * r.vertices) ns') (drop r.indices is) (drop r.indices is') places)
