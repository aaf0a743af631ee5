-- By the vertices that are not ignored, no listed bin is farther and no unlisted one as near. Assumes nothing.
use Rattle.std.specs.Prelude.{◌≡◌, ◌⊎◌, Bool, cond, List, [], ◌∷◌, map, ℕ, zero, suc, ◌≤◌, ◌<◌, length, ℤ, Float}
use Rattle.std.proofs.Math.Path.{refl}
use Rattle.std.proofs.Common.{sym, ap, ◌∙◌, subst, inl, inr, arith}
use Rattle.std.proofs.Math.Bool.{true, false}
use Rattle.std.proofs.Math.Dec.{leb}
use borrow.Author.Tests.{leb-true, leb-false, le-leb}
use Rattle.lists.specs.Lists.{all, filter, ascending}
use Rattle.lists.specs.Members.{Has}
use Rattle.lists.specs.Rising.{Rising, has_ascending, ascending_has, ascending_rises}
use Rattle.body_rows.specs.Body.{patches_of, rows_of, first_failing}
use Rattle.plan_definition.specs.Places.{Place}
use Rattle.peg_definition.specs.Peg.{Hit, Lookup, Found, Refused, winners, nearest_bins, hits_of, places_of, peg_checks, bins_of, lookup_of}

-- h is among the hits
abbrev pub Among : Hit → List Hit → Type 0
Among h [] = ⊥
Among h (g ∷ gs) = (h ≡ g) ⊎ Among h gs

-- a vertex of a bin than which no vertex is nearer
pub record Closest (hits : List Hit) (bin : ℕ) : Type 0 where
  pub hit : Hit
  pub among : Among hit hits
  pub of_bin : hit.bin ≡ bin
  pub least : (g : Hit) → Among g hits → hit.square ≤ g.square

-- The bins that are listed, by the vertices that are not ignored.
pub record Nearest (hits : List Hit) (bins : List ℕ) : Type 0 where
  -- a listed bin has a vertex than which no vertex is nearer
  pub no_farther : (b : ℕ) → Has b bins → Closest hits b
  -- every vertex of an unlisted bin is farther than some vertex of every listed one
  pub none_as_near : (g : Hit) → Among g hits → (Has g.bin bins → ⊥) → (b : ℕ) → Has b bins → (h : Closest hits b) → h.hit.square < g.square
  -- where there is a vertex, a bin is listed
  pub some_listed : (g : Hit) → Among g hits → (b : ℕ) × Has b bins
  -- the list ascends, each bin once
  pub rising : Rising 0 bins

-- ---- what the definitions of all, filter and map give

all_least : (h : Hit) (gs : List Hit) → all (λ g. leb h.square g.square) gs ≡ true → (g : Hit) → Among g gs → h.square ≤ g.square
unfolding all
all_least h [] e g m = absurd m
all_least h (x ∷ gs) e g m = go (leb h.square x.square) refl e m (λ q k. all_least h gs q g k)
  where
    no : {P : Type 0} → false ≡ true → P
    no {P} q = let z : ◌≡◌ {A = ℕ} 0 1 = cc in absurd (omega arith)

    go : (b : Bool) → leb h.square x.square ≡ b → elim b [ true ↦ all (λ g. leb h.square g.square) gs | false ↦ false ] ≡ true → (g ≡ x) ⊎ Among g gs
        → (all (λ g. leb h.square g.square) gs ≡ true → Among g gs → h.square ≤ g.square) → h.square ≤ g.square
    go true q f (inl i) r = subst (λ (k : Hit). h.square ≤ k.square) (sym i) (leb-true h.square x.square q)
    go true q f (inr k) r = r f k
    go false q f m r = no f

least_all : (h : Hit) (gs : List Hit) → ((g : Hit) → Among g gs → h.square ≤ g.square) → all (λ g. leb h.square g.square) gs ≡ true
unfolding all
least_all h [] l = refl
least_all h (x ∷ gs) l =
    ap (λ (b : Bool). elim b [ true ↦ all (λ g. leb h.square g.square) gs | false ↦ false ]) (le-leb h.square x.square (l x (inl refl)))
    ∙ least_all h gs (λ g k. l g (inr k))

-- among those that pass: among all, and it passes
pub record Passing (f : Hit → Bool) (hits : List Hit) (h : Hit) : Type 0 where
  pub among : Among h hits
  pub passes : f h ≡ true

filter_passes : (f : Hit → Bool) (hs : List Hit) (h : Hit) → Among h (filter f hs) → Passing f hs h
unfolding filter
filter_passes f [] h m = absurd m
filter_passes f (x ∷ hs) h m = go (f x) refl m (λ k. filter_passes f hs h k)
  where
    later : Passing f hs h → Passing f (x ∷ hs) h
    later p = record { among = inr p.among; passes = p.passes }

    go : (b : Bool) → f x ≡ b → Among h (cond b (x ∷ filter f hs) (filter f hs)) → (Among h (filter f hs) → Passing f hs h) → Passing f (x ∷ hs) h
    go true q (inl e) r = record { among = inl e; passes = ap f e ∙ q }
    go true q (inr k) r = later (r k)
    go false q k r = later (r k)

passes_filter : (f : Hit → Bool) (hs : List Hit) (h : Hit) → Among h hs → f h ≡ true → Among h (filter f hs)
unfolding filter
passes_filter f [] h m q = absurd m
passes_filter f (x ∷ hs) h m q = go (f x) refl m (λ k. passes_filter f hs h k q)
  where
    no : {P : Type 0} → false ≡ true → P
    no {P} e = let z : ◌≡◌ {A = ℕ} 0 1 = cc in absurd (omega arith)

    go : (b : Bool) → f x ≡ b → (h ≡ x) ⊎ Among h hs → (Among h hs → Among h (filter f hs)) → Among h (cond b (x ∷ filter f hs) (filter f hs))
    go true e (inl i) r = inl i
    go true e (inr k) r = inr (r k)
    go false e (inl i) r = no (sym e ∙ sym (ap f i) ∙ q)
    go false e (inr k) r = r k

-- a bin of some hits is that of one of them
pub record OfBin (hits : List Hit) (b : ℕ) : Type 0 where
  pub hit : Hit
  pub among : Among hit hits
  pub is : hit.bin ≡ b

bin_hit : (hs : List Hit) (b : ℕ) → Has b (map (λ h. h.bin) hs) → OfBin hs b
bin_hit [] b m = absurd m
bin_hit (x ∷ hs) b (inl e) = record { hit = x; among = inl refl; is = sym e }
bin_hit (x ∷ hs) b (inr k) = let p = bin_hit hs b k in record { hit = p.hit; among = inr p.among; is = p.is }

hit_bin : (hs : List Hit) (h : Hit) → Among h hs → Has h.bin (map (λ h. h.bin) hs)
hit_bin [] h m = absurd m
hit_bin (x ∷ hs) h (inl e) = inl (ap (λ (g : Hit). g.bin) e)
hit_bin (x ∷ hs) h (inr k) = inr (hit_bin hs h k)

-- some hit is least
pub record Least (hits : List Hit) : Type 0 where
  pub hit : Hit
  pub among : Among hit hits
  pub least : (g : Hit) → Among g hits → hit.square ≤ g.square

least_of : (h : Hit) (hs : List Hit) → Least (h ∷ hs)
least_of h [] = record { hit = h; among = inl refl; least = λ g m. only g m }
  where
    only : (g : Hit) → (g ≡ h) ⊎ ⊥ → h.square ≤ g.square
    only g (inl e) = subst (λ (k : Hit). h.square ≤ k.square) (sym e) (omega arith)
    only g (inr k) = absurd k
least_of h (x ∷ hs) = step h (x ∷ hs) (least_of x hs)
  where
    first : (h : Hit) (hs : List Hit) (p : Least hs) → h.square ≤ p.hit.square → (g : Hit) → (g ≡ h) ⊎ Among g hs → h.square ≤ g.square
    first h hs p l g (inl e) = subst (λ (k : Hit). h.square ≤ k.square) (sym e) (omega arith)
    first h hs p l g (inr k) = let m = p.least g k in omega arith

    later : (h : Hit) (hs : List Hit) (p : Least hs) → p.hit.square < h.square → (g : Hit) → (g ≡ h) ⊎ Among g hs → p.hit.square ≤ g.square
    later h hs p l g (inl e) = subst (λ (k : Hit). p.hit.square ≤ k.square) (sym e) (omega arith)
    later h hs p l g (inr k) = p.least g k

    step : (h : Hit) (hs : List Hit) → Least hs → Least (h ∷ hs)
    step h hs p = go (leb h.square p.hit.square) refl
      where
        go : (b : Bool) → leb h.square p.hit.square ≡ b → Least (h ∷ hs)
        go true e = record { hit = h; among = inl refl; least = first h hs p (leb-true h.square p.hit.square e) }
        go false e = record { hit = p.hit; among = inr p.among; least = later h hs p (leb-false h.square p.hit.square e) }

-- ---- the theorem

module _ (hits : List Hit) where
  -- a hit that no other is below wins, so that its bin is listed
  pub listed : (h : Hit) → Among h hits → ((g : Hit) → Among g hits → h.square ≤ g.square) → Has h.bin (nearest_bins hits)
  unfolding nearest_bins winners
  listed h m l =
      has_ascending h.bin (map (λ h. h.bin) (winners hits)) (hit_bin (winners hits) h (passes_filter (λ h. all (λ g. leb h.square g.square) hits) hits h m (least_all h hits l)))

  closest : (b : ℕ) → Has b (nearest_bins hits) → Closest hits b
  unfolding nearest_bins winners
  closest b m =
      let o : OfBin (winners hits) b = bin_hit (winners hits) b (ascending_has b (map (λ h. h.bin) (winners hits)) m) in
      let p = filter_passes (λ h. all (λ g. leb h.square g.square) hits) hits o.hit o.among in
      record { hit = o.hit; among = p.among; of_bin = o.is; least = all_least o.hit hits p.passes }

  -- The bins that the definition lists are nearest.
  pub nearest_bins_lem : Nearest hits (nearest_bins hits)
  unfolding nearest_bins
  nearest_bins_lem = record {
    no_farther = closest;
    none_as_near = λ g m n b k h. farther g m n h (leb g.square h.hit.square) refl;
    some_listed = λ g m. some hits refl g m;
    rising = ascending_rises (map (λ h. h.bin) (winners hits));
  }
    where
      farther : (g : Hit) → Among g hits → (Has g.bin (nearest_bins hits) → ⊥) → {b : ℕ} → (h : Closest hits b) → (t : Bool) → leb g.square h.hit.square ≡ t → h.hit.square < g.square
      farther g m n h true e = absurd (n (listed g m (λ f k. let p = h.least f k in let q = leb-true g.square h.hit.square e in omega arith)))
      farther g m n h false e = leb-false g.square h.hit.square e

      some : (hs : List Hit) → hs ≡ hits → (g : Hit) → Among g hits → (b : ℕ) × Has b (nearest_bins hits)
      some [] e g m = absurd (subst (λ (l : List Hit). Among g l) (sym e) m)
      some (x ∷ hs) e g m = let p : Least hits = subst Least e (least_of x hs) in (p.hit.bin, listed p.hit p.among p.least)

-- Every lookup that is accepted lists the bins that are nearest.
pub found_nearest : (table : List ℕ) (ps ns : List Float) (is : List ℕ) (list : List ℤ) (peg : Place) (room : ℕ) (bins : List ℕ) → lookup_of table ps ns is list peg room ≡ Found bins
    → Nearest (hits_of peg (patches_of (rows_of table) ps ns is) (places_of list)) bins
unfolding lookup_of bins_of
found_nearest table ps ns is list peg room bins e = go (first_failing (peg_checks table ps ns is list peg room (length (bins_of table ps ns is list peg)))) e
  where
    hits : List Hit
    hits = hits_of peg (patches_of (rows_of table) ps ns is) (places_of list)

    list_of : Lookup → List ℕ
    list_of (Refused n) = []
    list_of (Found l) = l

    accepted : Lookup → ℕ
    accepted (Refused n) = 0
    accepted (Found l) = 1

    go : (n : ℕ) → elim n as (λ k. Lookup) [ zero ↦ Found (nearest_bins hits) | suc k ↦ Refused (suc k) ] ≡ Found bins → Nearest hits bins
    go zero q = subst (Nearest hits) (ap list_of q) (nearest_bins_lem hits)
    go (suc k) q = absurd (no (ap accepted q))
      where
        no : ◌≡◌ {A = ℕ} 0 1 → ⊥
        no z = omega arith
