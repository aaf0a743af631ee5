-- The laws of how far a vertex is from a peg, and of the least of a row. Assumes nothing.
use mathlib.Core.Path.{◌≡◌, refl, sym, ap, ◌∙◌, subst}
use mathlib.Core.Logic.{◌⊎◌, inl, inr}
use mathlib.Core.Bool.{Bool, true, false, ◌&&◌, cond}
use mathlib.Core.List.{List, [], ◌∷◌}
use Prim.Native.Nat.{ℕ, suc, ◌+◌, ◌-◌, ◌*◌, ◌^◌, ◌/◌, ◌≤◌, ◌<◌, min}
use native.Mathlib.Nat.{mul-le-mul, lt_of_le_of_lt}
use native.Mathlib.Numerals.{towards_suc}
use native.Mathlib.Omega.{arith}
use borrow.Author.Tests.{le-leb, lt-leb, leb-true, leb-false}
use lib.Dec.{leb, lit≤, lit<}
use lib.IntN.{ℤ, pos, nat_abs, ◌+ℤ◌, ◌-ℤ◌}
use lib.ListN.{length, get_or, drop, length-drop}
use lib.Seq.{drop-cons}
use lib.Ieee.{Float, nan}
use Rattle.signed_numbers.specs.Linear.{up, down, alone, abs, plus, minus}
use Rattle.point_rules.specs.Points.{nearest}
use Rattle.point_cell.specs.Scale.{NearestWord, Scale}
use Rattle.peg_definition.specs.Peg.{micrometres, reach}
use Rattle.peg_distance.specs.Words.{Aimed, InReach, Squared, apart_from, beyond, least_to, middle, square_to}
use Rattle.peg_distance.specs.declared.target.Target.{Target}

-- ---- a coordinate

-- one shift rounds it
pub peg_scale : (factor : ℕ) → 1 ≤ factor → factor ≤ 1000000 → Scale factor middle
peg_scale factor l h = record { few = h; low = lit≤ tt; top = omega arith }

-- what stands for a distance is the distance, or both are beyond the reach
told_same : (p a : ℕ) → p ≡ a → min p (suc reach) ≡ min a (suc reach)
told_same p a e = ap (λ (n : ℕ). min n (suc reach)) e

told_far : (p a : ℕ) → reach < p → reach < a → min p (suc reach) ≡ min a (suc reach)
told_far p a h l = omega arith

-- a number whose word is exact
near_word : (w u d : ℕ) → w + min d middle ≡ middle + min u middle → u + d ≤ middle → w + d ≡ middle + u
near_word w u d e h = omega arith

-- and one farther out: its word is at an end
far_word : (w u d : ℕ) → w + min d middle ≡ middle + min u middle → min u d ≡ 0 → middle < u + d → (w ≡ 0) ⊎ (w ≡ 2 * middle)
far_word w u d e a h = go (leb u d) refl
  where
    go : (b : Bool) → leb u d ≡ b → (w ≡ 0) ⊎ (w ≡ 2 * middle)
    go true q = let l : u ≤ d = leb-true u d q in let z : u ≡ 0 = omega arith in inl (omega arith)
    go false q = let l : d < u = leb-false u d q in let z : d ≡ 0 = omega arith in inr (omega arith)

module _ (v : Float) (t w : ℕ) (near : InReach t) (e : NearestWord micrometres middle v w) where
  abbrev m : ℤ
  m = nearest micrometres v

  abbrev z : ℤ
  z = (m +ℤ pos middle) -ℤ pos t

  -- the difference, by its two sides
  sides : up z + (down m + t) ≡ up m + middle + down z
  sides = omega (arith, plus m (pos middle), minus (m +ℤ pos middle) (pos t))

  -- exact
  exact_below : up m + down m ≤ middle → w < t → t - w ≡ nat_abs z
  exact_below h l = omega (arith, sides, abs z, alone z, near_word w (up m) (down m) e.is h)

  exact_above : up m + down m ≤ middle → t ≤ w → w - t ≡ nat_abs z
  exact_above h l = omega (arith, sides, abs z, alone z, near_word w (up m) (down m) e.is h)

  -- far
  far_both : middle < up m + down m → reach < nat_abs z
  far_both h = omega (arith, sides, abs z, alone z, alone m, near.low, near.high)

  far_below : middle < up m + down m → w < t → reach < t - w
  far_below h l = go (far_word w (up m) (down m) e.is (alone m) h)
    where
      go : (w ≡ 0) ⊎ (w ≡ 2 * middle) → reach < t - w
      go (inl q) = omega (arith, near.low)
      go (inr q) = absurd (omega (arith, near.high))

  far_above : middle < up m + down m → t ≤ w → reach < w - t
  far_above h l = go (far_word w (up m) (down m) e.is (alone m) h)
    where
      go : (w ≡ 0) ⊎ (w ≡ 2 * middle) → reach < w - t
      go (inl q) = absurd (omega (arith, near.low))
      go (inr q) = omega (arith, near.high)

  pub apart_below : w < t → min (t - w) (suc reach) ≡ min (apart_from t v) (suc reach)
  apart_below h = go (leb (up m + down m) middle) refl
    where
      go : (b : Bool) → leb (up m + down m) middle ≡ b → min (t - w) (suc reach) ≡ min (nat_abs z) (suc reach)
      go true q = told_same (t - w) (nat_abs z) (exact_below (leb-true (up m + down m) middle q) h)
      go false q = let l = leb-false (up m + down m) middle q in told_far (t - w) (nat_abs z) (far_below l h) (far_both l)

  pub apart_above : t ≤ w → min (w - t) (suc reach) ≡ min (apart_from t v) (suc reach)
  apart_above h = go (leb (up m + down m) middle) refl
    where
      go : (b : Bool) → leb (up m + down m) middle ≡ b → min (w - t) (suc reach) ≡ min (nat_abs z) (suc reach)
      go true q = told_same (w - t) (nat_abs z) (exact_above (leb-true (up m + down m) middle q) h)
      go false q = let l = leb-false (up m + down m) middle q in told_far (w - t) (nat_abs z) (far_above l h) (far_both l)

-- ---- a square
few_square : (x : ℕ) → x ≤ reach → x * x ≤ reach * reach
few_square x h = mul-le-mul {n₁ = x} {m₁ = x} {n₂ = reach} {m₂ = reach} h h

pub square_fits : (x : ℕ) → x ≤ reach → x * x < 18446744073709551616
square_fits x h = lt_of_le_of_lt (few_square x h) (lit< tt)

pub squared_is : (x : ℕ) → x ≤ reach → Squared x (x * x)
squared_is x h = record { is = refl; few = few_square x h }

-- ---- a vertex

-- a distance told within the reach is the distance, and one told beyond it is beyond it
told_near : (p a : ℕ) → min p (suc reach) ≡ min a (suc reach) → p ≤ reach → p ≡ a
told_near p a e h = omega arith

told_beyond : (p a : ℕ) → min p (suc reach) ≡ min a (suc reach) → reach < p → leb a reach ≡ false
told_beyond p a e h = lt-leb a reach (omega arith)

told_within : (p a : ℕ) → min p (suc reach) ≡ min a (suc reach) → p ≤ reach → leb a reach ≡ true
told_within p a e h = le-leb a reach (omega arith)

-- its square
told_square : (p a p² : ℕ) → min p (suc reach) ≡ min a (suc reach) → p ≤ reach → Squared p p² → p² ≡ a * a
told_square p a p² e h s = s.is ∙ (λ i. told_near p a e h i * told_near p a e h i)

module _ (t : Target) (x y z : Float) (p : ℕ) (ep : min p (suc reach) ≡ min (apart_from t.x x) (suc reach)) where
  pub far_x : reach < p → beyond ≡ square_to t x y z
  unfolding square_to
  far_x h = rw (told_beyond p (apart_from t.x x) ep h)

  module _ (hp : p ≤ reach) (q : ℕ) (eq : min q (suc reach) ≡ min (apart_from t.y y) (suc reach)) where
    pub far_y : reach < q → beyond ≡ square_to t x y z
    unfolding square_to
    far_y h = rw (told_within p (apart_from t.x x) ep hp, told_beyond q (apart_from t.y y) eq h)

    module _ (hq : q ≤ reach) (r : ℕ) (er : min r (suc reach) ≡ min (apart_from t.z z) (suc reach)) where
      pub far_z : reach < r → beyond ≡ square_to t x y z
      unfolding square_to
      far_z h = rw (told_within p (apart_from t.x x) ep hp, told_within q (apart_from t.y y) eq hq, told_beyond r (apart_from t.z z) er h)

      pub square_sum : {p² q² r² : ℕ} → r ≤ reach → Squared p p² → Squared q q² → Squared r r² → p² + q² + r² ≡ square_to t x y z
      unfolding square_to
      square_sum {p²} {q²} {r²} hr sp sq sr =
          (λ i. told_square p (apart_from t.x x) p² ep hp sp i + told_square q (apart_from t.y y) q² eq hq sq i + told_square r (apart_from t.z z) r² er hr sr i)
          ∙ rw (told_within p (apart_from t.x x) ep hp, told_within q (apart_from t.y y) eq hq, told_within r (apart_from t.z z) er hr)

-- ---- a row

-- the vertex at k, and those behind it
least_next : (t : Target) (ps : List Float) (k : ℕ) → k + 2 < length ps
    → least_to t (drop k ps) ≡ min (square_to t (get_or ps k nan) (get_or ps (k + 1) nan) (get_or ps (k + 2) nan)) (least_to t (drop (k + 3) ps))
unfolding least_to
least_next t ps k h =
    simp towards_suc
    (ap (least_to t)
    (drop-cons ps k nan (omega arith)
    ∙ ap (λ (l : List Float). get_or ps k nan ∷ l) (drop-cons ps (suc k) nan (omega arith) ∙ ap (λ (l : List Float). get_or ps (suc k) nan ∷ l) (drop-cons ps (suc (suc k)) nan (omega arith)))))

-- fewer than three coordinates are no vertex
least_end : (t : Target) (ps : List Float) → length ps < 3 → least_to t ps ≡ beyond
unfolding least_to
least_end t [] h = refl
least_end t (x ∷ []) h = refl
least_end t (x ∷ y ∷ []) h = refl
least_end t (x ∷ y ∷ z ∷ ps) h = absurd (no (length ps) h)
  where
    no : (n : ℕ) → suc (suc (suc n)) < 3 → ⊥
    no n l = omega arith

-- the least of the first n vertices is such that the rest gives the whole
pub record Lessening (t : Target) (ps : List Float) (n least : ℕ) : Type 0 where
  pub few : least ≤ beyond
  pub rest : min least (least_to t (drop (3 * n) ps)) ≡ least_to t ps

-- no vertex that counts has more than that
least_few : (t : Target) (ps : List Float) → least_to t ps ≤ beyond
unfolding least_to
least_few t [] = omega arith
least_few t (x ∷ []) = omega arith
least_few t (x ∷ y ∷ []) = omega arith
least_few t (x ∷ y ∷ z ∷ ps) = let h = least_few t ps in omega arith

pub least_none : (t : Target) (ps : List Float) → Lessening t ps 0 beyond
least_none t ps = record { few = omega arith; rest = let h = least_few t ps in omega arith }

pub least_more : (t : Target) (ps : List Float) (n least s : ℕ) → Lessening t ps n least → n < length ps / 3
    → s ≡ square_to t (get_or ps (3 * n) nan) (get_or ps (3 * n + 1) nan) (get_or ps (3 * n + 2) nan) → {r : ℕ} → r ≡ min s least → Lessening t ps (n + 1) r
least_more t ps n least s v h e q =
    let next : least_to t (drop (3 * (n + 1)) ps) ≡ least_to t (drop (3 * n + 3) ps) = ap (λ (k : ℕ). least_to t (drop k ps)) (let f : 3 * (n + 1) ≡ 3 * n + 3 = omega arith in f) in
    record { few = omega (arith, v.few); rest = omega (arith, e, next, v.rest, least_next t ps (3 * n) (omega arith)) }

pub least_all : (t : Target) (ps : List Float) (n least : ℕ) → Lessening t ps n least → length ps / 3 ≤ n → least ≡ least_to t ps
least_all t ps n least v h = omega (arith, v.rest, v.few, least_end t (drop (3 * n) ps) (simp length-drop (omega arith)))
