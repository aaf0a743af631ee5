-- The first check that fails, and what tests that did not fail give. Assumes nothing.
use Rattle.std.specs.Prelude.{◌≡◌, refl, Bool, true, false, cond, List, [], ◌∷◌, ◌++◌, ℕ, suc, ◌<◌, ltb}
use Rattle.std.proofs.Common.{arith, ltb-true}
use Rattle.lists.specs.Lists.{all}
use Rattle.body_rows.specs.Body.{Check, check, first_failing}

-- ---- the first check that fails
-- the first check fails
pub first_here : (n : ℕ) {b : Bool} (cs : List Check) → b ≡ true → n ≡ first_failing (check n b ∷ cs)
unfolding first_failing
first_here n {b} cs e = rw e

-- it does not
pub first_next : (n : ℕ) {b : Bool} (cs : List Check) → b ≡ false → first_failing cs ≡ first_failing (check n b ∷ cs)
unfolding first_failing
first_next n {b} cs e = rw e

-- there is none
pub first_none : 0 ≡ first_failing []
unfolding first_failing
first_none = refl

-- a check that does not fail
pub record Clear (b : Bool) (cs : List Check) : Type 0 where
  pub here : b ≡ false
  pub rest : first_failing cs ≡ 0

-- where nothing fails the first check does not
pub clear_first : (n : ℕ) (b : Bool) (cs : List Check) → first_failing (check (suc n) b ∷ cs) ≡ 0 → Clear b cs
unfolding first_failing
clear_first n true cs h = absurd (no h)
  where
    no : suc n ≡ 0 → ⊥
    no e = omega arith
clear_first n false cs h = record { here = refl; rest = h }

-- a list of checks that fails decides for a longer one
pub first_stop : (xs ys : List Check) → (first_failing xs ≡ 0 → ⊥) → first_failing xs ≡ first_failing (xs ++ ys)
unfolding first_failing
first_stop [] ys h = absurd (h refl)
first_stop (x ∷ xs) ys h = go x.fails x.number h (first_stop xs ys)
  where
    go : (b : Bool) (n : ℕ) → (cond b n (first_failing xs) ≡ 0 → ⊥) → ((first_failing xs ≡ 0 → ⊥) → first_failing xs ≡ first_failing (xs ++ ys))
        → cond b n (first_failing xs) ≡ cond b n (first_failing (xs ++ ys))
    go true n k r = refl
    go false n k r = r k

-- whether a check has a number above 0
abbrev pub numbered : Check → Bool
numbered c = ltb 0 c.number

-- and one that does not fail leaves it to the rest, where every number is above 0
pub first_on : (xs ys : List Check) → all numbered xs ≡ true → first_failing xs ≡ 0 → first_failing ys ≡ first_failing (xs ++ ys)
unfolding first_failing all
first_on [] ys p h = refl
first_on (x ∷ xs) ys p h = go x.fails (ltb 0 x.number) x.number (ltb-true 0 x.number) p h (first_on xs ys)
  where
    apart : false ≡ true → ⊥
    apart r = let z : ◌≡◌ {A = ℕ} 0 1 = cc in omega arith

    above : (n : ℕ) → 0 < n → n ≡ 0 → ⊥
    above n l z = omega arith

    go : (b t : Bool) (n : ℕ) → (t ≡ true → 0 < n) → elim t [ true ↦ all numbered xs | false ↦ false ] ≡ true → cond b n (first_failing xs) ≡ 0
        → (all numbered xs ≡ true → first_failing xs ≡ 0 → first_failing ys ≡ first_failing (xs ++ ys)) → first_failing ys ≡ cond b n (first_failing (xs ++ ys))
    go b false n l q e r = absurd (apart q)
    go true true n l q e r = absurd (above n (l refl) e)
    go false true n l q e r = r q e
