-- The laws of a slice's front: it has so many elements, or it is the whole slice, or none of it. Assumes nothing.
use Rattle.std.specs.Prelude.{List, [], ◌∷◌, ◌++◌, ◌≡◌, refl, ℕ, ◌≤◌, ◌<◌, length, take, drop}
use Rattle.std.proofs.Common.{ap, sym, arith, length-take-le, take_all}
use Rattle.lists.specs.Lists.{written}

module _ {A : Type 0} (n : ℕ) (s : List A) where
  pub front_count : n ≤ length s → n ≡ length (take n s)
  front_count h = sym (length-take-le n s h)

  pub front_all : length s < n → s ≡ take n s
  front_all h = sym (take_all n s (omega arith))

-- a front of no elements that was lent and came back
pub front_none : {A : Type 0} (front s : List A) → length front ≡ 0 → front ++ s ≡ s
front_none [] s h = refl
front_none (x ∷ front) s h = absurd (omega arith)

-- what was copied to a slice with room for all of it was written to the front
pub copied_whole : {A : Type 0} (xs old : List A) → length xs ≤ length old → take (length old) xs ++ drop (length xs) old ≡ written xs old
unfolding written
copied_whole xs old h = ap (λ ys. ys ++ drop (length xs) old) (take_all (length old) xs h)
