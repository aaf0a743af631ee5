-- Numbers that are among others, and the places where they stand. Assumes nothing.
use Rattle.std.specs.Prelude.{◌≡◌, refl, ◌⊎◌, List, [], ◌∷◌, ℕ, zero, suc, ◌<◌, length, get_or}
use Rattle.std.proofs.Common.{sym, inl, inr, le_of_suc-le-suc, not-suc-le-zero, arith}

-- y is among the numbers
abbrev pub Has : ℕ → List ℕ → Type 0
Has y [] = ⊥
Has y (x ∷ xs) = (y ≡ x) ⊎ Has y xs

-- the place where it stands
pub has_place : (y : ℕ) (xs : List ℕ) → Has y xs → (i : ℕ) × ((i < length xs) × (get_or xs i 0 ≡ y))
has_place y [] h = absurd h
has_place y (x ∷ xs) (inl e) = (0, (omega arith, sym e))
has_place y (x ∷ xs) (inr h) = let p = has_place y xs h in (suc p.0, (let l = p.1.0 in omega arith, p.1.1))

-- a number at a place is among them
pub has_item : (xs : List ℕ) (i : ℕ) → i < length xs → Has (get_or xs i 0) xs
has_item [] i h = absurd (not-suc-le-zero h)
has_item (x ∷ xs) zero h = inl refl
has_item (x ∷ xs) (suc i) h = inr (has_item xs i (le_of_suc-le-suc h))
