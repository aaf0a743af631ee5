-- The definitions that the theorems of this name in proofs/ speak of. Assumes nothing.
use Rattle.std.specs.Prelude.{List, ◌++◌, ◌≡◌, ℕ, ◌+◌, ◌-◌, ◌/◌, ◌^◌}
use Rattle.sheet_digits.specs.Digits.{digits, decimal, Found}

-- what hex digits gave: their text, with the value before them
pub record HexOf (before k : ℕ) (xs : List ℕ) (f : Found) : Type 0 where
  pub text : digits 16 k f.value ++ f.rest ≡ xs
  pub start : f.value / 16 ^ k ≡ before

-- what decimal digits gave: so many, their text, with the value before them
pub record DecimalOf (before : ℕ) (xs : List ℕ) (f : Found) : Type 0 where
  pub count : ℕ
  pub text : digits 10 count f.value ++ f.rest ≡ xs
  pub start : f.value / 10 ^ count ≡ before
