-- The definitions that the theorems of this name in proofs/ speak of. Assumes nothing.
use Rattle.std.specs.Prelude.{List, ◌++◌, ◌≡◌, ℕ, suc, ◌+◌, ◌-◌, ◌≤◌, ◌<◌, length}
use Rattle.sheet_digits.specs.Digits.{Found}
use Rattle.signed_numbers.specs.Range.{farthest}
use Rattle.sheet_digits.specs.Offsets.{offset}

-- how many words offsets have
abbrev pub offset_words : ℕ
offset_words = suc (farthest + farthest)

-- what reading an offset found: its text, a word of an offset, and so many bytes
pub record OffsetOf (xs : List ℕ) (f : Found) : Type 0 where
  pub text : offset f.value ++ f.rest ≡ xs
  pub small : f.value < offset_words
  pub long : length xs ≤ 14 + length f.rest
