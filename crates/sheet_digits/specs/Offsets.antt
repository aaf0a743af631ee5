-- Offsets as text: decimal without leading zeros, negative ones with a minus, within plus or minus 2^40; written, and read. An offset is handed on as its word,
-- which is 2^40 more than the offset, so that no word is negative. Assumes nothing.
use Rattle.std.specs.Prelude.{true, false, cond, List, [], ◌∷◌, ℕ, suc, ◌+◌, ◌-◌, ◌*◌, ◌^◌, ltb, eqb}
use Rattle.std.proofs.Math.Option.{Option, none, some}
use Rattle.signed_numbers.specs.Range.{farthest}
use Rattle.sheet_digits.specs.Digits.{decimal, Found, found, decimal_below}

-- the byte of the minus
abbrev pub minus : ℕ
minus = 45

-- the offset of a word, as text
unfoldable pub offset : ℕ → List ℕ
offset n = cond (ltb n farthest) (minus ∷ decimal (farthest - n)) (decimal (n - farthest))

-- the word of an offset above or at zero, from its size
unfoldable pub above : Option Found → Option Found
above none = none
above (some f) = some (found (farthest + f.value) f.rest)

-- the word of an offset below zero, from its size; 0 has no minus
unfoldable pub beneath : Option Found → Option Found
beneath none = none
beneath (some f) = cond (eqb f.value 0) none (some (found (farthest - f.value) f.rest))

-- the word of the offset that a text begins with, and what follows it
unfoldable pub read_offset : List ℕ → Option Found
read_offset [] = none
read_offset (x ∷ xs) = elim (eqb x minus) [
  | true ↦ beneath (decimal_below (suc farthest) xs)
  | false ↦ above (decimal_below (suc farthest) (x ∷ xs))
]
