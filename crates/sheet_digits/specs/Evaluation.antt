-- A claim that says `unfolding evaluation` has every definition of this crate computed. Assumes nothing.
use Rattle.std.specs.Prelude.{ℕ}
use Rattle.sheet_digits.specs.Bytes.{lines}
use Rattle.sheet_digits.specs.Offsets.{offset, above, beneath, read_offset}
use Rattle.sheet_digits.specs.Digits.{digit_byte, digit_of, digits, decimal_to, hex_from, decimal_from, below, decimal_below}

-- every definition that computes
unfoldable pub evaluation : ℕ
unfolding lines digit_byte digit_of digits decimal_to hex_from decimal_from below decimal_below offset above beneath read_offset
evaluation = 0
