-- Small numbers written and read, each of which tells a reading of document 01 from a near miss. Assumes nothing.
use Rattle.std.specs.Prelude.{[], ◌∷◌, ◌≡◌, refl}
use Rattle.std.proofs.Math.Option.{none, some}
use Rattle.sheet_digits.specs.Bytes.{bytes}
use Rattle.sheet_digits.specs.Digits.{found, hex, decimal, read_hex, read_decimal}
use Rattle.sheet_digits.specs.Offsets.{offset, read_offset}
use Rattle.sheet_digits.specs.Evaluation.{evaluation}

-- bits are written in upper-case hex, as many digits as are asked for
hex_written : hex 8 0x3fabc0de ≡ bytes "3FABC0DE"
unfolding evaluation
hex_written = refl

-- they are read, and what follows them is left
hex_read : read_hex 8 (bytes "3FABC0DE)") ≡ some (found 0x3fabc0de (bytes ")"))
unfolding evaluation
hex_read = refl

-- a lower-case digit is none
lower_case : read_hex 8 (bytes "3FaBC0DE)") ≡ none
unfolding evaluation
lower_case = refl

-- a digit too few is no number
short_hex : read_hex 8 (bytes "3FABC0D") ≡ none
unfolding evaluation
short_hex = refl

-- decimal has no leading zeros, and 0 is one digit
decimal_written : (decimal 0 ∷ decimal 10 ∷ decimal 4294967295 ∷ []) ≡ (bytes "0" ∷ bytes "10" ∷ bytes "4294967295" ∷ [])
unfolding evaluation
decimal_written = refl

-- the digits that follow are taken, but none after a leading zero
decimal_read : (read_decimal (bytes "10 7") ∷ read_decimal (bytes "07") ∷ []) ≡ (some (found 10 (bytes " 7")) ∷ some (found 0 (bytes "7")) ∷ [])
unfolding evaluation
decimal_read = refl

-- a number is below 2 ^ 32
largest : (read_decimal (bytes "4294967295") ∷ read_decimal (bytes "4294967296") ∷ []) ≡ (some (found 4294967295 []) ∷ none ∷ [])
unfolding evaluation
largest = refl

-- no digit is no number
no_digit : (read_decimal (bytes "A") ∷ read_decimal [] ∷ []) ≡ (none ∷ none ∷ [])
unfolding evaluation
no_digit = refl

-- an offset's word is 2^40 more than it: 5, 0, -1, and the farthest two
offset_written : (offset 1099511627781 ∷ offset 1099511627776 ∷ offset 1099511627775 ∷ offset 2199023255552 ∷ offset 0 ∷ [])
    ≡ (bytes "5" ∷ bytes "0" ∷ bytes "-1" ∷ bytes "1099511627776" ∷ bytes "-1099511627776" ∷ [])
unfolding evaluation
offset_written = refl

offset_read : (read_offset (bytes "-12 3") ∷ read_offset (bytes "0)") ∷ read_offset (bytes "-1099511627776") ∷ [])
    ≡ (some (found 1099511627764 (bytes " 3")) ∷ some (found 1099511627776 (bytes ")")) ∷ some (found 0 []) ∷ [])
unfolding evaluation
offset_read = refl

-- minus 0, a plus, two minuses, a minus alone, nothing; beyond the farthest, and beyond 64 bits
no_offset :
    (read_offset (bytes "-0") ∷ read_offset (bytes "+5") ∷ read_offset (bytes "--1") ∷ read_offset (bytes "-") ∷ read_offset [] ∷ read_offset (bytes "1099511627777") ∷ read_offset (bytes "-1099511627777")
    ∷ read_offset (bytes "18446744073709551616") ∷ [])
    ≡ (none ∷ none ∷ none ∷ none ∷ none ∷ none ∷ none ∷ none ∷ [])
unfolding evaluation
no_offset = refl
