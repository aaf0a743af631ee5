-- Numbers as text: decimal without leading zeros, and bits as upper-case hex of a fixed length; written, and read. Assumes nothing.
use Rattle.std.specs.Prelude.{true, false, ◌&&◌, cond, List, [], ◌∷◌, ℕ, zero, suc, ◌+◌, ◌-◌, ◌*◌, ◌/◌, ◌%◌, ◌^◌, leb, ltb, eqb}
use Rattle.std.proofs.Math.Option.{Option, none, some}

-- ---- digits

-- the byte of a digit: 0 to 9, then A to F
unfoldable pub digit_byte : ℕ → ℕ
digit_byte d = cond (ltb d 10) (48 + d) (55 + d)

-- the digit that a byte stands for, 16 if it stands for none
unfoldable pub digit_of : ℕ → ℕ
digit_of c = cond (leb 48 c && leb c 57) (c - 48) (cond (leb 65 c && leb c 70) (c - 55) 16)

-- ---- writing

-- the last k digits of n in a base, the highest first
unfoldable pub digits : ℕ → ℕ → ℕ → List ℕ
digits base zero n = []
digits base (suc k) n = digit_byte (n / base ^ k % base) ∷ digits base k n

-- bits as k digits of hex
abbrev pub hex : ℕ → ℕ → List ℕ
hex k n = digits 16 k n

-- n in decimal with the fewest digits, suc k at the most
unfoldable pub decimal_to : ℕ → ℕ → List ℕ
decimal_to zero n = digits 10 1 n
decimal_to (suc k) n = elim (ltb n (10 ^ suc k)) [ true ↦ decimal_to k n | false ↦ digits 10 (suc (suc k)) n ]

-- n in decimal without leading zeros: 20 digits hold every number of 64 bits
abbrev pub decimal : ℕ → List ℕ
decimal n = decimal_to 19 n

-- ---- reading

-- a number that was read, and what follows it
pub record Found : Type 0 where
  pub value : ℕ
  pub rest : List ℕ

-- that number and that rest
abbrev pub found : ℕ → List ℕ → Found
found n xs = record { value = n; rest = xs }

-- k digits of hex, `before` being the value of those already read
unfoldable pub hex_from : ℕ → ℕ → List ℕ → Option Found
hex_from before zero xs = some (found before xs)
hex_from before (suc k) [] = none
hex_from before (suc k) (x ∷ xs) = elim (ltb (digit_of x) 16) [ true ↦ hex_from (before * 16 + digit_of x) k xs | false ↦ none ]

-- bits as k digits of hex
abbrev pub read_hex : ℕ → List ℕ → Option Found
read_hex k xs = hex_from 0 k xs

-- all decimal digits that follow, `before` being the value of those already read
unfoldable pub decimal_from : ℕ → List ℕ → Found
decimal_from before [] = found before []
decimal_from before (x ∷ xs) = elim (ltb (digit_of x) 10) [ true ↦ decimal_from (before * 10 + digit_of x) xs | false ↦ found before (x ∷ xs) ]

-- a number that is below a bound
unfoldable pub below : ℕ → Found → Option Found
below bound f = cond (ltb f.value bound) (some f) none

-- a decimal number: 0 alone, or all digits from one that isn't 0, and below a bound
unfoldable pub decimal_below : ℕ → List ℕ → Option Found
decimal_below bound [] = none
decimal_below bound (x ∷ xs) = elim (ltb (digit_of x) 10) [
  | true ↦ elim (eqb (digit_of x) 0) [ true ↦ some (found 0 xs) | false ↦ below bound (decimal_from (digit_of x) xs) ]
  | false ↦ none
]

-- a decimal number below 2 ^ 32
abbrev pub read_decimal : List ℕ → Option Found
read_decimal xs = decimal_below (2 ^ 32) xs
