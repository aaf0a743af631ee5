-- How long a line of a form is at the most when it is printed, whatever its numbers are. Assumes nothing.
use Rattle.std.specs.Prelude.{Bool, true, false, cond, List, [], ◌∷◌, ◌≡◌, refl, ℕ, zero, suc, ◌-◌, ◌^◌, ◌≤◌, ltb, length}
use Rattle.std.proofs.Common.{ap, arith, length-append}
use Rattle.sheet_digits.specs.Digits.{digits, decimal_to, decimal, hex}
use Rattle.signed_numbers.specs.Range.{farthest}
use Rattle.sheet_digits.specs.Offsets.{minus, offset}
use Rattle.sheet_lines.specs.Forms.{Piece, Word, Bits, Number, Offset, print, line}
use Rattle.sheet_lines.specs.Lengths.{longest}

digits_length : (base k n : ℕ) → length (digits base k n) ≡ k
unfolding digits
digits_length base zero n = refl
digits_length base (suc k) n = ap suc (digits_length base k n)

pub decimal_length : (k n : ℕ) → length (decimal_to k n) ≤ suc k
unfolding decimal_to
decimal_length zero n = omega (arith, digits_length 10 1 n)
decimal_length (suc k) n = go (ltb n (10 ^ suc k)) (decimal_length k n)
  where
    go : (b : Bool) → length (decimal_to k n) ≤ suc k → length {A = ℕ} (elim b as (λ x. List ℕ) [ true ↦ decimal_to k n | false ↦ digits 10 (suc (suc k)) n ]) ≤ suc (suc k)
    go true h = omega arith
    go false h = omega (arith, digits_length 10 (suc (suc k)) n)

offset_length : (n : ℕ) → length (offset n) ≤ 21
unfolding offset
offset_length n = go (ltb n farthest)
  where
    go : (b : Bool) → length {A = ℕ} (cond b (minus ∷ decimal (farthest - n)) (decimal (n - farthest))) ≤ 21
    go true = omega (arith, decimal_length 19 (farthest - n))
    go false = omega (arith, decimal_length 19 (n - farthest))

pub print_length : (ps : List Piece) (ns : List ℕ) → length (print ps ns) ≤ longest 20 ps
unfolding print
print_length [] ns = omega arith
print_length (Word w ∷ ps) ns = omega (arith, length-append w (print ps ns), print_length ps ns)
print_length (Bits k ∷ ps) [] = omega arith
print_length (Bits k ∷ ps) (n ∷ ns) = omega (arith, length-append (hex k n) (print ps ns), digits_length 16 k n, print_length ps ns)
print_length (Number ∷ ps) [] = omega arith
print_length (Number ∷ ps) (n ∷ ns) = omega (arith, length-append (decimal n) (print ps ns), decimal_length 19 n, print_length ps ns)
print_length (Offset ∷ ps) [] = omega arith
print_length (Offset ∷ ps) (n ∷ ns) = omega (arith, length-append (offset n) (print ps ns), offset_length n, print_length ps ns)

pub line_length : (ps : List Piece) (ns : List ℕ) → length (line ps ns) ≤ suc (longest 20 ps)
unfolding line
line_length ps ns = omega (arith, length-append (print ps ns) (10 ∷ []), print_length ps ns)
