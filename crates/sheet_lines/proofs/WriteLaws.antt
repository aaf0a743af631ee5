-- The laws of writing a line by a form: what is written and what is left to write make the form's text. Assumes nothing.
use mathlib.Core.List.{List, [], ◌∷◌, ◌++◌, append-nil, append_assoc}
use mathlib.Core.Path.{◌≡◌, refl, sym, ◌∙◌, ap, subst}
use Prim.Native.Nat.{ℕ, ◌+◌, ◌-◌, ◌≤◌, ◌<◌}
use native.Mathlib.Nat.{add-zero}
use native.Mathlib.Omega.{arith}
use lib.ListN.{length, get_or, drop, drop_of_length-le}
use Rattle.sheet_digit_writing.specs.Writing.{Wrote}
use Rattle.sheet_digits.specs.Next.{next}
use Rattle.sheet_digit_writing.specs.Wrote.{wrote_none, wrote_then}
use Rattle.sheet_lines.specs.Forms.{Piece, Word, Bits, Number, Offset, line, print}
use Rattle.sheet_lines.specs.Pattern.{numbers_of, piece, pieces, print_number, print_piece}
use Rattle.sheet_lines.specs.Scan.{Numbers}
use Rattle.sheet_lines.proofs.PieceLaws.{itself, piece_byte}

-- ---- one piece
pub put_none : (E : List ℕ) (at c n : ℕ) → at ≤ length E → (c ≡ 35 → ⊥) → (c ≡ 36 → ⊥) → (c ≡ 42 → ⊥) → (c ≡ 37 → ⊥) → Wrote E at (print_number (piece c) n) E at
unfolding print_number
put_none E at c n h m o s q = subst (λ (p : Piece). Wrote E at (print_number p n) E at) (sym (piece_byte c m o s q)) (wrote_none E at h)

pub put_as : (p : Piece) (E : List ℕ) (at c n : ℕ) (W : List ℕ) (r : ℕ) → piece c ≡ p → Wrote E at (print_number p n) W r → Wrote E at (print_number (piece c) n) W r
put_as p E at c n W r e w = subst (λ (q : Piece). Wrote E at (print_number q n) W r) (sym e) w

pub put_itself : (E : List ℕ) (at c k n : ℕ) (W : List ℕ) (r : ℕ) → Numbers c k → k ≡ 0 → Wrote E at (c ∷ []) W r → Wrote E at (print_piece (piece c) n) W r
unfolding print_piece
put_itself E at c k n W r v z w = subst (λ (p : Piece). Wrote E at (print_piece p n) W r) (sym (itself c k v z)) w

number_text : (p : Piece) (n : ℕ) → ¬ (numbers_of p ≡ 0) → print_piece p n ≡ 32 ∷ print_number p n
unfolding print_piece numbers_of print_number
number_text (Word w) n m = absurd (m refl)
number_text (Bits k) n m = refl
number_text Number n m = refl
number_text Offset n m = refl

pub put_spaced : (E : List ℕ) (at c k n : ℕ) (W : List ℕ) (q : ℕ) (U : List ℕ) (r : ℕ) → Numbers c k → ¬ (k ≡ 0) → Wrote E at (32 ∷ []) W q → Wrote W q (print_number (piece c) n) U r
    → Wrote E at (print_piece (piece c) n) U r
put_spaced E at c k n W q U r v m w u = subst (λ (xs : List ℕ). Wrote E at xs U r) (sym (number_text (piece c) n (λ z. m (v.is ∙ z)))) (wrote_then w u)

-- ---- the form
print_step : (p : Piece) (ps : List Piece) (ns : List ℕ) (count : ℕ) → count + numbers_of p ≤ length ns
    → print (p ∷ ps) (drop count ns) ≡ print_piece p (get_or ns count 0) ++ print ps (drop (count + numbers_of p) ns)
unfolding print print_piece numbers_of
print_step (Word w) ps ns count h = ap (λ (k : ℕ). w ++ print ps (drop k ns)) (sym (add-zero count))
print_step (Bits k) ps ns count h = ap (print (Bits k ∷ ps)) (next ns count 0 (omega arith))
print_step Number ps ns count h = ap (print (Number ∷ ps)) (next ns count 0 (omega arith))
print_step Offset ps ns count h = ap (print (Offset ∷ ps)) (next ns count 0 (omega arith))

print_short : (p : Piece) (ps : List Piece) (ns : List ℕ) (count : ℕ) → count ≤ length ns → length ns - count < numbers_of p → print (p ∷ ps) (drop count ns) ≡ []
unfolding print numbers_of
print_short (Word w) ps ns count l h = absurd (omega arith)
print_short (Bits k) ps ns count l h = let past : length ns ≤ count = omega arith in ap (print (Bits k ∷ ps)) (drop_of_length-le ns past)
print_short Number ps ns count l h = let past : length ns ≤ count = omega arith in ap (print (Number ∷ ps)) (drop_of_length-le ns past)
print_short Offset ps ns count l h = let past : length ns ≤ count = omega arith in ap (print (Offset ∷ ps)) (drop_of_length-le ns past)

pub record Formed (E : List ℕ) (at : ℕ) (form numbers W : List ℕ) (place count i : ℕ) : Type 0 where
  pub few : i ≤ length form
  pub counted : count ≤ length numbers
  pub done : List ℕ
  pub wrote : Wrote E at done W place
  pub same : done ++ print (pieces (drop i form)) (drop count numbers) ≡ print (pieces form) numbers

pub formed_none : (E : List ℕ) (at : ℕ) (form numbers : List ℕ) → at ≤ length E → Formed E at form numbers E at 0 0
formed_none E at form numbers h = record { few = omega arith; counted = omega arith; done = []; wrote = wrote_none E at h; same = refl }

module _ (E : List ℕ) (at : ℕ) (form numbers W : List ℕ) (place count i : ℕ) (v : Formed E at form numbers W place count i) where
  pub formed_all : length form ≤ i → Wrote E at (print (pieces form) numbers) W place
  unfolding print
  formed_all h =
      let done : drop i form ≡ [] = drop_of_length-le form h in
      subst (λ (xs : List ℕ). Wrote E at xs W place)
      (sym (append-nil v.done) ∙ ap (λ (cs : List ℕ). v.done ++ print (pieces cs) (drop count numbers)) (sym done) ∙ v.same)
      v.wrote

  module _ (n : ℕ) (h : i < length form) (counts : Numbers (get_or form i 0) n) where
    abbrev here : Piece
    here = piece (get_or form i 0)

    e : n ≡ numbers_of here
    e = counts.is

    rest : print (pieces (drop i form)) (drop count numbers) ≡ print (here ∷ pieces (drop (i + 1) form)) (drop count numbers)
    rest = ap (λ (cs : List ℕ). print (pieces cs) (drop count numbers)) (next form i 0 h)

    pub formed_short : length numbers - count < n → Wrote E at (print (pieces form) numbers) W place
    formed_short l =
        let nothing : print (pieces (drop i form)) (drop count numbers) ≡ [] = rest
        ∙ print_short here (pieces (drop (i + 1) form)) numbers count v.counted (subst (λ (k : ℕ). length numbers - count < k) e l) in
        subst (λ (xs : List ℕ). Wrote E at xs W place) (sym (append-nil v.done) ∙ ap (λ (xs : List ℕ). v.done ++ xs) (sym nothing) ∙ v.same) v.wrote

    pub formed_more : (value : ℕ) (U : List ℕ) (r : ℕ) → n ≤ length numbers - count → value ≡ get_or numbers count 0 → Wrote W place (print_piece here value) U r
        → Formed E at form numbers U r (count + n) (i + 1)
    formed_more value U r l q w =
        let fits : count + numbers_of here ≤ length numbers = omega (arith, v.counted, e) in
        record {
          few = omega arith;
          counted = omega (arith, v.counted);
          done = v.done ++ print_piece here value;
          wrote = wrote_then v.wrote w;
          same =
              append_assoc v.done (print_piece here value) (print (pieces (drop (i + 1) form)) (drop (count + n) numbers))
              ∙ ap (λ (k : ℕ). v.done ++ (print_piece here k ++ print (pieces (drop (i + 1) form)) (drop (count + n) numbers))) q
              ∙ ap (λ (k : ℕ). v.done ++ (print_piece here (get_or numbers count 0) ++ print (pieces (drop (i + 1) form)) (drop (count + k) numbers))) e
              ∙ ap (λ (xs : List ℕ). v.done ++ xs) (sym (rest ∙ print_step here (pieces (drop (i + 1) form)) numbers count fits))
              ∙ v.same;
        }

pub line_ended : (E : List ℕ) (at : ℕ) (form numbers W U : List ℕ) (q r : ℕ) → Wrote E at (print (pieces form) numbers) W q → Wrote W q (10 ∷ []) U r → Wrote E at (line (pieces form) numbers) U r
unfolding line
line_ended E at form numbers W U q r v w = wrote_then v w
