-- The laws of the whole text, and of the slice that it is cut off to. Assumes nothing.
use mathlib.Core.Bool.{Bool, true, false}
use mathlib.Core.List.{List, [], ◌∷◌, ◌++◌}
use mathlib.Core.Path.{◌≡◌, refl, sym, ◌∙◌, ap}
use Prim.Native.Nat.{ℕ, ◌≤◌, ◌<◌}
use native.Mathlib.Omega.{arith}
use borrow.Author.Tests.{leb-true, leb-false}
use lib.Dec.{leb}
use lib.ListN.{length, take, drop, drop_of_length-le, take-append-drop}
use lib.Seq.{length-take-le, take_all}
use Rattle.sheet_digits.specs.Bytes.{bytes}
use Rattle.sheet_digit_writing.specs.Writing.{Wrote}
use Rattle.sheet_digit_writing.specs.Wrote.{wrote_then}
use Rattle.sheet_lines.specs.Forms.{line, numbers}
use Rattle.sheet_lines.specs.Pattern.{piece, pieces, split}
use Rattle.sheet_answer_text.specs.Answer.{Written, refusal_line, refused_form}
use Rattle.sheet_answer_rows.specs.FormLaws.{as_form}

pub written : (E text W : List ℕ) (r : ℕ) → Wrote E 0 text W r → Written E text W r
written E text W r v =
    let front : take r W ≡ take (length E) text = v.front in
    let whole : r ≤ length W = omega (arith, v.within, v.long) in
    let count : r ≡ length (take (length E) text) = sym (length-take-le r W whole) ∙ ap length front in
    record {
      out = sym (take-append-drop r W) ∙ ap (λ (xs : List ℕ). xs ++ drop r W) front ∙ ap (λ (xs : List ℕ). take (length E) text ++ xs) (v.rest ∙ past count (leb (length text) (length E)) refl);
      count = count;
    }
  where
    past : r ≡ length (take (length E) text) → (b : Bool) → leb (length text) (length E) ≡ b → drop r E ≡ drop (length text) E
    past c true q = ap (λ (n : ℕ). drop n E) (c ∙ ap length (take_all (length E) text (leb-true (length text) (length E) q)))
    past c false q =
        let long : length E < length text = leb-false (length text) (length E) q in
        let all : r ≡ length E = c ∙ length-take-le (length E) text (omega arith) in
        let here : length E ≤ r = omega arith in
        let there : length E ≤ length text = omega arith in
        drop_of_length-le E here ∙ sym (drop_of_length-le E there)

pub answer_written : (E : List ℕ) (a b W U : List ℕ) (q r : ℕ) → Wrote E 0 a W q → Wrote W q b U r → Written E (a ++ b) U r
answer_written E a b W U q r v w = written E (a ++ b) U r (wrote_then v w)

pub refusal_written : (E W : List ℕ) (n r : ℕ) → Wrote E 0 (line (pieces (bytes "(refused#)")) (n ∷ [])) W r → Written E (refusal_line n) W r
unfolding refusal_line piece split numbers
refusal_written E W n r v = written E (line refused_form (n ∷ [])) W r (as_form refused_form (bytes "(refused#)") refl (n ∷ []) v)
