-- The laws of the counts: their lines in their order. Assumes nothing.
use mathlib.Core.Bool.{Bool, true, false, cond}
use mir.Val.{bool_byte}
use mathlib.Core.List.{List, [], ◌∷◌}
use mathlib.Core.Path.{◌≡◌, refl, subst}
use Prim.Native.Nat.{ℕ}
use Rattle.sheet_digits.specs.Bytes.{bytes}
use Rattle.sheet_digit_writing.specs.Writing.{Wrote}
use Rattle.sheet_digit_writing.specs.Wrote.{wrote_then}
use Rattle.sheet_lines.specs.Forms.{line, numbers}
use Rattle.sheet_lines.specs.Pattern.{piece, pieces, split}
use Rattle.sheet_answer_text.specs.declared.Tallies.{Tallies}
use Rattle.sheet_answer_text.specs.Answer.{against_form, closed_form, count_text, edges_form, ok_form, open_form, over_form, split_form, turned_form}
use Rattle.sheet_answer_rows.specs.FormLaws.{as_form}

-- a test as a number
pub as_number : (b : Bool) → bool_byte b ≡ cond b 1 0
as_number true = refl
as_number false = refl

pub counts_written : {E W1 W2 W3 W4 W5 W6 W7 W8 : List ℕ} {at r1 r2 r3 r4 r5 r6 r7 r8 : ℕ} (t : Tallies) {n : ℕ} → n ≡ cond t.closed 1 0
    → Wrote E at (line (pieces (bytes "(turned#)")) (t.turned ∷ [])) W1 r1
    → Wrote W1 r1 (line (pieces (bytes "(against#)")) (t.against ∷ [])) W2 r2
    → Wrote W2 r2 (line (pieces (bytes "(split#)")) (t.split ∷ [])) W3 r3
    → Wrote W3 r3 (line (pieces (bytes "(ok#)")) (t.ok ∷ [])) W4 r4
    → Wrote W4 r4 (line (pieces (bytes "(edges#)")) (t.edges ∷ [])) W5 r5
    → Wrote W5 r5 (line (pieces (bytes "(open#)")) (t.opens ∷ [])) W6 r6
    → Wrote W6 r6 (line (pieces (bytes "(over#)")) (t.overs ∷ [])) W7 r7
    → Wrote W7 r7 (line (pieces (bytes "(closed#)")) (n ∷ [])) W8 r8
    → Wrote E at (count_text t) W8 r8
unfolding count_text piece split numbers
counts_written {E} {W1} {W2} {W3} {W4} {W5} {W6} {W7} {W8} {at} {r1} {r2} {r3} {r4} {r5} {r6} {r7} {r8} t {n} z a b c d e f g h =
    wrote_then
    (wrote_then (wrote_then (wrote_then (wrote_then (wrote_then (wrote_then (as_form turned_form (bytes "(turned#)") refl (t.turned ∷ []) a)
    (as_form against_form (bytes "(against#)") refl (t.against ∷ []) b)) (as_form split_form (bytes "(split#)") refl (t.split ∷ []) c)) (as_form ok_form (bytes "(ok#)") refl (t.ok ∷ []) d))
    (as_form edges_form (bytes "(edges#)") refl (t.edges ∷ []) e)) (as_form open_form (bytes "(open#)") refl (t.opens ∷ []) f)) (as_form over_form (bytes "(over#)") refl (t.overs ∷ []) g))
    (as_form closed_form (bytes "(closed#)") refl (cond t.closed 1 0 ∷ []) (subst (λ (m : ℕ). Wrote W7 r7 (line (pieces (bytes "(closed#)")) (m ∷ [])) W8 r8) z h))
