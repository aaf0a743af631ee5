-- A line written by the text of a form is the form's line. Assumes nothing.
use Rattle.std.specs.Prelude.{List, [], ◌∷◌, ◌++◌, ◌≡◌, refl, ℕ}
use Rattle.std.proofs.Common.{◌∙◌, ap, subst}
use Rattle.sheet_digit_writing.specs.Writing.{Wrote}
use Rattle.sheet_lines.specs.Forms.{Piece, line}
use Rattle.sheet_lines.specs.Pattern.{line_of_form, pieces, split}
use Rattle.sheet_answer_rows.specs.Rows.{threes}

-- a line that was written by a text is written by its form
pub as_form : (ps : List Piece) (text : List ℕ) → pieces text ≡ split ps → (ns : List ℕ) {E : List ℕ} {at : ℕ} {W : List ℕ} {r : ℕ} → Wrote E at (line (pieces text) ns) W r
    → Wrote E at (line ps ns) W r
as_form ps text e ns {E} {at} {W} {r} w = subst (λ (xs : List ℕ). Wrote E at xs W r) (line_of_form text ps ns e) w

-- lines of three numbers that were written by a text are written by its form
threes_line : (ps qs : List Piece) → ((ns : List ℕ) → line ps ns ≡ line qs ns) → (xs : List ℕ) → threes ps xs ≡ threes qs xs
unfolding threes
threes_line ps qs e [] = refl
threes_line ps qs e (a ∷ []) = refl
threes_line ps qs e (a ∷ b ∷ []) = refl
threes_line ps qs e (a ∷ b ∷ c ∷ xs) = ap (λ (ys : List ℕ). ys ++ threes ps xs) (e (a ∷ b ∷ c ∷ [])) ∙ ap (λ (ys : List ℕ). line qs (a ∷ b ∷ c ∷ []) ++ ys) (threes_line ps qs e xs)

pub as_threes : (ps : List Piece) (text : List ℕ) → pieces text ≡ split ps → (xs : List ℕ) {E : List ℕ} {at : ℕ} {W : List ℕ} {r : ℕ} → Wrote E at (threes (pieces text) xs) W r
    → Wrote E at (threes ps xs) W r
as_threes ps text e xs {E} {at} {W} {r} w = subst (λ (ys : List ℕ). Wrote E at ys W r) (threes_line (pieces text) ps (λ ns. line_of_form text ps ns e) xs) w
