-- A sheet whose reading failed is refused, whatever was read before and whatever follows. Assumes nothing.
use Rattle.std.specs.Prelude.{Bool, true, false, List, [], ◌∷◌, ◌++◌, ◌≡◌, refl, ℕ, eqb}
use Rattle.std.proofs.Math.Option.{none}
use Rattle.std.proofs.Common.{sym, ◌∙◌, ap, subst, ne_eqb}
use Rattle.std.proofs.lemmas.Bool.{eqb-false}
use Rattle.sheet_lines.specs.Forms.{line_of}
use Rattle.sheet_lines.specs.Evaluation.{evaluation}
use Rattle.sheet_line_order.specs.declared.Limits.{Limits}
use Rattle.sheet_line_order.specs.Laws.{read_line_lem}
use Rattle.sheet_line_order.specs.Reading.{State, refuse, read_line, finished, cut, read_from, sheet_of}
use Rattle.bench_feed.specs.declared.Fed.{Fed}
use Rattle.bench_feed.specs.Feeding.{SoFar, failed_read}

-- a line was refused
abbrev pub Refused : State → Type 0
Refused s = s.refusal ≡ 0 → ⊥

-- an empty line is no form
no_form : line_of [] ≡ none
unfolding evaluation
no_form = refl

-- it is refused, if no line before it was
empty_line : (s : State) → Refused (read_line s [])
unfolding read_line refuse
empty_line s = go (eqb s.refusal 0) refl
  where
    go : (b : Bool) → eqb s.refusal 0 ≡ b → Refused (read_line s [])
    go true e =
        let r : read_line s [] ≡ refuse 51 s = rw (e, no_form, read_line) in
        λ z. eqb-false 51 0 refl (ap (λ (t : State). t.refusal) (sym r) ∙ z)
    go false e =
        let r : read_line s [] ≡ s = rw (e, read_line) in
        λ z. eqb-false s.refusal 0 e (ap (λ (t : State). t.refusal) (sym r) ∙ z)

-- a refused state stays refused
stays : (s : State) (ls : List (List ℕ)) → Refused s → Refused (read_from s ls)
unfolding read_from finished read_line
stays s [] n = n
stays s (rest ∷ []) n =
    let r : finished s rest ≡ s = rw (ne_eqb s.refusal 0 n, finished) in
    subst Refused (sym r) n
stays s (l ∷ m ∷ ls) n =
    let r : read_line s l ≡ s = rw (ne_eqb s.refusal 0 n, read_line) in
    stays (read_line s l) (m ∷ ls) (subst Refused (sym r) n)

-- whatever was read and whatever follows
pub failed_refused : {limits : Limits} {text line table positions normals indices materials : List ℕ} {f : Fed} (rest : List ℕ) → SoFar limits text f line table positions normals indices materials
    → Refused (sheet_of limits (text ++ (failed_read ++ rest)))
failed_refused {limits = limits} {text = text} rest v =
    let s = read_line v.state v.tail in
    let r : sheet_of limits (text ++ (failed_read ++ rest)) ≡ read_from (read_line s []) (cut rest) =
    v.means (failed_read ++ rest) ∙ read_line_lem v.state v.tail (10 ∷ rest) v.plain ∙ read_line_lem s [] rest tt in
    subst Refused (sym r) (stays (read_line s []) (cut rest) (empty_line s))
