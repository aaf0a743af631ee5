-- A text that passes no limit of the smaller program prints the same from both. Assumes nothing.
use Rattle.std.specs.Prelude.{List, ◌≡◌, ℕ}
use Rattle.std.proofs.Common.{◌∙◌, ap}
use Rattle.sheet_line_order.specs.declared.Limits.{Limits}
use Rattle.sheet_line_order.specs.Limits.{bench_limits, yard_limits}
use Rattle.sheet_line_order.specs.Reading.{sheet_of}
use Rattle.sheet_answer_text.specs.Answer.{refusal_line}
use Rattle.sheet_meaning.specs.Bench.{bench, program, said}
use Rattle.bench_agreement.specs.Within.{Spacious, Within}
use Rattle.bench_agreement.specs.Reading.{more_faces, sheet_held, sheet_limits}
use Rattle.bench_agreement.proofs.Reading.{sheet_same}
use Rattle.bench_agreement.specs.Agreement.{refused_said, said_same, bench_within, bench_spacious}

-- A text that passes no limit of the smaller program, and whose stitched body has room in it, prints the same from both.
pub same_printed : (small large : Limits) → Within small large → Spacious small → (text : List ℕ) → (program small text ≡ refusal_line 52 → ⊥) → (program small text ≡ refusal_line 32 → ⊥)
    → program large text ≡ program small text
unfolding program
same_printed small large w spacious text read stitched =
    ap said (sheet_same small large w text (λ e. read (refused_said (sheet_of small text) e)))
    ∙ said_same small large w spacious (more_faces small large) (sheet_of small text) (sheet_limits small text) (sheet_held small text) stitched

-- A text that passes no limit of the bench program, and whose stitched body has room in it, prints the same from the yard program.
pub bench_and_yard : (text : List ℕ) → (bench text ≡ refusal_line 52 → ⊥) → (bench text ≡ refusal_line 32 → ⊥) → program yard_limits text ≡ bench text
unfolding bench
bench_and_yard text read stitched = same_printed bench_limits yard_limits bench_within bench_spacious text read stitched
