-- A program and its instance, the bench program: text in, text out. Assumes nothing.
use Rattle.std.specs.Prelude.{true, false, List, ◌++◌, ℕ, eqb}
use Rattle.bench_definition.specs.Finish.{Outcome, Refused, Finished, finish}
use Rattle.sheet_line_order.specs.declared.Limits.{Limits}
use Rattle.sheet_line_order.specs.Limits.{bench_limits}
use Rattle.sheet_line_order.specs.Reading.{State, sheet_of}
use Rattle.sheet_meaning.specs.Meaning.{meant}
use Rattle.sheet_meaning.specs.Printing.{mesh_lines, count_lines}
use Rattle.sheet_answer_text.specs.Answer.{refusal_line}

-- what is printed of the three calls: a refusal prints only its number
unfoldable pub printed : Outcome → List ℕ
printed (Refused n) = refusal_line n
printed (Finished t s a) = mesh_lines a ++ count_lines t s a

-- what is printed of what a text says: the finished sheet, or only the refusal
unfoldable pub said : State → List ℕ
said s = elim (eqb s.refusal 0) [ true ↦ printed (finish s.limits (meant s.sheet)) | false ↦ refusal_line s.refusal ]

-- the program of such limits: standard input's text to standard output's
unfoldable pub program : Limits → List ℕ → List ℕ
program limits text = said (sheet_of limits text)

-- the bench program
unfoldable pub bench : List ℕ → List ℕ
bench text = program bench_limits text
