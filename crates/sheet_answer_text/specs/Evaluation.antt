-- A claim that says `unfolding evaluation` has every definition of this crate and of those below it computed. Assumes nothing.
use Rattle.std.specs.Prelude.{ℕ}
use Rattle.lists.specs.Evaluation as Lists
use Rattle.float_steps.specs.Evaluation as Floats
use Rattle.sheet_lines.specs.Evaluation as Lines
use Rattle.sheet_answer_rows.specs.Rows.{threes, vertex_lines, range_lines, failure_line, failure_lines}
use Rattle.sheet_answer_text.specs.Answer.{mesh_text, count_text, refusal_line}

-- every definition that computes
unfoldable pub evaluation : ℕ
unfolding Lists.evaluation Floats.evaluation Lines.evaluation threes vertex_lines range_lines failure_line failure_lines mesh_text count_text refusal_line
evaluation = 0
