-- A claim that says `unfolding evaluation` has every definition of this crate and of those below it computed. Assumes nothing.
use Rattle.std.specs.Prelude.{ℕ}
use Rattle.bench_definition.specs.Evaluation as Finish
use Rattle.sheet_line_order.specs.Evaluation as Reading
use Rattle.sheet_answer_text.specs.Evaluation as Answer
use Rattle.sheet_meaning.specs.Meaning.{box_of, meant}
use Rattle.sheet_meaning.specs.Printing.{mesh_lines, count_lines}
use Rattle.sheet_meaning.specs.Parts.{corner, state_numbers}
use Rattle.sheet_meaning.specs.Bench.{printed, said, program, bench}

-- every definition that computes
unfoldable pub evaluation : ℕ
unfolding Finish.evaluation Reading.evaluation Answer.evaluation box_of meant mesh_lines count_lines corner state_numbers printed said program bench
evaluation = 0
