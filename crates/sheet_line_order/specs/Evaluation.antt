-- A claim that says `unfolding evaluation` has every definition of this crate and of those below it computed. Assumes nothing.
use Rattle.std.specs.Prelude.{ℕ}
use Rattle.body_rows.specs.Evaluation as Body
use Rattle.sheet_lines.specs.Evaluation as Lines
use Rattle.sheet_line_order.specs.Limits.{bench_limits, yard_limits}
use Rattle.sheet_line_order.specs.Reading.{raised, with_line, passes_limit, fails_with_zero, start, refuse, line_refusal, take_up, with_form, read_line, finished, into_first, cut, read_from, sheet_of}

-- every definition that computes
unfoldable pub evaluation : ℕ
unfolding Body.evaluation Lines.evaluation bench_limits yard_limits raised with_line passes_limit fails_with_zero start refuse line_refusal take_up with_form read_line finished into_first cut read_from sheet_of
evaluation = 0
