-- A claim that says `unfolding evaluation` has every definition of this crate and of those below it computed. Assumes nothing.
use Rattle.std.specs.Prelude.{ℕ}
use Rattle.lists.specs.Evaluation as Lists
use Rattle.sheet_lines.specs.Evaluation as Lines
use Rattle.plan_definition.specs.Places.{total}
use Rattle.plan_definition.specs.Grammar.{integer, offset_text, group_line, bin_line, close_line, plan_text, placed, keeps_limits}
use Rattle.plan_definition.specs.Lines.{joined, lines_of, opened, standing, line_of}
use Rattle.plan_definition.specs.Reading.{refusal_of, entries_of, plan_of, list_of, list_after}
use Rattle.plan_definition.specs.Writing.{entries_in, listing_refusal, listing_text, fitting, writing_of, text_after}

-- those of a plan, its text and its lines
unfoldable pub texts : ℕ
unfolding Lists.evaluation Lines.evaluation total integer offset_text group_line bin_line close_line plan_text placed keeps_limits joined lines_of opened standing line_of
texts = 0

-- every definition that computes
unfoldable pub evaluation : ℕ
unfolding texts refusal_of entries_of plan_of list_of list_after entries_in listing_refusal listing_text fitting writing_of text_after
evaluation = 0
