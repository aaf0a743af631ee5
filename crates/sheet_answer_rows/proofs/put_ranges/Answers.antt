-- `put_ranges` meets its contract. Assumes nothing.
use mathlib.Core.Path.{sym, ◌∙◌, ap}
use Rattle.std.specs.List.{flat_map}
use Rattle.sheet_answer_rows.proofs.RowLaws.{lined_all, lined_more, lined_none, range_rows}
use borrow.Author.Rules.{rules}
use Rattle.sheet_answer_rows.proofs.put_ranges.Goals as goal

pub loop-row-init : goal.loop-row-init
loop-row-init c = search (rules, lined_none)

pub loop-row-preserved : goal.loop-row-preserved
loop-row-preserved c = lined_more _ _ _ _ _ _ _ c.loop-row.invariant _ _ _ c.loop-row-test.true c.put_range-next.ensures

pub returns : goal.returns
returns c = lined_all _ _ _ _ _ _ _ c.loop-row.invariant _ (range_rows _ ∙ ap (flat_map _) (sym c.as_chunks.ensures.front)) c.loop-row-test.false
