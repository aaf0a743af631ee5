-- `answer_sheet` writes what the program is to print of the sheet. Assumes nothing.
use Rattle.std.proofs.Common.{rules}
use Rattle.bench_finish.proofs.SheetLaws.{body_room, sheet_cramped, sheet_large, sheet_refused, sheet_told, within_limits}
use Rattle.bench_finish.proofs.answer_sheet.Goals as goal

pub returns-then-refusal-ne0 : goal.returns-then-refusal-ne0
returns-then-refusal-ne0 c = sheet_refused _ _ _ _ _ _ _ _ _ _ _ _ _ _ _ c.if-refusal-ne0.true c.write_refusal.ensures

pub returns-then-not-in_limits : goal.returns-then-not-in_limits
returns-then-not-in_limits c = sheet_large _ _ _ _ _ _ _ _ _ _ _ _ _ _ _ _ c.if-refusal-ne0.false c.in_limits.ensures (search rules) c.write_refusal-then-not-in_limits.ensures

pub returns-then-not-in_limits-2 : goal.returns-then-not-in_limits-2
returns-then-not-in_limits-2 c = sheet_cramped _ _ _ _ _ _ _ _ _ _ _ _ _ _ _ _ c.if-refusal-ne0.false c.in_limits.ensures (search rules) _ c.in_limits-2.ensures (search rules) c.write_refusal-then-not-in_limits-2.ensures

pub answer_body-requires : goal.answer_body-requires
answer_body-requires c = record { body_room = body_room _ _ _ _ _ _ _ c.in_limits-2.ensures (search rules); limited = within_limits _ _ _ _ _ _ _ c.in_limits.ensures (search rules) }

pub returns : goal.returns
returns c = sheet_told _ _ _ _ _ _ _ _ _ _ _ _ _ _ _ _ c.if-refusal-ne0.false c.in_limits.ensures (search rules) _ c.in_limits-2.ensures (search rules) c.answer_body.ensures
