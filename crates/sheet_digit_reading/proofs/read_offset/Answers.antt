-- `read_offset` meets its contract. Assumes nothing.
use Rattle.sheet_digit_reading.proofs.ReadLaws.{offset_end, beneath_none, beneath_zero, beneath_some, above_none, above_some}
use borrow.Author.Rules.{rules}
use Rattle.sheet_digit_reading.proofs.read_offset.Goals as goal

pub returns-in_err-c : goal.returns-in_err-c
returns-in_err-c c = rw c.from_residual.ensures (offset_end _ _ c.in_err-c.ensures.lookup.3)

pub returns-in_err-size : goal.returns-in_err-size
returns-in_err-size c = rw c.from_residual-in_err-size.ensures (beneath_none _ _ _ c.in_ok-c.ensures.lookup.3 c.if-c-eq-MINUS.true c.in_err-size.ensures)

pub returns-then-size-eq0 : goal.returns-then-size-eq0
returns-then-size-eq0 c = beneath_zero _ _ _ c.in_ok-c.ensures.lookup.3 c.if-c-eq-MINUS.true _ c.in_ok-size.ensures c.if-size-eq0.true

pub returns-then-c-eq-MINUS : goal.returns-then-c-eq-MINUS
returns-then-c-eq-MINUS c = beneath_some _ _ _ c.in_ok-c.ensures.lookup.3 c.if-c-eq-MINUS.true _ c.in_ok-size.ensures (search rules)

pub returns-in_err-size-2 : goal.returns-in_err-size-2
returns-in_err-size-2 c = rw c.from_residual-in_err-size-2.ensures (above_none _ _ _ c.in_ok-c.ensures.lookup.3 c.if-c-eq-MINUS.false c.in_err-size-2.ensures)

pub returns : goal.returns
returns c = above_some _ _ _ c.in_ok-c.ensures.lookup.3 c.if-c-eq-MINUS.false _ c.in_ok-size-2.ensures
