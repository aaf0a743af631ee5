-- `read_below` meets its contract. Assumes nothing.
use Rattle.sheet_digit_reading.proofs.ReadLaws.{number_end, number_other, number_zero, number_more}
use borrow.Author.Rules.{rules}
use Rattle.sheet_digit_reading.proofs.read_below.Goals as goal

pub returns-in_err-c : goal.returns-in_err-c
returns-in_err-c c = rw c.from_residual.ensures (number_end _ _ _ c.in_err-c.ensures.lookup.3)

pub returns-in_err-first : goal.returns-in_err-first
returns-in_err-first c = rw c.from_residual-in_err-first.ensures (number_other _ _ _ _ c.in_ok-c.ensures.lookup.3 c.in_err-first.ensures)

pub returns-then-first-eq0 : goal.returns-then-first-eq0
returns-then-first-eq0 c = number_zero _ _ _ _ c.in_ok-c.ensures.lookup.3 _ c.in_ok-first.ensures c.if-first-eq0.true

pub returns : goal.returns
returns c = number_more _ _ _ _ c.in_ok-c.ensures.lookup.3 _ c.in_ok-first.ensures _ (search rules) c.more_digits.ensures
