-- `more_digits` meets its contract. Assumes nothing.
use Rattle.sheet_digit_reading.proofs.ReadLaws.{tens_none, tens_room, tens_stop, tens_more, tens_large, tens_all}
use borrow.Author.Rules.{rules}
use Rattle.sheet_digit_reading.proofs.more_digits.Goals as goal

pub loop-i-init : goal.loop-i-init
loop-i-init c = search (rules, tens_none)

pub returns-in_default : goal.returns-in_default
returns-in_default c = tens_stop _ _ _ _ _ _ c.loop-i.invariant (search rules) c.in_default.ensures

pub overflow_mul-value : goal.overflow_mul-value
overflow_mul-value c = search (rules, tens_room)

pub overflow_add-value : goal.overflow_add-value
overflow_add-value c = search (rules, tens_room)

pub returns-then-most-value : goal.returns-then-most-value
returns-then-most-value c = tens_large _ _ _ _ _ _ c.loop-i.invariant (search rules) _ c.in-Some.ensures (search rules)

pub loop-i-preserved : goal.loop-i-preserved
loop-i-preserved c = tens_more _ _ _ _ _ _ c.loop-i.invariant (search rules) _ c.in-Some.ensures (search rules)

pub returns : goal.returns
returns c = search (rules, tens_all)
