-- `line_refusal` meets its contract. Assumes nothing.
use Rattle.sheet_line_refusals.proofs.OrderLaws.{not_refused, refused_limit, refused_order, refused_zero}
use borrow.Author.Rules.{rules}
use Rattle.sheet_line_refusals.proofs.line_refusal.Goals as goal
use Rattle.sheet_line_refusals.proofs.line_refusal.Goals.{then-not-in_order-via-then-not-in_order, then-not-in_order-via-else-not-in_order+then-fails_with_zero}

pub returns-then-not-in_order : goal.returns-then-not-in_order
returns-then-not-in_order c = elim c.then-not-in_order.branch [
  | then-not-in_order-via-then-not-in_order w ↦ search (rules, refused_order)
  | then-not-in_order-via-else-not-in_order+then-fails_with_zero w ↦ search (rules, refused_zero)
]

pub returns-then-passes_limit : goal.returns-then-passes_limit
returns-then-passes_limit c = search (rules, refused_limit)

pub returns : goal.returns
returns c = search (rules, not_refused)
