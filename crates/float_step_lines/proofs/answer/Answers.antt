-- `answer` meets its contract. Assumes nothing.
use mathlib.Core.Path.{◌∙◌, ap, refl}
use Rattle.std.specs.Prelude.{Some}
use native.Mathlib.Omega.{arith}
use Rattle.sheet_lines.specs.Counted.{count_in}
use Rattle.sheet_lines.specs.Pattern.{piece}
use Rattle.float_step_lines.specs.Lines.{Widen, Narrow, Sqrt, Round, Larger, reply_of}
use Rattle.float_step_lines.specs.declared.Reply.TheVariants.{Long, Short}
use Rattle.float_step_lines.proofs.Laws.{left_all, left_more, left_none, left_one, left_two, short}
use borrow.Author.Rules.{rules}
use Rattle.float_step_lines.proofs.answer.Goals as goal

pub scan-requires : goal.scan-requires
unfolding count_in piece
scan-requires c = search rules

pub overflow_cast-bits : goal.overflow_cast-bits
overflow_cast-bits c = omega (arith, short c.scan.ensures c.if-scan.true (search rules))

pub returns-then-scan : goal.returns-then-scan
unfolding reply_of
returns-then-scan c = ap (λ b. Some (Long b)) c.widen.ensures ∙ left_one Widen (left_all _) c.scan.ensures c.if-scan.true (search rules) refl

pub scan-requires-2 : goal.scan-requires-2
unfolding count_in piece
scan-requires-2 c = search rules

pub returns-then-scan-2 : goal.returns-then-scan-2
unfolding reply_of
returns-then-scan-2 c = ap (λ b. Some (Short b)) c.narrow.ensures ∙ left_one Narrow (left_more Widen (left_all _) c.scan.ensures c.if-scan.false) c.scan-2.ensures c.if-scan-2.true (search rules) refl

pub scan-requires-3 : goal.scan-requires-3
unfolding count_in piece
scan-requires-3 c = search rules

pub returns-then-scan-3 : goal.returns-then-scan-3
unfolding reply_of
returns-then-scan-3 c = ap (λ b. Some (Long b)) c.sqrt.ensures ∙ left_one Sqrt (left_more Narrow (left_more Widen (left_all _) c.scan.ensures c.if-scan.false) c.scan-2.ensures c.if-scan-2.false) c.scan-3.ensures c.if-scan-3.true (search rules) refl

pub scan-requires-4 : goal.scan-requires-4
unfolding count_in piece
scan-requires-4 c = search rules

pub returns-then-scan-4 : goal.returns-then-scan-4
unfolding reply_of
returns-then-scan-4 c = ap (λ b. Some (Long b)) c.round.ensures ∙ left_one Round (left_more Sqrt (left_more Narrow (left_more Widen (left_all _) c.scan.ensures c.if-scan.false) c.scan-2.ensures c.if-scan-2.false) c.scan-3.ensures c.if-scan-3.false) c.scan-4.ensures c.if-scan-4.true (search rules) refl

pub scan-requires-5 : goal.scan-requires-5
unfolding count_in piece
scan-requires-5 c = search rules

pub returns-then-scan-5 : goal.returns-then-scan-5
unfolding reply_of
returns-then-scan-5 c = ap (λ b. Some (Long b)) c.larger.ensures ∙ left_two Larger (left_more Round (left_more Sqrt (left_more Narrow (left_more Widen (left_all _) c.scan.ensures c.if-scan.false) c.scan-2.ensures c.if-scan-2.false) c.scan-3.ensures c.if-scan-3.false) c.scan-4.ensures c.if-scan-4.false) c.scan-5.ensures c.if-scan-5.true (search rules) refl

pub returns : goal.returns
returns c = left_none _ (left_more Larger (left_more Round (left_more Sqrt (left_more Narrow (left_more Widen (left_all _) c.scan.ensures c.if-scan.false) c.scan-2.ensures c.if-scan-2.false) c.scan-3.ensures c.if-scan-3.false) c.scan-4.ensures c.if-scan-4.false) c.scan-5.ensures c.if-scan-5.false)
