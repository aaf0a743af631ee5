-- The goals of the cycle of calls {read_group, read_item}. Assumes nothing.
use Rattle.std.proofs.Common.{◌≡◌, rules, Err}
use Rattle.refusals.specs.Numbers.{number, numbered}
use Rattle.plan_read.proofs.GroupLaws.{group_ended, group_falls, group_offends, item_falls, item_further, item_group, item_leaf, item_offends, opened_group, opened_other, reached_more, reached_none, ready_inner, ready_next}
use Rattle.plan_read.proofs.groups.+read_group_read_item.Goals as goal

pub read_group-loop-s-init : goal.read_group-loop-s-init
read_group-loop-s-init t c = search (rules, reached_none)

pub read_group-read_item-requires : goal.read_group-read_item-requires
read_group-read_item-requires t c = search (rules, item_falls, ready_next)

pub read_group-returns-in_err-s : goal.read_group-returns-in_err-s
read_group-returns-in_err-s t c =
    let told : numbered c.from_residual.result ≡ Err (number c.in_err-s.field-0.0) = search rules in
    rw told (search (rules, group_offends, c.in_err-s.ensures))

pub read_group-returns-then-s : goal.read_group-returns-then-s
read_group-returns-then-s t c = search (rules, group_ended, c.in_ok-s.ensures)

pub read_group-loop-s-smaller : goal.read_group-loop-s-smaller
read_group-loop-s-smaller t c = search (rules, item_further, c.in_ok-s.ensures)

pub read_group-loop-s-preserved : goal.read_group-loop-s-preserved
read_group-loop-s-preserved t c = search (rules, reached_more, c.in_ok-s.ensures)

pub read_item-returns-in_default : goal.read_item-returns-in_default
read_item-returns-in_default t c = search (rules, item_leaf, opened_other)

pub read_item-read_group-requires : goal.read_item-read_group-requires
read_item-read_group-requires t c =
    let opens = opened_group _ _ _ _ _ c.open_group.ensures c.in-Some.is in
    (group_falls _ _ _ _ _ _ _ c.line_at-found.ensures opens c.decreases, ready_inner _ _ _ _ c.requires c.line_at-found.ensures)

pub read_item-returns-in_err-s : goal.read_item-returns-in_err-s
read_item-returns-in_err-s t c =
    let told : numbered c.from_residual.result ≡ Err (number c.in_err-s.field-0.0) = search rules in
    rw told (search (rules, item_offends, opened_group, c.in_err-s.ensures))

pub read_item-returns : goal.read_item-returns
read_item-returns t c = search (rules, item_group, opened_group, c.in_ok-s.ensures)
