-- `stand` meets its contract. Assumes nothing.
use Rattle.stitch_gather.proofs.StandLaws.{mark_inside, stood_same, stood_first}
use borrow.Author.Rules.{rules}
use Rattle.stitch_gather.proofs.stand.stand.Goals as goal

pub overflow_add-is_new : goal.overflow_add-is_new
overflow_add-is_new c = let l = mark_inside c.requires in search rules

pub offset_bounds-w-v-2 : goal.offset_bounds-w-v-2
offset_bounds-w-v-2 c = let l = mark_inside c.requires in search rules

pub bounds-w-v-2 : goal.bounds-w-v-2
bounds-w-v-2 c = let l = mark_inside c.requires in search rules

pub overflow_add-w-2 : goal.overflow_add-w-2
overflow_add-w-2 c = let l = mark_inside c.requires in search rules

pub offset_bounds-w-v-3 : goal.offset_bounds-w-v-3
offset_bounds-w-v-3 c = let l = mark_inside c.requires in search rules

pub bounds-w-v-3 : goal.bounds-w-v-3
bounds-w-v-3 c = let l = mark_inside c.requires in search rules

pub returns-then-is_new : goal.returns-then-is_new
returns-then-is_new c = stood_first c.requires c.if-is_new.true

pub returns : goal.returns
returns c = stood_same c.requires c.if-is_new.false
