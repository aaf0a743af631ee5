-- `finish_fronts` meets its contract. Assumes nothing.
use Rattle.slice_front.specs.FrontLaws.{front_count}
use Rattle.bench_finish.proofs.SheetLaws.{few_indices, few_normals, front_back, fronts_said}
use borrow.Author.Rules.{rules}
use Rattle.bench_finish.proofs.finish_fronts.Goals as goal

pub returns-then-normals-n : goal.returns-then-normals-n
returns-then-normals-n c = search (rules, few_normals)

pub returns-then-indices-m : goal.returns-then-indices-m
returns-then-indices-m c = search (rules, few_indices)

pub slice_bounds-finish_body-end-2 : goal.slice_bounds-finish_body-end-2
slice_bounds-finish_body-end-2 c = search (rules, front_count)

pub slice_bounds-finish_body-end-4 : goal.slice_bounds-finish_body-end-4
slice_bounds-finish_body-end-4 c = search (rules, front_count)

pub returns : goal.returns
returns c = fronts_said _ _ _ _ _ _ _ _ _ _ _ _ _ _ _ _ _ c.front.ensures c.finish_body.ensures
