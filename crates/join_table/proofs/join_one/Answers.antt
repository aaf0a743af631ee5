-- `join_table::join_one` meets its contract. Assumes nothing.
use Rattle.join_table.proofs.Chains.{walk_start, step_new, step_found}
use lib.ListN.{length-set}
use native.Mathlib.Omega.{arith}
use Rattle.join_table.proofs.join_one.Goals as goal

pub find-r-requires : goal.find-r-requires
find-r-requires c = search walk_start

pub bounds-w-n-then-r-eq0 : goal.bounds-w-n-then-r-eq0
bounds-w-n-then-r-eq0 c = simp length-set (omega arith)

pub bounds-w-at-then-r-eq0 : goal.bounds-w-at-then-r-eq0
bounds-w-at-then-r-eq0 c = simp length-set (omega arith)

pub returns-then-r-eq0 : goal.returns-then-r-eq0
returns-then-r-eq0 c =
    step_new c.requires c.bucket.ensures c.find-r.ensures c.if-r-eq0.true

pub returns-else-r-eq0 : goal.returns-else-r-eq0
returns-else-r-eq0 c = step_found c.requires c.find-r.ensures c.if-r-eq0.false
