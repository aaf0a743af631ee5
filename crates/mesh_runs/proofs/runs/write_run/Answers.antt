-- `write_run` meets its contract. With the words before place p written, the run of the rows before a row is, and that of the rest is left. Assumes nothing.
use mathlib.Core.Path.{refl}
use native.Mathlib.Omega.{arith}
use Rattle.mesh_runs.proofs.WalkLaws.{walking_none, row_low, walking_stop, walking_ready, walking_more, walking_all}
use borrow.Author.Rules.{rules}
use Rattle.mesh_runs.proofs.runs.write_run.Goals as goal

pub loop-p-init : goal.loop-p-init
loop-p-init c = search (walking_none, rules)

pub overflow_add-at : goal.overflow_add-at
overflow_add-at c = omega (arith, row_low c.requires c.loop-p.invariant c.loop-p-test.true)

pub offset_bounds-w-at : goal.offset_bounds-w-at
offset_bounds-w-at c = omega (arith, row_low c.requires c.loop-p.invariant c.loop-p-test.true)

pub bounds-w-at : goal.bounds-w-at
bounds-w-at c = omega (arith, row_low c.requires c.loop-p.invariant c.loop-p-test.true)

pub returns-then-w-at : goal.returns-then-w-at
returns-then-w-at c = walking_stop c.requires c.loop-p.invariant c.loop-p-test.true refl c.if-w-at.true

pub overflow_add-found : goal.overflow_add-found
overflow_add-found c = omega (arith, row_low c.requires c.loop-p.invariant c.loop-p-test.true)

pub offset_bounds-w-starts : goal.offset_bounds-w-starts
offset_bounds-w-starts c = omega (arith, row_low c.requires c.loop-p.invariant c.loop-p-test.true)

pub bounds-w-starts : goal.bounds-w-starts
bounds-w-starts c = omega (arith, row_low c.requires c.loop-p.invariant c.loop-p-test.true)

pub indices-requires : goal.indices-requires
indices-requires c = row_low c.requires c.loop-p.invariant c.loop-p-test.true

pub overflow_add-starts : goal.overflow_add-starts
overflow_add-starts c = omega (arith, row_low c.requires c.loop-p.invariant c.loop-p-test.true)

pub append_row-o-requires : goal.append_row-o-requires
append_row-o-requires c = walking_ready c.requires c.loop-p.invariant c.loop-p-test.true refl c.if-w-at.false refl c.indices.ensures refl refl

pub loop-p-preserved : goal.loop-p-preserved
loop-p-preserved c = walking_more c.requires c.loop-p.invariant c.loop-p-test.true refl c.if-w-at.false refl c.indices.ensures refl refl c.append_row-o.ensures

pub returns : goal.returns
returns c = walking_all c.requires c.loop-p.invariant (omega (arith, c.loop-p.invariant.high))
