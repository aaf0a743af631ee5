-- `list_runs` meets its contract: after each row the ways of the uses before it are written. Assumes nothing.
use Prim.Native.Nat.{◌-◌}
use native.Mathlib.Omega.{arith}
use Rattle.edge_uses.specs.Named.{use_run}
use Rattle.edge_first_users.proofs.BodyLaws.{body_none, body_all, v_end, i_end, row_ready, runs_more}
use Rattle.edge_first_users.proofs.bodies.list_runs.Goals as goal

pub loop-k-init : goal.loop-k-init
loop-k-init c = body_none use_run _ _ _ _ _ _

pub overflow_add-end : goal.overflow_add-end
overflow_add-end c =
    let p = c.requires in
    omega (arith, i_end (p) c.loop-k.invariant (omega (arith, c.loop-k-test.true, c.row_count-n.ensures)), c.indices.ensures, p.inside)

pub run_row-requires : goal.run_row-requires
run_row-requires c =
    let p = c.requires in
    row_ready p c.loop-k.invariant (omega (arith, c.loop-k-test.true, c.row_count-n.ensures)) c.vertices-vertices.ensures (omega (arith, c.indices.ensures))

pub overflow_add-v : goal.overflow_add-v
overflow_add-v c =
    let p = c.requires in
    omega (arith, v_end p c.loop-k.invariant (omega (arith, c.loop-k-test.true, c.row_count-n.ensures)), c.vertices-vertices.ensures, p.apart, p.room)

pub loop-k-preserved : goal.loop-k-preserved
loop-k-preserved c =
    let p = c.requires in
    runs_more p c.loop-k.invariant (omega (arith, c.loop-k-test.true, c.row_count-n.ensures)) c.vertices-vertices.ensures (omega (arith, c.indices.ensures)) c.run_row.ensures

pub returns : goal.returns
returns c = body_all c.loop-k.invariant (omega (arith, c.loop-k-test.false, c.row_count-n.ensures))
