-- `list_rows` meets its contract: after each row the numbers of those before it are written. Assumes nothing.
use Prim.Native.Nat.{◌-◌}
use native.Mathlib.Omega.{arith}
use Rattle.edge_first_users.proofs.BodyLaws.{numbering_none, numbering_more, numbering_all, number_end}
use Rattle.edge_first_users.proofs.bodies.list_rows.Goals as goal

pub loop-k-init : goal.loop-k-init
loop-k-init c = numbering_none _ _ _

pub overflow_add-end : goal.overflow_add-end
overflow_add-end c =
    let p = c.requires in
    omega (arith, number_end p c.loop-k.invariant (omega (arith, c.loop-k-test.true, c.row_count-n.ensures)), c.indices.ensures)

pub fill-requires : goal.fill-requires
fill-requires c =
    let p = c.requires in
    omega (arith, number_end p c.loop-k.invariant (omega (arith, c.loop-k-test.true, c.row_count-n.ensures)), c.indices.ensures)

pub loop-k-preserved : goal.loop-k-preserved
loop-k-preserved c =
    let p = c.requires in
    numbering_more p c.loop-k.invariant (omega (arith, c.loop-k-test.true, c.row_count-n.ensures)) (omega (arith, c.indices.ensures)) c.fill.ensures

pub returns : goal.returns
returns c = numbering_all c.loop-k.invariant (omega (arith, c.loop-k-test.false, c.row_count-n.ensures))
