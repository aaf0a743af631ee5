-- `name_uses` meets its contract: after each row the uses of those before it are named. Assumes nothing.
use mathlib.Core.Path.{refl}
use Prim.Native.Nat.{◌-◌}
use native.Mathlib.Omega.{arith}
use Rattle.edge_uses.specs.Named.{use_name}
use Rattle.edge_first_users.proofs.BodyLaws.{body_none, body_all, v_end, i_end, name_ready, names_more}
use Rattle.edge_first_users.proofs.bodies.name_uses.Goals as goal

pub loop-k-init : goal.loop-k-init
loop-k-init c = body_none use_name _ _ _ _ _ _

pub overflow_add-end : goal.overflow_add-end
overflow_add-end c =
    let p = c.requires in
    omega (arith, i_end p.body c.loop-k.invariant (omega (arith, c.loop-k-test.true, c.row_count-n.ensures)), c.indices.ensures, p.body.inside)

pub name_row-requires : goal.name_row-requires
name_row-requires c =
    let p = c.requires in
    name_ready p c.loop-k.invariant (omega (arith, c.loop-k-test.true, c.row_count-n.ensures)) c.vertices-vertices.ensures (omega (arith, c.indices.ensures)) refl

pub overflow_add-v : goal.overflow_add-v
overflow_add-v c =
    let p = c.requires in
    omega (arith, v_end p.body c.loop-k.invariant (omega (arith, c.loop-k-test.true, c.row_count-n.ensures)), c.vertices-vertices.ensures, p.body.apart, p.body.room)

pub loop-k-preserved : goal.loop-k-preserved
loop-k-preserved c =
    let p = c.requires in
    names_more p c.loop-k.invariant (omega (arith, c.loop-k-test.true, c.row_count-n.ensures)) c.vertices-vertices.ensures (omega (arith, c.indices.ensures)) refl c.name_row.ensures

pub returns : goal.returns
returns c = body_all c.loop-k.invariant (omega (arith, c.loop-k-test.false, c.row_count-n.ensures))
