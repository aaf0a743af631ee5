-- `assemble_rows` meets its contract. 42, then 41, then the mesh. Assumes nothing.
use native.Mathlib.Omega.{arith}
use Rattle.mesh_accepted.proofs.BodyLaws.{body_42, judge_ready, totals_ready, room_asked, body_41, write_ready, body_done}
use Rattle.mesh_accepted.proofs.assemble_rows.Goals as goal

pub returns-then-bad_materials : goal.returns-then-bad_materials
returns-then-bad_materials c = body_42 c.requires _ _ _ _ _ _ _ _ _ c.bad_materials.ensures c.if-bad_materials.true

pub judge_rows-requires : goal.judge_rows-requires
judge_rows-requires c = judge_ready c.requires c.bad_materials.ensures c.if-bad_materials.false

pub accepted_totals-t-requires : goal.accepted_totals-t-requires
accepted_totals-t-requires c = totals_ready c.requires _ _ _ c.bad_materials.ensures c.if-bad_materials.false c.judge_rows.ensures

pub too_short-requires : goal.too_short-requires
too_short-requires c = room_asked c.requires _ _ _ c.bad_materials.ensures c.if-bad_materials.false c.judge_rows.ensures c.accepted_totals-t.ensures

pub returns-then-too_short : goal.returns-then-too_short
returns-then-too_short c = body_41 c.requires _ _ _ c.bad_materials.ensures c.if-bad_materials.false c.judge_rows.ensures c.accepted_totals-t.ensures _ _ _ _ _ _ c.too_short.ensures c.if-too_short.true

pub write_mesh-requires : goal.write_mesh-requires
write_mesh-requires c = write_ready c.requires _ _ _ c.bad_materials.ensures c.if-bad_materials.false c.judge_rows.ensures c.accepted_totals-t.ensures _ _ _ _ _ _ c.too_short.ensures c.if-too_short.false

pub shape_of-w : goal.shape_of-w
shape_of-w c = omega (arith, c.w-1.given, c.w-2-1.given)

pub returns : goal.returns
returns c = body_done c.requires _ _ _ c.bad_materials.ensures c.if-bad_materials.false c.judge_rows.ensures c.accepted_totals-t.ensures _ _ _ _ _ _ c.too_short.ensures c.if-too_short.false c.write_mesh.ensures
