-- `append_row` meets its contract. A row that fails adds nothing, another its numbers. Assumes nothing.
use native.Mathlib.Omega.{arith}
use Rattle.mesh_rows.proofs.VertexLaws.{copied_no, copy_room, copied_yes}
use Rattle.mesh_rows.proofs.vertices.append_row.Goals as goal

pub returns-then-d-eq0 : goal.returns-then-d-eq0
returns-then-d-eq0 c = copied_no _ _ _ _ _ _ (omega arith)

pub overflow_mul-o : goal.overflow_mul-o
overflow_mul-o c = omega (arith, c.requires.room c.if-d-eq0.false)

pub put-requires : goal.put-requires
put-requires c = copy_room c.requires c.if-d-eq0.false

pub overflow_add-result : goal.overflow_add-result
overflow_add-result c = omega (arith, c.requires.room c.if-d-eq0.false)

pub returns : goal.returns
returns c = copied_yes c.requires c.if-d-eq0.false c.put.ensures.appended
