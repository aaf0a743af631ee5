-- `keep_rows` meets its contract. With the words of k rows kept, the vertices and indices before row k are known. Assumes nothing.
use Rattle.mesh_material_order.proofs.OrderLaws.{Keeping}
use Rattle.mesh_material_order.proofs.order.keep_rows.Given as goal

abbrev pub invariant-loop-k : goal.invariant-loop-k
invariant-loop-k l = Keeping l.rows l.initial.w l.at l.starts l.order l.m l.base l.i l.k l.w
