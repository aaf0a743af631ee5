-- `write_vertices` meets its contract. With k rows done, their numbers are written and those of the rest are left. Assumes nothing.
use Rattle.mesh_rows.proofs.VertexLaws.{Copying}
use Rattle.mesh_rows.proofs.vertices.write_vertices.Given as goal

abbrev pub invariant-loop-k : goal.invariant-loop-k
invariant-loop-k l = Copying l.rows l.numbers l.w l.at l.initial.out l.o l.base l.k l.out
