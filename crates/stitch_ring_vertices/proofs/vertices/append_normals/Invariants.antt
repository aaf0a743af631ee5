-- `append_normals` meets its contract. Assumes nothing.
use Prim.Native.Nat.{◌-◌}
use Rattle.stitch_ring_vertices.proofs.VertexLaws.{NormalsAdded}
use Rattle.stitch_ring_vertices.proofs.vertices.append_normals.Given as goal

abbrev pub invariant-loop-j : goal.invariant-loop-j
invariant-loop-j l = NormalsAdded l.normals l.a l.b l.c l.w l.at l.ts l.kept l.o l.j l.initial.out l.out
