-- `append_positions` meets its contract. Assumes nothing.
use Prim.Native.Nat.{◌-◌}
use Rattle.stitch_ring_vertices.proofs.VertexLaws.{PositionsAdded}
use Rattle.stitch_ring_vertices.proofs.vertices.append_positions.Given as goal

abbrev pub invariant-loop-j : goal.invariant-loop-j
invariant-loop-j l = PositionsAdded l.positions l.w l.at l.ts l.kept l.o l.j l.initial.out l.out
