-- `any_minus_zero` meets its contract. Assumes nothing.
use Rattle.lists.specs.Any.{Looked}
use Rattle.point_rules.specs.Zeros.{minus_zero}
use Rattle.mesh_edges.proofs.mesh.any_minus_zero.Given as goal

abbrev pub invariant-loop-position : goal.invariant-loop-position
invariant-loop-position l = Looked minus_zero l.positions l.position-index l.found
