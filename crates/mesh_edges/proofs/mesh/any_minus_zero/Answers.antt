-- `any_minus_zero` meets its contract. Assumes nothing.
use Rattle.lists.specs.Any.{looked_all, looked_none}
use Rattle.mesh_edges.proofs.ClosedLaws.{minus_more}
use Rattle.mesh_edges.proofs.mesh.any_minus_zero.Goals as goal

pub loop-position-init : goal.loop-position-init
loop-position-init c = search looked_none

pub loop-position-preserved : goal.loop-position-preserved
loop-position-preserved c = search minus_more

pub returns : goal.returns
returns c = search looked_all
