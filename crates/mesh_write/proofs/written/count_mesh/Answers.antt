-- `count_mesh` meets its contract. The parts lent are the fronts of the slices. Assumes nothing.
use lib.Seq.{length-take-le}
use Rattle.mesh_write.proofs.MeshLaws.{mesh_counted}
use borrow.Author.Rules.{rules}
use Rattle.mesh_write.proofs.written.count_mesh.Goals as goal

pub slice_bounds-count_mesh-end-2 : goal.slice_bounds-count_mesh-end-2
slice_bounds-count_mesh-end-2 c = search (c.requires.indices_in, length-take-le, rules)

pub count_mesh-requires : goal.count_mesh-requires
count_mesh-requires c = c.requires.mesh

pub returns : goal.returns
returns c = mesh_counted c.requires c.count_mesh.ensures (length-take-le _ _ c.requires.indices_in)
