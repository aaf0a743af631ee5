-- `assemble_next` meets its contract. Assumes nothing.
use Rattle.bench_assemble.proofs.AssembleLaws.{assembled_text_lem}
use Rattle.bench_assemble.proofs.assemble_next.Goals as goal

pub returns : goal.returns
returns c = assembled_text_lem _ _ _ _ _ _ _ _ _ _ _ _ _ c.assemble-given.auto.mesh_positions c.assemble-given.auto.mesh_indices c.assemble-given.auto.parts c.assemble-given.auto.ranges c.assemble-given.auto.failures _ _ _ _ _ _ _ _ _ _ _ _ _ _ c.print_mesh.ensures c.assemble-given.ensures
