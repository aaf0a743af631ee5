-- `put_mesh` meets its contract. Assumes nothing.
use mathlib.Core.Path.{◌∙◌}
use Rattle.sheet_answer_mesh.proofs.MeshLaws.{mesh_written}
use Rattle.sheet_answer_mesh.proofs.put_mesh.Goals as goal

pub shape_of-out : goal.shape_of-out
shape_of-out c = c.put_failures.ensures.long ∙ c.put_ranges-e.ensures.long ∙ c.put_threes-d.ensures.long ∙ c.put_threes-c.ensures.long ∙ c.put_vertices-b.ensures.long ∙ c.put_line-a.ensures.long

pub returns : goal.returns
returns c = mesh_written _ _ _ _ _ _ _ c.front.ensures c.front-2.ensures c.front-3.ensures c.front-4.ensures c.front-5.ensures c.front-6.ensures (rw (c.from-vertices.ensures, c.from-corners.ensures) at c.put_line-a.ensures) c.put_vertices-b.ensures c.put_threes-c.ensures c.put_threes-d.ensures c.put_ranges-e.ensures c.put_failures.ensures
