-- A claim that says `unfolding evaluation` has every definition of this crate and of those below it computed. Assumes nothing.
use Rattle.std.specs.Prelude.{ℕ}
use Rattle.lists.specs.Evaluation as Lists
use Rattle.mesh_materials.specs.Materials.{entry, entry_of, material_of, bad_materials}

-- every definition that computes
unfoldable pub evaluation : ℕ
unfolding Lists.evaluation entry entry_of material_of bad_materials
evaluation = 0
