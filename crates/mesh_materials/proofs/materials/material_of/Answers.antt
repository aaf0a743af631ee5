-- `material_of` meets its contract. Each branch is one case of the definition. Assumes nothing.
use mathlib.Core.Path.{refl}
use native.Mathlib.Omega.{arith}
use Rattle.mesh_materials.proofs.MaterialLaws.{material_own, material_default, material_none}
use Rattle.mesh_materials.proofs.materials.material_of.Goals as goal

pub returns-then-own-gt0 : goal.returns-then-own-gt0
returns-then-own-gt0 c = material_own _ _ _ _ c.entry_at-own.ensures (omega arith) refl

pub returns-then-default-gt0 : goal.returns-then-default-gt0
returns-then-default-gt0 c = material_default _ _ _ c.entry_at-own.ensures (omega arith) (omega arith) refl

pub returns : goal.returns
returns c = material_none _ _ _ c.entry_at-own.ensures (omega arith) (omega arith)
