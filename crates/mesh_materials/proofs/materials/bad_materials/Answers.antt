-- `bad_materials` meets its contract. The default is tested, then the entries. Assumes nothing.
use mathlib.Core.Path.{◌∙◌}
use native.Mathlib.Omega.{arith}
use borrow.Author.Tests.{lt-ltb}
use Rattle.mesh_materials.proofs.MaterialLaws.{bad_default, bad_entries}
use Rattle.mesh_materials.proofs.materials.bad_materials.Goals as goal

pub returns-then-default-gt-MOST_ENTRY : goal.returns-then-default-gt-MOST_ENTRY
returns-then-default-gt-MOST_ENTRY c = lt-ltb _ _ (omega arith) ∙ bad_default _ _ (omega arith)

pub returns-else-default-gt-MOST_ENTRY : goal.returns-else-default-gt-MOST_ENTRY
returns-else-default-gt-MOST_ENTRY c = bad_entries _ _ (omega arith) c.any_above.ensures
