-- `any_above` meets its contract. Assumes nothing.
use mathlib.Core.Path.{◌∙◌}
use Rattle.std.proofs.Common.{rules, tests}
use Rattle.std.proofs.lemmas.Iterator.{YieldsList-from_slice}
use Rattle.std.proofs.lemmas.Iterator.Search.{any_from_yields_List}
use Rattle.mesh_materials.proofs.MaterialLaws.{high, any_list}
use Rattle.mesh_materials.proofs.materials.any_above.Goals as goal

pub returns : goal.returns
returns c =
    any_from_yields_List high _ _ c.any.result c.any.ensures.ran (YieldsList-from_slice c.args.materials.now cc) (λ x b q k. search (rules, tests))
    ∙ any_list c.args.materials.now
