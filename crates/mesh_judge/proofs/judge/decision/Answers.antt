-- `decision` meets its contract. An accepted row's decision tells its material. Assumes nothing.
use mathlib.Core.Path.{refl, sym, ap, ◌∙◌}
use Rattle.mesh_materials.specs.Materials.{material_of}
use Rattle.mesh_verdicts.specs.Verdicts.{failure_in}
use Rattle.mesh_judge.proofs.JudgeLaws.{decision_yes, decision_no}
use Rattle.mesh_judge.proofs.judge.decision.Goals as goal

pub returns-in-Ok : goal.returns-in-Ok
returns-in-Ok c = decision_yes _ _ _ _ (sym (ap failure_in c.in-Ok.is) ∙ c.row_verdict-verdict.ensures) (c.material_of-material.ensures ∙ ap (material_of _ _) c.face.ensures) refl

pub returns-in-Err : goal.returns-in-Err
returns-in-Err c = decision_no _ _ _ _ (sym (ap failure_in c.in-Err.is) ∙ c.row_verdict-verdict.ensures)
