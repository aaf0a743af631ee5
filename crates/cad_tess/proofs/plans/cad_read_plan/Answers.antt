-- `cad_read_plan` meets its contract. Assumes nothing.
use Rattle.cad_tess.proofs.PlanLaws.{plan_left, plan_told}
use borrow.Author.Rules.{rules}
use Rattle.cad_tess.proofs.plans.cad_read_plan.Goals as goal

pub returns : goal.returns
returns c = search (rules, plan_told, plan_left)
