-- `cad_write_plan` meets its contract. Assumes nothing.
use Rattle.cad_tess.proofs.PlanLaws.{listing_left, listing_told}
use borrow.Author.Rules.{rules}
use Rattle.cad_tess.proofs.plans.cad_write_plan.Goals as goal

pub returns : goal.returns
returns c = search (rules, listing_told, listing_left)
