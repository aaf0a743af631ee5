-- `read_plan` meets its contract. Assumes nothing.
use Rattle.refusals.specs.Laws.{number_nonzero}
use Rattle.plan_read.proofs.PlanLaws.{plan_listed, plan_passed, start_near, start_ready}
use Rattle.std.proofs.Common.{◌≡◌, arith, rules}
use Rattle.refusals.specs.Numbers.{failing}
use Rattle.plan_read.proofs.plan.read_plan.Goals as goal

pub invariant_of-start-clause-near : goal.invariant_of-start-clause-near
invariant_of-start-clause-near c = search (rules, start_near)

pub read_group-requires : goal.read_group-requires
read_group-requires c = search (rules, start_ready)

pub read_group-requires-2 : goal.read_group-requires-2
read_group-requires-2 c = search (rules, start_ready)

pub returns-in_err-listed : goal.returns-in_err-listed
returns-in_err-listed c =
    let passed : failing c.read_group.result ≡ 0 = grind arith in
    plan_passed _ _ _ _ _ _ _ c.read_group.ensures passed (search rules) _ _ c.in_err-listed.ensures (number_nonzero _)

pub returns : goal.returns
returns c =
    let passed : failing c.read_group.result ≡ 0 = grind arith in
    plan_listed _ _ _ _ _ _ _ c.read_group.ensures passed (search rules) _ (search rules) c.in_ok-listed.ensures
