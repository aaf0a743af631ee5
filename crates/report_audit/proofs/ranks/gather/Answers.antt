-- `gather` meets its contract: of the first i ranks those with a count above 0 are gathered. Assumes nothing.
use mathlib.Core.Path.{refl}
use Prim.Native.Nat.{◌-◌}
use native.Mathlib.Omega.{arith}
use Rattle.report_audit.proofs.RankLaws.{gathering_none, count_ready, count_low, gathering_more, gathering_all}
use borrow.Author.Rules.{rules}
use Rattle.report_audit.proofs.ranks.gather.Goals as goal

pub loop-i-init : goal.loop-i-init
loop-i-init c = search (gathering_none, rules)

pub count_at-count-requires : goal.count_at-count-requires
count_at-count-requires c = search (count_ready, rules)

pub overflow_sub-w : goal.overflow_sub-w
overflow_sub-w c = omega (arith, count_low c.requires c.loop-i.invariant c.loop-i-test.true c.count_at-count.ensures)

pub loop-i-preserved : goal.loop-i-preserved
loop-i-preserved c =
    gathering_more c.requires c.loop-i.invariant c.loop-i-test.true c.count_at-count.ensures refl refl c.min.ensures

pub returns : goal.returns
returns c = search (gathering_all, rules)
