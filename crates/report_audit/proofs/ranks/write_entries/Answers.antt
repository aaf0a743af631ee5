-- `write_entries` meets its contract: the first k entries are written. Assumes nothing.
use Prim.Native.Nat.{◌-◌}
use Rattle.report_audit.proofs.RankLaws.{writing_none, entry_ready, writing_more, writing_all}
use borrow.Author.Rules.{rules}
use Rattle.report_audit.proofs.ranks.write_entries.Goals as goal

pub loop-k-init : goal.loop-k-init
loop-k-init c = search (writing_none, rules)

pub entry_at-requires : goal.entry_at-requires
entry_at-requires c = search (entry_ready, rules)

pub loop-k-preserved : goal.loop-k-preserved
loop-k-preserved c = search (writing_more, rules)

pub returns : goal.returns
returns c = search (writing_all, rules)
