-- `list_ranks` meets its contract: the words of the first k rows are listed. Assumes nothing.
use Prim.Native.Nat.{◌-◌}
use Rattle.report_audit.proofs.RankLaws.{listing_none, word_small, listing_more, listing_all}
use borrow.Author.Rules.{rules}
use Rattle.report_audit.proofs.ranks.list_ranks.Goals as goal

pub loop-k-init : goal.loop-k-init
loop-k-init c = search (listing_none, rules)

pub rank_word-requires : goal.rank_word-requires
rank_word-requires c = search (word_small, rules)

pub loop-k-preserved : goal.loop-k-preserved
loop-k-preserved c = search (listing_more, rules)

pub returns : goal.returns
returns c = search (listing_all, rules)
