-- `rank_rows` meets its contract. Assumes nothing.
use Rattle.report_audit.proofs.RankLaws.{ranks_sortable, rows_ranked}
use borrow.Author.Rules.{rules}
use Rattle.report_audit.proofs.ranks.rank_rows.Goals as goal

pub sort_words-requires : goal.sort_words-requires
sort_words-requires c = search (ranks_sortable, rules)

pub returns : goal.returns
returns c = search (rows_ranked, rules)
