-- `rank_counts` meets its contract. Assumes nothing.
use Rattle.report_audit.proofs.EntryLaws.{gather_ready, order_sortable, entries_ready, counts_ranked}
use borrow.Author.Rules.{rules}
use Rattle.report_audit.proofs.ranks.rank_counts.Goals as goal

pub gather-r-requires : goal.gather-r-requires
gather-r-requires c = search (gather_ready, rules)

pub sort_words-requires : goal.sort_words-requires
sort_words-requires c = search (order_sortable, rules)

pub write_entries-requires : goal.write_entries-requires
write_entries-requires c =
    let p = c.requires in
    entries_ready p c.rank_rows.ensures c.gather-r.ensures c.sort_words.ensures

pub returns : goal.returns
returns c =
    let p = c.requires in
    counts_ranked p c.rank_rows.ensures c.gather-r.ensures c.sort_words.ensures c.write_entries.ensures
