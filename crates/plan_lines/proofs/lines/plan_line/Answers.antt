-- `plan_line` meets its contract. Assumes nothing.
use Rattle.plan_lines.proofs.KindLaws.{group_count, bin_count, close_count, opens, stands, stands_none, closes, no_form}
use borrow.Author.Rules.{rules}
use Rattle.plan_lines.proofs.lines.plan_line.Goals as goal

pub scan-requires : goal.scan-requires
scan-requires c = rw group_count (search rules)

pub returns-then-scan : goal.returns-then-scan
returns-then-scan c = search (rules, opens)

pub scan-requires-2 : goal.scan-requires-2
scan-requires-2 c = rw bin_count (search rules)

pub returns-then-numbers-gt-MOST_BIN : goal.returns-then-numbers-gt-MOST_BIN
returns-then-numbers-gt-MOST_BIN c = search (rules, stands_none)

pub returns-then-scan-2 : goal.returns-then-scan-2
returns-then-scan-2 c = search (rules, stands)

pub scan-requires-3 : goal.scan-requires-3
scan-requires-3 c = rw close_count (search rules)

pub returns-then-scan-3 : goal.returns-then-scan-3
returns-then-scan-3 c = search (rules, closes)

pub returns : goal.returns
returns c = search (rules, no_form)
