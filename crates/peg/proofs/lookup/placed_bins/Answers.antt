-- `placed_bins` meets its contract. Assumes nothing.
use Rattle.peg.proofs.LookupLaws.{near_listed, none_near, placed, some_near}
use borrow.Author.Rules.{rules}
use Rattle.peg.proofs.lookup.placed_bins.Goals as goal

pub find_best-best-requires : goal.find_best-best-requires
find_best-best-requires c = search (rules, placed)

pub returns-then-best-eq-BEYOND : goal.returns-then-best-eq-BEYOND
returns-then-best-eq-BEYOND c = search (rules, none_near)

pub listed-requires : goal.listed-requires
listed-requires c = search (rules, placed, some_near)

pub returns : goal.returns
returns c = search (rules, near_listed)
