-- `put_entry` meets its contract. Assumes nothing.
use Rattle.plan_lines.proofs.EntryLaws.{entry_none, entry_put}
use native.Mathlib.Omega.{arith}
use lib.ListN.{length-set}
use borrow.Author.Rules.{rules}
use Rattle.plan_lines.proofs.places.put_entry.Goals as goal

pub returns-then-entries-at : goal.returns-then-entries-at
returns-then-entries-at c = search (rules, entry_none)

pub bounds-entries-at-2 : goal.bounds-entries-at-2
bounds-entries-at-2 c = simp length-set (omega arith)

pub bounds-entries-at-3 : goal.bounds-entries-at-3
bounds-entries-at-3 c = simp length-set (omega arith)

pub bounds-entries-at-4 : goal.bounds-entries-at-4
bounds-entries-at-4 c = simp length-set (omega arith)

pub returns : goal.returns
returns c = search (rules, entry_put)
