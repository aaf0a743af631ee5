-- `read_stl` meets its contract. Assumes nothing.
use Rattle.stl_read.proofs.ReadLaws.{read_back, read_left, read_refused, readable, refused_back}
use Rattle.refusals.specs.Laws.{none_failing, number_nonzero}
use borrow.Author.Rules.{rules}
use Rattle.stl_read.proofs.read.read_stl.Goals as goal

pub returns-in_err-file_failing : goal.returns-in_err-file_failing
returns-in_err-file_failing c = search (rules, read_refused, refused_back, number_nonzero)

pub read_checked-requires : goal.read_checked-requires
read_checked-requires c = search (rules, readable, none_failing c.in_ok-file_failing.was)

pub returns : goal.returns
returns c =
    search (rules, read_left, read_back, none_failing c.in_ok-file_failing.was, c.shared_slice_known-1.given)
