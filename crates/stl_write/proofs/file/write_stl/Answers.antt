-- `write_stl` meets its contract. Assumes nothing.
use Rattle.stl_write.proofs.FileLaws.{mesh_back, mesh_checked, mesh_left_lem, mesh_refused, refused_back}
use Rattle.refusals.specs.Laws.{none_failing, number_nonzero}
use borrow.Author.Rules.{rules}
use Rattle.stl_write.proofs.file.write_stl.Goals as goal

pub returns-in_err-lone_failing : goal.returns-in_err-lone_failing
returns-in_err-lone_failing c = search (rules, mesh_refused, refused_back, number_nonzero)

pub write_checked-requires : goal.write_checked-requires
write_checked-requires c = search (rules, mesh_checked, none_failing c.in_ok-lone_failing.was)

pub returns : goal.returns
returns c =
    search (rules, mesh_left_lem, mesh_back, none_failing c.in_ok-lone_failing.was, c.shared_slice_known-1.given)
