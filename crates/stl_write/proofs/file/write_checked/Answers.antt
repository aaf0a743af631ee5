-- `write_checked` meets its contract. Assumes nothing.
use Rattle.stl_write.proofs.FileLaws.{file_left_lem, short_left}
use borrow.Author.Rules.{rules}
use Rattle.stl_write.proofs.file.write_checked.Goals as goal

pub returns-then-out-length : goal.returns-then-out-length
returns-then-out-length c = search (rules, short_left)

pub returns : goal.returns
returns c = search (rules, file_left_lem)
