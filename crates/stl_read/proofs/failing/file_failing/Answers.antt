-- `file_failing` meets its contract. Assumes nothing.
use Rattle.stl_read.proofs.ReadLaws.{corner_74, many_73, none_fails, other_72, shorter_72}
use borrow.Author.Rules.{rules}
use Rattle.stl_read.proofs.failing.file_failing.Goals as goal

pub returns-then-file-lt-HEAD_BYTES : goal.returns-then-file-lt-HEAD_BYTES
returns-then-file-lt-HEAD_BYTES c = search shorter_72

pub returns-then-file-n : goal.returns-then-file-n
returns-then-file-n c = search (rules, other_72)

pub returns-then-n-gt-MOST_TRIANGLES : goal.returns-then-n-gt-MOST_TRIANGLES
returns-then-n-gt-MOST_TRIANGLES c = search (rules, many_73)

pub returns-then-any_not_finite : goal.returns-then-any_not_finite
returns-then-any_not_finite c = search (rules, corner_74)

pub returns : goal.returns
returns c = search (rules, none_fails)
