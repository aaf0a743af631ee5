-- `put_file` meets its contract. Assumes nothing.
use Rattle.stl_write.proofs.FileLaws.{file_put, writable_still}
use borrow.Author.Rules.{rules}
use Rattle.stl_write.proofs.file.put_file.Goals as goal

pub put_facets-requires : goal.put_facets-requires
put_facets-requires c = search (rules, writable_still)

pub returns : goal.returns
returns c = search file_put
