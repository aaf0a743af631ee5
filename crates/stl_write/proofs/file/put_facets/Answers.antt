-- `put_facets` meets its contract. Assumes nothing.
use Rattle.stl_write.proofs.FileLaws.{all_put, none_put, one_put, still_room}
use borrow.Author.Rules.{rules}
use Rattle.stl_write.proofs.file.put_facets.Goals as goal

pub loop-t-init : goal.loop-t-init
loop-t-init c = none_put _ _ _

pub put_triangle-requires : goal.put_triangle-requires
put_triangle-requires c = search (rules, still_room)

pub loop-t-preserved : goal.loop-t-preserved
loop-t-preserved c = search one_put

pub returns : goal.returns
returns c = search all_put
