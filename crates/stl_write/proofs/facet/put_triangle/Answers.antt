-- `put_triangle` meets its contract. Assumes nothing.
use Rattle.stl_write.proofs.FileLaws.{triangle_inside}
use borrow.Author.Rules.{rules}
use Rattle.stl_write.proofs.facet.put_triangle.Goals as goal

pub put_facet-requires : goal.put_facet-requires
put_facet-requires c = search (rules, triangle_inside)
