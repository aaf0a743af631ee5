-- `find_splits` meets its contract. Assumes nothing.
use Rattle.stitch_count.proofs.CountLaws.{triangle_splittable, triangle_done, triangle_closed}
use Rattle.stitch_count.proofs.count.find_splits.Goals as goal

pub split_triangle-requires : goal.split_triangle-requires
split_triangle-requires c = search triangle_splittable

pub returns-then-is_open : goal.returns-then-is_open
returns-then-is_open c = search triangle_done

pub returns : goal.returns
returns c = search triangle_closed
