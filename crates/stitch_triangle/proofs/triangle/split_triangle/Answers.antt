-- `split_triangle` meets its contract. Assumes nothing.
use Rattle.stitch_triangle.proofs.TriangleLaws.{first_ready, second_ready, third_ready, pairs_held, triangle_split}
use native.Mathlib.Omega.{arith}
use Rattle.stitch_triangle.proofs.triangle.split_triangle.Goals as goal

pub find_all-one-requires : goal.find_all-one-requires
find_all-one-requires c = search first_ready

pub find_all-two-requires : goal.find_all-two-requires
find_all-two-requires c =
    second_ready c.requires c.find_all-one.ensures (omega arith)

pub find_all-three-requires : goal.find_all-three-requires
find_all-three-requires c =
    third_ready c.requires c.find_all-one.ensures (omega arith) c.find_all-two.ensures (omega arith)

pub keep_in_order-kept-requires : goal.keep_in_order-kept-requires
keep_in_order-kept-requires c =
    pairs_held c.requires c.find_all-one.ensures (omega arith) c.find_all-two.ensures (omega arith) c.find_all-three.ensures (omega arith)

pub returns : goal.returns
returns c =
    triangle_split c.requires c.find_all-one.ensures (omega arith) c.find_all-two.ensures (omega arith)
    c.find_all-three.ensures (omega arith) c.keep_in_order-kept.ensures
