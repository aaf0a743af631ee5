-- `stand_triangle` meets its contract. Assumes nothing.
use Rattle.stitch_gather.proofs.GatherLaws.{second_standable, third_standable, triangle_stood}
use native.Mathlib.Omega.{arith}
use Rattle.stitch_gather.proofs.gather.stand_triangle.Goals as goal

pub stand-two-requires : goal.stand-two-requires
stand-two-requires c =
    second_standable c.requires c.stand-one.ensures (omega arith)

pub stand-requires : goal.stand-requires
stand-requires c =
    third_standable c.requires c.stand-one.ensures (omega arith) c.stand-two.ensures (omega arith)

pub returns : goal.returns
returns c =
    triangle_stood c.requires c.stand-one.ensures (omega arith) c.stand-two.ensures (omega arith) c.stand.ensures
