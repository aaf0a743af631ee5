-- `push` meets its contract. Assumes nothing.
use Rattle.stitch_fans.proofs.PushLaws.{triangle_room, pushed_first, pushed_next}
use native.Mathlib.Omega.{arith}
use lib.ListN.{length-set}
use Rattle.stitch_fans.proofs.fan.push.Goals as goal

pub bounds-out-o : goal.bounds-out-o
bounds-out-o c = omega (arith, triangle_room c.requires c.in-Some.is)

pub bounds-out-o-in-Some : goal.bounds-out-o-in-Some
bounds-out-o-in-Some c = simp length-set (omega (arith, triangle_room c.requires c.in-Some.is))

pub bounds-out-o-in-Some-2 : goal.bounds-out-o-in-Some-2
bounds-out-o-in-Some-2 c = simp length-set (omega (arith, triangle_room c.requires c.in-Some.is))

pub returns-in-Some : goal.returns-in-Some
returns-in-Some c = search pushed_next

pub returns-in-None : goal.returns-in-None
returns-in-None c = search pushed_first
