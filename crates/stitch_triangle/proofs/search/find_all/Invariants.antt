-- `find_all` meets its contract. Assumes nothing.
use Rattle.stitch_triangle.proofs.TreeLaws.{Searching}
use Prim.Native.Nat.{◌+◌, ◌-◌, ◌*◌, ◌^◌}
use Rattle.stitch_triangle.proofs.search.find_all.Given as goal

abbrev pub invariant-loop-leaf : goal.invariant-loop-leaf
invariant-loop-leaf l = Searching l.positions l.f.sag l.s l.f.v l.f.order l.f.count l.highest l.e l.f.at l.f.ts l.fn.before.found l.fn.before.placed l.initial.w l.t.found l.t.placed l.leaf l.height l.w

abbrev pub decreases-loop-leaf : goal.decreases-loop-leaf
decreases-loop-leaf l = 18 * (2 ^ l.f.top - l.leaf) + l.height
