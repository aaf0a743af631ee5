-- `write_entries` meets its contract. Assumes nothing.
use Prim.Native.Nat.{◌+◌, ◌-◌}
use native.Mathlib.Omega.{arith}
use lib.ListN.{get_or}
use Rattle.report.proofs.ListLaws.{writing_none, writing_room, writing_more, writing_all}
use Rattle.report.proofs.list.write_entries.Goals as goal

pub loop-k-init : goal.loop-k-init
loop-k-init c = writing_none _ _ _ _ _

pub overflow_cast-x-in-loop-k : goal.overflow_cast-x-in-loop-k
overflow_cast-x-in-loop-k c = omega (arith, c.shared_slice_known-in-loop-k-1.given (c.args.at + c.loop-k.k))

pub put-requires : goal.put-requires
put-requires c = search writing_room

pub loop-k-preserved : goal.loop-k-preserved
loop-k-preserved c =
    writing_more c.requires c.loop-k.invariant (omega arith) (λ i. get_or c.args.w.now (c.args.at + c.loop-k.k) 0) c.put.ensures.appended

pub returns : goal.returns
returns c = search writing_all
