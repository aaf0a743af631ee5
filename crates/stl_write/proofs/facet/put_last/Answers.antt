-- `put_last` meets its contract. Assumes nothing.
use native.Mathlib.Omega.{arith}
use lib.ListN.{length-set}
use Rattle.stl_write.proofs.ByteLaws.{last_put}
use Rattle.stl_write.proofs.facet.put_last.Goals as goal

pub bounds-out-o-2 : goal.bounds-out-o-2
bounds-out-o-2 c = simp length-set (omega arith)

pub returns : goal.returns
returns c = search last_put
