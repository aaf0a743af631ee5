-- `put_row` meets its contract. Six stores are one run of stores. Assumes nothing.
use native.Mathlib.Omega.{arith}
use lib.ListN.{length-set}
use Rattle.stitch_write.proofs.TableLaws.{six_stores}
use Rattle.stitch_write.proofs.table.put_row.Goals as goal

pub bounds-out-o-2 : goal.bounds-out-o-2
bounds-out-o-2 c = simp length-set (omega arith)

pub bounds-out-o-3 : goal.bounds-out-o-3
bounds-out-o-3 c = simp length-set (omega arith)

pub bounds-out-o-4 : goal.bounds-out-o-4
bounds-out-o-4 c = simp length-set (omega arith)

pub bounds-out-o-5 : goal.bounds-out-o-5
bounds-out-o-5 c = simp length-set (omega arith)

pub bounds-out-o-6 : goal.bounds-out-o-6
bounds-out-o-6 c = simp length-set (omega arith)

pub returns : goal.returns
returns c = search six_stores
