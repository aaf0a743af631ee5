-- `stitch_faces::faces::start_of` meets its contract. With j rows passed the place is where row j's indices start. Assumes nothing.
use Prim.Native.Nat.{◌-◌}
use native.Mathlib.Omega.{arith}
use Rattle.stitch_faces.proofs.FaceLaws.{place_first, place_next, place_last}
use Rattle.stitch_faces.proofs.faces.start_of.Goals as goal

pub loop-j-init : goal.loop-j-init
loop-j-init c = (omega arith, place_first _ _)

pub loop-j-preserved : goal.loop-j-preserved
loop-j-preserved c = (omega arith, place_next _ _ c.loop-j.invariant.1 (omega arith) c.indices.ensures c.past-at.ensures)

pub returns : goal.returns
returns c = place_last _ _ _ c.loop-j.invariant.1 (omega arith) (omega arith)
