-- `stitch_faces::faces::is_stitched` meets its contract. Assumes nothing.
use native.Mathlib.Omega.{arith}
use Rattle.stitch_faces.proofs.FaceLaws.{stitched_by, stitched_none}
use Rattle.stitch_faces.proofs.faces.is_stitched.Goals as goal

pub returns-then-k-row_count : goal.returns-then-k-row_count
returns-then-k-row_count c = stitched_by _ _ _ (omega arith) c.vertices_of.ensures c.vertices_of-then-k-row_count.ensures

pub returns : goal.returns
returns c = stitched_none _ _ _ (omega arith)
