-- `stitch_faces::faces::row_indices` meets its contract. The stretch lies between two places; past the end it is empty. Assumes nothing.
use native.Mathlib.Omega.{arith}
use Rattle.stitch_faces.proofs.FaceLaws.{place_order, row_stretch, no_indices}
use Rattle.stitch_faces.proofs.faces.row_indices.Goals as goal

pub slice_bounds-result-count : goal.slice_bounds-result-count
slice_bounds-result-count c = place_order _ c.start_of-start.ensures.inside c.past-stop.ensures

pub slice_bounds-result-start : goal.slice_bounds-result-start
slice_bounds-result-start c = omega (arith, place_order _ c.start_of-start.ensures.inside c.past-stop.ensures)

pub returns-then-k-row_count : goal.returns-then-k-row_count
returns-then-k-row_count c = row_stretch _ _ _ c.start_of-start.ensures c.indices.ensures c.past-stop.ensures

pub returns : goal.returns
returns c = no_indices _ _ _ (omega arith)
