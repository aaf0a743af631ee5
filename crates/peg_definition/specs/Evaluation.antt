-- A claim that says `unfolding evaluation` has every definition of this crate and of those below it computed. Assumes nothing.
use Rattle.std.specs.Prelude.{ℕ}
use Rattle.point_rules.specs.Evaluation as Points
use Rattle.body_refusals.specs.Evaluation as Bodies
use Rattle.peg_definition.specs.Peg.{row_hits, hits_of, winners, nearest_bins, places_of, bad_places, peg_checks, bins_of, lookup_of, bins_after}

-- every definition that computes
unfoldable pub evaluation : ℕ
unfolding Points.evaluation Bodies.evaluation row_hits hits_of winners nearest_bins places_of bad_places peg_checks bins_of lookup_of bins_after
evaluation = 0
