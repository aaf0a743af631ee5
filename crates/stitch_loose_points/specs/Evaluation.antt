-- A claim that says `unfolding evaluation` has every definition of this crate and of those below it computed. Assumes nothing.
use Rattle.std.specs.Prelude.{ℕ}
use Rattle.patch_geometry.specs.Evaluation as Geometry
use Rattle.edge_uses.specs.Evaluation as Edges
use Rattle.stitch_loose_points.specs.Loose.{corner_of, facets_of, body_facets, insert_loose, insert_corner, insert_open, loose_from, facets_in, loose_in}

-- every definition that computes
unfoldable pub evaluation : ℕ
unfolding Geometry.evaluation Edges.evaluation corner_of facets_of body_facets insert_loose insert_corner insert_open loose_from facets_in loose_in
evaluation = 0
