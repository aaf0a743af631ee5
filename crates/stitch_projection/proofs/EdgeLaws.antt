-- An edge as the code makes it. Assumes nothing.
use mathlib.Core.Path.{◌≡◌, ap, ◌∙◌}
use lib.Ieee.{Float}
use Rattle.patch_geometry.specs.declared.Vec3.{Vec3}
use Rattle.patch_geometry.specs.Geometry.{sub_v, dot}
use Rattle.stitch_projection.specs.declared.Edge.{Edge}
use Rattle.stitch_projection.specs.Projection.{edge_of}

-- the edge from p along d
abbrev edge_along : Vec3 → Vec3 → Float → Edge
edge_along p d e = record { start = p; along = d; squared = e }

-- an edge from its start, the difference and that one's square
pub edge_is : (p q : Vec3) {d : Vec3} {e : Float} → d ≡ sub_v q p → e ≡ dot d d → edge_along p d e ≡ edge_of p q
unfolding edge_of
edge_is p q {d} f g = ap (edge_along p d) g ∙ ap (λ (d : Vec3). edge_along p d (dot d d)) f
