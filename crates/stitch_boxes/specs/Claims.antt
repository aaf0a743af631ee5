-- The rule on boxes written down: each of its three tests passes one over, and a box that is near is not. Assumes nothing.
use Rattle.std.specs.Prelude.{not, ℕ, T}
use Rattle.float_steps.specs.Floats.{f64}
use Rattle.patch_geometry.specs.Given.{vec}
use Rattle.float_spans.specs.declared.Span.{Span}
use Rattle.stitch_projection.specs.declared.Edge.{Edge}
use Rattle.stitch_projection.specs.Projection.{edge_of}
use Rattle.stitch_projection.specs.Evaluation as Projection
use Rattle.stitch_boxes.specs.declared.Bounds.{Bounds}
use Rattle.stitch_boxes.specs.Boxes.{least_off, far}

-- every definition that computes
unfoldable pub evaluation : ℕ
unfolding Projection.evaluation least_off far
evaluation = 0

abbrev span : ℕ → ℕ → Span
span a b = record { low = f64 a; high = f64 b }

abbrev box : Span → Span → Span → Bounds
box x y z = record { x = x; y = y; z = z }

-- from the origin to 1, 0, 0
unfoldable pub unit : Edge
unit = edge_of (vec 0 0 0) (vec 0x3FF0000000000000 0 0)

-- from the origin to 10, 10, 0
unfoldable pub slant : Edge
slant = edge_of (vec 0 0 0) (vec 0x4024000000000000 0x4024000000000000 0)

-- x in [1/4, 3/4], y in [2, 3]: farther than 1 by its extent
pub beside : T (far (box (span 0x3FD0000000000000 0x3FE8000000000000) (span 0x4000000000000000 0x4008000000000000) (span 0 0)) unit (f64 0x3FF0000000000000))
unfolding evaluation unit
beside = tt

-- y in [1/2, 3]: not farther than 1
pub near : T (not (far (box (span 0x3FD0000000000000 0x3FE8000000000000) (span 0x3FE0000000000000 0x4008000000000000) (span 0 0)) unit (f64 0x3FF0000000000000)))
unfolding evaluation unit
near = tt

-- x in [2, 3]: its points project outside, whatever the distance
pub outside : T (far (box (span 0x4000000000000000 0x4008000000000000) (span 0 0) (span 0 0)) unit (f64 0x4010000000000000))
unfolding evaluation unit
outside = tt

-- x in [9, 10], y in [0, 1]: farther than 1 from the slanting edge by the span of the parameter only
pub aside : T (far (box (span 0x4022000000000000 0x4024000000000000) (span 0 0x3FF0000000000000) (span 0 0)) slant (f64 0x3FF0000000000000))
unfolding evaluation slant
aside = tt

-- ---- the edge cases: no sag, edge or zero needs a case of its own

-- the box beside the edge again, for a square that overflowed or an infinite sag: nothing is above the infinity
pub endless : T (not (far (box (span 0x3FD0000000000000 0x3FE8000000000000) (span 0x4000000000000000 0x4008000000000000) (span 0 0)) unit (f64 0x7FF0000000000000)))
unfolding evaluation unit
endless = tt

-- for a square that vanished: a box on the edge's line is not passed over
pub least : T (not (far (box (span 0x3FD0000000000000 0x3FE8000000000000) (span 0 0) (span 0 0)) unit (f64 0)))
unfolding evaluation unit
least = tt

-- with −0.0 for 0.0 at its ends the same
pub zeros : T (not (far (box (span 0x3FD0000000000000 0x3FE8000000000000) (span 0x8000000000000000 0) (span 0x8000000000000000 0x8000000000000000)) unit (f64 0)))
unfolding evaluation unit
zeros = tt

-- from the origin to itself: the squared length is 0 and the parameter no number, which cuts nothing from the span, so only the distance decides
unfoldable pub point : Edge
point = edge_of (vec 0 0 0) (vec 0 0 0)

-- a box on it
pub on_point : T (not (far (box (span 0 0) (span 0 0) (span 0 0)) point (f64 0)))
unfolding evaluation point
on_point = tt

-- a box beside it
pub off_point : T (far (box (span 0 0) (span 0x4000000000000000 0x4008000000000000) (span 0 0)) point (f64 0x3FF0000000000000))
unfolding evaluation point
off_point = tt
