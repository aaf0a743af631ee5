-- The definitions that the theorems of this name in proofs/ speak of. Assumes nothing.
use Rattle.std.specs.Prelude.{ℕ, zero, suc, ◌≤◌, Float}
use mathlib.Core.List.{List, [], ◌∷◌}
use Rattle.std.proofs.Math.Option.{Option, none, some}
use Rattle.patch_geometry.specs.declared.Vec3.{Vec3}
use Rattle.patch_geometry.specs.Geometry.{point_at, zero64}
use Rattle.stitch_projection.specs.Projection.{project}
use Rattle.stitch_loose_points.specs.Loose.{Facet}
use Rattle.stitch_splits.specs.declared.sides.Sides.{Sides}
use Rattle.stitch_splits.specs.Splits.{Side, side_of, Placed}
use Rattle.stitch_splits.specs.Entries.{Entry}
use Rattle.stitch_splits.specs.Found.{spot_of}
use Rattle.stitch_splits.specs.Filters.{map_option}

-- the edge from corner 0, 1, 2 of a triangle
unfoldable pub side_at : Facet → ℕ → Side
side_at f zero = side_of f.c₀ f.c₁
side_at f (suc zero) = side_of f.c₁ f.c₂
side_at f (suc (suc e)) = side_of f.c₂ f.c₀

-- how far a point is from edge e, where it projects into it
unfoldable pub distance_on : Facet → Vec3 → ℕ → Float
distance_on f r e = elim (project (side_at f e).edge r) [ none ↦ zero64 | some h ↦ h.distance ]

-- the placed point of an entry
unfoldable pub placed_of : Facet → List Float → Entry → Placed
placed_of f ps x = record {
  e = x.e;
  side = side_at f x.e;
  t = x.t;
  distance = distance_on f (point_at ps x.vertex) x.e;
  point = point_at ps x.vertex;
}

-- the entry of a vertex that is placed
abbrev pub placed_entry : Sides → List Float → ℕ → Option Entry
placed_entry s ps g = map_option (λ p. record { e = p.e; t = p.t; vertex = g }) (spot_of s (point_at ps g))

-- entries on the edges of a triangle
abbrev pub OnEdges : List Entry → Type 0
OnEdges [] = Unit {0}
OnEdges (x ∷ xs) = (x.e ≤ 2) × OnEdges xs
