-- The points that split a triangle: found, placed, sorted by edge and parameter, and kept. Assumes nothing.
use Rattle.std.specs.Prelude.{Bool, true, false, not, ◌&&◌, cond, List, [], ◌∷◌, ◌++◌, ℕ, suc, length, eqb, Float}
use Rattle.std.proofs.Math.Option.{Option, none, some}
use Rattle.std.specs.Float.Ieee.{lt}
use Rattle.lists.specs.Lists.{any, filter, filter_map}
use Rattle.float_steps.specs.Floats.{f64, absolute}
use Rattle.point_rules.specs.Points.{cell, sameℤ}
use Rattle.patch_geometry.specs.declared.Vec3.{Vec3}
use Rattle.patch_geometry.specs.Geometry.{sub}
use Rattle.stitch_projection.specs.declared.Edge.{Edge}
use Rattle.stitch_projection.specs.Projection.{edge_of, project, within_sag}
use Rattle.stitch_loose_points.specs.Loose.{Corner, Facet, Loose}

-- an edge of a triangle, with the corners that it runs between
pub record Side : Type 0 where
  pub start : Corner
  pub end : Corner
  pub edge : Edge

-- the edge of a triangle from corner c to corner d
unfoldable pub side_of : Corner → Corner → Side
side_of c d = record { start = c; end = d; edge = edge_of c.point d.point }

-- the edges from corner 0, 1 and 2 of a triangle
unfoldable pub sides_of : Facet → List Side
sides_of f = side_of f.c₀ f.c₁ ∷ side_of f.c₁ f.c₂ ∷ side_of f.c₂ f.c₀ ∷ []

-- whether two points lie in one cell
unfoldable pub same_cell : Vec3 → Vec3 → Bool
same_cell p q = sameℤ (cell p.x) (cell q.x) && sameℤ (cell p.y) (cell q.y) && sameℤ (cell p.z) (cell q.z)

-- A loose point counts for an open edge if its name is neither end's, 1e-6 < t < 1 − 1e-6, and its distance isn't above the sag.
unfoldable pub splits : Float → Side → Loose → Bool
splits sag s l =
    not (eqb l.name s.start.name) && not (eqb l.name s.end.name) && within_sag sag s.edge l.point

-- One cell counts once per triangle: the points found for an open edge, behind those found before.
unfoldable pub found_on : Float → Side → List Loose → List Vec3 → List Vec3
found_on sag s [] found = found
found_on sag s (l ∷ ls) found =
    elim (splits sag s l && not (any (same_cell l.point) found)) [ true ↦ found_on sag s ls (found ++ l.point ∷ []) | false ↦ found_on sag s ls found ]

-- the points that split a triangle, in the order found: open edges by corner, loose points by name
unfoldable pub found_from : Float → List Loose → List Side → List Vec3 → List Vec3
found_from sag ls [] found = found
found_from sag ls (s ∷ ss) found =
    elim s.start.is_open [ true ↦ found_from sag ls ss (found_on sag s ls found) | false ↦ found_from sag ls ss found ]

-- ---- placing

-- 1e-9, closer than which a point is dropped
unfoldable pub near_last : Float
near_last = f64 0x3E112E0BE826D695

-- a point placed on edge e of a triangle at parameter t, at some distance
pub record Placed : Type 0 where
  pub e : ℕ
  pub side : Side
  pub t : Float
  pub distance : Float
  pub point : Vec3

-- the nearer of a place and another: the first on ties
unfoldable pub nearer : Option Placed → Option Placed → Option Placed
nearer best none = best
nearer none (some p) = some p
nearer (some b) (some p) = cond (lt p.distance b.distance) (some p) (some b)

-- the place of r on edge e, if r projects into it
unfoldable pub place_on : Vec3 → ℕ → Side → Option Placed
place_on r e s =
    elim (project s.edge r) [ none ↦ none | some h ↦ some (record { e = e; side = s; t = h.t; distance = h.distance; point = r }) ]

-- A point is placed on the nearest of all three edges that it projects into, first edge on ties: `best` of those before edge e.
unfoldable pub place_from : Vec3 → ℕ → List Side → Option Placed → Option Placed
place_from r e [] best = best
place_from r e (s ∷ ss) best = place_from r (suc e) ss (nearer best (place_on r e s))

-- the place of r on a triangle's edges, if it projects into one
unfoldable pub place : List Side → Vec3 → Option Placed
place sides r = place_from r 0 sides none

-- into a list sorted by parameter, behind all that are not above it
unfoldable pub insert_placed : Placed → List Placed → List Placed
insert_placed p [] = p ∷ []
insert_placed p (x ∷ xs) = let rest = x ∷ insert_placed p xs in cond (lt p.t x.t) (p ∷ x ∷ xs) rest

-- Per edge, points are sorted by parameter; ties keep the order found: `sorted` of those before.
unfoldable pub sort_placed : List Placed → List Placed → List Placed
sort_placed sorted [] = sorted
sort_placed sorted (p ∷ ps) = sort_placed (insert_placed p sorted) ps

-- One closer than 1e-9 to the last kept is dropped.
unfoldable pub drop_near : Placed → List Placed → List Placed
drop_near last [] = []
drop_near last (p ∷ ps) = elim (lt (absolute (sub p.t last.t)) near_last) [ true ↦ drop_near last ps | false ↦ p ∷ drop_near p ps ]

-- the first is kept
unfoldable pub drop_close : List Placed → List Placed
drop_close [] = []
drop_close (p ∷ ps) = p ∷ drop_near p ps

-- the points that edge e keeps, by parameter
unfoldable pub kept_on : List Placed → ℕ → List Placed
kept_on placed e = drop_close (sort_placed [] (filter (λ p. eqb p.e e) placed))

-- a triangle, how many points split it, and those that it keeps, edge by edge
pub record SplitTriangle : Type 0 where
  pub facet : Facet
  pub found : ℕ
  pub kept : List Placed

-- the triangle with its splits: found, placed, sorted, dropped
unfoldable pub split_triangle : Float → List Loose → Facet → SplitTriangle
split_triangle sag ls f =
    let sides = sides_of f in
    let found = found_from sag ls sides [] in
    let placed = filter_map (place sides) found in
    record { facet = f; found = length found; kept = kept_on placed 0 ++ kept_on placed 1 ++ kept_on placed 2 }
