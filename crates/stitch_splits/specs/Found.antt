-- The points that split a triangle as the code finds them: by edge, each loose vertex once, and placed. Assumes nothing.
use Rattle.std.specs.Prelude.{Bool, true, false, not, ◌&&◌, cond, List, [], ◌∷◌, ℕ, zero, suc, ◌+◌, get_or, eqb, Float}
use Rattle.std.proofs.Math.Option.{Option, none, some}
use Rattle.std.specs.Float.Ieee.{lt}
use Rattle.lists.specs.Lists.{count_if}
use Rattle.patch_geometry.specs.declared.Vec3.{Vec3}
use Rattle.patch_geometry.specs.Geometry.{point_at}
use Rattle.stitch_projection.specs.declared.Hit.{Hit}
use Rattle.stitch_projection.specs.Projection.{edge_of, project, within_sag}
use Rattle.stitch_loose_points.specs.Loose.{Corner, Facet}
use Rattle.stitch_splits.specs.declared.sides.TriangleEdge.{TriangleEdge}
use Rattle.stitch_splits.specs.declared.sides.Sides.{Sides}
use Rattle.stitch_splits.specs.declared.sides.Spot.{Spot}
use Rattle.stitch_splits.specs.Entries.{Entry, insert_entry, kept_entries}

-- an edge of a triangle as the code holds it
abbrev pub edge_from : Corner → Corner → TriangleEdge
edge_from c d = record { edge = edge_of c.point d.point; start = c.name; end = d.name; is_open = c.is_open }

-- the edges of a triangle
abbrev pub sides_from : Facet → Sides
sides_from f = record { first = edge_from f.c₀ f.c₁; second = edge_from f.c₁ f.c₂; third = edge_from f.c₂ f.c₀ }

-- whether a point counts for an edge, if it is open: its name is neither end's, and it projects into the edge within the sag
abbrev pub counts : Float → TriangleEdge → ℕ → Vec3 → Bool
counts sag s name r = s.is_open && not (eqb name s.start) && not (eqb name s.end) && within_sag sag s.edge r

-- the edge from corner 0, 1, 2
unfoldable pub side_of : Sides → ℕ → TriangleEdge
side_of s zero = s.first
side_of s (suc zero) = s.second
side_of s (suc (suc e)) = s.third

-- for the edge from corner 0, 1, 2
unfoldable pub counts_on : Float → Sides → ℕ → ℕ → Vec3 → Bool
counts_on sag s zero name r = counts sag s.first name r
counts_on sag s (suc zero) name r = counts sag s.second name r
counts_on sag s (suc (suc e)) name r = counts sag s.third name r

-- it counts for that edge, and for none before it
unfoldable pub found_only : Float → Sides → ℕ → ℕ → Vec3 → Bool
found_only sag s zero name r = counts_on sag s 0 name r
found_only sag s (suc zero) name r = counts_on sag s 1 name r && not (counts_on sag s 0 name r)
found_only sag s (suc (suc e)) name r = counts_on sag s 2 name r && not (counts_on sag s 0 name r) && not (counts_on sag s 1 name r)

-- the nearer of a place and a hit on edge e: the first on ties
abbrev pub nearer_spot : Option Spot → ℕ → Option Hit → Option Spot
nearer_spot best e none = best
nearer_spot none e (some h) = some (record { e = e; t = h.t; distance = h.distance })
nearer_spot (some b) e (some h) = cond (lt h.distance b.distance) (some (record { e = e; t = h.t; distance = h.distance })) (some b)

-- the nearest of all three edges that a point projects into
unfoldable pub spot_of : Sides → Vec3 → Option Spot
spot_of s r = nearer_spot (nearer_spot (nearer_spot none 0 (project s.first.edge r)) 1 (project s.second.edge r)) 2 (project s.third.edge r)

-- the entries with a vertex that is placed
abbrev pub with_spot : ℕ → Option Spot → List Entry → List Entry
with_spot g none C = C
with_spot g (some p) C = insert_entry (record { e = p.e; t = p.t; vertex = g }) C

-- the entries with a vertex, if it is found on edge e
unfoldable pub with_vertex : Float → List Float → List ℕ → Sides → ℕ → ℕ → List Entry → List Entry
with_vertex sag ps ns s e g C = elim (found_only sag s e (get_or ns g 0) (point_at ps g)) [ true ↦ with_spot g (spot_of s (point_at ps g)) C | false ↦ C ]

-- the entries with all vertices of a list that are found on edge e
unfoldable pub entries_on : Float → List Float → List ℕ → Sides → ℕ → List ℕ → List Entry → List Entry
entries_on sag ps ns s e [] C = C
entries_on sag ps ns s e (g ∷ gs) C = entries_on sag ps ns s e gs (with_vertex sag ps ns s e g C)

-- how many of them are found on edge e
unfoldable pub found_count : Float → List Float → List ℕ → Sides → ℕ → List ℕ → ℕ
found_count sag ps ns s e gs = count_if (λ g. found_only sag s e (get_or ns g 0) (point_at ps g)) gs

-- how many split the triangle
unfoldable pub triangle_found : Float → List Float → List ℕ → Sides → List ℕ → ℕ
triangle_found sag ps ns s gs = found_count sag ps ns s 0 gs + found_count sag ps ns s 1 gs + found_count sag ps ns s 2 gs

-- the entries that the triangle keeps
unfoldable pub triangle_kept : Float → List Float → List ℕ → Sides → List ℕ → List Entry
triangle_kept sag ps ns s gs = kept_entries (entries_on sag ps ns s 2 gs (entries_on sag ps ns s 1 gs (entries_on sag ps ns s 0 gs [])))
