-- A vertex that the code places is the point that the definition places, on the same edge at the same parameter. Assumes nothing.
use Rattle.stitch_splits.specs.Places.{side_at, distance_on, placed_of, placed_entry, OnEdges}
use Rattle.std.specs.Prelude.{◌≡◌, Bool, ℕ, zero, suc, ◌≤◌, Float}
use Rattle.std.proofs.Math.Path.{refl}
use Rattle.std.proofs.Common.{◌∙◌, arith}
use Rattle.std.proofs.Math.Bool.{true, false, cond}
use mathlib.Core.List.{List, [], ◌∷◌, map}
use Rattle.std.proofs.Math.Option.{Option, none, some}
use Rattle.std.specs.Float.Ieee.{lt}
use Rattle.lists.specs.Lists.{filter_map}
use Rattle.patch_geometry.specs.declared.Vec3.{Vec3}
use Rattle.patch_geometry.specs.Geometry.{point_at, zero64}
use Rattle.stitch_projection.specs.declared.Hit.{Hit}
use Rattle.stitch_projection.specs.Projection.{project}
use Rattle.stitch_loose_points.specs.Loose.{Facet}
use Rattle.stitch_splits.specs.declared.sides.Sides.{Sides}
use Rattle.stitch_splits.specs.Splits.{Side, side_of, sides_of, Placed, nearer, place_on, place_from, place}
use Rattle.stitch_splits.specs.Entries.{Entry}
use Rattle.stitch_splits.specs.declared.sides.Spot.{Spot}
use Rattle.stitch_splits.specs.Found.{sides_from, nearer_spot, spot_of}
use Rattle.stitch_splits.specs.Filters.{map_option, filter_map_map}

module _ (f : Facet) (r : Vec3) where
  -- the placed point of a place
  abbrev from_spot : Spot → Placed
  from_spot p = record { e = p.e; side = side_at f p.e; t = p.t; distance = p.distance; point = r }

  -- the nearer place is the nearer point
  nearer_spot_lem : (best : Option Spot) (e : ℕ) (h : Option Hit)
      → nearer (map_option from_spot best) (elim h [ none ↦ none | some h ↦ some (record { e = e; side = side_at f e; t = h.t; distance = h.distance; point = r }) ])
      ≡ map_option from_spot (nearer_spot best e h)
  unfolding nearer
  nearer_spot_lem best e none = refl
  nearer_spot_lem none e (some h) = refl
  nearer_spot_lem (some b) e (some h) = go (lt h.distance b.distance)
    where
      go : (c : Bool)
          → cond c (some (from_spot (record { e = e; t = h.t; distance = h.distance }))) (some (from_spot b))
          ≡ map_option from_spot (cond c (some (record { e = e; t = h.t; distance = h.distance })) (some b))
      go true = refl
      go false = refl

  -- the point is placed where the code places it
  spot_placed : place (sides_of f) r ≡ map_option from_spot (spot_of (sides_from f) r)
  unfolding place place_from place_on sides_of side_of side_at spot_of
  spot_placed =
      let h₀ = project (side_at f 0).edge r in
      let h₁ = project (side_at f 1).edge r in
      let h₂ = project (side_at f 2).edge r in
      let b₀ = nearer_spot none 0 h₀ in
      let b₁ = nearer_spot b₀ 1 h₁ in
      (λ i. nearer (nearer (nearer_spot_lem none 0 h₀ i) (place_on r 1 (side_at f 1))) (place_on r 2 (side_at f 2)))
      ∙ (λ i. nearer (nearer_spot_lem b₀ 1 h₁ i) (place_on r 2 (side_at f 2)))
      ∙ nearer_spot_lem b₁ 2 h₂

  -- a place on an edge of the triangle, at the distance that the point has from that edge
  record Spotted (p : Spot) : Type 0 where
    edge : p.e ≤ 2
    distance : p.distance ≡ distance_on f r p.e

  -- each place is such
  abbrev AllSpotted : Option Spot → Type 0
  AllSpotted none = Unit {0}
  AllSpotted (some p) = Spotted p

  -- and so is the nearer one
  nearer_spotted : (best : Option Spot) (e : ℕ) → e ≤ 2 → AllSpotted best → (h : Option Hit) → project (side_at f e).edge r ≡ h → AllSpotted (nearer_spot best e h)
  unfolding distance_on
  nearer_spotted best e l a none q = a
  nearer_spotted none e l a (some h) q = record { edge = l; distance = rw (q, distance_on) }
  nearer_spotted (some b) e l a (some h) q = go (lt h.distance b.distance)
    where
      go : (c : Bool) → AllSpotted (cond c (some (record { e = e; t = h.t; distance = h.distance })) (some b))
      go true = record { edge = l; distance = rw (q, distance_on) }
      go false = a

  -- so is the place of the point
  spotted : AllSpotted (spot_of (sides_from f) r)
  unfolding spot_of side_at side_of
  spotted =
      let h₀ = project (side_at f 0).edge r in
      let h₁ = project (side_at f 1).edge r in
      let h₂ = project (side_at f 2).edge r in
      let b₀ = nearer_spot none 0 h₀ in
      let b₁ = nearer_spot b₀ 1 h₁ in
      nearer_spotted b₁ 2 (omega arith) (nearer_spotted b₀ 1 (omega arith) (nearer_spotted none 0 (omega arith) tt h₀ refl) h₁ refl) h₂ refl

module _ (f : Facet) (ps : List Float) where
  -- a point is placed as its vertex's entry says
  vertex_placed : (g : ℕ) → place (sides_of f) (point_at ps g) ≡ map_option (placed_of f ps) (placed_entry (sides_from f) ps g)
  unfolding placed_of
  vertex_placed g = spot_placed f (point_at ps g) ∙ go (spot_of (sides_from f) (point_at ps g)) (spotted f (point_at ps g))
    where
      go : (o : Option Spot) → AllSpotted f (point_at ps g) o
          → map_option (from_spot f (point_at ps g)) o ≡ map_option (placed_of f ps) (map_option (λ p. record { e = p.e; t = p.t; vertex = g }) o)
      go none a = refl
      go (some p) a =
          λ i. some (record { e = p.e; side = side_at f p.e; t = p.t; distance = a.distance i; point = point_at ps g })

  -- The points of some vertices are placed as the vertices' entries say.
  pub points_placed : (gs : List ℕ) → filter_map (place (sides_of f)) (map (point_at ps) gs) ≡ map (placed_of f ps) (filter_map (placed_entry (sides_from f) ps) gs)
  points_placed gs = filter_map_map (place (sides_of f)) (point_at ps) (placed_entry (sides_from f) ps) (placed_of f ps) vertex_placed gs

  -- the entries of placed vertices are on the triangle's edges
  pub placed_edges : (gs : List ℕ) → OnEdges (filter_map (placed_entry (sides_from f) ps) gs)
  unfolding filter_map
  placed_edges [] = tt
  placed_edges (g ∷ gs) = go (spot_of (sides_from f) (point_at ps g)) (spotted f (point_at ps g)) (placed_edges gs)
    where
      go : (o : Option Spot) → AllSpotted f (point_at ps g) o → OnEdges (filter_map (placed_entry (sides_from f) ps) gs)
          → OnEdges
          (elim (map_option {B = Entry} (λ p. record { e = p.e; t = p.t; vertex = g }) o)
          [ none ↦ filter_map (placed_entry (sides_from f) ps) gs | some y ↦ y ∷ filter_map (placed_entry (sides_from f) ps) gs ])
      go none a r = r
      go (some p) a r = (a.edge, r)
