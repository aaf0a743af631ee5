-- A triangle's view says what the definition finds and keeps of it: new vertices, their normals, and the fan. Assumes nothing.
use Rattle.std.specs.Prelude.{◌≡◌, None, Bool, true, false, not, length, eqb, Float}
use Rattle.std.proofs.Math.Path.{refl, ap}
use Rattle.std.proofs.Common.{◌∙◌}
use mathlib.Core.List.{List, [], ◌∷◌, ◌++◌, map, flat_map}
use Prim.Native.Nat.{ℕ, zero, suc, ◌+◌, ◌<◌}
use Rattle.std.proofs.lemmas.List.{length-map}
use Rattle.body_rows.specs.Body.{Triangle}
use Rattle.patch_geometry.specs.Geometry.{point_at}
use Rattle.stitch_projection.specs.Projection.{edge_of, mixed}
use Rattle.stitch_loose_points.specs.Loose.{Facet, corner_of}
use Rattle.stitch_loose_points.specs.Listed.{loose_of}
use Rattle.stitch_loose_points.specs.Based.{flag, PointsFrom, NamesFrom}
use Rattle.stitch_splits.specs.declared.sides.Sides.{Sides}
use Rattle.stitch_splits.specs.Splits.{Placed, SplitTriangle, split_triangle, side_of}
use Rattle.stitch_splits.specs.Entries.{Entry}
use Rattle.stitch_splits.specs.Found.{edge_from, sides_from, triangle_found, triangle_kept}
use Rattle.stitch_splits.specs.FoundPoints.{Distinct}
use Rattle.stitch_splits.specs.Places.{side_at, placed_of}
use Rattle.stitch_splits.proofs.FoundLaws.{found_is, kept_is}
use Rattle.stitch_rings.specs.Rings.{fan, fan_go, coordinates_at, new_positions, new_normals, start_of, end_of, numbers_of, edges_of, ring_after}
use Rattle.stitch_definition.specs.StitchedBody.{new_normal, coordinates, ring}
use Rattle.stitch_count.specs.Views.{edge_at, sides_at, View, view_of}
use Rattle.stitch_rings.specs.FanLaws.{fan_go_lem}

-- ---- the sides of a triangle

-- a flag is set where the edge is open
flag_set : (b : Bool) → b ≡ not (eqb (flag b) 0)
flag_set true = refl
flag_set false = refl

-- a triangle of corners with their points and names
abbrev pub facet_at : List Float → List ℕ → Bool → Bool → Bool → Triangle → Facet
facet_at qs ms o p q t = record { c₀ = corner_of qs ms o t.a; c₁ = corner_of qs ms p t.b; c₂ = corner_of qs ms q t.c }

-- a triangle's corners are of n vertices
pub record Corners (n : ℕ) (t : Triangle) : Type 0 where
  pub low_a : t.a < n
  pub low_b : t.b < n
  pub low_c : t.c < n

-- what the definition has of a triangle is what its view says: how many points split it, the entries of those kept, and the corners
pub record Seen (ps : List Float) (n : ℕ) (s : SplitTriangle) (x : View) : Type 0 where
  pub found : s.found ≡ x.found
  pub kept : s.kept ≡ map (placed_of s.facet ps) x.kept
  pub first : s.facet.c₀.index ≡ x.a
  pub second : s.facet.c₁.index ≡ x.b
  pub third : s.facet.c₂.index ≡ x.c
  pub low_a : x.a < n
  pub low_b : x.b < n
  pub low_c : x.c < n

module _ {ps : List Float} {nms : List ℕ} {base n : ℕ} {qs : List Float} {ms : List ℕ} (from : PointsFrom ps base n qs) (named : NamesFrom nms base ms) where
  -- an edge is the one between the corners' vertices of the body
  edge_is : (o p : Bool) (i j : ℕ) → i < n → j < n → edge_from (corner_of qs ms o i) (corner_of qs ms p j) ≡ edge_at ps nms (base + i) (base + j) (flag o)
  unfolding corner_of
  edge_is o p i j hi hj =
      λ k. record { edge = edge_of (from.point i hi k) (from.point j hj k); start = named.name i k; end = named.name j k; is_open = flag_set o k }

  -- so are the sides of a triangle
  sides_are : (o p q : Bool) (t : Triangle) → Corners n t → sides_from (facet_at qs ms o p q t) ≡ sides_at ps nms (base + t.a) (base + t.b) (base + t.c) (flag o) (flag p) (flag q)
  sides_are o p q t h =
      λ k. record { first = edge_is o p t.a t.b h.low_a h.low_b k; second = edge_is p q t.b t.c h.low_b h.low_c k; third = edge_is q o t.c t.a h.low_c h.low_a k }

  -- The view of a triangle says what the definition finds and keeps of it.
  pub triangle_seen : (sag : Float) (gs : List ℕ) → Distinct ps nms gs → (o p q : Bool) (t : Triangle) → Corners n t
      → Seen ps n (split_triangle sag (map (loose_of ps nms) gs) (facet_at qs ms o p q t)) (view_of sag ps nms gs base (flag o) (flag p) (flag q) t)
  unfolding split_triangle corner_of
  triangle_seen sag gs d o p q t h =
      let f = facet_at qs ms o p q t in
      let e = sides_are o p q t h in
      record {
        found = found_is sag ps nms f gs d ∙ ap (λ (s : Sides). triangle_found sag ps nms s gs) e;
        kept = kept_is sag ps nms f gs d ∙ ap (λ (s : Sides). map (placed_of f ps) (triangle_kept sag ps nms s gs)) e;
        first = refl;
        second = refl;
        third = refl;
        low_a = h.low_a;
        low_b = h.low_b;
        low_c = h.low_c;
      }

-- ---- what the entries add

module _ (f : Facet) (ps : List Float) where
  -- the edges of the new vertices
  entry_edges : (C : List Entry) → map (λ (p : Placed). p.e) (map (placed_of f ps) C) ≡ edges_of C
  unfolding placed_of
  entry_edges [] = refl
  entry_edges (x ∷ C) = ap (λ (l : List ℕ). x.e ∷ l) (entry_edges C)

  -- the positions of the new vertices
  entry_positions : (C : List Entry) → flat_map (λ k. coordinates k.point) (map (placed_of f ps) C) ≡ new_positions ps C
  unfolding flat_map coordinates new_positions placed_of
  entry_positions [] = refl
  entry_positions (x ∷ C) = ap (λ (l : List Float). coordinates_at ps x.vertex ++ l) (entry_positions C)

-- the normals at a triangle's corners
record NormalsAt (f : Facet) (ts ns : List Float) (a b c : ℕ) : Type 0 where
  at_a : point_at ts f.c₀.index ≡ point_at ns a
  at_b : point_at ts f.c₁.index ≡ point_at ns b
  at_c : point_at ts f.c₂.index ≡ point_at ns c

module _ {f : Facet} {ts ns : List Float} {a b c : ℕ} (h : NormalsAt f ts ns a b c) where
  -- the normal where edge e starts
  start_normal : (e : ℕ) → point_at ts (side_at f e).start.index ≡ point_at ns (start_of a b c e)
  unfolding side_at side_of
  start_normal zero = h.at_a
  start_normal (suc zero) = h.at_b
  start_normal (suc (suc e)) = h.at_c

  -- and where it ends
  end_normal : (e : ℕ) → point_at ts (side_at f e).end.index ≡ point_at ns (end_of a b c e)
  unfolding side_at side_of
  end_normal zero = h.at_b
  end_normal (suc zero) = h.at_c
  end_normal (suc (suc e)) = h.at_a

  -- the normals of the new vertices
  entry_normals : (ps : List Float) (C : List Entry) → flat_map (new_normal ts) (map (placed_of f ps) C) ≡ new_normals ns a b c C
  unfolding flat_map new_normal new_normals placed_of
  entry_normals ps [] = refl
  entry_normals ps (x ∷ C) = λ k. mixed (start_normal x.e k) (end_normal x.e k) x.t ++ entry_normals ps C k

-- ---- what a triangle adds

module _ {ps : List Float} {n : ℕ} {s : SplitTriangle} {x : View} (h : Seen ps n s x) where
  -- as many new vertices as the view keeps
  pub seen_count : length s.kept ≡ length x.kept
  seen_count = ap length h.kept ∙ length-map x.kept (placed_of s.facet ps)

  -- at the same positions
  pub seen_positions : flat_map (λ k. coordinates k.point) s.kept ≡ new_positions ps x.kept
  seen_positions = ap (flat_map (λ (k : Placed). coordinates k.point)) h.kept ∙ entry_positions s.facet ps x.kept

  -- with the same normals
  pub seen_normals : {ns : List Float} {base : ℕ} {ts : List Float} → PointsFrom ns base n ts
      → flat_map (new_normal ts) s.kept ≡ new_normals ns (base + x.a) (base + x.b) (base + x.c) x.kept
  seen_normals {ns} {base} {ts} from =
      let at : NormalsAt s.facet ts ns (base + x.a) (base + x.b) (base + x.c) =
      record {
        at_a = ap (point_at ts) h.first ∙ from.point x.a h.low_a;
        at_b = ap (point_at ts) h.second ∙ from.point x.b h.low_b;
        at_c = ap (point_at ts) h.third ∙ from.point x.c h.low_c;
      } in
      ap (flat_map (new_normal ts)) h.kept ∙ entry_normals at ps x.kept

  -- and the same fan
  pub seen_fan : (next : ℕ) → fan (ring s.facet s.kept next) ≡ fan_go x.a None (ring_after x.b x.c next x.kept)
  unfolding ring
  seen_fan next =
      let f = s.facet in
      let C = x.kept in
      ap (λ (l : List Placed). fan (ring f l next)) h.kept
      ∙ (λ k. fan ((h.first k ∷ numbers_of 0 next (entry_edges f ps C k)) ++ (h.second k ∷ numbers_of 1 next (entry_edges f ps C k)) ++ (h.third k ∷ numbers_of 2 next (entry_edges f ps C k))))
      ∙ fan_go_lem x.a (ring_after x.b x.c next C)
