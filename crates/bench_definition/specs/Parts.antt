-- The three calls by parts, each of which can be evaluated alone: turning; the splits of some triangles; the rest, given the splits. Assumes nothing.
use Rattle.std.specs.Prelude.{true, false, ℕ, eqb}
use mathlib.Core.List.{List, [], ◌∷◌, ◌++◌, map, flat_map}
use Rattle.std.proofs.Math.Option.{none, some}
use Rattle.lists.specs.Lists.{item_at, filter_map}
use Rattle.float_steps.specs.Floats.{f32, f64, bits32, bits64}
use Rattle.point_rules.specs.Rule.{names}
use Rattle.point_rules.specs.Points.{key}
use Rattle.body_rows.specs.Body.{Patch, rows_of, patches_of}
use Rattle.sheet_line_order.specs.declared.Limits.{Limits}
use Rattle.patch_geometry.specs.Geometry.{zero64}
use Rattle.turn_definition.specs.Orient.{turn_of}
use Rattle.stitch_loose_points.specs.Loose.{Facet, facets_in, loose_in}
use Rattle.stitch_splits.specs.Splits.{Side, Placed, SplitTriangle, sides_of, split_triangle}
use Rattle.stitch_definition.specs.Slices.{stitch_or_refuse, cleared_slices}
use Rattle.stitch_definition.specs.StitchedBody.{stitched_body_of}
use Rattle.bench_definition.specs.Finish.{Sheet, Outcome, Refused, area, stitch_slices, assemble_next}

-- turn's answer, normals and indices as numbers
unfoldable pub turn_numbers : Limits → Sheet → List ℕ
turn_numbers limits x =
    let t = turn_of key x.table (map f32 x.positions) (map f32 x.normals) x.indices (area limits) in
    t.refusal ∷ t.turned ∷ t.against ∷ (map bits32 t.normals ++ t.indices)

-- the patches of a sheet's body
unfoldable pub sheet_patches : Sheet → List Patch
sheet_patches x = patches_of (rows_of x.table) (map f32 x.positions) (map f32 x.normals) x.indices

-- the triangles of a sheet's body
unfoldable pub sheet_facets : Sheet → List (List Facet)
sheet_facets x = facets_in (names key (map f32 x.positions)) (sheet_patches x)

-- a placed point as numbers: edge, the bits of t and of the point
unfoldable pub placed_numbers : Placed → List ℕ
placed_numbers p = p.e ∷ bits64 p.t ∷ bits64 p.point.x ∷ bits64 p.point.y ∷ bits64 p.point.z ∷ []

-- a split triangle as numbers: how many points were found, and those kept
unfoldable pub split_numbers : SplitTriangle → List ℕ
split_numbers s = s.found ∷ flat_map placed_numbers s.kept

-- the splits of some triangles of row r, by their numbers
unfoldable pub splits_at : Sheet → ℕ → List ℕ → List (List ℕ)
splits_at x r ts =
    let fss = sheet_facets x in
    let ls = loose_in fss in
    elim (item_at fss r) [ none ↦ [] | some fs ↦ map (λ f. split_numbers (split_triangle x.sag ls f)) (filter_map (item_at fs) ts) ]

-- the place on edge e of a triangle that the numbers say
unfoldable pub placed_at : List Side → ℕ → ℕ → ℕ → ℕ → ℕ → List Placed
placed_at ss e t x y z = elim (item_at ss e) [
  | none ↦ []
  | some s ↦ record { e = e; side = s; t = f64 t; distance = zero64; point = record { x = f64 x; y = f64 y; z = f64 z } } ∷ []
]

-- places on a triangle's edges, from numbers
unfoldable pub placed_of : List Side → List ℕ → List Placed
placed_of ss [] = []
placed_of ss (a ∷ []) = []
placed_of ss (a ∷ b ∷ []) = []
placed_of ss (a ∷ b ∷ c ∷ []) = []
placed_of ss (a ∷ b ∷ c ∷ d ∷ []) = []
placed_of ss (e ∷ t ∷ x ∷ y ∷ z ∷ rest) = placed_at ss e t x y z ++ placed_of ss rest

-- triangles with the splits that the numbers say
unfoldable pub with_splits : List Facet → List (List ℕ) → List SplitTriangle
with_splits [] ns = []
with_splits (f ∷ fs) [] = []
with_splits (f ∷ fs) ([] ∷ ns) = record { facet = f; found = 0; kept = [] } ∷ with_splits fs ns
with_splits (f ∷ fs) ((n ∷ ks) ∷ ns) = record { facet = f; found = n; kept = placed_of (sides_of f) ks } ∷ with_splits fs ns

-- that for each row
unfoldable pub all_with_splits : List (List Facet) → List (List (List ℕ)) → List (List SplitTriangle)
all_with_splits [] nss = []
all_with_splits (fs ∷ fss) [] = []
all_with_splits (fs ∷ fss) (ns ∷ nss) = with_splits fs ns ∷ all_with_splits fss nss

-- the rest of the program, given the turned body as a sheet, its counts and its splits
unfoldable pub finish_from : Limits → Sheet → ℕ → ℕ → List (List (List ℕ)) → Outcome
finish_from limits x turned against nss =
    let s = stitch_or_refuse (stitched_body_of (sheet_patches x) (all_with_splits (sheet_facets x) nss)) (cleared_slices (rows_of x.table) (stitch_slices limits (area limits))) in
    elim (eqb s.refusal 0) [
      | true ↦ assemble_next limits x (record { refusal = 0; turned = turned; against = against; normals = []; indices = []; work = [] }) s
      | false ↦ Refused s.refusal
    ]
