-- The stitched body: new vertices, the fan of each triangle, and its splits. Assumes nothing.
use mathlib.Core.List.{List, [], ◌∷◌, ◌++◌, map, flat_map}
use Rattle.std.specs.Prelude.{ℕ, ◌+◌, length, Float}
use Rattle.lists.specs.Lists.{sum_of}
use Rattle.body_rows.specs.Body.{Patch}
use Rattle.patch_geometry.specs.declared.Vec3.{Vec3}
use Rattle.patch_geometry.specs.Geometry.{point_at}
use Rattle.stitch_projection.specs.Projection.{mixed}
use Rattle.stitch_loose_points.specs.Loose.{Facet, facets_in, loose_in}
use Rattle.stitch_splits.specs.Splits.{Placed, SplitTriangle, split_triangle}
use Rattle.stitch_rings.specs.Rings.{fan, numbers_of}

-- the normal of a new vertex
unfoldable pub new_normal : List Float → Placed → List Float
new_normal ns p = mixed (point_at ns p.side.start.index) (point_at ns p.side.end.index) p.t

-- a point's coordinates
unfoldable pub coordinates : Vec3 → List Float
coordinates p = p.x ∷ p.y ∷ p.z ∷ []

-- the ring of a triangle: each corner, and the numbers of the new vertices of the edge from it, the first of all being `next`
unfoldable pub ring : Facet → List Placed → ℕ → List ℕ
ring f kept next =
    let es = map (λ p. p.e) kept in
    (f.c₀.index ∷ numbers_of 0 next es) ++ (f.c₁.index ∷ numbers_of 1 next es) ++ (f.c₂.index ∷ numbers_of 2 next es)

-- the indices of the triangles of a patch, the first new vertex being `next`
unfoldable pub fanned : ℕ → List SplitTriangle → List ℕ
fanned next [] = []
fanned next (c ∷ cs) = fan (ring c.facet c.kept next) ++ fanned (next + length c.kept) cs

-- New vertices follow the patch's own, edge by edge.
unfoldable pub stitched_patch : Patch → List SplitTriangle → Patch
stitched_patch p cs =
    let indices = fanned p.row.vertices cs in
    record {
      row = record {
        shell = p.row.shell;
        face = p.row.face;
        outcome = p.row.outcome;
        vertices = p.row.vertices + sum_of (λ c. length c.kept) cs;
        indices = length indices;
        bin = p.row.bin;
      };
      positions = p.positions ++ flat_map (λ c. flat_map (λ k. coordinates k.point) c.kept) cs;
      normals = p.normals ++ flat_map (λ c. flat_map (new_normal p.normals) c.kept) cs;
      indices = indices;
    }

-- each patch with its triangles' splits
unfoldable pub stitched_patches : List Patch → List (List SplitTriangle) → List Patch
stitched_patches [] css = []
stitched_patches (p ∷ ps) [] = p ∷ ps
stitched_patches (p ∷ ps) (cs ∷ css) = stitched_patch p cs ∷ stitched_patches ps css

-- a stitched body, and its splits
pub record StitchedBody : Type 0 where
  pub patches : List Patch
  pub splits : ℕ

-- Each such point adds 1 to the splits.
unfoldable pub stitched_body_of : List Patch → List (List SplitTriangle) → StitchedBody
stitched_body_of patches css = record { patches = stitched_patches patches css; splits = sum_of (λ cs. sum_of (λ c. c.found) cs) css }

-- the body with every triangle's splits
unfoldable pub stitched_body : Float → List ℕ → List Patch → StitchedBody
stitched_body sag ns patches =
    let fss = facets_in ns patches in
    let ls = loose_in fss in
    stitched_body_of patches (map (λ fs. map (split_triangle sag ls) fs) fss)
