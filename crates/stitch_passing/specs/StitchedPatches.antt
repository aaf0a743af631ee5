-- Stitched patches are as their rows say and pass the checks to 24 that their patches passed; new normals do if the patches' are f32. Assumes nothing.
use Rattle.std.specs.Prelude.{◌≡◌, ◌&&◌, ◌||◌, cond, ℕ, suc, ◌+◌, ◌*◌, ◌%◌, ◌≤◌, ◌<◌, eqb}
use Rattle.std.proofs.Math.Path.{refl, ap}
use Rattle.std.proofs.Math.Bool.{Bool, true, false, not}
use mathlib.Core.List.{List, [], ◌∷◌, ◌++◌, map, flat_map}
use native.Mathlib.Omega.{arith}
use Rattle.std.proofs.Math.ListN.{length, length-append, length-map}
use Rattle.std.proofs.Math.Dec.{ltb}
use Rattle.std.specs.Float.Ieee.{Float, lt}
use Rattle.std.specs.Float.{nan}
use Rattle.std.proofs.Common.{eqb-true, eq-eqb}
use Rattle.std.proofs.lemmas.Bool.{not-false}
use Rattle.lists.specs.Lists.{sum_of}
use Rattle.lists.specs.Each.{Each, each_both, each_then, each_at}
use Rattle.lists.specs.Both.{or_left, or_right}
use Rattle.float_steps.specs.Floats.{finite}
use Rattle.float_spans.specs.Small.{Single}
use Rattle.body_rows.specs.Body.{Patch}
use Rattle.body_refusals.specs.TableChecks.{bad_row, bad_bin}
use Rattle.body_passing.specs.Flat.{Whole}
use Rattle.body_passing.specs.Passing.{Position, Normal, Passing}
use Rattle.patch_geometry.specs.declared.Vec3.{Vec3}
use Rattle.patch_geometry.specs.Geometry.{zero64, point_at}
use Rattle.stitch_projection.specs.Projection.{mixed}
use Rattle.stitch_splits.specs.Splits.{Placed, SplitTriangle}
use Rattle.stitch_rings.specs.Rings.{fan, fan_from, numbers_of}
use Rattle.stitch_definition.specs.StitchedBody.{new_normal, coordinates, ring, fanned, stitched_patch, stitched_patches, StitchedBody, stitched_body_of, stitched_body}
use Rattle.stitch_definition.specs.Stitch.{stitch_body}
use Rattle.stitch_passing.specs.NewPoints.{splits_in, OfPoint, Sited, SplitWell, GoodPatch, RowSplit, AllSplit, body_split}
use Rattle.stitch_passing.specs.MixedNormals.{mixed_finite}

-- the new vertices of some triangles
abbrev new_in : List SplitTriangle → ℕ
new_in xs = sum_of (λ c. length c.kept) xs

-- ---- indices

-- the numbers of new vertices are below their end
numbers_low : (e top next : ℕ) (xs : List ℕ) → next + length xs ≤ top → Each (λ i. i < top) (numbers_of e next xs)
unfolding numbers_of
numbers_low e top next [] l = tt
numbers_low e top next (x ∷ xs) l = go (eqb x e) (numbers_low e top (next + 1) xs (omega arith))
  where
    go : (b : Bool) → Each (λ i. i < top) (numbers_of e (next + 1) xs) → Each (λ i. i < top) (cond b (next ∷ numbers_of e (next + 1) xs) (numbers_of e (next + 1) xs))
    go true r = (omega arith, r)
    go false r = r

-- the vertices of a fan are those of its ring
from_each : (Q : ℕ → Type 0) (a : ℕ) (ys : List ℕ) → Q a → Each Q ys → Each Q (fan_from a ys)
unfolding fan_from
from_each Q a [] q e = tt
from_each Q a (b ∷ []) q e = tt
from_each Q a (b ∷ c ∷ ys) q e = (q, (e.0, (e.1.0, from_each Q a (c ∷ ys) q e.1)))

fan_each : (Q : ℕ → Type 0) (ys : List ℕ) → Each Q ys → Each Q (fan ys)
unfolding fan
fan_each Q [] e = tt
fan_each Q (a ∷ ys) e = from_each Q a ys e.0 e.1

-- a fan is whole triangles
from_three : (a : ℕ) (ys : List ℕ) → length (fan_from a ys) % 3 ≡ 0
unfolding fan_from
from_three a [] = refl
from_three a (b ∷ []) = refl
from_three a (b ∷ c ∷ ys) = let h = from_three a (c ∷ ys) in omega arith

fan_three : (ys : List ℕ) → length (fan ys) % 3 ≡ 0
unfolding fan
fan_three [] = refl
fan_three (a ∷ ys) = from_three a ys

-- so is a row
fanned_three : (next : ℕ) (xs : List SplitTriangle) → length (fanned next xs) % 3 ≡ 0
unfolding fanned
fanned_three next [] = refl
fanned_three next (x ∷ xs) =
    let here = fan (ring x.facet x.kept next) in
    let rest = fanned (next + length x.kept) xs in
    omega (arith, length-append here rest, fan_three (ring x.facet x.kept next), fanned_three (next + length x.kept) xs)

module _ (n : ℕ) where
  -- a triangle's ring is of own vertices and new ones
  ring_low : (top next : ℕ) (x : SplitTriangle) → x.facet.c₀.index < n → x.facet.c₁.index < n → x.facet.c₂.index < n → n ≤ top → next + length x.kept ≤ top
      → Each (λ i. i < top) (ring x.facet x.kept next)
  unfolding ring
  ring_low top next x a b c l m =
      let es = map (λ p. p.e) x.kept in
      let few : next + length es ≤ top = omega (arith, length-map x.kept (λ (p : Placed). p.e)) in
      let low : (e : ℕ) → Each (λ i. i < top) (numbers_of e next es) = λ e. numbers_low e top next es few in
      each_both (λ i. i < top) ((x.facet.c₀.index ∷ numbers_of 0 next es) ++ (x.facet.c₁.index ∷ numbers_of 1 next es)) (x.facet.c₂.index ∷ numbers_of 2 next es)
      (each_both (λ i. i < top) (x.facet.c₀.index ∷ numbers_of 0 next es) (x.facet.c₁.index ∷ numbers_of 1 next es) (omega arith, low 0) (omega arith, low 1))
      (omega arith, low 2)

  -- so are the indices of a row
  fanned_low : (Q : Vec3 → Type 0) (top next : ℕ) (xs : List SplitTriangle) → Each (SplitWell Q n) xs → n ≤ top → next + new_in xs ≤ top → Each (λ i. i < top) (fanned next xs)
  unfolding fanned sum_of
  fanned_low Q top next [] h l m = tt
  fanned_low Q top next (x ∷ xs) h l m =
      each_both (λ i. i < top) (fan (ring x.facet x.kept next)) (fanned (next + length x.kept) xs)
      (fan_each (λ i. i < top) (ring x.facet x.kept next) (ring_low top next x h.0.low₀ h.0.low₁ h.0.low₂ l (omega arith)))
      (fanned_low Q top (next + length x.kept) xs h.1 l (omega arith))

-- ---- positions and normals

-- numbers of points, three each
points_three : (f : Placed → List Float) → ((k : Placed) → length (f k) ≡ 3) → (ks : List Placed) → length (flat_map f ks) ≡ 3 * length ks
unfolding flat_map
points_three f h [] = refl
points_three f h (k ∷ ks) = omega (arith, length-append (f k) (flat_map f ks), h k, points_three f h ks)

-- of the new vertices of some triangles
new_three : (f : Placed → List Float) → ((k : Placed) → length (f k) ≡ 3) → (xs : List SplitTriangle) → length (flat_map (λ c. flat_map f c.kept) xs) ≡ 3 * new_in xs
unfolding flat_map sum_of
new_three f h [] = refl
new_three f h (x ∷ xs) = omega (arith, length-append (flat_map f x.kept) (flat_map (λ c. flat_map f c.kept) xs), points_three f h x.kept, new_three f h xs)

-- a point's coordinates are three
coordinates_three : (k : Placed) → length (coordinates k.point) ≡ 3
unfolding coordinates
coordinates_three k = refl

-- so is a normal
normal_three : (ns : List Float) (k : Placed) → length (new_normal ns k) ≡ 3
unfolding new_normal mixed
normal_three ns k = refl

-- what holds of each number that items are made into
each_flat : {A : Type 0} (P : A → Type 0) (Q : Float → Type 0) (f : A → List Float) → ((x : A) → P x → Each Q (f x)) → (xs : List A) → Each P xs → Each Q (flat_map f xs)
unfolding flat_map
each_flat P Q f h [] e = tt
each_flat P Q f h (x ∷ xs) e = each_both Q (f x) (flat_map f xs) (h x e.0) (each_flat P Q f h xs e.1)

-- what holds of each number of a slice holds of each vertex
vertex_of : (Q : Float → Type 0) (xs : List Float) (n i : ℕ) → length xs ≡ 3 * n → i < n → Each Q xs → OfPoint Q (point_at xs i)
vertex_of Q xs n i l h e = (each_at Q xs (3 * i) nan (omega arith) e, each_at Q xs (3 * i + 1) nan (omega arith) e, each_at Q xs (3 * i + 2) nan (omega arith) e)

-- triangles whose new vertices have points of positions that pass
abbrev Well : ℕ → SplitTriangle → Type 0
Well n x = SplitWell (OfPoint Position) n x

-- the positions of their new vertices pass,
new_positions : (n : ℕ) (xs : List SplitTriangle) → Each (Well n) xs → Each Position (flat_map (λ c. flat_map (λ k. coordinates k.point) c.kept) xs)
unfolding coordinates
new_positions n xs e =
    each_flat (Well n) Position (λ c. flat_map (λ k. coordinates k.point) c.kept)
    (λ c h. each_flat (Sited (OfPoint Position) n) Position (λ k. coordinates k.point) (λ k s. (s.point.0, (s.point.1, (s.point.2, tt)))) c.kept h.kept) xs e

-- and so do the normals, if they are mixed of finite f32
new_normals : (ns : List Float) (n : ℕ) (xs : List SplitTriangle) → length ns ≡ 3 * n → Each Single ns → Each (Well n) xs → Each Normal (flat_map (λ c. flat_map (new_normal ns) c.kept) xs)
unfolding new_normal
new_normals ns n xs l f e =
    each_flat (Well n) Normal (λ c. flat_map (new_normal ns) c.kept)
    (λ c h. each_flat (Sited (OfPoint Position) n) Normal (new_normal ns)
    (λ k s. each_then (λ x. finite x ≡ true) Normal (λ x q. ap not q) (new_normal ns k)
    (mixed_finite (point_at ns k.side.start.index) (point_at ns k.side.end.index) k.t (vertex_of Single ns n k.side.start.index l s.start f)
    (vertex_of Single ns n k.side.end.index l s.end f) s.between))
    c.kept h.kept) xs e

-- ---- a patch

module _ (p : Patch) (xs : List SplitTriangle) where
  -- A stitched patch is as its row says.
  patch_whole : Whole p → Whole (stitched_patch p xs)
  unfolding stitched_patch
  patch_whole w =
      let P : List Float = flat_map (λ c. flat_map (λ k. coordinates k.point) c.kept) xs in
      let N : List Float = flat_map (λ c. flat_map (new_normal p.normals) c.kept) xs in
      record {
        indices = refl;
        positions = omega (arith, length-append p.positions P, w.positions, new_three (λ k. coordinates k.point) coordinates_three xs);
        normals = omega (arith, length-append p.normals N, w.normals, new_three (new_normal p.normals) (normal_three p.normals) xs);
      }

  -- Its positions pass.
  module _ (r : RowSplit (OfPoint Position) p xs) where
    patch_positions : Each Position p.positions → Each Position (stitched_patch p xs).positions
    unfolding stitched_patch
    patch_positions e = each_both Position p.positions (flat_map (λ c. flat_map (λ k. coordinates k.point) c.kept) xs) e (new_positions p.row.vertices xs r.well)

    -- no triangles, no new vertices and no indices
    none_new : length xs ≡ 0 → new_in xs + length (fanned p.row.vertices xs) ≡ 0
    unfolding sum_of fanned
    none_new = go xs
      where
        go : (ys : List SplitTriangle) → length ys ≡ 0 → new_in ys + length (fanned p.row.vertices ys) ≡ 0
        go [] e = refl
        go (y ∷ ys) e = absurd (omega arith)

    -- a failed row is still one without counts
    row_passes : Whole p → bad_row p.row ≡ false → bad_row (stitched_patch p xs).row ≡ false
    unfolding bad_row stitched_patch
    row_passes w e = go (eqb p.row.outcome 0) (or_right (ltb 255 p.row.outcome) (not (eqb p.row.outcome 0) && not (eqb (p.row.vertices + p.row.indices) 0)) e)
      where
        low : ltb 255 p.row.outcome ≡ false
        low = or_left (ltb 255 p.row.outcome) (not (eqb p.row.outcome 0) && not (eqb (p.row.vertices + p.row.indices) 0)) e

        go : (b : Bool) → (not b && not (eqb (p.row.vertices + p.row.indices) 0)) ≡ false
            → (ltb 255 p.row.outcome || (not b && not (eqb (p.row.vertices + new_in xs + length (fanned p.row.vertices xs)) 0))) ≡ false
        go true q = λ i. low i || false
        go false q =
            let zero = eqb-true (p.row.vertices + p.row.indices) 0 (not-false (eqb (p.row.vertices + p.row.indices) 0) q) in
            let new = none_new (r.none (omega (arith, w.indices))) in
            let still : p.row.vertices + new_in xs + length (fanned p.row.vertices xs) ≡ 0 = omega arith in
            λ i. low i || not (eq-eqb (p.row.vertices + new_in xs + length (fanned p.row.vertices xs)) 0 still i)

    -- A patch that passes is stitched to one that passes.
    patch_passes : Whole p → Each Single p.normals → Passing p → Passing (stitched_patch p xs)
    unfolding stitched_patch bad_bin
    patch_passes w f c =
        let v = p.row.vertices in
        record {
          bad = row_passes w c.bad;
          bin = c.bin;
          part = ap not (eq-eqb (length (fanned v xs) % 3) 0 (fanned_three v xs));
          inside = fanned_low v (OfPoint Position) (v + new_in xs) v xs r.well (omega arith) (omega arith);
          positions = patch_positions c.positions;
          normals = each_both Normal p.normals (flat_map (λ c. flat_map (new_normal p.normals) c.kept) xs) c.normals (new_normals p.normals v xs w.normals f r.well);
        }

-- ---- all patches

-- each stitched patch, by what makes it so
rows_each : (P Q : Patch → Type 0) → ((p : Patch) (xs : List SplitTriangle) → RowSplit (OfPoint Position) p xs → P p → Q (stitched_patch p xs)) → ((p : Patch) → P p → Q p)
    → (ps : List Patch) (xss : List (List SplitTriangle)) → AllSplit (OfPoint Position) ps xss → Each P ps → Each Q (stitched_patches ps xss)
unfolding stitched_patches
rows_each P Q f g [] xss h e = tt
rows_each P Q f g (p ∷ ps) [] h e = each_then P Q g (p ∷ ps) e
rows_each P Q f g (p ∷ ps) (xs ∷ xss) h e = (f p xs h.0 e.0, rows_each P Q f g ps xss h.1 e.1)

-- a patch that is as its row says and passes, with normals of f32
record Ready (p : Patch) : Type 0 where
  whole : Whole p
  singles : Each Single p.normals
  passing : Passing p

all_ready : (ps : List Patch) → Each Whole ps → Each (λ p. Each Single p.normals) ps → Each Passing ps → Each Ready ps
all_ready [] w f c = tt
all_ready (p ∷ ps) w f c = (record { whole = w.0; singles = f.0; passing = c.0 }, all_ready ps w.1 f.1 c.1)

-- as many as there were
rows_many : (ps : List Patch) (xss : List (List SplitTriangle)) → length (stitched_patches ps xss) ≡ length ps
unfolding stitched_patches
rows_many [] xss = refl
rows_many (p ∷ ps) [] = refl
rows_many (p ∷ ps) (xs ∷ xss) = ap suc (rows_many ps xss)

module _ (sag : Float) (ns : List ℕ) (patches : List Patch) where
  -- What holds of patches stitched by the splits of their triangles, and of patches as they are, holds of what stitch makes of them.
  pub by_sag : (P : List Patch → Type 0) → P (stitched_patches patches (splits_in sag ns patches)) → P patches → P (stitch_body sag ns patches).patches
  unfolding stitch_body stitched_body stitched_body_of splits_in
  by_sag P split plain = go (lt zero64 sag)
    where
      made : Bool → StitchedBody
      made b = elim b [ true ↦ stitched_body sag ns patches | false ↦ record { patches = patches; splits = 0 } ]

      go : (b : Bool) → P (made b).patches
      go true = split
      go false = plain

  -- There are as many patches as there were.
  pub made_many : length (stitch_body sag ns patches).patches ≡ length patches
  made_many = by_sag (λ ps. length ps ≡ length patches) (rows_many patches (splits_in sag ns patches)) refl

  module _ (w : Each Whole patches) (c : Each Passing patches) where
    -- a patch's points are of its positions
    points_of : (ps : List Patch) → Each Whole ps → Each Passing ps → Each (GoodPatch (OfPoint Position)) ps
    points_of [] v d = tt
    points_of (p ∷ ps) v d = (
      record { points = λ i l. vertex_of Position p.positions p.row.vertices i v.0.positions l d.0.positions; inside = d.0.inside },
      points_of ps v.1 d.1,
    )

    -- all rows have their splits
    all_split : AllSplit (OfPoint Position) patches (splits_in sag ns patches)
    all_split = body_split (OfPoint Position) sag ns patches (points_of patches w c)

    -- What stitch makes of patches that pass is as their rows say,
    pub made_whole : Each Whole (stitch_body sag ns patches).patches
    made_whole = by_sag (Each Whole) (rows_each Whole Whole (λ p xs r v. patch_whole p xs v) (λ p v. v) patches (splits_in sag ns patches) all_split w) w

    -- its positions pass,
    pub made_positions : Each (λ p. Each Position p.positions) (stitch_body sag ns patches).patches
    made_positions =
        let own = each_then Passing (λ p. Each Position p.positions) (λ p d. d.positions) patches c in
        by_sag (Each (λ p. Each Position p.positions))
        (rows_each (λ p. Each Position p.positions) (λ p. Each Position p.positions) (λ p xs r e. patch_positions p xs r e) (λ p e. e) patches (splits_in sag ns patches) all_split own) own

    -- and it passes, if every normal is a finite f32.
    pub made_passing : Each (λ p. Each Single p.normals) patches → Each Passing (stitch_body sag ns patches).patches
    made_passing f =
        by_sag (Each Passing)
        (rows_each Ready Passing (λ p xs r d. patch_passes p xs r d.whole d.singles d.passing) (λ p d. d.passing) patches (splits_in sag ns patches) all_split
        (all_ready patches w f c)) c
