-- Stitching and bins: the stitched table has the lent table's bins, and an accepted body is stitched alike whatever its bins. Assumes nothing.
use Rattle.std.specs.Prelude.{◌≡◌, ◌||◌, cond, take, drop, ltb, eqb, Float}
use Rattle.std.proofs.Math.Path.{refl, sym, ap}
use Rattle.std.proofs.Common.{◌∙◌, subst, arith, take_at, eq-eqb, eqb-true}
use Rattle.std.proofs.Math.Bool.{Bool, true, false}
use mathlib.Core.List.{List, [], ◌∷◌, ◌++◌, map, flat_map}
use Prim.Native.Nat.{ℕ, zero, suc, ◌+◌, ◌*◌}
use Rattle.std.proofs.Math.ListN.{length}
use Rattle.std.proofs.lemmas.List.{length-map}
use Rattle.std.specs.Float.Ieee.{lt}
use Rattle.lists.specs.Lists.{sum_of, written}
use Rattle.point_rules.specs.Rule.{Rule, names}
use Rattle.join_definition.specs.Join.{joined}
use Rattle.body_rows.specs.Body.{row_width, Row, Patch, Check, check, rows_of, table_of, patches_of, all_vertices, all_indices, first_failing, triangles_of}
use Rattle.body_rows.specs.Rows.{table_length}
use Rattle.body_row_structs.specs.FaceRows.{table_rows}
use Rattle.body_refusals.specs.TableChecks.{too_large}
use Rattle.body_refusals.specs.BodyChecks.{body_checks}
use Rattle.patch_geometry.specs.Geometry.{zero64}
use Rattle.edge_uses.specs.Edges.{Use, uses_from, is_open}
use Rattle.edge_uses.specs.Seen.{uses_seen}
use Rattle.stitch_loose_points.specs.Loose.{Facet, facets_of, body_facets, facets_in, loose_in}
use Rattle.stitch_splits.specs.Splits.{SplitTriangle, split_triangle}
use Rattle.stitch_definition.specs.StitchedBody.{StitchedBody, stitched_patch, stitched_patches, stitched_body_of, stitched_body}
use Rattle.stitch_definition.specs.Slices.{StitchSlices, AfterStitch, stitch_checks, write_body, refuse_stitch, cleared_slices, stitch_or_refuse}
use Rattle.stitch_definition.specs.Stitch.{stitch_body, stitch_of}
use Rattle.stitch_copy.specs.Copied.{flat_rows}
use Rattle.body_bins.specs.Covered.{covered, bin_place, covered_table, cover_row, cover_patch, rows_covered, table_covered, patches_covered}
use Rattle.body_bins.specs.Covered.{vertices_covered, indices_covered, cleared_covered, flat_covered_positions, flat_covered_normals, flat_covered_indices, rows_of_covered}

-- ---- stitch leaves every bin as it was

-- the bins of some rows
abbrev pub bins_of : List Row → List ℕ
bins_of rows = map (λ r. r.bin) rows

-- the rows of some patches
abbrev rows_in : List Patch → List Row
rows_in patches = map (λ p. p.row) patches

-- patches with splits have the bins that they had
patches_bins : (patches : List Patch) (css : List (List SplitTriangle)) → bins_of (rows_in (stitched_patches patches css)) ≡ bins_of (rows_in patches)
unfolding stitched_patches stitched_patch
patches_bins [] css = refl
patches_bins (p ∷ ps) [] = refl
patches_bins (p ∷ ps) (cs ∷ css) = ap (λ (l : List ℕ). p.row.bin ∷ l) (patches_bins ps css)

-- a stitched body has
body_bins : (sag : Float) (nms : List ℕ) (patches : List Patch) → bins_of (rows_in (stitch_body sag nms patches).patches) ≡ bins_of (rows_in patches)
unfolding stitch_body stitched_body stitched_body_of
body_bins sag nms patches = go (lt zero64 sag)
  where
    go : (b : Bool) → bins_of (rows_in (elim b as (λ x. StitchedBody) [ true ↦ stitched_body sag nms patches | false ↦ record { patches = patches; splits = 0 } ]).patches) ≡ bins_of (rows_in patches)
    go true = patches_bins patches (map (λ fs. map (split_triangle sag (loose_in (facets_in nms patches))) fs) (facets_in nms patches))
    go false = refl

-- as many as before
bins_many : (rows rs : List Row) → bins_of rs ≡ bins_of rows → length rs ≡ length rows
bins_many rows rs e = sym (length-map rs (λ (r : Row). r.bin)) ∙ ap length e ∙ length-map rows (λ (r : Row). r.bin)

-- a table of n rows that was written to the front of a slice
table_front : (rows : List Row) (old : List ℕ) (n : ℕ) → n ≡ length rows → rows_of (take (row_width * n) (written (table_of rows) old)) ≡ rows
unfolding written
table_front rows old n e =
    ap rows_of (take_at (table_of rows) (drop (length (table_of rows)) old) (row_width * n) (table_length rows ∙ ap (λ (m : ℕ). row_width * m) (sym e))) ∙ table_rows rows

module _ (rule : Rule) (ps ns : List Float) (is : List ℕ) (sag : Float) (out : StitchSlices) where
  -- rows stitched
  abbrev stitch_rows : List Row → AfterStitch
  stitch_rows rows = stitch_or_refuse (stitch_body sag (names rule ps) (patches_of rows ps ns is)) (cleared_slices rows out)

  -- an accepted body is stitched by its rows
  accepted : (table : List ℕ) → first_failing (body_checks table ps ns is (length out.work)) ≡ 0 → stitch_of rule table ps ns is sag out ≡ stitch_rows (rows_of table)
  unfolding stitch_of
  accepted table h = ap (λ (n : ℕ). elim (eqb n 0) [ true ↦ stitch_rows (rows_of table) | false ↦ refuse_stitch n out ]) h

  -- the bins of the table that is written
  rows_bins : (rows : List Row) → (stitch_rows rows).refusal ≡ 0 → bins_of (rows_of (take (row_width * length rows) (stitch_rows rows).slices.table)) ≡ bins_of rows
  unfolding stitch_or_refuse write_body refuse_stitch cleared_slices
  rows_bins rows h = let n = first_failing (stitch_checks rs (cleared_slices rows out)) in go (eqb n 0) n refl h
    where
      s : StitchedBody
      s = stitch_body sag (names rule ps) (patches_of rows ps ns is)

      rs : List Row
      rs = rows_in s.patches

      same : bins_of rs ≡ bins_of rows
      same = body_bins sag (names rule ps) (patches_of rows ps ns is) ∙ ap bins_of (flat_rows rows ps ns is)

      result : Bool → ℕ → AfterStitch
      result b n = elim b [ true ↦ write_body rs s (cleared_slices rows out) | false ↦ refuse_stitch n (cleared_slices rows out) ]

      apart : false ≡ true → ⊥
      apart e = let z : ◌≡◌ {A = ℕ} 0 1 = cc in omega arith

      go : (b : Bool) (n : ℕ) → eqb n 0 ≡ b → (result b n).refusal ≡ 0 → bins_of (rows_of (take (row_width * length rows) (result b n).slices.table)) ≡ bins_of rows
      go true n q e = ap bins_of (table_front rs out.table (length rows) (sym (bins_many rows rs same))) ∙ same
      go false n q e = absurd (apart (sym q ∙ eq-eqb n 0 e))

  -- a body that was stitched passed its checks
  checks_passed : (table : List ℕ) → (stitch_of rule table ps ns is sag out).refusal ≡ 0 → first_failing (body_checks table ps ns is (length out.work)) ≡ 0
  unfolding stitch_of refuse_stitch
  checks_passed table h = let n = first_failing (body_checks table ps ns is (length out.work)) in go n (eqb n 0) refl h
    where
      result : ℕ → Bool → AfterStitch
      result n b = elim b [ true ↦ stitch_rows (rows_of table) | false ↦ refuse_stitch n out ]

      go : (n : ℕ) (b : Bool) → eqb n 0 ≡ b → (result n b).refusal ≡ 0 → n ≡ 0
      go n true q e = eqb-true n 0 q
      go n false q e = e

  -- The stitched table, row by row, has the bins of the lent one.
  pub stitch_keeps_bins : (table : List ℕ) → (stitch_of rule table ps ns is sag out).refusal ≡ 0
      → bins_of (rows_of (take (row_width * length (rows_of table)) (stitch_of rule table ps ns is sag out).slices.table)) ≡ bins_of (rows_of table)
  stitch_keeps_bins table h =
      let e = accepted table (checks_passed table h) in
      ap (λ (t : AfterStitch). bins_of (rows_of (take (row_width * length (rows_of table)) t.slices.table))) e ∙ rows_bins (rows_of table) (sym (ap (λ (t : AfterStitch). t.refusal) e) ∙ h)

-- ---- bins play no part

-- how many rows of the table a stitched body was written to: none, if it was refused
abbrev rows_written : ℕ → AfterStitch → ℕ
rows_written n t = elim (eqb t.refusal 0) [ true ↦ n | false ↦ 0 ]

-- what stitching a body of n rows answers and leaves, with the bin column of the stitched table covered
abbrev pub covered_stitch : ℕ → AfterStitch → AfterStitch
covered_stitch n t =
    record {
      refusal = t.refusal;
      vertices = t.vertices;
      indices = t.indices;
      splits = t.splits;
      slices = record {
        table = covered row_width bin_place (rows_written n t) t.slices.table;
        positions = t.slices.positions;
        normals = t.slices.normals;
        indices = t.slices.indices;
        work = t.slices.work;
      };
    }

-- a stitched body with its bins covered
abbrev cover_body : StitchedBody → StitchedBody
cover_body s = record { patches = map cover_patch s.patches; splits = s.splits }

-- the triangles of covered patches, by their open edges
body_facets_lem : (nms : List ℕ) (areOpen : List Bool) (patches : List Patch) → body_facets nms areOpen (map cover_patch patches) ≡ body_facets nms areOpen patches
unfolding body_facets
body_facets_lem nms areOpen [] = refl
body_facets_lem nms areOpen (p ∷ ps) =
    ap (λ (l : List (List Facet)). facets_of p.positions nms areOpen (triangles_of p.indices) ∷ l) (body_facets_lem (drop p.row.vertices nms) (drop (length p.indices) areOpen) ps)

-- and all
facets_covered : (nms : List ℕ) (patches : List Patch) → facets_in nms (map cover_patch patches) ≡ facets_in nms patches
unfolding facets_in
facets_covered nms patches =
    ap (λ (us : List Use). body_facets nms (map (is_open us) us) (map cover_patch patches)) (uses_seen cover_row (λ ns. ns) (λ r. 0) (λ r. refl) (λ r. refl) 0 (joined nms) patches)
    ∙ body_facets_lem nms (map (is_open (uses_from (λ r. 0) 0 (joined nms) patches)) (uses_from (λ r. 0) 0 (joined nms) patches)) patches

-- their splits
split_covered : (patches : List Patch) (css : List (List SplitTriangle)) → stitched_patches (map cover_patch patches) css ≡ map cover_patch (stitched_patches patches css)
unfolding stitched_patches stitched_patch
split_covered [] css = refl
split_covered (p ∷ ps) [] = refl
split_covered (p ∷ ps) (cs ∷ css) = ap (λ (l : List Patch). cover_patch (stitched_patch p cs) ∷ l) (split_covered ps css)

-- the stitched body of covered patches
body_covered : (sag : Float) (nms : List ℕ) (patches : List Patch) → stitch_body sag nms (map cover_patch patches) ≡ cover_body (stitch_body sag nms patches)
unfolding stitch_body stitched_body stitched_body_of
body_covered sag nms patches = go (lt zero64 sag)
  where
    splits_of : List (List Facet) → List (List SplitTriangle)
    splits_of fss = map (λ fs. map (split_triangle sag (loose_in fss)) fs) fss

    go : (b : Bool) → elim b [ true ↦ stitched_body sag nms (map cover_patch patches) | false ↦ record { patches = map cover_patch patches; splits = 0 } ]
        ≡ cover_body (elim b [ true ↦ stitched_body sag nms patches | false ↦ record { patches = patches; splits = 0 } ])
    go true =
        ap (λ (fss : List (List Facet)). stitched_body_of (map cover_patch patches) (splits_of fss)) (facets_covered nms patches)
        ∙ (λ i. record { patches = split_covered patches (splits_of (facets_in nms patches)) i; splits = sum_of (λ cs. sum_of (λ c. c.found) cs) (splits_of (facets_in nms patches)) })
    go false = refl

-- 33 and 32 look at no bin
checks_covered : (rows : List Row) (out : StitchSlices) → stitch_checks (map cover_row rows) out ≡ stitch_checks rows out
unfolding stitch_checks
checks_covered rows out =
    λ i. check 33 (too_large (vertices_covered rows i) (indices_covered rows i))
    ∷ check 32 (ltb (length out.table) (row_width * length-map rows cover_row i) || ltb (length out.positions) (3 * vertices_covered rows i)
    || ltb (length out.normals) (3 * vertices_covered rows i) || ltb (length out.indices) (indices_covered rows i))
    ∷ []

-- the covered table written
table_written : (rows : List Row) (old : List ℕ) (n : ℕ) → n ≡ length rows → covered row_width bin_place n (written (table_of rows) old) ≡ written (table_of (map cover_row rows)) old
unfolding written
table_written rows old n e =
    ap (λ (m : ℕ). covered row_width bin_place m (table_of rows ++ drop (length (table_of rows)) old)) e
    ∙ table_covered rows (drop (length (table_of rows)) old)
    ∙ ap (λ (m : ℕ). table_of (map cover_row rows) ++ drop m old)
    (table_length rows ∙ ap (λ (m : ℕ). row_width * m) (sym (length-map rows cover_row)) ∙ sym (table_length (map cover_row rows)))

-- the stitched body written
body_written : (rows : List Row) (s : StitchedBody) (out : StitchSlices) (n : ℕ) → n ≡ length rows → covered_stitch n (write_body rows s out) ≡ write_body (map cover_row rows) (cover_body s) out
unfolding write_body
body_written rows s out n e =
    λ i. record {
      refusal = 0;
      vertices = sym (vertices_covered rows) i;
      indices = sym (indices_covered rows) i;
      splits = s.splits;
      slices = record {
        table = table_written rows out.table n e i;
        positions = written (sym (flat_covered_positions s.patches) i) out.positions;
        normals = written (sym (flat_covered_normals s.patches) i) out.normals;
        indices = written (sym (flat_covered_indices s.patches) i) out.indices;
        work = out.work;
      };
    }

-- or refused
result_covered : (s : StitchedBody) (out : StitchSlices) (n : ℕ) → n ≡ length s.patches → covered_stitch n (stitch_or_refuse s out) ≡ stitch_or_refuse (cover_body s) out
unfolding stitch_or_refuse refuse_stitch covered
result_covered s out n e =
    go (eqb (first_failing (stitch_checks rs out)) 0) (first_failing (stitch_checks rs out)) refl
    ∙ ap (λ (m : ℕ). elim (eqb m 0) [ true ↦ write_body (map cover_row rs) (cover_body s) out | false ↦ refuse_stitch m out ]) (ap first_failing (sym (checks_covered rs out)))
    ∙ ap (λ (l : List Row). elim (eqb (first_failing (stitch_checks l out)) 0) [ true ↦ write_body l (cover_body s) out | false ↦ refuse_stitch (first_failing (stitch_checks l out)) out ])
    (sym (rows_of_covered s.patches))
  where
    rs : List Row
    rs = rows_in s.patches

    refused_with : ℕ → List ℕ → AfterStitch
    refused_with m table = refuse_stitch m (record { table = table; positions = out.positions; normals = out.normals; indices = out.indices; work = out.work })

    go : (b : Bool) (m : ℕ) → eqb m 0 ≡ b → covered_stitch n (elim b [ true ↦ write_body rs s out | false ↦ refuse_stitch m out ])
        ≡ elim b [ true ↦ write_body (map cover_row rs) (cover_body s) out | false ↦ refuse_stitch m out ]
    go true m q = body_written rs s out n (e ∙ sym (length-map s.patches (λ (p : Patch). p.row)))
    go false m q = ap (λ (b : Bool). refused_with m (covered row_width bin_place (elim b [ true ↦ n | false ↦ 0 ]) out.table)) q

module _ (rule : Rule) (ps ns : List Float) (is : List ℕ) (sag : Float) (out : StitchSlices) where
  -- covered rows are stitched as the rows are, with the bin column covered
  rows_stitched : (rows : List Row) → covered_stitch (length rows) (stitch_rows rule ps ns is sag out rows) ≡ stitch_rows rule ps ns is sag out (map cover_row rows)
  unfolding cleared_slices
  rows_stitched rows =
      let patches = patches_of rows ps ns is in
      let s = stitch_body sag (names rule ps) patches in
      let many : length rows ≡ length s.patches =
      sym (sym (length-map s.patches (λ (p : Patch). p.row)) ∙ bins_many rows (rows_in s.patches) (body_bins sag (names rule ps) patches ∙ ap bins_of (flat_rows rows ps ns is))) in
      result_covered s (cleared_slices rows out) (length rows) many
      ∙ ap (λ (work : List ℕ). stitch_or_refuse (cover_body s) (record { table = out.table; positions = out.positions; normals = out.normals; indices = out.indices; work = work }))
      (sym (cleared_covered rows out.work))
      ∙ ap (λ (b : StitchedBody). stitch_or_refuse b (cleared_slices (map cover_row rows) out)) (sym (body_covered sag (names rule ps) patches))
      ∙ ap (λ (l : List Patch). stitch_or_refuse (stitch_body sag (names rule ps) l) (cleared_slices (map cover_row rows) out)) (sym (patches_covered rows ps ns is))

  -- Two accepted bodies that agree with the bin column covered are stitched alike: the same answer, and the same slices but for the bins that the stitched table shows.
  pub stitch_without_bins : (table other : List ℕ) → first_failing (body_checks table ps ns is (length out.work)) ≡ 0 → first_failing (body_checks other ps ns is (length out.work)) ≡ 0
      → covered_table table ≡ covered_table other
      → covered_stitch (length (rows_of table)) (stitch_of rule table ps ns is sag out) ≡ covered_stitch (length (rows_of other)) (stitch_of rule other ps ns is sag out)
  stitch_without_bins table other a b e =
      ap (covered_stitch (length (rows_of table))) (accepted rule ps ns is sag out table a)
      ∙ rows_stitched (rows_of table)
      ∙ ap (stitch_rows rule ps ns is sag out) (sym (rows_covered table) ∙ ap rows_of e ∙ rows_covered other)
      ∙ sym (rows_stitched (rows_of other))
      ∙ ap (covered_stitch (length (rows_of other))) (sym (accepted rule ps ns is sag out other b))
