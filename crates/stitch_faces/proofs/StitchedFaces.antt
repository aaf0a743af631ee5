-- A face's indices, by the tables and lists before and after stitching, are those of its patch of the stitched body. Assumes nothing.
use Rattle.stitch_faces.specs.StitchedFaces.{rows_in, indices_in, Sized, Through}
use Rattle.std.specs.Prelude.{◌≡◌, ◌&&◌, ℕ, zero, suc, ◌+◌, ◌%◌, ◌≤◌, ◌<◌, get_or, drop, Float}
use Rattle.std.proofs.Math.Path.{refl, ap}
use Rattle.std.proofs.Common.{sym, ◌∙◌, le_of_suc-le-suc, not-suc-le-zero, arith, lt-ltb, le-ltb, ltb-false, eqb-true, take_at, drop_at, drop-drop}
use Rattle.std.proofs.Math.Bool.{Bool, true, false, cond}
use mathlib.Core.List.{List, [], ◌∷◌, ◌++◌, map, flat_map, append_assoc}
use Rattle.std.proofs.Math.ListN.{length, take, length-map, length-drop, get_or-map, get_or-append, get_or-eq_default}
use Rattle.std.proofs.lemmas.List.{take-append-le}
use Rattle.std.proofs.Math.Seq.{length-take-le}
use Rattle.std.proofs.Math.Dec.{ltb, eqb}
use Rattle.std.specs.Float.Ieee.{lt}
use Rattle.lists.specs.Lists.{sum_of, written}
use Rattle.point_rules.specs.Rule.{Rule, names}
use Rattle.join_definition.specs.Join.{joined}
use Rattle.body_rows.specs.Body.{Row, Patch, rows_of, table_of, patches_of, all_indices, first_failing}
use Rattle.body_rows.specs.Rows.{no_row, row_at, indices_before}
use Rattle.body_rows.specs.Patches.{no_patch, patch_at_lem, length_patches, indices_room}
use Rattle.body_refusals.specs.BodyChecks.{body_checks}
use Rattle.body_checks.specs.Accepted.{Passed, passed}
use Rattle.patch_geometry.specs.Geometry.{zero64}
use Rattle.edge_uses.specs.Edges.{Use, uses_from, is_open}
use Rattle.stitch_loose_points.specs.Loose.{Facet, facets_in, loose_in}
use Rattle.stitch_splits.specs.Splits.{split_triangle}
use Rattle.stitch_definition.specs.StitchedBody.{StitchedBody, stitched_body_of, stitched_body}
use Rattle.stitch_definition.specs.Slices.{StitchSlices, AfterStitch, stitch_checks, write_body, refuse_stitch, cleared_slices, stitch_or_refuse}
use Rattle.stitch_definition.specs.Stitch.{stitch_body, stitch_of}
use Rattle.stitch_faces.specs.Faces.{row_indices, is_stitched, face_indices}
use Rattle.stitch_faces.specs.Unsplit.{Threes, uses_many, split_many, split_sized, split_none}

-- ---- a table and a list that were written to the front of a slice

-- the rows of such a table
table_front : (rows : List Row) (rest : List ℕ) → rows_of (table_of rows ++ rest) ≡ rows ++ rows_of rest
unfolding rows_of table_of
table_front [] rest = refl
table_front (r ∷ rs) rest = ap (λ (l : List Row). r ∷ l) (table_front rs rest)

-- one of them
row_front : (rows : List Row) (rest : List ℕ) (k : ℕ) → k < length rows → row_at (table_of rows ++ rest) k ≡ get_or rows k no_row
unfolding row_at
row_front rows rest k h = ap (λ (l : List Row). get_or l k no_row) (table_front rows rest) ∙ get_or-append rows (rows_of rest) no_row k h

-- where its indices start
start_front : (rows : List Row) (rest : List ℕ) (k : ℕ) → k ≤ length rows → indices_before (rows_of (table_of rows ++ rest)) k ≡ indices_before rows k
unfolding indices_before
start_front rows rest k h = ap (λ (l : List Row). all_indices (take k l)) (table_front rows rest) ∙ ap all_indices (take-append-le k rows (rows_of rest) h)

-- then patch k's stand where its row says
patch_stretch : (patches : List Patch) (rest : List ℕ) (k : ℕ) → Sized patches → k < length patches
    → take (get_or (rows_in patches) k no_row).indices (drop (indices_before (rows_in patches) k) (indices_in patches ++ rest)) ≡ (get_or patches k no_patch).indices
unfolding flat_map indices_before all_indices sum_of
patch_stretch [] rest k s h = absurd (not-suc-le-zero h)
patch_stretch (p ∷ ps) rest zero s h =
    ap (take p.row.indices) (append_assoc p.indices (indices_in ps) rest) ∙ take_at p.indices (indices_in ps ++ rest) p.row.indices (s.each 0 (omega arith))
patch_stretch (p ∷ ps) rest (suc k) s h =
    let n = p.row.indices in
    let m = indices_before (rows_in ps) k in
    let behind : drop n ((p.indices ++ indices_in ps) ++ rest) ≡ indices_in ps ++ rest =
    ap (drop n) (append_assoc p.indices (indices_in ps) rest) ∙ drop_at p.indices (indices_in ps ++ rest) n (s.each 0 (omega arith)) in
    ap (take (get_or (rows_in ps) k no_row).indices) (sym (drop-drop m n ((p.indices ++ indices_in ps) ++ rest)) ∙ ap (drop m) behind)
    ∙ patch_stretch ps rest k (record { each = λ j l. s.each (suc j) (omega arith) }) (le_of_suc-le-suc h)

-- ---- patches that came through stitching

module _ {table is : List ℕ} {patches : List Patch} (t : Through table is patches) (R I : List ℕ) (k : ℕ) (h : k < length (rows_of table)) where
  -- patch k
  abbrev patch : Patch
  patch = get_or patches k no_patch

  -- the table and the indices as they were written
  abbrev after : List ℕ
  after = table_of (rows_in patches) ++ R

  abbrev new : List ℕ
  new = indices_in patches ++ I

  -- the table has the patch's row
  row_after : row_at after k ≡ patch.row
  row_after =
      row_front (rows_in patches) R k (omega (arith, length-map patches (λ (p : Patch). p.row), t.many)) ∙ get_or-map (λ (p : Patch). p.row) patches k no_patch

  -- the row's indices are the patch's
  stretch_after : row_indices after new k ≡ patch.indices
  unfolding row_indices
  stretch_after =
      let long = length-map patches (λ (p : Patch). p.row) in
      (λ i. take (row_front (rows_in patches) R k (omega (arith, long, t.many)) i).indices (drop (start_front (rows_in patches) R k (omega (arith, long, t.many)) i) new))
      ∙ patch_stretch patches I k t.sized (omega (arith, t.many))

  -- by whether the row has new vertices
  face_by : (b : Bool) → ltb (row_at table k).vertices (row_at after k).vertices ≡ b → cond b (row_indices after new k) (row_indices table is k) ≡ patch.indices
  face_by true e = stretch_after
  face_by false e =
      let low = ltb-false (row_at table k).vertices (row_at after k).vertices e in
      let same = ap (λ (r : Row). r.vertices) row_after in
      sym (t.unsplit k h (omega arith))

  -- A face's indices are those of its patch.
  face_through : face_indices table after is new k ≡ patch.indices
  unfolding face_indices is_stitched
  face_through =
      let grown = ltb (row_at table k).vertices (row_at after k).vertices in
      ap (λ (b : Bool). cond (b && grown) (row_indices after new k) (row_indices table is k)) (lt-ltb k (length (rows_of table)) h) ∙ face_by grown refl

-- ---- the stitched body

module _ {table : List ℕ} {ps ns : List Float} {is : List ℕ} {words : ℕ} (p : Passed table ps ns is words) where
  -- the body's patches
  abbrev own : List Patch
  own = patches_of (rows_of table) ps ns is

  -- patch k has row k
  own_row : (k : ℕ) → k < length (rows_of table) → (get_or own k no_patch).row ≡ row_at table k
  unfolding row_at
  own_row k h = ap (λ (q : Patch). q.row) (patch_at_lem (rows_of table) ps ns is k h)

  -- and its indices
  own_indices : (k : ℕ) → k < length (rows_of table) → (get_or own k no_patch).indices ≡ row_indices table is k
  unfolding row_at row_indices
  own_indices k h = ap (λ (q : Patch). q.indices) (patch_at_lem (rows_of table) ps ns is k h)

  -- as many as the row says
  own_many : (k : ℕ) → k < length (rows_of table) → length (get_or own k no_patch).indices ≡ (row_at table k).indices
  unfolding row_at row_indices
  own_many k h =
      let room = indices_room (rows_of table) k h in
      let start = indices_before (rows_of table) k in
      ap length (own_indices k h) ∙ length-take-le (row_at table k).indices (drop start is) (omega (arith, length-drop start is, p.all_indices_lem))

  -- whole triangles
  own_threes : Threes own
  own_threes =
      record {
        each = λ j h.
            let l : j < length (rows_of table) = omega (arith, length_patches (rows_of table) ps ns is) in ap (λ (n : ℕ). n % 3) (own_many j l) ∙ p.threes j l;
      }

  -- a body that is copied comes through
  copied_through : Through table is own
  copied_through =
      let many = length_patches (rows_of table) ps ns is in
      record {
        many = many;
        sized = record { each = λ j h. let l : j < length (rows_of table) = omega arith in own_many j l ∙ sym (ap (λ (r : Row). r.indices) (own_row j l)) };
        unsplit = λ k h v. own_indices k h;
      }

  -- so does one that is stitched
  split_through : (sag : Float) (nms : List ℕ) → Through table is (stitched_body sag nms own).patches
  unfolding stitched_body stitched_body_of facets_in split_triangle
  split_through sag nms =
      let us : List Use = uses_from (λ r. 0) 0 (joined nms) own in
      let areOpen = map (is_open us) us in
      let split = split_triangle sag (loose_in (facets_in nms own)) in
      let same : (f : Facet) → (split f).facet ≡ f = λ f. refl in
      let many = length_patches (rows_of table) ps ns is in
      let long = length-map us (is_open us) ∙ uses_many 0 (joined nms) own own_threes in
      record {
        many = split_many split same nms areOpen own ∙ many;
        sized = record { each = λ j h. split_sized split same nms areOpen own j (omega (arith, split_many split same nms areOpen own)) };
        unsplit = λ k h v.
            split_none split same nms areOpen own own_threes (omega arith) k (omega arith) (omega (arith, v, ap (λ (r : Row). r.vertices) (own_row k h))) ∙ own_indices k h;
      }

  -- and either is what the sag makes of it
  stitch_through : (sag : Float) (nms : List ℕ) → Through table is (stitch_body sag nms own).patches
  unfolding stitch_body
  stitch_through sag nms = go (lt zero64 sag)
    where
      by : Bool → StitchedBody
      by b = elim b [ true ↦ stitched_body sag nms own | false ↦ record { patches = own; splits = 0 } ]

      go : (b : Bool) → Through table is (by b).patches
      go true = split_through sag nms
      go false = copied_through

-- ---- the call

-- a refusal has a number
no_refusal : {A : Type 0} (n : ℕ) → eqb n 0 ≡ false → n ≡ 0 → A
no_refusal n e h =
    let f : true ≡ false = ap (λ (m : ℕ). eqb m 0) (sym h) ∙ e in
    let z : ◌≡◌ {A = ℕ} 0 1 = cc in
    absurd (omega arith)

module _ (table : List ℕ) (ps ns : List Float) (is : List ℕ) (k : ℕ) (h : k < length (rows_of table)) where
  -- by what a call leaves, if it refuses nothing, a face's indices are those of patch k of a body
  abbrev Says : StitchedBody → AfterStitch → Type 0
  Says s t = t.refusal ≡ 0 → face_indices table t.slices.table is t.slices.indices k ≡ (get_or s.patches k no_patch).indices

  -- the checks of the result decide
  result_face : (s : StitchedBody) (out : StitchSlices) → Through table is s.patches → Says s (stitch_or_refuse s out)
  unfolding stitch_or_refuse write_body refuse_stitch written
  result_face s out t =
      let rows = rows_in s.patches in
      go (first_failing (stitch_checks rows out)) (eqb (first_failing (stitch_checks rows out)) 0) refl
    where
      go : (n : ℕ) (b : Bool) → eqb n 0 ≡ b → Says s (elim b [ true ↦ write_body (rows_in s.patches) s out | false ↦ refuse_stitch n out ])
      go n true e r = face_through t (drop (length (table_of (rows_in s.patches))) out.table) (drop (length (indices_in s.patches)) out.indices) k h
      go n false e r = no_refusal n e r

  -- In every body that stitch accepts, a face's indices, by the table and the indices that it leaves, are those of its patch of the stitched body.
  pub stitched_face : (rule : Rule) (sag : Float) (out : StitchSlices) → let t = stitch_of rule table ps ns is sag out in t.refusal ≡ 0
      → face_indices table t.slices.table is t.slices.indices k ≡ (get_or (stitch_body sag (names rule ps) (patches_of (rows_of table) ps ns is)).patches k no_patch).indices
  unfolding stitch_of refuse_stitch
  stitched_face rule sag out =
      go (first_failing (body_checks table ps ns is (length out.work))) (eqb (first_failing (body_checks table ps ns is (length out.work))) 0) refl
      (λ e. passed table ps ns is (length out.work) e)
    where
      s : StitchedBody
      s = stitch_body sag (names rule ps) (patches_of (rows_of table) ps ns is)

      go : (n : ℕ) (b : Bool) → eqb n 0 ≡ b → (n ≡ 0 → Passed table ps ns is (length out.work))
          → Says s (elim b [ true ↦ stitch_or_refuse s (cleared_slices (rows_of table) out) | false ↦ refuse_stitch n out ])
      go n true e g = result_face s (cleared_slices (rows_of table) out) (stitch_through (g (eqb-true n 0 e)) sag (names rule ps))
      go n false e g = λ r. no_refusal n e r

-- Past the end a face has none.
pub no_face : (before after old new : List ℕ) (k : ℕ) → length (rows_of before) ≤ k → face_indices before after old new k ≡ []
unfolding face_indices is_stitched row_indices row_at
no_face before after old new k h =
    let grown = ltb (row_at before k).vertices (row_at after k).vertices in
    ap (λ (b : Bool). cond (b && grown) (row_indices after new k) (row_indices before old k)) (le-ltb k (length (rows_of before)) h)
    ∙ ap (λ (r : Row). take r.indices (drop (indices_before (rows_of before) k) old)) (get_or-eq_default (rows_of before) no_row h)
