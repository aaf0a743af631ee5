-- What a body has once its checks have passed. Assumes nothing.
use Rattle.std.specs.Prelude.{◌≡◌, true, not, get_or, take, drop, ltb, eqb, Float}
use Rattle.std.proofs.Math.Path.{refl, sym, ap}
use Rattle.std.proofs.Common.{◌∙◌, subst, length-drop, length-take-le, get_or-take, get_or-drop}
use Rattle.std.proofs.Math.Bool.{false}
use mathlib.Core.List.{List, [], ◌∷◌, ◌++◌}
use Prim.Native.Nat.{ℕ, zero, suc, ◌+◌, ◌*◌, ◌/◌, ◌%◌, ◌≤◌, ◌<◌}
use Rattle.std.proofs.Math.Nat.{add-zero}
use native.Mathlib.Omega.{arith}
use Rattle.std.proofs.Math.ListN.{length}
use Rattle.std.proofs.Math.Seq.{take-length}
use Rattle.std.proofs.Math.Dec.{leb}
use Rattle.std.specs.Float.{nan}
use borrow.Author.Tests.{le-ltb, ltb-false, leb-false, eqb-true, not-false, ne_eqb}
use Rattle.float_steps.specs.Floats.{finite}
use Rattle.lists.specs.Lists.{all, any, sum_of}
use Rattle.lists.specs.Any.{any_none, any_one}
use Rattle.body_rows.specs.Body.{row_width, Row, check, rows_of, patches_of, all_vertices, all_indices, first_failing, work_needed}
use Rattle.body_refusals.specs.TableChecks.{most_bin, bad_row, bad_bin, table_checks}
use Rattle.body_refusals.specs.PatchChecks.{bad_indices, patch_checks}
use Rattle.body_refusals.specs.BodyChecks.{before_work, body_checks, lone_table, lone_checks}
use Rattle.body_rows.specs.Rows.{row_at, no_row, indices_before, vertices_before, WholeRows}
use Rattle.body_rows.specs.Patches.{no_patch, patch_from, patch_at_lem, length_patches, indices_room, any_row, any_number}
use Rattle.body_patch_checks.specs.PatchTests.{part_triangle, not_finite}
use Rattle.body_rows.specs.Checks.{clear_first, first_next, first_none, first_on, first_stop, numbered}
use Rattle.lists.specs.Both.{or_left, or_right}
use Rattle.body_table_checks.specs.Tabled.{Tabled, tabled_by}
use Rattle.body_patch_checks.specs.Patched.{Patched}

-- ---- the checks before that of the work area

-- what they give, as the tests stand in the definitions
pub record CleanBefore (table : List ℕ) (ps ns : List Float) (is : List ℕ) : Type 0 where
  -- the checks 11 to 15 have passed
  pub tabled : Tabled table ps ns is
  -- the checks 21 to 24 have passed
  pub patched : Patched (patches_of (rows_of table) ps ns is)

module _ (table : List ℕ) (ps ns : List Float) (is : List ℕ) where
  -- they have passed
  pub clean_before : first_failing (before_work table ps ns is) ≡ 0 → CleanBefore table ps ns is
  unfolding before_work table_checks patch_checks
  clean_before h =
      let c11 = clear_first 10 _ _ h in
      let c12 = clear_first 11 _ _ c11.rest in
      let c13 = clear_first 12 _ _ c12.rest in
      let c14 = clear_first 13 _ _ c13.rest in
      let c15 = clear_first 14 _ _ c14.rest in
      let c21 = clear_first 20 _ _ c15.rest in
      let c22 = clear_first 21 _ _ c21.rest in
      let c23 = clear_first 22 _ _ c22.rest in
      let c24 = clear_first 23 _ _ c23.rest in
      record {
        tabled = tabled_by table ps ns is c11.here c12.here c13.here c14.here c15.here;
        patched = record { threes = c21.here; inside = c22.here; numbers = c23.here; unclamped = c24.here };
      }

  -- each of them has a number above 0
  pub before_numbered : all numbered (before_work table ps ns is) ≡ true
  unfolding before_work table_checks patch_checks all
  before_numbered = refl

  -- Where the work area suffices, they decide.
  pub checks_before : (words : ℕ) → (first_failing (before_work table ps ns is) ≡ 0 → work_needed (rows_of table) ≤ words)
      → first_failing (body_checks table ps ns is words) ≡ first_failing (before_work table ps ns is)
  unfolding body_checks
  checks_before words enough = go (first_failing (before_work table ps ns is)) refl
    where
      go : (k : ℕ) → first_failing (before_work table ps ns is) ≡ k → first_failing (before_work table ps ns is ++ check 31 (ltb words (work_needed (rows_of table))) ∷ [])
          ≡ first_failing (before_work table ps ns is)
      go zero e =
          sym (first_on (before_work table ps ns is) (check 31 (ltb words (work_needed (rows_of table))) ∷ []) before_numbered e)
          ∙ sym (first_none ∙ first_next 31 [] (le-ltb words (work_needed (rows_of table)) (enough e)))
          ∙ sym e
      go (suc k) e = sym (first_stop (before_work table ps ns is) (check 31 (ltb words (work_needed (rows_of table))) ∷ []) (λ z. omega arith))

  module _ (words : ℕ) (h : first_failing (body_checks table ps ns is words) ≡ 0) where
    -- where all checks have passed, these have
    pub before_passed : first_failing (before_work table ps ns is) ≡ 0
    unfolding body_checks
    before_passed = go (first_failing (before_work table ps ns is)) refl
      where
        go : (k : ℕ) → first_failing (before_work table ps ns is) ≡ k → k ≡ 0
        go zero e = refl
        go (suc k) e = sym e ∙ first_stop (before_work table ps ns is) _ (λ z. omega arith) ∙ h

    -- and the work area has its words
    pub enough_words : work_needed (rows_of table) ≤ words
    unfolding body_checks
    enough_words = ltb-false words (work_needed (rows_of table)) (clear_first 30 _ _ (first_on (before_work table ps ns is) _ before_numbered before_passed ∙ h)).here

-- ---- a body that was accepted

-- What a caller may go by in a body that was accepted: each fact of its rows, slices and work area.
pub record Passed (table : List ℕ) (ps ns : List Float) (is : List ℕ) (words : ℕ) : Type 0 where
  pub whole : length table ≡ row_width * length (rows_of table)
  pub rows : length (rows_of table) ≤ 4096
  pub vertices : all_vertices (rows_of table) ≤ 262144
  pub indices : all_indices (rows_of table) ≤ 786432
  pub all_positions : length ps ≡ 3 * all_vertices (rows_of table)
  pub all_normals : length ns ≡ 3 * all_vertices (rows_of table)
  pub all_indices_lem : length is ≡ all_indices (rows_of table)
  pub outcomes : (k : ℕ) → k < length (rows_of table) → (row_at table k).outcome ≤ 255
  pub failed : (k : ℕ) → k < length (rows_of table) → ((row_at table k).outcome ≡ 0 → ⊥) → (row_at table k).vertices + (row_at table k).indices ≡ 0
  pub bins : (k : ℕ) → k < length (rows_of table) → (row_at table k).bin ≤ most_bin
  pub threes : (k : ℕ) → k < length (rows_of table) → (row_at table k).indices % 3 ≡ 0
  pub inside : (k j : ℕ) → k < length (rows_of table) → j < (row_at table k).indices → get_or is (indices_before (rows_of table) k + j) 0 < (row_at table k).vertices
  pub finite_positions : (k : ℕ) → k < length ps → finite (get_or ps k nan) ≡ true
  pub finite_normals : (k : ℕ) → k < length ns → finite (get_or ns k nan) ≡ true
  pub enough : work_needed (rows_of table) ≤ words

-- a list with no number that isn't finite
finite_at : (xs : List Float) → any not_finite xs ≡ false → (k : ℕ) → k < length xs → finite (get_or xs k nan) ≡ true
finite_at xs e k h = not-false (finite (get_or xs k nan)) (any_none not_finite xs nan e k h)

-- a row that is not bad
outcome_of : (r : Row) → bad_row r ≡ false → r.outcome ≤ 255
unfolding bad_row
outcome_of r e = ltb-false 255 r.outcome (or_left (ltb 255 r.outcome) _ e)

-- a bin that is not too high
bin_of : (r : Row) → bad_bin r ≡ false → r.bin ≤ most_bin
unfolding bad_bin
bin_of r e = ltb-false most_bin r.bin e

-- a failed row has no counts
empty_of : (r : Row) → bad_row r ≡ false → (r.outcome ≡ 0 → ⊥) → r.vertices + r.indices ≡ 0
unfolding bad_row
empty_of r e f =
    let g = or_right (ltb 255 r.outcome) _ e in
    let h : not (eqb (r.vertices + r.indices) 0) ≡ false = rw (ne_eqb r.outcome 0 f) at g in
    eqb-true (r.vertices + r.indices) 0 (not-false (eqb (r.vertices + r.indices) 0) h)

-- an index of a patch is below its vertex count
inside_at : (table : List ℕ) (ps ns : List Float) (is : List ℕ) → length is ≡ all_indices (rows_of table) → any bad_indices (patches_of (rows_of table) ps ns is) ≡ false
    → (k j : ℕ) → k < length (rows_of table) → j < (row_at table k).indices → get_or is (indices_before (rows_of table) k + j) 0 < (row_at table k).vertices
unfolding row_at bad_indices
inside_at table ps ns is fit e k j h l =
    let rows = rows_of table in
    let r = get_or rows k no_row in
    let b = indices_before rows k in
    let p : bad_indices (patch_from r ps ns is (vertices_before rows k) b) ≡ false =
    sym (ap bad_indices (patch_at_lem rows ps ns is k h)) ∙ any_none bad_indices (patches_of rows ps ns is) no_patch e k (omega (arith, length_patches rows ps ns is)) in
    let room : r.indices ≤ length (drop b is) = omega (arith, length-drop b is, indices_room rows k h) in
    let n = length-take-le r.indices (drop b is) room in
    let q : leb r.vertices (get_or (take r.indices (drop b is)) j 0) ≡ false = any_none (λ i. leb r.vertices i) (take r.indices (drop b is)) 0 p j (omega arith) in
    let g = get_or-take r.indices (drop b is) j 0 l ∙ get_or-drop b is j 0 in
    subst (λ (x : ℕ). x < r.vertices) g (leb-false r.vertices (get_or (take r.indices (drop b is)) j 0) q)

-- the facts, from the tests
pub passed : (table : List ℕ) (ps ns : List Float) (is : List ℕ) (words : ℕ) → first_failing (body_checks table ps ns is words) ≡ 0 → Passed table ps ns is words
unfolding row_at
passed table ps ns is words h =
    let c = clean_before table ps ns is (before_passed table ps ns is words h) in
    let t = c.tabled in
    let rows = rows_of table in
    let numbers = sym (any_number not_finite rows ps ns is t.all_positions t.all_normals) ∙ c.patched.numbers in
    let threes = sym (any_row part_triangle rows ps ns is) ∙ c.patched.threes in
    record {
      whole = t.rows.whole;
      rows = t.rows.few;
      vertices = t.vertices;
      indices = t.indices;
      all_positions = t.all_positions;
      all_normals = t.all_normals;
      all_indices_lem = t.all_indices_lem;
      outcomes = λ k l. outcome_of (get_or rows k no_row) (any_none bad_row rows no_row t.sound k l);
      failed = λ k l. empty_of (get_or rows k no_row) (any_none bad_row rows no_row t.sound k l);
      bins = λ k l. bin_of (get_or rows k no_row) (any_none bad_bin rows no_row t.bins k l);
      threes = λ k l. eqb-true ((get_or rows k no_row).indices % 3) 0 (not-false (eqb ((get_or rows k no_row).indices % 3) 0) (any_none part_triangle rows no_row threes k l));
      inside = inside_at table ps ns is t.all_indices_lem c.patched.inside;
      finite_positions = finite_at ps (or_left (any not_finite ps) (any not_finite ns) numbers);
      finite_normals = finite_at ns (or_right (any not_finite ps) (any not_finite ns) numbers);
      enough = enough_words table ps ns is words h;
    }

-- an accepted body's table is whole rows, and not too many
pub passed_rows : {table : List ℕ} {ps ns : List Float} {is : List ℕ} {words : ℕ} → Passed table ps ns is words → WholeRows table
passed_rows p = record { whole = p.whole; few = p.rows }

-- ---- a patch alone

-- what a caller may go by in a patch alone that was accepted
pub record PassedAlone (ps ns : List Float) (is : List ℕ) : Type 0 where
  pub vertices : length ps ≡ 3 * (length ps / 3)
  pub all_normals : length ns ≡ length ps
  pub few_positions : length ps ≤ 786432
  pub few_indices : length is ≤ 786432
  pub threes : length is % 3 ≡ 0
  pub inside : (k : ℕ) → k < length is → 3 * get_or is k 0 + 2 < length ps
  pub finite_positions : (k : ℕ) → k < length ps → finite (get_or ps k nan) ≡ true
  pub finite_normals : (k : ℕ) → k < length ns → finite (get_or ns k nan) ≡ true

module _ (ps ns : List Float) (is : List ℕ) where
  -- its table has one row
  pub lone_rows : rows_of (lone_table ps is) ≡ record { shell = 0; face = 0; outcome = 0; vertices = length ps / 3; indices = length is; bin = 0 } ∷ []
  unfolding rows_of lone_table
  lone_rows = refl

  -- V of a patch alone
  pub lone_vertices : all_vertices (rows_of (lone_table ps is)) ≡ length ps / 3
  unfolding rows_of lone_table all_vertices sum_of
  lone_vertices = add-zero (length ps / 3)

  -- I of a patch alone
  pub lone_indices : all_indices (rows_of (lone_table ps is)) ≡ length is
  unfolding rows_of lone_table all_indices sum_of
  lone_indices = add-zero (length is)

  -- check 22 of a patch alone
  pub lone_inside : any bad_indices (patches_of (rows_of (lone_table ps is)) ps ns is) ≡ any (λ i. leb (length ps / 3) i) is
  unfolding rows_of lone_table patches_of bad_indices
  lone_inside = any_one bad_indices _ ∙ ap (any (λ i. leb (length ps / 3) i)) (take-length is)

  -- the checks of a patch alone have passed
  pub passed_alone : first_failing (lone_checks ps ns is) ≡ 0 → PassedAlone ps ns is
  unfolding lone_checks
  passed_alone h =
      let c = clean_before (lone_table ps is) ps ns is h in
      let t = c.tabled in
      let rows = rows_of (lone_table ps is) in
      let numbers = sym (any_number not_finite rows ps ns is t.all_positions t.all_normals) ∙ c.patched.numbers in
      let three : part_triangle (record { shell = 0; face = 0; outcome = 0; vertices = length ps / 3; indices = length is; bin = 0 }) ≡ false =
      sym (any_one part_triangle _) ∙ ap (any part_triangle) (sym lone_rows) ∙ sym (any_row part_triangle rows ps ns is) ∙ c.patched.threes in
      record {
        vertices = omega (arith, t.all_positions, lone_vertices);
        all_normals = omega (arith, t.all_positions, t.all_normals);
        few_positions = omega (arith, t.all_positions, t.vertices);
        few_indices = omega (arith, t.indices, lone_indices);
        threes = eqb-true (length is % 3) 0 (not-false (eqb (length is % 3) 0) three);
        inside = λ k l. below (get_or is k 0) (leb-false (length ps / 3) (get_or is k 0) (any_none (λ i. leb (length ps / 3) i) is 0 (sym lone_inside ∙ c.patched.inside) k l));
        finite_positions = finite_at ps (or_left (any not_finite ps) (any not_finite ns) numbers);
        finite_normals = finite_at ns (or_right (any not_finite ps) (any not_finite ns) numbers);
      }
    where
      below : (i : ℕ) → i < length ps / 3 → 3 * i + 2 < length ps
      below i l = omega arith
