-- The checks of a body and of a patch alone, put together from their parts. Assumes nothing.
use mathlib.Core.Path.{◌≡◌, refl, sym, ap, ◌∙◌, subst}
use mathlib.Core.Bool.{Bool, true, false, not, ◌||◌}
use mathlib.Core.List.{List, []}
use Prim.Native.Nat.{ℕ, ◌*◌, ◌/◌, ◌%◌, ◌≤◌, ◌<◌}
use native.Mathlib.Omega.{arith}
use lib.ListN.{length}
use lib.Dec.{leb, ltb, eqb}
use lib.Ieee.{Float}
use borrow.Author.Tests.{eq-eqb, ne_eqb, lt-ltb, ltb-false}
use Rattle.lists.specs.Lists.{any, all}
use Rattle.lists.specs.Any.{any_one}
use Rattle.point_rules.specs.Points.{clamps}
use Rattle.body_table_checks.specs.Tabled.{Tabled, tabled}
use Rattle.body_checks.specs.Accepted.{clean_before, before_numbered, checks_before, lone_vertices, lone_indices, lone_inside}
use Rattle.body_rows.specs.Body.{Row, rows_of, patches_of, all_vertices, all_indices, first_failing, work_needed}
use Rattle.body_refusals.specs.TableChecks.{bad_row, bad_bin, too_large, table_checks}
use Rattle.body_refusals.specs.PatchChecks.{bad_indices, patch_checks}
use Rattle.body_refusals.specs.BodyChecks.{before_work, body_checks, lone_table, lone_checks}
use Rattle.body_table_checks.specs.TableTests.{not_whole}
use Rattle.body_patch_checks.specs.PatchTests.{part_triangle, not_finite, any_indices}
use Rattle.refusals.specs.Laws.{number_positive}
use Rattle.body_rows.specs.Checks.{numbered, first_here, first_stop, first_on}
use Rattle.lists.specs.Both.{or_left, or_right}
use Rattle.body_rows.specs.Rows.{Total, WholeRows}
use Rattle.body_table_checks.specs.TableFirst as Table
use Rattle.body_patch_checks.specs.PatchFirst as Patch'

-- ---- every check of the table has a number above 0
table_numbered : (table : List ℕ) (rows : List Row) (ps ns : List Float) (is : List ℕ) → all numbered (table_checks table rows ps ns is) ≡ true
unfolding table_checks all
table_numbered table rows ps ns is = refl

-- ---- the checks of the table have passed
pub table_passed : (table : List ℕ) (ps ns : List Float) (is : List ℕ) {t : ℕ} → t ≡ first_failing (table_checks table (rows_of table) ps ns is) → t ≡ 0 → Tabled table ps ns is
table_passed table ps ns is e z = tabled table ps ns is (sym e ∙ z)

-- ---- the checks before 31
module _ (table : List ℕ) (ps ns : List Float) (is : List ℕ) {t : ℕ} (et : t ≡ first_failing (table_checks table (rows_of table) ps ns is)) where
  -- a check of the table fails
  pub before_table : (t ≡ 0 → ⊥) → t ≡ first_failing (before_work table ps ns is)
  unfolding before_work
  before_table h = et ∙ first_stop (table_checks table (rows_of table) ps ns is) _ (λ z. h (et ∙ z))

  -- none does: the checks of the patches decide
  pub before_patch : {p : ℕ} → t ≡ 0 → p ≡ first_failing (patch_checks (patches_of (rows_of table) ps ns is)) → p ≡ first_failing (before_work table ps ns is)
  unfolding before_work
  before_patch z ep = ep ∙ first_on (table_checks table (rows_of table) ps ns is) _ (table_numbered table (rows_of table) ps ns is) (sym et ∙ z)

-- ---- a body
module _ (table : List ℕ) (ps ns : List Float) (is : List ℕ) (words : ℕ) {n : ℕ} (en : n ≡ first_failing (before_work table ps ns is)) where
  -- a check before 31 fails
  pub body_before : (n ≡ 0 → ⊥) → n ≡ first_failing (body_checks table ps ns is words)
  unfolding body_checks
  body_before h = en ∙ first_stop (before_work table ps ns is) _ (λ z. h (en ∙ z))

  module _ (z : n ≡ 0) where
    -- so the table is whole rows
    pub rows_passed : WholeRows table
    rows_passed = (clean_before table ps ns is (sym en ∙ z)).tabled.rows

    module _ {w : ℕ} (ew : w ≡ work_needed (rows_of table)) where
      -- the work area is too small
      pub body_words : words < w → 31 ≡ first_failing (body_checks table ps ns is words)
      unfolding body_checks
      body_words h = first_here 31 [] (ap (ltb words) (sym ew) ∙ lt-ltb words w h) ∙ first_on (before_work table ps ns is) _ (before_numbered table ps ns is) (sym en ∙ z)

      -- it is large enough
      pub body_none : w ≤ words → 0 ≡ first_failing (body_checks table ps ns is words)
      body_none h = sym (checks_before table ps ns is words (λ e. subst (λ (k : ℕ). k ≤ words) ew h) ∙ sym en ∙ z)

-- ---- the same as equations, so that no name of a goal is cited: a proof finds them by itself, in whatever form an answer is handed on
module _ (table : List ℕ) (ps ns : List Float) (is : List ℕ) where
  -- a check of the table that fails decides
  pub before_stops : 0 < first_failing (table_checks table (rows_of table) ps ns is)
      → first_failing (before_work table ps ns is) ≡ first_failing (table_checks table (rows_of table) ps ns is)
  before_stops h = sym (before_table table ps ns is refl (λ z. omega arith))

  -- where none does, the checks of the patches decide
  pub before_goes_on : first_failing (table_checks table (rows_of table) ps ns is) ≡ 0
      → first_failing (before_work table ps ns is) ≡ first_failing (patch_checks (patches_of (rows_of table) ps ns is))
  before_goes_on z = sym (before_patch table ps ns is refl z refl)

  -- where no check before 31 fails, the table is whole rows
  pub rows_whole : first_failing (before_work table ps ns is) ≡ 0 → WholeRows table
  rows_whole z = rows_passed table ps ns is 0 refl z

  module _ (words : ℕ) where
    -- a check before 31 that fails decides
    pub body_stops : 0 < first_failing (before_work table ps ns is) → first_failing (body_checks table ps ns is words) ≡ first_failing (before_work table ps ns is)
    body_stops h = sym (body_before table ps ns is words refl (λ z. omega arith))

    -- where none does, a work area that is too small is refused
    pub body_short : first_failing (before_work table ps ns is) ≡ 0 → words < work_needed (rows_of table) → first_failing (body_checks table ps ns is words) ≡ 31
    body_short z h = sym (body_words table ps ns is words refl z refl h)

    -- and one that is large enough is not
    pub body_goes_on : first_failing (before_work table ps ns is) ≡ 0 → work_needed (rows_of table) ≤ words → first_failing (body_checks table ps ns is words) ≡ 0
    body_goes_on z h = sym (body_none table ps ns is words refl z refl h)

-- what the checks before 31 stand on
pub ruleset before_laws = (tabled, number_positive, before_stops, before_goes_on)

-- and the checks with 31
pub ruleset body_laws = (number_positive, rows_whole, body_stops, body_short, body_goes_on)

-- ---- a patch alone
module _ (ps ns : List Float) (is : List ℕ) where
  -- its table is one whole row
  lone_whole : false ≡ not_whole (lone_table ps is)
  unfolding lone_table rows_of
  lone_whole = refl

  -- the row is of a patch
  lone_good : false ≡ any bad_row (rows_of (lone_table ps is))
  unfolding lone_table rows_of any bad_row
  lone_good = refl

  -- its bin is 0
  lone_bin : false ≡ any bad_bin (rows_of (lone_table ps is))
  unfolding lone_table rows_of any bad_bin
  lone_bin = refl

  -- its triangles are whole if the indices are a multiple of 3
  lone_parts : not (eqb (length is % 3) 0) ≡ any part_triangle (rows_of (lone_table ps is))
  unfolding lone_table rows_of
  lone_parts = sym (any_one part_triangle _)

  -- its indices are all of the indices
  inside_is : any (λ i. leb (length ps / 3) i) is ≡ any bad_indices (patches_of (rows_of (lone_table ps is)) [] [] is)
  inside_is = sym (lone_inside ps ns is) ∙ any_indices (rows_of (lone_table ps is)) ps ns is

  module _ {d : Bool} (ed : d ≡ too_large (length ps / 3) (length is)) where
    -- its counts are those of the slices
    large_is : d ≡ too_large (all_vertices (rows_of (lone_table ps is))) (all_indices (rows_of (lone_table ps is)))
    large_is = ed ∙ sym (λ j. too_large (lone_vertices ps ns is j) (lone_indices ps ns is j))

    -- they are too large
    pub lone_13 : d ≡ true → 13 ≡ first_failing (table_checks (lone_table ps is) (rows_of (lone_table ps is)) ps ns is)
    lone_13 h = Table.fails_13 (lone_table ps is) ps ns is lone_whole refl lone_good refl large_is h

    module _ (pd : d ≡ false) where
      -- neither count is too large
      large_not : (ltb 262144 (length ps / 3) || ltb 786432 (length is)) ≡ false
      unfolding too_large
      large_not = sym ed ∙ pd

      -- the vertices as a total
      vertices_total : Total (all_vertices (rows_of (lone_table ps is))) (length ps / 3)
      vertices_total = record { is = sym (lone_vertices ps ns is); small = omega (arith, ltb-false 262144 (length ps / 3) (or_left (ltb 262144 (length ps / 3)) (ltb 786432 (length is)) large_not)) }

      -- the indices as a total
      indices_total : Total (all_indices (rows_of (lone_table ps is))) (length is)
      indices_total = record { is = sym (lone_indices ps ns is); small = omega (arith, ltb-false 786432 (length is) (or_right (ltb 262144 (length ps / 3)) (ltb 786432 (length is)) large_not)) }

      -- the positions are no multiple of 3
      pub lone_positions : (length ps ≡ 3 * (length ps / 3) → ⊥) → 14 ≡ first_failing (table_checks (lone_table ps is) (rows_of (lone_table ps is)) ps ns is)
      lone_positions h =
          Table.fails_14 (lone_table ps is) ps ns is lone_whole refl lone_good refl large_is pd (Table.lengths_positions (rows_of (lone_table ps is)) ps ns is vertices_total h) refl

      -- the normals are not as many
      pub lone_normals : length ps ≡ 3 * (length ps / 3) → (length ns ≡ 3 * (length ps / 3) → ⊥) → 14 ≡ first_failing (table_checks (lone_table ps is) (rows_of (lone_table ps is)) ps ns is)
      lone_normals e h =
          Table.fails_14 (lone_table ps is) ps ns is lone_whole refl lone_good refl large_is pd (Table.lengths_normals (rows_of (lone_table ps is)) ps ns is vertices_total e h) refl

      -- the slices have their lengths
      pub lone_lengths : length ps ≡ 3 * (length ps / 3) → length ns ≡ 3 * (length ps / 3) → 0 ≡ first_failing (table_checks (lone_table ps is) (rows_of (lone_table ps is)) ps ns is)
      lone_lengths e f =
          Table.fails_none (lone_table ps is) ps ns is lone_whole refl lone_good refl large_is pd
          (Table.lengths_indices (rows_of (lone_table ps is)) ps ns is vertices_total e f indices_total) (ap not (eq-eqb (length is) (length is) refl)) lone_bin refl

  module _ (ok : Tabled (lone_table ps is) ps ns is) where
    -- the indices are no multiple of 3
    pub lone_21 : (length is % 3 ≡ 0 → ⊥) → 21 ≡ first_failing (patch_checks (patches_of (rows_of (lone_table ps is)) ps ns is))
    lone_21 h = Patch'.fails_21 (lone_table ps is) ps ns is ok lone_parts (ap not (ne_eqb (length is % 3) 0 h))

    module _ (three : length is % 3 ≡ 0) {b : Bool} (eb : b ≡ any (λ i. leb (length ps / 3) i) is) where
      -- they are
      whole_triangles : not (eqb (length is % 3) 0) ≡ false
      whole_triangles = ap not (eq-eqb (length is % 3) 0 three)

      -- an index is too high
      pub lone_22 : b ≡ true → 22 ≡ first_failing (patch_checks (patches_of (rows_of (lone_table ps is)) ps ns is))
      lone_22 h = Patch'.fails_22 (lone_table ps is) ps ns is ok lone_parts whole_triangles (eb ∙ inside_is) h

      module _ (pb : b ≡ false) {d : Bool} (ed : d ≡ (any not_finite ps || any not_finite ns)) where
        -- a number is not finite
        pub lone_23 : d ≡ true → 23 ≡ first_failing (patch_checks (patches_of (rows_of (lone_table ps is)) ps ns is))
        lone_23 h = Patch'.fails_23 (lone_table ps is) ps ns is ok lone_parts whole_triangles (eb ∙ inside_is) pb ed h

        module _ (pd : d ≡ false) {e : Bool} (ee : e ≡ any clamps ps) where
          -- a cell is clamped
          pub lone_24 : e ≡ true → 24 ≡ first_failing (patch_checks (patches_of (rows_of (lone_table ps is)) ps ns is))
          lone_24 h = Patch'.fails_24 (lone_table ps is) ps ns is ok lone_parts whole_triangles (eb ∙ inside_is) pb ed pd ee h

          -- all is well
          pub lone_none : e ≡ false → 0 ≡ first_failing (patch_checks (patches_of (rows_of (lone_table ps is)) ps ns is))
          lone_none h = Patch'.fails_no_patch (lone_table ps is) ps ns is ok lone_parts whole_triangles (eb ∙ inside_is) pb ed pd ee h

  -- a check of its table fails
  pub lone_table_lem : {t : ℕ} → t ≡ first_failing (table_checks (lone_table ps is) (rows_of (lone_table ps is)) ps ns is) → (t ≡ 0 → ⊥) → t ≡ first_failing (lone_checks ps ns is)
  unfolding lone_checks
  lone_table_lem et h = before_table (lone_table ps is) ps ns is et h

  -- none does: the checks of the patch decide
  pub lone_patch : {t p : ℕ} → t ≡ first_failing (table_checks (lone_table ps is) (rows_of (lone_table ps is)) ps ns is) → t ≡ 0
      → p ≡ first_failing (patch_checks (patches_of (rows_of (lone_table ps is)) ps ns is)) → p ≡ first_failing (lone_checks ps ns is)
  unfolding lone_checks
  lone_patch et z ep = before_patch (lone_table ps is) ps ns is et z ep
