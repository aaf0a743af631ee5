-- What the code of acceptance asks and leaves: a decision for each row, and the failures. Assumes nothing.
use Rattle.std.specs.Prelude.{◌≡◌, ℕ, zero, suc, ◌+◌, ◌*◌, ◌≤◌, ◌<◌, length, get_or, take, drop, Float}
use mathlib.Core.List.{List, [], ◌∷◌, flat_map}
use Rattle.std.proofs.Math.Option.{Option, none, some}
use Rattle.lists.specs.Lists.{written}
use Rattle.body_rows.specs.Body.{Row, Patch, rows_of, all_vertices, all_indices}
use Rattle.body_rows.specs.Rows.{WholeRows, row_at}
use Rattle.body_rows.specs.Patches.{no_patch, patch_from, shapes}
use Rattle.slice_append.specs.Appended.{Appended}
use Rattle.patch_geometry.specs.declared.Aabb.{Aabb}
use Rattle.mesh_verdicts.specs.declared.Failure.{Failure}
use Rattle.mesh_verdicts.specs.Failures.{failure_of}
use Rattle.mesh_materials.specs.Materials.{material_of}
use Rattle.mesh_acceptance.specs.Acceptance.{failure_width, Accepted, Failed, failure_numbers}
use Rattle.mesh_materials.specs.Small.{SmallMaterials}

-- ---- a decision for each row

-- the decision on a patch with a material: 0 if it fails, else 1 + its material
unfoldable pub decision_by : Option Failure → ℕ → ℕ
decision_by none m = suc m
decision_by (some f) m = 0

-- the decision on a patch
unfoldable pub decision_of : Aabb → List ℕ → ℕ → Patch → ℕ
decision_of box materials default p = decision_by (failure_of box p) (material_of materials default p.row.face)

-- what a verdict on row k asks: its vertices from `base` on and its indices from i on are there
pub record RowJudgeable (table : List ℕ) (ps : List Float) (is : List ℕ) (k base i : ℕ) : Type 0 where
  pub row : k < length (rows_of table)
  pub positions_in : 3 * (base + (row_at table k).vertices) ≤ length ps
  pub indices_in : i + (row_at table k).indices ≤ length is

-- what the decision on row k asks
pub record DecisionReady (table : List ℕ) (ps : List Float) (is materials : List ℕ) (default k base i : ℕ) : Type 0 where
  pub judgeable : RowJudgeable table ps is k base i
  pub small : SmallMaterials materials default

-- what the decisions on all rows ask: a body whose slices are as long as its rows say, and a word for each row
pub record Judgeable (table : List ℕ) (ps : List Float) (is materials : List ℕ) (default : ℕ) (W : List ℕ) : Type 0 where
  pub rows : WholeRows table
  pub all_positions : length ps ≡ 3 * all_vertices (rows_of table)
  pub all_indices_lem : length is ≡ all_indices (rows_of table)
  pub small : SmallMaterials materials default
  pub room : length (rows_of table) ≤ length W

-- the accepted of some patches with these decisions
unfoldable pub accepted_by : List ℕ → List Patch → List Accepted
accepted_by [] ps = []
accepted_by (d ∷ ds) [] = []
accepted_by (zero ∷ ds) (p ∷ ps) = accepted_by ds ps
accepted_by (suc m ∷ ds) (p ∷ ps) = record { patch = p; material = m } ∷ accepted_by ds ps

-- the accepted of some rows with these decisions
unfoldable pub accepted_rows : List ℕ → List Row → List Row
accepted_rows [] rs = []
accepted_rows (d ∷ ds) [] = []
accepted_rows (zero ∷ ds) (r ∷ rs) = accepted_rows ds rs
accepted_rows (suc m ∷ ds) (r ∷ rs) = r ∷ accepted_rows ds rs

-- the decisions of the rows, from `at` on
abbrev pub decisions_in : List ℕ → List ℕ → ℕ → List ℕ
decisions_in table W at = take (length (rows_of table)) (drop at W)

-- ---- failures

-- a failure with its face and bin, if there is one
unfoldable pub failed_by : Option Failure → ℕ → ℕ → List Failed
failed_by none face bin = []
failed_by (some f) face bin = record { face = face; bin = bin; failure = f } ∷ []

-- the failure of a patch with its face and bin, if it fails
unfoldable pub failed_of : Aabb → Patch → List Failed
failed_of box p = failed_by (failure_of box p) p.row.face p.row.bin

-- what writing row k's failure asks: what its verdict asks, a decision d that is 0 if the row fails, and room for row j of the table
pub record FailureReady (table : List ℕ) (ps : List Float) (is : List ℕ) (box : Aabb) (k base i d : ℕ) (F : List ℕ) (j : ℕ) : Type 0 where
  pub judgeable : RowJudgeable table ps is k base i
  pub other : (d ≡ 0 → ⊥) → failure_of box (patch_from (row_at table k) ps [] is base i) ≡ none
  pub room : failure_width * j + failure_width ≤ length F

-- what it leaves: the failure, if there is one, behind the j before it
pub record FailureWritten (box : Aabb) (p : Patch) (j : ℕ) (F G : List ℕ) (r : ℕ) : Type 0 where
  pub numbers : Appended (failure_width * j) (flat_map failure_numbers (failed_of box p)) F G
  pub count : r ≡ j + length (failed_of box p)

-- what writing all failures asks: the slices are as long as the rows say, a row whose decision isn't 0 is accepted, and there is room for every row
pub record FailuresReady (table : List ℕ) (ps : List Float) (is : List ℕ) (box : Aabb) (W : List ℕ) (at : ℕ) (F : List ℕ) : Type 0 where
  pub rows : WholeRows table
  pub all_positions : length ps ≡ 3 * all_vertices (rows_of table)
  pub all_indices_lem : length is ≡ all_indices (rows_of table)
  pub words : at + length (rows_of table) ≤ length W
  pub others : (k : ℕ) → k < length (rows_of table) → (get_or W (at + k) 0 ≡ 0 → ⊥) → failure_of box (get_or (shapes table ps is) k no_patch) ≡ none
  pub room : failure_width * length (rows_of table) ≤ length F

-- what it leaves: all failures in row order at the front of the table, and how many there are
pub record FailuresWritten (table : List ℕ) (ps : List Float) (is : List ℕ) (box : Aabb) (F G : List ℕ) (r : ℕ) : Type 0 where
  pub numbers : G ≡ written (flat_map failure_numbers (flat_map (failed_of box) (shapes table ps is))) F
  pub count : r ≡ length (flat_map (failed_of box) (shapes table ps is))
