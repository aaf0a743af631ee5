-- Rows with their decisions, and the mesh as the code makes it of them. Assumes nothing.
use Rattle.std.specs.Prelude.{cond, List, [], ◌∷◌, ◌++◌, map, ℕ, zero, suc, ◌+◌, ◌*◌, take, drop, eqb}
use Rattle.lists.specs.Lists.{sum_of}
use Rattle.body_rows.specs.Body.{Row, rows_of}
use Rattle.mesh_acceptance.specs.Judged.{decisions_in}
use Rattle.mesh_layout.specs.Mesh.{Laid}

-- a row with its decision: 0 if it fails, else 1 + its material
pub record JudgedRow : Type 0 where
  pub decision : ℕ
  pub row : Row

-- rows with their decisions
unfoldable pub judged_rows : List ℕ → List Row → List JudgedRow
judged_rows [] rs = []
judged_rows (d ∷ ds) [] = []
judged_rows (d ∷ ds) (r ∷ rs) = record { decision = d; row = r } ∷ judged_rows ds rs

-- those of a body whose decisions stand from `at` on
abbrev pub judged_in : List ℕ → List ℕ → ℕ → List JudgedRow
judged_in table W at = judged_rows (decisions_in table W at) (rows_of table)

-- how many vertices of the mesh stand before the next row, after a row with a decision
unfoldable pub base_after : ℕ → ℕ → ℕ → ℕ
base_after base vertices zero = base
base_after base vertices (suc m) = base + vertices

-- what a row with a decision adds
module _ {A : Type 0} where
  unfoldable pub kept_if : ℕ → List A → List A
  kept_if zero xs = []
  kept_if (suc m) xs = xs

  -- three numbers for each vertex of the accepted rows
  unfoldable pub numbers_by : List JudgedRow → List A → List A
  numbers_by [] xs = []
  numbers_by (j ∷ js) xs = kept_if j.decision (take (3 * j.row.vertices) xs) ++ numbers_by js (drop (3 * j.row.vertices) xs)

-- the accepted rows laid; `base` vertices stand before
unfoldable pub laid_by : ℕ → List JudgedRow → List ℕ → List Laid
laid_by base [] is = []
laid_by base (j ∷ js) is =
    laid_if j.decision ++ laid_by (base_after base j.row.vertices j.decision) js (drop j.row.indices is)
  where
    laid_if : ℕ → List Laid
    laid_if zero = []
    laid_if (suc m) = record { face = j.row.face; bin = j.row.bin; material = m; indices = map (λ i. base + i) (take j.row.indices is) } ∷ []

-- what a row adds to the run of the decision `wanted`
abbrev pub same_if : ℕ → ℕ → List ℕ → List ℕ
same_if d wanted xs = cond (eqb d wanted) xs []

-- the run of the decision `wanted`
unfoldable pub run_by : ℕ → ℕ → List JudgedRow → List ℕ → List ℕ
run_by wanted base [] is = []
run_by wanted base (j ∷ js) is =
    same_if j.decision wanted (map (λ i. base + i) (take j.row.indices is)) ++ run_by wanted (base_after base j.row.vertices j.decision) js (drop j.row.indices is)

-- how many indices the rows with the decision `wanted` have
abbrev pub indices_with : ℕ → List JudgedRow → ℕ
indices_with wanted js = sum_of (λ j. cond (eqb j.decision wanted) j.row.indices 0) js

-- the ranges of the accepted rows, each of which begins where the list of firsts says
unfoldable pub ranges_with : List ℕ → List JudgedRow → List ℕ
ranges_with [] js = []
ranges_with (f ∷ fs) [] = []
ranges_with (f ∷ fs) (j ∷ js) = kept_if j.decision (j.row.face ∷ j.row.bin ∷ f ∷ (f + j.row.indices) ∷ []) ++ ranges_with fs js
