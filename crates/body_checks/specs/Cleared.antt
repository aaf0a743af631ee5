-- The work area of an accepted body whose words are cleared: zeros in front of what stood behind them. Assumes nothing.
use Rattle.std.specs.Prelude.{◌≡◌, ℕ, ◌+◌, ◌*◌, ◌≤◌, length, drop, Float}
use Rattle.std.proofs.Math.Path.{ap}
use Rattle.std.proofs.Common.{◌∙◌, arith}
use mathlib.Core.List.{List, ◌++◌}
use Rattle.std.proofs.Math.ListN.{replicate}
use Rattle.body_rows.specs.Body.{rows_of, all_vertices, work_needed, cleared}
use Rattle.body_rows.specs.Rows.{Total, WholeRows}
use Rattle.body_checks.specs.Accepted.{Passed, passed_rows}

-- what clearing the words of a body asks: whole rows, and the words that 31 counts
pub record Clearable (table W : List ℕ) : Type 0 where
  pub rows : WholeRows table
  pub enough : work_needed (rows_of table) ≤ length W

module _ {table : List ℕ} {ps ns : List Float} {is : List ℕ} (W : List ℕ) (p : Passed table ps ns is (length W)) where
  -- the words of an accepted body can be cleared
  pub clearable : {X : List ℕ} → length X ≡ length W → Clearable table X
  clearable l = record { rows = passed_rows p; enough = omega (arith, p.enough, l) }

  -- the definition says what that leaves, where all behind them is as it was
  pub cleared_is : {Z : List ℕ} (X : List ℕ) → drop (work_needed (rows_of table)) X ≡ drop (work_needed (rows_of table)) W → Z ≡ cleared (rows_of table) X → Z ≡ cleared (rows_of table) W
  unfolding cleared
  cleared_is X rest z = z ∙ ap (λ (l : List ℕ). replicate (work_needed (rows_of table)) 0 ++ l) rest

  -- the words that it needs, by its vertices, rows and indices
  pub words_are : {v m n : ℕ} → Total (all_vertices (rows_of table)) v → m ≡ length (rows_of table) → n ≡ length is → 16 * n + 16 * m + 4 * v ≡ work_needed (rows_of table)
  unfolding work_needed
  words_are ev em en = omega (arith, p.all_indices_lem, ev.is)
