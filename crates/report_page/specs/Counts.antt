-- What the rows of a body count, and what counting asks. Assumes nothing.
use Rattle.std.specs.Prelude.{◌≡◌, List, ℕ, ◌+◌, ◌*◌, ◌≤◌, length, Float}
use Rattle.std.proofs.Math.Option.{Option, none, some}
use Rattle.body_rows.specs.Body.{rows_of, all_vertices, all_indices}
use Rattle.body_rows.specs.Rows.{WholeRows}
use Rattle.body_checks.specs.Accepted.{Passed, passed_rows}
use Rattle.mesh_verdicts.specs.declared.Failure.{Failure}
use Rattle.mesh_verdicts.specs.declared.Failure.TheVariants.{Empty, Upstream, Escape}
use Rattle.mesh_acceptance.specs.Judged.{RowJudgeable}
use Rattle.report_definition.specs.Page.{Sums}
use Rattle.report_page.specs.declared.counts.RowCounts.{RowCounts}

-- the numbers of some sums that rows count
abbrev pub counts_of : Sums → RowCounts
counts_of s =
    record {
      accepted = s.accepted;
      empty = s.empty;
      upstream = s.upstream;
      escaped = s.escaped;
      triangles = s.triangles;
      vertices = s.vertices;
    }

-- the counts of no rows
abbrev pub no_counts : RowCounts
no_counts = record { accepted = 0; empty = 0; upstream = 0; escaped = 0; triangles = 0; vertices = 0 }

-- the counts with an accepted row more, which has so many triangles and vertices
abbrev pub accepted_with : ℕ → ℕ → RowCounts → RowCounts
accepted_with t v c =
    record { accepted = c.accepted + 1; empty = c.empty; upstream = c.upstream; escaped = c.escaped; triangles = c.triangles + t; vertices = c.vertices + v }

-- the counts with a row more that failed
abbrev pub failed_with : Failure → RowCounts → RowCounts
failed_with Empty c =
    record { accepted = c.accepted; empty = c.empty + 1; upstream = c.upstream; escaped = c.escaped; triangles = c.triangles; vertices = c.vertices }
failed_with (Upstream n) c =
    record { accepted = c.accepted; empty = c.empty; upstream = c.upstream + 1; escaped = c.escaped; triangles = c.triangles; vertices = c.vertices }
failed_with (Escape reach span) c =
    record { accepted = c.accepted; empty = c.empty; upstream = c.upstream; escaped = c.escaped + 1; triangles = c.triangles; vertices = c.vertices }

-- the counts with a row more: why it failed, if it did; its triangles and vertices count only if it did not
abbrev pub counts_with : Option Failure → ℕ → ℕ → RowCounts → RowCounts
counts_with none t v c = accepted_with t v c
counts_with (some f) t v c = failed_with f c

-- no count is above what an accepted body may have
pub record FewCounts (c : RowCounts) : Type 0 where
  pub accepted : c.accepted ≤ 4096
  pub empty : c.empty ≤ 4096
  pub upstream : c.upstream ≤ 4096
  pub escaped : c.escaped ≤ 4096
  pub triangles : c.triangles ≤ 262144
  pub vertices : c.vertices ≤ 262144

-- what counting row k asks: what its verdict asks, and counts within the limits
pub record CountReady (table : List ℕ) (ps : List Float) (is : List ℕ) (k base i : ℕ) (c : RowCounts) : Type 0 where
  pub judgeable : RowJudgeable table ps is k base i
  pub few : FewCounts c

-- what counting all rows asks: a body within the limits whose slices are as long as its rows say
pub record Countable (table : List ℕ) (ps : List Float) (is : List ℕ) : Type 0 where
  pub rows : WholeRows table
  pub few_vertices : all_vertices (rows_of table) ≤ 262144
  pub few_indices : all_indices (rows_of table) ≤ 786432
  pub all_positions : length ps ≡ 3 * all_vertices (rows_of table)
  pub all_indices_lem : length is ≡ all_indices (rows_of table)

-- an accepted body may be counted
pub passed_countable : {table : List ℕ} {ps ns : List Float} {is : List ℕ} {words : ℕ} → Passed table ps ns is words → Countable table ps is
passed_countable p = record { rows = passed_rows p; few_vertices = p.vertices; few_indices = p.indices; all_positions = p.all_positions; all_indices_lem = p.all_indices_lem }
