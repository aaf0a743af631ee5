-- The decisions on rows, and what writing the runs, parts, ranges and failures asks and leaves. Assumes nothing.
use Rattle.std.specs.Prelude.{◌≡◌, ℕ, ◌+◌, ◌*◌, ◌≤◌, ◌<◌, length, get_or, drop, Float}
use mathlib.Core.List.{List, [], flat_map}
use Rattle.std.proofs.Math.Option.{none}
use Rattle.lists.specs.Lists.{sum_of, written}
use Rattle.body_rows.specs.Body.{rows_of}
use Rattle.body_checks.specs.Accepted.{Passed}
use Rattle.body_rows.specs.Patches.{no_patch, shapes}
use Rattle.patch_geometry.specs.declared.Aabb.{Aabb}
use Rattle.mesh_verdicts.specs.Failures.{failure_of}
use Rattle.mesh_acceptance.specs.Acceptance.{failure_width, failure_numbers}
use Rattle.mesh_acceptance.specs.Judged.{accepted_rows, decisions_in, failed_of}
use Rattle.mesh_layout.specs.Mesh.{part_width, range_width, materials_of, runs_of, part_of, ranges_from}
use Rattle.mesh_layout.specs.Parts.{laid_in}
use Rattle.mesh_tables.specs.declared.Tables.{Tables}

-- the decisions on the m rows of an accepted body, at the front of the work area W
pub record Decided (table : List ℕ) (ps ns : List Float) (is : List ℕ) (box : Aabb) (W : List ℕ) (m : ℕ) : Type 0 where
  pub passed : Passed table ps ns is (length W)
  pub rows_are : m ≡ length (rows_of table)
  pub small : (k : ℕ) → k < length (rows_of table) → get_or W (0 + k) 0 ≤ 4294967296
  pub others : (k : ℕ) → k < length (rows_of table) → (get_or W (0 + k) 0 ≡ 0 → ⊥) → failure_of box (get_or (shapes table ps is) k no_patch) ≡ none

-- what writing the runs, parts, ranges and failures asks: decisions, and room
pub record TablesReady (table : List ℕ) (ps : List Float) (is : List ℕ) (box : Aabb) (W : List ℕ) (m : ℕ) (I parts ranges failures : List ℕ) : Type 0 where
  pub ns : List Float
  pub decided : Decided table ps ns is box W m
  pub indices_room : sum_of (λ l. length l.indices) (laid_in table W 0 is) ≤ length I
  pub parts_room : part_width * m ≤ length parts
  pub ranges_room : range_width * m ≤ length ranges
  pub failures_room : failure_width * m ≤ length failures

-- what it leaves: each at the front of its slice, how many there are, and the work area behind the words kept as it was
pub record TablesWritten (table : List ℕ) (ps : List Float) (is : List ℕ) (box : Aabb) (W E : List ℕ) (m : ℕ) (I I' parts parts' ranges ranges' failures failures' : List ℕ) (r : Tables) : Type 0 where
  pub indices_are : I' ≡ written (runs_of (laid_in table W 0 is)) I
  pub parts_are : parts' ≡ written (flat_map (part_of (laid_in table W 0 is)) (materials_of (laid_in table W 0 is))) parts
  pub ranges_are : ranges' ≡ written (ranges_from (laid_in table W 0 is) [] (laid_in table W 0 is)) ranges
  pub failures_are : failures' ≡ written (flat_map failure_numbers (flat_map (failed_of box) (shapes table ps is))) failures
  pub parts_count : r.parts ≡ length (materials_of (laid_in table W 0 is))
  pub ranges_count : r.ranges ≡ length (accepted_rows (decisions_in table W 0) (rows_of table))
  pub failures_count : r.failures ≡ length (flat_map (failed_of box) (shapes table ps is))
  pub rest : drop (4 * m) E ≡ drop (4 * m) W
  pub long : length E ≡ length W
