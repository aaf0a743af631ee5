-- What writing the mesh asks and leaves. Assumes nothing.
use Rattle.std.specs.Prelude.{◌≡◌, ℕ, ◌+◌, ◌*◌, ◌≤◌, length, take, drop, Float}
use mathlib.Core.List.{List, [], flat_map}
use Rattle.lists.specs.Lists.{written}
use Rattle.point_rules.specs.Points.{bits}
use Rattle.body_rows.specs.Body.{rows_of}
use Rattle.body_rows.specs.Patches.{shapes}
use Rattle.patch_geometry.specs.declared.Aabb.{Aabb}
use Rattle.mesh_judge.specs.declared.totals.Totals.{Totals}
use Rattle.mesh_acceptance.specs.Acceptance.{failure_width, failure_numbers}
use Rattle.mesh_acceptance.specs.Judged.{accepted_rows, decisions_in, failed_of}
use Rattle.mesh_judge.specs.Totals.{Totalled}
use Rattle.mesh_layout.specs.Mesh.{part_width, range_width, materials_of, runs_of, part_of, ranges_from}
use Rattle.mesh_layout.specs.JudgedRows.{judged_in, numbers_by}
use Rattle.mesh_layout.specs.Parts.{laid_in}
use Rattle.mesh_counts.specs.Counts.{Counts, counts_of, closed_mesh}
use Rattle.mesh_edges.specs.declared.mesh.MeshEdges.{MeshEdges}
use Rattle.mesh_edges.specs.Mesh.{MeshReady}
use Rattle.mesh_tables.specs.Tables.{Decided}
use Rattle.mesh_definition.specs.declared.MeshCounts.{MeshCounts}

-- what counting the mesh at the front of the slices asks
pub record CountReady (P : List Float) (I W : List ℕ) (vertices indices : ℕ) : Type 0 where
  pub positions_in : 3 * vertices ≤ length P
  pub indices_in : indices ≤ length I
  pub mesh : MeshReady (take (3 * vertices) P) (take indices I) vertices W

-- what it leaves
pub record Counted (P : List Float) (I W E : List ℕ) (vertices indices : ℕ) (r : MeshEdges) : Type 0 where
  pub counts : record { edges = r.counts.edges; opens = r.counts.opens; overs = r.counts.overs } ≡ counts_of bits (take (3 * vertices) P) (take indices I)
  pub closed : r.closed ≡ closed_mesh (take (3 * vertices) P) (take indices I)
  pub rest : drop (4 * vertices + 4 * indices) E ≡ drop (4 * vertices + 4 * indices) W

-- what writing the mesh asks: decisions, the totals of the accepted rows, and room
pub record WriteReady (table : List ℕ) (ps ns : List Float) (is : List ℕ) (box : Aabb) (W : List ℕ) (m : ℕ) (t : Totals) (P N : List Float) (I parts ranges failures : List ℕ) : Type 0 where
  pub decided : Decided table ps ns is box W m
  pub totals : Totalled table W 0 t
  pub positions_room : 3 * t.vertices ≤ length P
  pub normals_room : 3 * t.vertices ≤ length N
  pub indices_room : t.indices ≤ length I
  pub parts_room : part_width * m ≤ length parts
  pub ranges_room : range_width * m ≤ length ranges
  pub failures_room : failure_width * m ≤ length failures

-- the counts in the answer
abbrev pub counts_of_mesh : MeshCounts → Counts
counts_of_mesh r = record { edges = r.edges; opens = r.opens; overs = r.overs }

-- what it leaves: the mesh, its tables and failures at the front of their slices, and their counts
pub record MeshWritten (table : List ℕ) (ps ns : List Float) (is : List ℕ) (box : Aabb) (W E : List ℕ) (m : ℕ) (t : Totals) (P P' N N' : List Float)
    (I I' parts parts' ranges ranges' failures failures' : List ℕ) (r : MeshCounts) : Type 0 where
  pub positions_are : P' ≡ written (numbers_by (judged_in table W 0) ps) P
  pub normals_are : N' ≡ written (numbers_by (judged_in table W 0) ns) N
  pub indices_are : I' ≡ written (runs_of (laid_in table W 0 is)) I
  pub parts_are : parts' ≡ written (flat_map (part_of (laid_in table W 0 is)) (materials_of (laid_in table W 0 is))) parts
  pub ranges_are : ranges' ≡ written (ranges_from (laid_in table W 0 is) [] (laid_in table W 0 is)) ranges
  pub failures_are : failures' ≡ written (flat_map failure_numbers (flat_map (failed_of box) (shapes table ps is))) failures
  pub vertices_count : r.vertices ≡ t.vertices
  pub indices_count : r.indices ≡ t.indices
  pub parts_count : r.parts ≡ length (materials_of (laid_in table W 0 is))
  pub ranges_count : r.ranges ≡ length (accepted_rows (decisions_in table W 0) (rows_of table))
  pub failures_count : r.failures ≡ length (flat_map (failed_of box) (shapes table ps is))
  pub counts_are : counts_of_mesh r ≡ counts_of bits (numbers_by (judged_in table W 0) ps) (runs_of (laid_in table W 0 is))
  pub closed_is : r.closed ≡ closed_mesh (numbers_by (judged_in table W 0) ps) (runs_of (laid_in table W 0 is))
  pub rest : drop (16 * length is + 16 * m + 4 * t.vertices) E ≡ drop (16 * length is + 16 * m + 4 * t.vertices) W
