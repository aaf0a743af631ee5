-- Counting the edges of a mesh in the work area. Assumes nothing.
use Rattle.std.specs.Prelude.{◌≡◌, Bool, List, map, ℕ, ◌+◌, ◌*◌, ◌%◌, ◌<◌, ◌≤◌, length, get_or, take, drop, eqb, Float}
use Rattle.lists.specs.Lists.{count_if}
use Rattle.point_rules.specs.Rule.{names}
use Rattle.point_rules.specs.Points.{bits}
use Rattle.join_definition.specs.Join.{joined}
use Rattle.body_rows.specs.Body.{triangles_of}
use Rattle.edge_uses.specs.Edges.{Use, triangle_uses}
use Rattle.edge_uses.specs.Named.{use_name}
use Rattle.mesh_tally.specs.declared.EdgeCounts.{EdgeCounts}
use Rattle.mesh_counts.specs.Counts.{closed_mesh, counts_of}
use Rattle.join_points.specs.declared.vertices.Rule.{Rule}
use Rattle.join_points.specs.Rules.{rule_of}
use Rattle.mesh_edges.specs.declared.mesh.MeshEdges.{MeshEdges}
use Rattle.mesh_tally.specs.Tally.{counts_in}

-- what counting the edges of a mesh of v vertices asks: 01's limits, whole triangles, each index of a vertex, and room
pub record MeshReady (ps : List Float) (is : List ℕ) (v : ℕ) (W : List ℕ) : Type 0 where
  pub all : length ps ≡ 3 * v
  pub few_vertices : v ≤ 262144
  pub few_indices : length is ≤ 786432
  pub whole : length is % 3 ≡ 0
  pub inside : (k : ℕ) → k < length is → get_or is k 0 < v
  pub room : 4 * v + 4 * length is ≤ length W

-- what it answers and leaves: the definition's counts by a rule, and all behind the words it needs as it was
pub record MeshCounted (rule : Rule) (ps : List Float) (is : List ℕ) (v : ℕ) (W : List ℕ) (r : EdgeCounts) (E : List ℕ) : Type 0 where
  pub counts : counts_in r ≡ counts_of (rule_of rule) ps is
  pub rest : drop (4 * v + 4 * length is) E ≡ drop (4 * v + 4 * length is) W

-- whether the mesh is closed, and all behind the words it needs as it was
pub record ClosedTold (ps : List Float) (is : List ℕ) (v : ℕ) (W : List ℕ) (r : Bool) (E : List ℕ) : Type 0 where
  pub closed : r ≡ closed_mesh ps is
  pub rest : drop (4 * v + 4 * length is) E ≡ drop (4 * v + 4 * length is) W

-- the counts of a mesh's edges and whether it is closed
pub record EdgesCounted (ps : List Float) (is : List ℕ) (v : ℕ) (W : List ℕ) (r : MeshEdges) (E : List ℕ) : Type 0 where
  pub counts : counts_in r.counts ≡ counts_of bits ps is
  pub closed : r.closed ≡ closed_mesh ps is
  pub rest : drop (4 * v + 4 * length is) E ≡ drop (4 * v + 4 * length is) W

-- the uses of edges of a mesh, its points joined by a rule
abbrev pub mesh_uses : Rule → List Float → List ℕ → List Use
mesh_uses rule ps is = triangle_uses 0 0 (joined (names (rule_of rule) ps)) (triangles_of is)

-- what naming the uses leaves: the first vertex of each point, behind the vertices' table the names, and all behind these as it was
pub record EdgesNamed (rule : Rule) (ps : List Float) (is : List ℕ) (v : ℕ) (W E : List ℕ) : Type 0 where
  pub points : take v (drop v E) ≡ joined (names (rule_of rule) ps)
  pub named : take (length is) (drop (4 * v) E) ≡ map use_name (mesh_uses rule ps is)
  pub rest : drop (4 * v + length is) E ≡ drop (4 * v + length is) W

-- what counting n names at `at` leaves: their first uses, how many have each as their first use, and all outside the 4 n words as it was
pub record FirstsCounted (at n : ℕ) (W E : List ℕ) : Type 0 where
  pub firsts : take n (drop (at + n) E) ≡ joined (take n (drop at W))
  pub count : (j : ℕ) → j < n → get_or E (at + 2 * n + j) 0 ≡ count_if (eqb j) (joined (take n (drop at W)))
  pub front : take at E ≡ take at W
  pub rest : drop (at + 4 * n) E ≡ drop (at + 4 * n) W
