-- Laws of writing the mesh and counting its edges. Assumes nothing.
use mathlib.Core.Path.{◌≡◌, refl, sym, ap, ◌∙◌, subst}
use mathlib.Core.List.{List, []}
use Prim.Native.Nat.{ℕ, ◌+◌, ◌*◌, ◌%◌, ◌≤◌}
use native.Mathlib.Omega.{arith}
use lib.ListN.{length, take, drop}
use lib.Seq.{take_at}
use lib.Ieee.{Float}
use Rattle.lists.specs.Lists.{sum_of, written}
use Rattle.lists.specs.Stretches.{rest_less}
use Rattle.point_rules.specs.Points.{bits}
use Rattle.body_rows.specs.Body.{rows_of, all_vertices, work_needed}
use Rattle.body_rows.specs.Rows.{row_at}
use Rattle.body_checks.specs.Accepted.{Passed, passed_rows}
use Rattle.edge_uses.specs.RowUses.{Inside}
use Rattle.patch_geometry.specs.declared.Aabb.{Aabb}
use Rattle.mesh_judge.specs.declared.totals.Totals.{Totals}
use Rattle.mesh_acceptance.specs.Judged.{decisions_in}
use Rattle.mesh_acceptance.specs.JudgedLaws.{accepted_few, accepted_fewer, accepted_most}
use Rattle.mesh_layout.specs.Mesh.{Laid, runs_of}
use Rattle.mesh_layout.specs.JudgedRows.{JudgedRow, judged_in, numbers_by}
use Rattle.mesh_layout.specs.RowLaws.{judged_long}
use Rattle.mesh_layout.specs.LaidLaws.{laid_few}
use Rattle.mesh_layout.specs.MaterialLaws.{materials_few}
use Rattle.mesh_layout.proofs.RunsLong.{runs_long}
use Rattle.mesh_layout.specs.Written.{VerticesWritable, VerticesWritten}
use Rattle.mesh_layout.specs.Parts.{laid_in}
use Rattle.mesh_counts.specs.Counts.{counts_of, closed_mesh}
use Rattle.mesh_edges.specs.declared.mesh.MeshEdges.{MeshEdges}
use Rattle.mesh_edges.specs.Mesh.{MeshReady, EdgesCounted}
use Rattle.mesh_tables.specs.declared.Tables.{Tables}
use Rattle.mesh_tables.specs.Tables.{TablesReady, TablesWritten}
use Rattle.mesh_write.specs.Written.{CountReady, Counted, WriteReady, MeshWritten}
use Rattle.mesh_write.proofs.SizeLaws.{numbers_long, laid_sum, accepted_threes, failed_most}
use Rattle.mesh_write.proofs.BelowLaws.{runs_below, laid_below}

-- ---- counting

-- the mesh's counts
pub mesh_counted : {P : List Float} {I W E : List ℕ} {v n : ℕ} {r : MeshEdges} → CountReady P I W v n → EdgesCounted (take (3 * v) P) (take n I) v W r E → length (take n I) ≡ n → Counted P I W E v n r
mesh_counted {P} {I} {W} {E} {v} {n} g c l = record { counts = c.counts; closed = c.closed; rest = subst (λ (k : ℕ). drop (4 * v + 4 * k) E ≡ drop (4 * v + 4 * k) W) l c.rest }

-- a front that was written
front_written : {A : Type 0} (xs old : List A) (n : ℕ) → length xs ≡ n → take n (written xs old) ≡ xs
unfolding written
front_written xs old n e = take_at xs (drop (length xs) old) n e

-- ---- writing

module _ {table : List ℕ} {ps ns : List Float} {is : List ℕ} {box : Aabb} {W : List ℕ} {m : ℕ} {t : Totals} {P N : List Float} {I parts ranges failures : List ℕ}
    (g : WriteReady table ps ns is box W m t P N I parts ranges failures) where
  abbrev q : Passed table ps ns is (length W)
  q = g.decided.passed

  abbrev ds : List ℕ
  ds = decisions_in table W 0

  abbrev js : List JudgedRow
  js = judged_in table W 0

  abbrev ls : List Laid
  ls = laid_in table W 0 is

  rows_are : m ≡ length (rows_of table)
  rows_are = g.decided.rows_are

  needed : 16 * length is + 16 * m + 4 * all_vertices (rows_of table) ≤ length W
  unfolding work_needed
  needed = omega (arith, q.enough, q.all_indices_lem, rows_are)

  -- three numbers for each vertex
  numbers_all : (xs : List Float) → length xs ≡ 3 * all_vertices (rows_of table) → length (numbers_by js xs) ≡ 3 * t.vertices
  numbers_all xs e = numbers_long ds (rows_of table) xs (omega arith) ∙ ap (λ (n : ℕ). 3 * n) (sym g.totals.vertices_are)

  indices_sum : sum_of (λ l. length l.indices) ls ≡ t.indices
  indices_sum = laid_sum ds (rows_of table) is (omega (arith, q.all_indices_lem)) ∙ sym g.totals.indices_are

  -- as many as the limits allow
  pub vertices_low : t.vertices ≤ 262144
  vertices_low = omega (arith, g.totals.vertices_are, accepted_few ds (rows_of table), q.vertices)

  vertices_few : t.vertices ≤ all_vertices (rows_of table)
  vertices_few = omega (arith, g.totals.vertices_are, accepted_few ds (rows_of table))

  pub indices_low : t.indices ≤ 786432
  indices_low = omega (arith, g.totals.indices_are, accepted_fewer ds (rows_of table), q.indices)

  indices_few : t.indices ≤ length is
  indices_few = omega (arith, g.totals.indices_are, accepted_fewer ds (rows_of table), q.all_indices_lem)

  -- what writing the positions or the normals asks
  pub vertices_ready : {xs X : List Float} → length xs ≡ 3 * all_vertices (rows_of table) → 3 * t.vertices ≤ length X → VerticesWritable table xs W 0 X
  vertices_ready {xs} e r = record { rows = passed_rows q; all = e; words = omega (arith, needed, rows_are); room = omega (arith, numbers_all xs e) }

  -- and the tables
  pub tables_ready : TablesReady table ps is box W m I parts ranges failures
  tables_ready =
      record {
        ns = ns;
        decided = g.decided;
        indices_room = omega (arith, indices_sum, g.indices_room);
        parts_room = g.parts_room;
        ranges_room = g.ranges_room;
        failures_room = g.failures_room;
      }

  module _ {P' N' : List Float} {I' parts' ranges' failures' E : List ℕ} {b : Tables} (vp : VerticesWritten table ps W 0 P P') (vn : VerticesWritten table ns W 0 N N')
      (w : TablesWritten table ps is box W E m I I' parts parts' ranges ranges' failures failures' b) where
    -- the front of the slices is the mesh
    positions_front : take (3 * t.vertices) P' ≡ numbers_by js ps
    positions_front = ap (take (3 * t.vertices)) vp.numbers ∙ front_written (numbers_by js ps) P (3 * t.vertices) (numbers_all ps q.all_positions)

    runs_size : length (runs_of ls) ≡ t.indices
    runs_size = runs_long ls ∙ indices_sum

    indices_front : take t.indices I' ≡ runs_of ls
    indices_front = ap (take t.indices) w.indices_are ∙ front_written (runs_of ls) I t.indices runs_size

    inside_rows : Inside (rows_of table) is
    unfolding row_at
    inside_rows = record { below = λ k h j l. q.inside k j h l }

    mesh_ready : MeshReady (numbers_by js ps) (runs_of ls) t.vertices E
    unfolding row_at
    mesh_ready =
        record {
          all = numbers_all ps q.all_positions;
          few_vertices = vertices_low;
          few_indices = omega (arith, runs_size, indices_low);
          whole = ap (λ (n : ℕ). n % 3) (runs_size ∙ g.totals.indices_are) ∙ accepted_threes ds (rows_of table) q.threes;
          inside = runs_below t.vertices ls (laid_below 0 t.vertices ds (rows_of table) is inside_rows (omega (arith, g.totals.vertices_are)));
          room = omega (arith, runs_size, needed, vertices_few, indices_few, w.long);
        }

    -- what counting the mesh asks
    pub count_ready : length P' ≡ length P → length I' ≡ length I → CountReady P' I' E t.vertices t.indices
    count_ready lp li =
        record {
          positions_in = omega (arith, g.positions_room);
          indices_in = omega (arith, g.indices_room);
          mesh = subst (λ (xs : List Float). MeshReady xs (take t.indices I') t.vertices E) (sym positions_front)
              (subst (λ (ys : List ℕ). MeshReady (numbers_by js ps) ys t.vertices E) (sym indices_front) mesh_ready);
        }

    -- few parts, ranges and failures
    pub parts_low : b.parts ≤ 4096
    parts_low = omega (arith, w.parts_count, materials_few ls, laid_few 0 js is, judged_long table W 0 (omega (arith, needed, rows_are)), q.rows)

    pub ranges_low : b.ranges ≤ 4096
    ranges_low = omega (arith, w.ranges_count, accepted_most ds (rows_of table), q.rows)

    pub failures_low : b.failures ≤ 4096
    failures_low = omega (arith, w.failures_count, failed_most box (rows_of table) ps [] is, q.rows)

    -- the mesh is written
    pub mesh_written : {X : List ℕ} {c : MeshEdges} → Counted P' I' E X t.vertices t.indices c
        → MeshWritten table ps ns is box W X m t P P' N N' I I' parts parts' ranges ranges' failures failures'
        (record {
          vertices = t.vertices;
          indices = t.indices;
          parts = b.parts;
          ranges = b.ranges;
          failures = b.failures;
          edges = c.counts.edges;
          opens = c.counts.opens;
          overs = c.counts.overs;
          closed = c.closed;
        })
    mesh_written {X} k =
        record {
          positions_are = vp.numbers;
          normals_are = vn.numbers;
          indices_are = w.indices_are;
          parts_are = w.parts_are;
          ranges_are = w.ranges_are;
          failures_are = w.failures_are;
          vertices_count = refl;
          indices_count = refl;
          parts_count = w.parts_count;
          ranges_count = w.ranges_count;
          failures_count = w.failures_count;
          counts_are = k.counts ∙ (λ j. counts_of bits (positions_front j) (indices_front j));
          closed_is = k.closed ∙ (λ j. closed_mesh (positions_front j) (indices_front j));
          rest =
              rest_less (4 * t.vertices + 4 * t.indices) (16 * length is + 16 * m + 4 * t.vertices) E X k.rest (omega (arith, indices_few))
              ∙ rest_less (4 * m) (16 * length is + 16 * m + 4 * t.vertices) W E w.rest (omega arith);
        }
