-- Laws of writing runs, parts, ranges and failures. Assumes nothing.
use mathlib.Core.Path.{◌≡◌, refl, sym, ap, ◌∙◌, subst}
use mathlib.Core.Bool.{Bool, cond}
use mathlib.Core.List.{List, [], ◌∷◌, ◌++◌, map, flat_map}
use Prim.Native.Nat.{ℕ, zero, suc, ◌+◌, ◌-◌, ◌*◌, ◌≤◌, ◌<◌}
use native.Mathlib.Omega.{arith}
use borrow.Author.Tests.{eq-eqb}
use lib.ListN.{length, get_or, take, drop, length-drop}
use lib.Seq.{length-take-le}
use lib.Dec.{eqb}
use lib.Ieee.{Float}
use Rattle.lists.specs.Lists.{sum_of, written}
use Rattle.lists.specs.Any.{sum_front}
use Rattle.lists.specs.Stretches.{front_at, stretch_kept, stretch_at}
use Rattle.body_rows.specs.Body.{rows_of, work_needed}
use Rattle.body_rows.specs.Rows.{row_at}
use Rattle.body_checks.specs.Accepted.{Passed, passed_rows}
use Rattle.patch_geometry.specs.declared.Aabb.{Aabb}
use Rattle.mesh_acceptance.specs.Judged.{accepted_rows, decisions_in, FailuresReady, FailuresWritten}
use Rattle.mesh_layout.specs.Mesh.{Laid, run_of, start_of, ranges_from}
use Rattle.mesh_layout.specs.JudgedRows.{JudgedRow, judged_rows, judged_in, indices_with, ranges_with}
use Rattle.mesh_layout.specs.RowLaws.{no_judged, judged_long, judged_at, sum_here}
use Rattle.mesh_layout.specs.LaidLaws.{run_by_lem, run_long, judged_indices_lem, laid_low}
use Rattle.mesh_layout.specs.MaterialLaws.{start_next, start_low}
use Rattle.mesh_layout.specs.RangeLaws.{Same, Begun, ranges_are}
use Rattle.mesh_layout.specs.Parts.{laid_in, RunsWritable, RunsWritten}
use Rattle.mesh_layout.specs.Ranges.{RangesWritable, RangesWritten}
use Rattle.mesh_tables.specs.Tables.{TablesReady, TablesWritten}

-- item k of a list's decisions
decision_at : (js : List JudgedRow) (k : ℕ) → get_or (map (λ j. j.decision) js) k 0 ≡ (get_or js k no_judged).decision
decision_at [] k = refl
decision_at (j ∷ js) zero = refl
decision_at (j ∷ js) (suc k) = decision_at js k

module _ {table : List ℕ} {ps : List Float} {is : List ℕ} {box : Aabb} {W : List ℕ} {m : ℕ} {I parts ranges failures : List ℕ} (g : TablesReady table ps is box W m I parts ranges failures) where
  abbrev q : Passed table ps g.ns is (length W)
  q = g.decided.passed

  rows_are : m ≡ length (rows_of table)
  rows_are = g.decided.rows_are

  -- there are words for four numbers a row
  words : 16 * length (rows_of table) ≤ length W
  unfolding work_needed
  words = omega (arith, q.enough)

  room : 0 + length (rows_of table) ≤ length W
  room = omega (arith, words)

  abbrev js : List JudgedRow
  js = judged_in table W 0

  abbrev ls : List Laid
  ls = laid_in table W 0 is

  -- what writing the runs asks
  pub runs_ready : RunsWritable table is W 0 m I parts
  runs_ready =
      record {
        body = record {
          rows = passed_rows q;
          all = q.all_indices_lem;
          few_vertices = q.vertices;
          few_indices = q.indices;
          below = q.inside;
          words = omega (arith, rows_are);
          room = omega (arith, rows_are, words);
        };
        small = g.decided.small;
        out_room = g.indices_room;
        parts_room = omega (arith, g.parts_room, rows_are);
      }

  module _ {E I' parts' : List ℕ} {p : ℕ} (w : RunsWritten table is W E 0 m I I' parts parts' p) where
    -- the decisions are as they were
    decision_kept : (k : ℕ) → k < length (rows_of table) → get_or E (0 + k) 0 ≡ get_or W (0 + k) 0
    decision_kept k h = front_at m (0 + k) W E 0 w.front (omega (arith, rows_are))

    decisions_kept : decisions_in table E 0 ≡ decisions_in table W 0
    decisions_kept = stretch_kept 0 (length (rows_of table)) m W E w.front (omega (arith, rows_are))

    -- an accepted row's indices end below the limit
    row_end : (k : ℕ) → k < length (rows_of table) → (get_or W (0 + k) 0 ≡ 0 → ⊥) → get_or E (m + k) 0 + (row_at table k).indices ≤ 786432
    row_end k h n =
        let d = get_or W (0 + k) 0 in
        let x = d - 1 in
        let e : d ≡ suc x = omega arith in
        let f = sum_here table W 0 room k h (λ j. cond (eqb j.decision d) j.row.indices 0) in
        let t = ap (λ (b : Bool). cond b (row_at table k).indices 0) (eq-eqb d d refl) in
        let s = sum_front (λ j. cond (eqb j.decision d) j.row.indices 0) js (k + 1) in
        let r : length (run_of ls x) ≡ indices_with d js =
        ap length (run_by_lem x 0 js is) ∙ run_long (suc x) 0 js is (omega (arith, judged_indices_lem (decisions_in table W 0) (rows_of table), q.all_indices_lem)) ∙ ap (λ (y : ℕ). indices_with y js) (sym e) in
        omega (
          arith,
          w.firsts k h n,
          f,
          t,
          s,
          r,
          start_next x ls,
          start_low (suc x) ls,
          laid_low 0 js is,
          judged_indices_lem (decisions_in table W 0) (rows_of table),
          q.indices,
        )

    -- what writing the ranges asks
    pub ranges_ready : RangesWritable table E 0 m ranges
    ranges_ready =
        record {
          rows = passed_rows q;
          words = omega (arith, room, w.long);
          firsts = omega (arith, rows_are, words, w.long);
          small = λ k h n. let l = row_end k h (λ z. n (decision_kept k h ∙ z)) in omega arith;
          room = omega (arith, g.ranges_room, rows_are);
        }

    -- what writing the failures asks
    pub failures_ready : FailuresReady table ps is box E 0 failures
    failures_ready =
        record {
          rows = passed_rows q;
          all_positions = q.all_positions;
          all_indices_lem = q.all_indices_lem;
          words = omega (arith, room, w.long);
          others = λ k h n. g.decided.others k h (λ z. n (decision_kept k h ∙ z));
          room = omega (arith, g.failures_room, rows_are);
        }

    abbrev fs : List ℕ
    fs = take (length (rows_of table)) (drop m E)

    fs_long : length fs ≡ length (rows_of table)
    fs_long = length-take-le (length (rows_of table)) (drop m E) (omega (arith, length-drop m E, rows_are, words, w.long))

    -- where each row's indices begin
    begun : Begun ls [] fs js
    begun =
        record {
          first = λ k x h e. first k x (omega (arith, h, judged_long table W 0 room)) e;
          long = omega (arith, fs_long, judged_long table W 0 room);
        }
      where
        first : (k x : ℕ) → k < length (rows_of table) → get_or (map (λ j. j.decision) js) k 0 ≡ suc x → get_or fs k 0 ≡ start_of ls x + indices_with (suc x) ([] ++ take k js)
        first k x h e =
            let d : get_or W (0 + k) 0 ≡ suc x = sym (decision_at js k ∙ ap (λ (j : JudgedRow). j.decision) (judged_at table W 0 room k h)) ∙ e in
            let y : suc x - 1 ≡ x = omega arith in
            stretch_at m (length (rows_of table)) E k 0 h
            ∙ w.firsts k h (λ z. absurd (omega arith))
            ∙ (λ i. start_of ls (d i - 1) + indices_with (d i) (take k js))
            ∙ ap (λ (n : ℕ). start_of ls n + indices_with (suc x) (take k js)) y

    none_yet : Same [] []
    unfolding run_of flat_map sum_of
    none_yet = record { size = λ n. refl }

    -- the ranges are the definition's
    ranges_same : ranges_with fs (judged_in table E 0) ≡ ranges_from ls [] ls
    ranges_same =
        ap (λ (ds : List ℕ). ranges_with fs (judged_rows ds (rows_of table))) decisions_kept
        ∙ ranges_are ls [] [] 0 fs js is none_yet begun (omega (arith, judged_indices_lem (decisions_in table W 0) (rows_of table), q.all_indices_lem))

    -- all are written
    pub tables_written : {ranges' failures' : List ℕ} {r f : ℕ} → RangesWritten table E 0 m ranges ranges' r → FailuresWritten table ps is box failures failures' f
        → TablesWritten table ps is box W E m I I' parts parts' ranges ranges' failures failures' (record { parts = p; ranges = r; failures = f })
    tables_written x y =
        let four : m + 3 * length (rows_of table) ≡ 4 * m = omega (arith, rows_are) in
        record {
          indices_are = w.indices;
          parts_are = w.parts_are;
          ranges_are = x.numbers ∙ ap (λ (ns : List ℕ). written ns ranges) ranges_same;
          failures_are = y.numbers;
          parts_count = w.count;
          ranges_count = x.count ∙ ap (λ (ds : List ℕ). length (accepted_rows ds (rows_of table))) decisions_kept;
          failures_count = y.count;
          rest = subst (λ (n : ℕ). drop n E ≡ drop n W) four w.rest;
          long = w.long;
        }
