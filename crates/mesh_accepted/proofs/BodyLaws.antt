-- Laws of an accepted body: its decisions and totals, its mesh or refusal. Assumes nothing.
use Rattle.std.specs.Prelude.{Ok, Err}
use mathlib.Core.Path.{◌≡◌, refl, sym, ap, ◌∙◌, subst}
use mathlib.Core.Bool.{Bool, true, false}
use mathlib.Core.List.{List, [], ◌∷◌, map, flat_map}
use Prim.Native.Nat.{ℕ, zero, suc, ◌+◌, ◌*◌, ◌≤◌, ◌<◌}
use native.Mathlib.Nat.{not-suc-le-zero}
use native.Mathlib.Omega.{arith}
use lib.ListN.{length, get_or, take, drop, length-map}
use lib.Seq.{sets, length-sets}
use lib.Dec.{eqb}
use lib.Ieee.{Float}
use Rattle.lists.specs.Lists.{written}
use Rattle.lists.specs.Sets.{drop_sets}
use Rattle.lists.specs.Stretches.{stretch_sets, stretch_at, rest_less}
use Rattle.point_rules.specs.Points.{bits}
use Rattle.body_rows.specs.Body.{Row, Patch, rows_of, patches_of, all_vertices, work_needed, first_failing}
use Rattle.body_rows.specs.Patches.{no_patch, length_patches, shapes}
use Rattle.body_checks.specs.Accepted.{Passed, passed_rows}
use Rattle.patch_geometry.specs.declared.Aabb.{Aabb}
use Rattle.mesh_judge.specs.declared.totals.Totals.{Totals}
use Rattle.mesh_acceptance.specs.Acceptance.{Accepted, Failed, Acceptance, acceptance, accepted_vertices, accepted_indices, failure_numbers}
use Rattle.mesh_materials.specs.Materials.{bad_materials}
use Rattle.mesh_materials.specs.Small.{SmallMaterials}
use Rattle.mesh_acceptance.specs.Judged.{decision_of, Judgeable, accepted_by, decisions_in, failed_of}
use Rattle.mesh_acceptance.specs.JudgedLaws.{
  accepted_by_lem,
  failed_by_lem,
  decisions_bare,
  failed_bare,
  accepted_count,
  accepted_vertices_lem,
  accepted_indices_lem,
  accepted_few,
  decision_low,
  decision_tells,
  small_materials,
}
use Rattle.mesh_judge.specs.Totals.{TotalsReady, Totalled}
use Rattle.mesh_layout.specs.Mesh.{Laid, vertices_of, written_vertices, laid_from, materials_of, runs_of, part_of, ranges_from}
use Rattle.mesh_layout.specs.JudgedRows.{judged_in, numbers_by}
use Rattle.mesh_layout.specs.LaidLaws.{laid_by_lem, positions_by, normals_by}
use Rattle.mesh_layout.specs.Parts.{laid_in}
use Rattle.mesh_counts.specs.Counts.{counts_of, closed_mesh}
use Rattle.mesh_definition.specs.declared.MeshCounts.{MeshCounts}
use Rattle.mesh_room.specs.Slices.{MeshSlices, mesh_too_short, mesh_checks}
use Rattle.mesh_definition.specs.Assemble.{AfterAssemble, mesh_of, refuse_mesh, write_mesh, assemble_or_refuse}
use Rattle.mesh_room.specs.Room.{RoomAsked, short_by, short_is, fails_42, fails_41, fails_none, fits}
use Rattle.mesh_tables.specs.Tables.{Decided}
use Rattle.mesh_write.specs.Written.{WriteReady, MeshWritten}
use Rattle.mesh_definition.specs.Assembled.{slices_of, left_mesh, assemble_answered}
use Rattle.mesh_accepted.specs.Rows.{AssembleReady, BodyAssembled}

-- item k of a list with each item changed
item_changed : (f : Patch → ℕ) (xs : List Patch) (k : ℕ) → k < length xs → get_or (map f xs) k 0 ≡ f (get_or xs k no_patch)
item_changed f [] k h = absurd (not-suc-le-zero h)
item_changed f (x ∷ xs) zero h = refl
item_changed f (x ∷ xs) (suc k) h = item_changed f xs k (omega arith)

-- ---- 42, then 41

module _ (rows : List Row) (materials : List ℕ) (default : ℕ) (v : Acceptance) (out : MeshSlices) where
  -- the definition by the number of the first check that fails
  by_number : ℕ → AfterAssemble
  by_number n = elim (eqb n 0) [ true ↦ write_mesh v out | false ↦ refuse_mesh n out ]

  by_number_lem : assemble_or_refuse rows materials default v out ≡ by_number (first_failing (mesh_checks (length rows) materials default v.accepted out))
  unfolding assemble_or_refuse by_number
  by_number_lem = refl

  -- refused with 42
  pub refused_42 : bad_materials materials default ≡ true → left_mesh (Err 42) out ≡ assemble_answered (assemble_or_refuse rows materials default v out)
  unfolding by_number refuse_mesh
  refused_42 e = sym (ap assemble_answered (by_number_lem ∙ ap by_number (fails_42 (length rows) materials default v.accepted out e)))

  -- refused with 41
  pub refused_41 : bad_materials materials default ≡ false → mesh_too_short (length rows) v.accepted out ≡ true
      → left_mesh (Err 41) out ≡ assemble_answered (assemble_or_refuse rows materials default v out)
  unfolding by_number refuse_mesh
  refused_41 e f = sym (ap assemble_answered (by_number_lem ∙ ap by_number (fails_41 (length rows) materials default v.accepted out e f)))

  -- written
  written_is : bad_materials materials default ≡ false → mesh_too_short (length rows) v.accepted out ≡ false → assemble_or_refuse rows materials default v out ≡ write_mesh v out
  unfolding by_number
  written_is e f = by_number_lem ∙ ap by_number (fails_none (length rows) materials default v.accepted out e f)

-- ---- an accepted body

-- what the decisions ask
pub judge_ready : {table : List ℕ} {ps ns : List Float} {is W : List ℕ} {m : ℕ} {materials : List ℕ} {default : ℕ} {b : Bool} → AssembleReady table ps ns is W m → b ≡ bad_materials materials default
    → b ≡ false → Judgeable table ps is materials default W
unfolding work_needed
judge_ready {materials = materials} {default = default} g e f =
    let q = g.passed in
    record { rows = passed_rows q; all_positions = q.all_positions; all_indices_lem = q.all_indices_lem; small = small_materials materials default (sym e ∙ f); room = omega (arith, q.enough) }

module _ {table : List ℕ} {ps ns : List Float} {is W : List ℕ} {m : ℕ} (g : AssembleReady table ps ns is W m) (box : Aabb) (materials : List ℕ) (default : ℕ) where
  abbrev v : Acceptance
  v = acceptance box materials default (patches_of (rows_of table) ps ns is)

  q : Passed table ps ns is (length W)
  q = g.passed

  needed : 16 * length is + 16 * m + 4 * all_vertices (rows_of table) ≡ work_needed (rows_of table)
  unfolding work_needed
  needed = omega (arith, q.all_indices_lem, g.rows_are)

  words : 0 + length (rows_of table) ≤ length W
  words = omega (arith, q.enough, sym needed, g.rows_are)

  -- 42
  pub body_42 : (P N : List Float) (I parts ranges failures : List ℕ) {b : Bool} → b ≡ bad_materials materials default → b ≡ true
      → BodyAssembled table ps ns is box materials default P P N N I I parts parts ranges ranges failures failures W W (Err 42)
  body_42 P N I parts ranges failures e t = record { same = λ work. refused_42 (rows_of table) materials default v (slices_of P N I parts ranges failures work) (sym e ∙ t); rest = refl }

  module _ {b : Bool} (eb : b ≡ bad_materials materials default) (fb : b ≡ false) where
    small : SmallMaterials materials default
    small = small_materials materials default (sym eb ∙ fb)

    abbrev made : List ℕ
    made = map (decision_of box materials default) (shapes table ps is)

    made_long : length made ≡ length (rows_of table)
    made_long = length-map (shapes table ps is) (decision_of box materials default) ∙ length_patches (rows_of table) ps [] is

    module _ {E : List ℕ} (e : E ≡ sets W 0 made) where
      long : length E ≡ length W
      long = ap length e ∙ length-sets W 0 made

      pub passed_after : Passed table ps ns is (length E)
      passed_after = subst (λ (n : ℕ). Passed table ps ns is n) (sym long) q

      decisions_are : decisions_in table E 0 ≡ made
      decisions_are = ap (λ (ws : List ℕ). take (length (rows_of table)) (drop 0 ws)) e ∙ stretch_sets W 0 made (length (rows_of table)) made_long words

      decision_is : (k : ℕ) → k < length (rows_of table) → get_or E (0 + k) 0 ≡ decision_of box materials default (get_or (shapes table ps is) k no_patch)
      decision_is k h =
          sym (stretch_at 0 (length (rows_of table)) E k 0 h)
          ∙ ap (λ (xs : List ℕ). get_or xs k 0) decisions_are
          ∙ item_changed (decision_of box materials default) (shapes table ps is) k (omega (arith, length_patches (rows_of table) ps [] is))

      -- the decisions stand
      decided : Decided table ps ns is box E m
      decided =
          record {
            passed = passed_after;
            rows_are = g.rows_are;
            small = λ k h. subst (λ (n : ℕ). n ≤ 4294967296) (sym (decision_is k h)) (decision_low box materials default (get_or (shapes table ps is) k no_patch) small);
            others = λ k h n. decision_tells box materials default (get_or (shapes table ps is) k no_patch) (λ z. n (decision_is k h ∙ z));
          }

      -- what adding up asks
      pub totals_ready : TotalsReady table E 0
      totals_ready = record { rows = passed_rows q; room = omega (arith, words, long); few_vertices = q.vertices; few_indices = q.indices }

      -- the accepted patches are the definition's
      accepted_are : accepted_by (decisions_in table E 0) (patches_of (rows_of table) ps ns is) ≡ v.accepted
      accepted_are =
          ap (λ (ds : List ℕ). accepted_by ds (patches_of (rows_of table) ps ns is)) (decisions_are ∙ decisions_bare box materials default (rows_of table) ps [] ns is)
          ∙ accepted_by_lem box materials default (patches_of (rows_of table) ps ns is)

      failed_are : flat_map (failed_of box) (shapes table ps is) ≡ v.failed
      failed_are = failed_bare box (rows_of table) ps [] ns is ∙ failed_by_lem box materials default (patches_of (rows_of table) ps ns is)

      laid_are : laid_in table E 0 is ≡ laid_from 0 v.accepted
      laid_are = sym (laid_by_lem 0 (decisions_in table E 0) (rows_of table) ps ns is) ∙ ap (laid_from 0) accepted_are

      positions_are : numbers_by (judged_in table E 0) ps ≡ flat_map (λ a. a.patch.positions) v.accepted
      positions_are = sym (positions_by (decisions_in table E 0) (rows_of table) ps ns is) ∙ ap (flat_map (λ (a : Accepted). a.patch.positions)) accepted_are

      normals_are : numbers_by (judged_in table E 0) ns ≡ flat_map (λ a. a.patch.normals) v.accepted
      normals_are = sym (normals_by (decisions_in table E 0) (rows_of table) ps ns is) ∙ ap (flat_map (λ (a : Accepted). a.patch.normals)) accepted_are

      rest_judged : drop (work_needed (rows_of table)) E ≡ drop (work_needed (rows_of table)) W
      rest_judged = ap (drop (work_needed (rows_of table))) e ∙ drop_sets W 0 made (work_needed (rows_of table)) (omega (arith, made_long, sym needed, g.rows_are))

      module _ {t : Totals} (s : Totalled table E 0 t) where
        vertices_are : t.vertices ≡ accepted_vertices v.accepted
        vertices_are = s.vertices_are ∙ sym (accepted_vertices_lem (decisions_in table E 0) (rows_of table) ps ns is) ∙ ap accepted_vertices accepted_are

        indices_are : t.indices ≡ accepted_indices v.accepted
        indices_are = s.indices_are ∙ sym (accepted_indices_lem (decisions_in table E 0) (rows_of table) ps ns is (omega (arith, q.all_indices_lem))) ∙ ap accepted_indices accepted_are

        vertices_few : t.vertices ≤ all_vertices (rows_of table)
        vertices_few = omega (arith, s.vertices_are, accepted_few (decisions_in table E 0) (rows_of table))

        -- what check 41 asks
        pub room_asked : RoomAsked t.vertices m
        room_asked = record { few_vertices = omega (arith, vertices_few, q.vertices); few_rows = omega (arith, g.rows_are, q.rows) }

        module _ (P N : List Float) (I parts ranges failures : List ℕ) {c : Bool}
            (ec : c ≡ short_by t.vertices t.indices m (length P) (length N) (length I) (length parts) (length ranges) (length failures)) where
          short : (work : List ℕ) → c ≡ mesh_too_short (length (rows_of table)) v.accepted (slices_of P N I parts ranges failures work)
          short work =
              ec
              ∙ (λ j. short_by (vertices_are j) (indices_are j) (g.rows_are j) (length P) (length N) (length I) (length parts) (length ranges) (length failures))
              ∙ sym (short_is (length (rows_of table)) v.accepted (slices_of P N I parts ranges failures work))

          -- 41
          pub body_41 : c ≡ true → BodyAssembled table ps ns is box materials default P P N N I I parts parts ranges ranges failures failures W E (Err 41)
          body_41 h =
              record {
                same = λ work. refused_41 (rows_of table) materials default v (slices_of P N I parts ranges failures work) (sym eb ∙ fb) (sym (short work) ∙ h);
                rest = rest_judged;
              }

          -- what writing the mesh asks
          pub write_ready : c ≡ false → WriteReady table ps ns is box E m t P N I parts ranges failures
          write_ready h =
              let f = fits t.vertices t.indices m (length P) (length N) (length I) (length parts) (length ranges) (length failures) (sym ec ∙ h) in
              record {
                decided = decided;
                totals = s;
                positions_room = f.positions;
                normals_room = f.normals;
                indices_room = f.indices;
                parts_room = f.parts_fit;
                ranges_room = f.ranges_fit;
                failures_room = f.failures_fit;
              }

          -- the mesh is the definition's
          pub body_done : {X : List ℕ} {P' N' : List Float} {I' parts' ranges' failures' : List ℕ} {r : MeshCounts} → c ≡ false
              → MeshWritten table ps ns is box E X m t P P' N N' I I' parts parts' ranges ranges' failures failures' r
              → BodyAssembled table ps ns is box materials default P P' N N' I I' parts parts' ranges ranges' failures failures' W X (Ok r)
          unfolding write_mesh mesh_of vertices_of written_vertices
          body_done {X} {P'} {N'} {I'} {parts'} {ranges'} {failures'} {r} h w =
              let ce = w.counts_are ∙ (λ j. counts_of bits (positions_are j) (runs_of (laid_are j))) in
              let ev = w.vertices_count ∙ vertices_are in
              let ei = w.indices_count ∙ indices_are in
              let ep = w.parts_count ∙ ap (λ (ls : List Laid). length (materials_of ls)) laid_are in
              let er = w.ranges_count ∙ sym (accepted_count (decisions_in table E 0) (rows_of table) ps ns is) ∙ ap length accepted_are in
              let ef = w.failures_count ∙ ap length failed_are in
              let ek = w.closed_is ∙ (λ j. closed_mesh (positions_are j) (runs_of (laid_are j))) in
              let eP = w.positions_are ∙ ap (λ (xs : List Float). written xs P) positions_are in
              let eN = w.normals_are ∙ ap (λ (xs : List Float). written xs N) normals_are in
              let eI = w.indices_are ∙ ap (λ (ls : List Laid). written (runs_of ls) I) laid_are in
              let eT = w.parts_are ∙ ap (λ (ls : List Laid). written (flat_map (part_of ls) (materials_of ls)) parts) laid_are in
              let eR = w.ranges_are ∙ ap (λ (ls : List Laid). written (ranges_from ls [] ls) ranges) laid_are in
              let eF = w.failures_are ∙ ap (λ (fs : List Failed). written (flat_map failure_numbers fs) failures) failed_are in
              record {
                same = λ work.
                    (λ j. left_mesh (Ok (record {
                      vertices = ev j;
                      indices = ei j;
                      parts = ep j;
                      ranges = er j;
                      failures = ef j;
                      edges = (ce j).edges;
                      opens = (ce j).opens;
                      overs = (ce j).overs;
                      closed = ek j;
                    }))
                    (slices_of (eP j) (eN j) (eI j) (eT j) (eR j) (eF j) work))
                    ∙ sym (ap assemble_answered (written_is (rows_of table) materials default v (slices_of P N I parts ranges failures work) (sym eb ∙ fb) (sym (short work) ∙ h)));
                rest = rest_less (16 * length is + 16 * m + 4 * t.vertices) (work_needed (rows_of table)) E X w.rest (omega (arith, sym needed, vertices_few)) ∙ rest_judged;
              }
