-- What is printed of a body that has room in the smaller program, assembled: the same by both. Assumes nothing.
use Rattle.std.specs.Prelude.{Bool, cond, List, [], ◌∷◌, ◌++◌, map, ◌≡◌, ℕ, suc, ◌+◌, ◌*◌, ◌≤◌, replicate, Float}
use Rattle.std.proofs.Math.Bool.{true, false}
use Rattle.std.proofs.Math.Option.{Option, none, some}
use Rattle.std.proofs.Math.Path.{refl, ap}
use Rattle.std.proofs.Common.{sym, ◌∙◌, arith}
use borrow.Author.Tests.{eqb-true, le-ltb}
use Rattle.std.proofs.Math.Dec.{eqb}
use Rattle.std.proofs.Math.ListN.{length}
use Rattle.std.proofs.lemmas.List.{length-replicate}
use Rattle.body_rows.specs.Body.{Patch, Row, first_failing, patches_of, row_width, rows_of}
use Rattle.body_rows.specs.Patches.{length_patches}
use Rattle.body_table_checks.specs.Tabled.{Tabled}
use Rattle.patch_geometry.specs.declared.Aabb.{Aabb}
use Rattle.patch_geometry.specs.Geometry.{zero64}
use Rattle.mesh_verdicts.specs.declared.Failure.{Failure}
use Rattle.mesh_verdicts.specs.Failures.{failure_of}
use Rattle.mesh_materials.specs.Materials.{bad_materials, material_of}
use Rattle.mesh_acceptance.specs.Acceptance.{Acceptance, Accepted, acceptance, accepted_indices, accepted_vertices, failure_width, with_patch}
use Rattle.mesh_acceptance.specs.Judged.{decision_of}
use Rattle.mesh_acceptance.specs.JudgedLaws.{accepted_by_lem, accepted_few, accepted_fewer, accepted_indices_lem, accepted_vertices_lem}
use Rattle.mesh_layout.specs.MaterialLaws.{materials_few}
use Rattle.mesh_layout.specs.Mesh.{laid_from, materials_of, part_width, range_width, written_vertices}
use Rattle.mesh_room.specs.Slices.{MeshSlices, mesh_checks, mesh_too_short, too_short}
use Rattle.mesh_definition.specs.Assemble.{AfterAssemble, assemble_of, assemble_or_refuse, cleared_mesh, mesh_of, refuse_mesh, write_mesh}
use Rattle.turn_definition.specs.Orient.{AfterTurn}
use Rattle.stitch_definition.specs.Slices.{AfterStitch}
use Rattle.sheet_line_order.specs.declared.Limits.{Limits}
use Rattle.sheet_answer_text.specs.Answer.{count_text, refusal_line}
use Rattle.bench_definition.specs.Finish.{Finished, Outcome, Refused, area, mesh_slices}
use Rattle.sheet_meaning.specs.Bench.{printed}
use Rattle.sheet_meaning.specs.Printing.{count_lines, mesh_lines, sizes_of}
use Rattle.bench_agreement.specs.Answers.{or_same, or_refusal, pick, refusal_printed}
use Rattle.bench_agreement.specs.Within.{Within}
use Rattle.bench_agreement.specs.Fronts.{text_fronts, written_front}
use Rattle.bench_agreement.specs.Zeros.{acceptance_zeros, bad_zeros}
use Rattle.body_checks.specs.Accepted.{clean_before, checks_before}
use Rattle.body_refusals.specs.BodyChecks.{before_work}
use Rattle.bench_agreement.specs.Bodies.{Fitting, area_enough, fitting, fitting_large}

-- ---- the sizes of a mesh

-- no more are accepted than there are patches
accepted_long : (box : Aabb) (materials : List ℕ) (default : ℕ) (ps : List Patch) → length (acceptance box materials default ps).accepted ≤ length ps
unfolding acceptance with_patch
accepted_long box materials default [] = omega arith
accepted_long box materials default (p ∷ ps) = go (failure_of box p) (accepted_long box materials default ps)
  where
    go : (f : Option Failure) → length (acceptance box materials default ps).accepted ≤ length ps
        → length (with_patch p (material_of materials default p.row.face) f (acceptance box materials default ps)).accepted ≤ length (p ∷ ps)
    go none h = omega arith
    go (some f) h = omega arith

-- nor do more fail
failed_long : (box : Aabb) (materials : List ℕ) (default : ℕ) (ps : List Patch) → length (acceptance box materials default ps).failed ≤ length ps
unfolding acceptance with_patch
failed_long box materials default [] = omega arith
failed_long box materials default (p ∷ ps) = go (failure_of box p) (failed_long box materials default ps)
  where
    go : (f : Option Failure) → length (acceptance box materials default ps).failed ≤ length ps
        → length (with_patch p (material_of materials default p.row.face) f (acceptance box materials default ps)).failed ≤ length (p ∷ ps)
    go none h = omega arith
    go (some f) h = omega arith

-- as many are laid as are accepted
laid_long : (base : ℕ) (accepted : List Accepted) → length (laid_from base accepted) ≡ length accepted
unfolding laid_from
laid_long base [] = refl
laid_long base (a ∷ rest) = ap suc (laid_long (base + a.patch.row.vertices) rest)

-- a mesh of m rows for which a program of such limits has room
record MeshFits (limits : Limits) (m : ℕ) (v : Acceptance) : Type 0 where
  rows : m ≤ limits.rows
  vertices : accepted_vertices v.accepted ≤ limits.result_vertices
  indices : accepted_indices v.accepted ≤ limits.result_indices
  accepted : length v.accepted ≤ limits.rows
  failed : length v.failed ≤ limits.rows

mesh_fits : (limits : Limits) (box : Aabb) (materials : List ℕ) (default : ℕ) (table : List ℕ) (ps ns : List Float) (is : List ℕ) → Tabled table ps ns is → Fitting limits (rows_of table)
    → MeshFits limits (length (rows_of table)) (acceptance box materials default (patches_of (rows_of table) ps ns is))
mesh_fits limits box materials default table ps ns is t f =
    let rows = rows_of table in
    let patches = patches_of rows ps ns is in
    let ds = map (decision_of box materials default) patches in
    let are = accepted_by_lem box materials default patches in
    let long = length_patches rows ps ns is in
    record {
      rows = f.count;
      vertices = omega (arith, ap accepted_vertices are, accepted_vertices_lem ds rows ps ns is, accepted_few ds rows, f.vertices);
      indices = omega (arith, ap accepted_indices are, accepted_indices_lem ds rows ps ns is (omega (arith, t.all_indices_lem)), accepted_fewer ds rows, f.indices);
      accepted = omega (arith, accepted_long box materials default patches, f.count);
      failed = omega (arith, failed_long box materials default patches, f.count);
    }

-- ---- 42, then 41

-- the slices that assemble is lent, their work area cleared
abbrev cleared_slices : Limits → List Row → List ℕ → MeshSlices
cleared_slices limits rows work = cleared_mesh rows (mesh_slices limits work)

not_short : (limits : Limits) (m : ℕ) (v : Acceptance) (rows : List Row) (work : List ℕ) → MeshFits limits m v → mesh_too_short m v.accepted (cleared_slices limits rows work) ≡ false
unfolding mesh_too_short too_short cleared_mesh mesh_slices
not_short limits m v rows work f =
    let positions = length-replicate {A = Float} (3 * limits.result_vertices) zero64 in
    let indices = length-replicate {A = ℕ} limits.result_indices 0 in
    let parts = length-replicate {A = ℕ} (part_width * limits.rows) 0 in
    let ranges = length-replicate {A = ℕ} (range_width * limits.rows) 0 in
    let failures = length-replicate {A = ℕ} (failure_width * limits.rows) 0 in
    rw (
      le-ltb (length (replicate (3 * limits.result_vertices) zero64)) (3 * accepted_vertices v.accepted) (omega (arith, f.vertices)),
      le-ltb (length {A = ℕ} (replicate limits.result_indices 0)) (accepted_indices v.accepted) (omega (arith, f.indices)),
      le-ltb (length {A = ℕ} (replicate (part_width * limits.rows) 0)) (part_width * m) (omega (arith, f.rows)),
      le-ltb (length {A = ℕ} (replicate (range_width * limits.rows) 0)) (range_width * m) (omega (arith, f.rows)),
      le-ltb (length {A = ℕ} (replicate (failure_width * limits.rows) 0)) (failure_width * m) (omega (arith, f.rows)),
    )

-- an accepted body assembled where no slice is too short
assembled_by : (rows : List Row) (materials : List ℕ) (default : ℕ) (v : Acceptance) (out : MeshSlices) → mesh_too_short (length rows) v.accepted out ≡ false
    → assemble_or_refuse rows materials default v out ≡ pick (bad_materials materials default) (refuse_mesh 42 out) (write_mesh v out)
unfolding assemble_or_refuse mesh_checks first_failing
assembled_by rows materials default v out e =
    ap (λ (b : Bool). let n : ℕ = cond (bad_materials materials default) 42 (cond b 41 0) in pick (eqb n 0) (write_mesh v out) (refuse_mesh n out)) e ∙ go (bad_materials materials default)
  where
    go : (bad : Bool) → pick (eqb (cond bad 42 0) 0) (write_mesh v out) (refuse_mesh (cond bad 42 0) out) ≡ pick bad (refuse_mesh 42 out) (write_mesh v out)
    go true = refl
    go false = refl

-- ---- what is printed

-- what the calls give, by assemble's answer
abbrev pub ended : AfterTurn → AfterStitch → AfterAssemble → Outcome
ended t s a = pick (eqb a.refusal 0) (Finished t s a) (Refused a.refusal)

-- the text of a mesh and its counts
abbrev mesh_said : AfterTurn → AfterStitch → AfterAssemble → List ℕ
mesh_said t s a = mesh_lines a ++ count_lines t s a

checked_said : (t : AfterTurn) (s : AfterStitch) (v : Acceptance) (out : MeshSlices) (bad : Bool)
    → printed (ended t s (pick bad (refuse_mesh 42 out) (write_mesh v out))) ≡ pick bad (refusal_line 42) (mesh_said t s (write_mesh v out))
unfolding refuse_mesh write_mesh printed
checked_said t s v out true = refl
checked_said t s v out false = refl

module _ (limits : Limits) (box : Aabb) (materials : List ℕ) (default : ℕ) (table : List ℕ) (ps ns : List Float) (is work : List ℕ) (t : AfterTurn) (s : AfterStitch) where
  abbrev accepted_in : Acceptance
  accepted_in = acceptance box materials default (patches_of (rows_of table) ps ns is)

  abbrev said_in : List ℕ
  said_in = mesh_said t s (write_mesh accepted_in (cleared_slices limits (rows_of table) work))

  assembled_text_lem : (first_failing (before_work table ps ns is) ≡ 0 → Fitting limits (rows_of table)) → length work ≡ length (area limits)
      → printed (ended t s (assemble_of table ps ns is box materials default (mesh_slices limits work)))
      ≡ or_refusal (first_failing (before_work table ps ns is)) (pick (bad_materials materials default) (refusal_line 42) said_in)
  unfolding assemble_of mesh_slices refuse_mesh
  assembled_text_lem room long =
      ap
      (λ (k : ℕ). printed (ended t s (pick (eqb k 0) (assemble_or_refuse (rows_of table) materials default accepted_in (cleared_slices limits (rows_of table) work))
      (refuse_mesh k (mesh_slices limits work)))))
      (checks_before table ps ns is (length work) (λ e. omega (arith, area_enough limits (rows_of table) (room e))))
      ∙ go (first_failing (before_work table ps ns is)) refl (eqb (first_failing (before_work table ps ns is)) 0) refl
    where
      go : (k : ℕ) → first_failing (before_work table ps ns is) ≡ k → (b : Bool) → eqb k 0 ≡ b
          → printed (ended t s (pick b (assemble_or_refuse (rows_of table) materials default accepted_in (cleared_slices limits (rows_of table) work)) (refuse_mesh k (mesh_slices limits work))))
          ≡ pick b (pick (bad_materials materials default) (refusal_line 42) said_in) (refusal_line k)
      go k e true q =
          let z = e ∙ eqb-true k 0 q in
          let fits = mesh_fits limits box materials default table ps ns is (clean_before table ps ns is z).tabled (room z) in
          let out = cleared_slices limits (rows_of table) work in
          ap (λ (a : AfterAssemble). printed (ended t s a))
          (assembled_by (rows_of table) materials default accepted_in out (not_short limits (length (rows_of table)) accepted_in (rows_of table) work fits))
          ∙ checked_said t s accepted_in out (bad_materials materials default)
      go k e false q = refusal_printed _ k q

-- ---- the mesh in slices of both programs

module _ (small large : Limits) (w : Within small large) where
  lines_same : (v : Acceptance) (m : ℕ) (rows : List Row) (before after : List ℕ) → MeshFits small m v
      → mesh_lines (write_mesh v (cleared_slices large rows after)) ≡ mesh_lines (write_mesh v (cleared_slices small rows before))
  unfolding mesh_lines write_mesh written_vertices cleared_mesh mesh_slices
  lines_same v m rows before after f =
      let mesh = mesh_of v in
      let vertices : 3 * accepted_vertices v.accepted ≤ 3 * small.result_vertices = omega (arith, f.vertices) in
      let more : 3 * small.result_vertices ≤ 3 * large.result_vertices = omega (arith, w.result_vertices) in
      let parts : length (materials_of (laid_from 0 v.accepted)) ≤ small.rows = omega (arith, materials_few (laid_from 0 v.accepted), laid_long 0 v.accepted, f.accepted) in
      text_fronts (sizes_of (write_mesh v (cleared_slices small rows before))) _ _ _ _ _ _ _ _ _ _ _ _
      (written_front zero64 mesh.vertices.positions (3 * accepted_vertices v.accepted) (3 * large.result_vertices) (3 * small.result_vertices) (omega arith) vertices)
      (written_front zero64 mesh.vertices.normals (3 * accepted_vertices v.accepted) (3 * large.result_vertices) (3 * small.result_vertices) (omega arith) vertices)
      (written_front 0 mesh.indices (accepted_indices v.accepted) large.result_indices small.result_indices (omega (arith, f.indices, w.result_indices)) f.indices)
      (written_front 0 mesh.parts (part_width * length (materials_of (laid_from 0 v.accepted))) (part_width * large.rows) (part_width * small.rows) (omega (arith, w.rows)) (omega arith))
      (written_front 0 mesh.ranges (range_width * length v.accepted) (range_width * large.rows) (range_width * small.rows) (omega (arith, f.accepted, w.rows)) (omega (arith, f.accepted)))
      (written_front 0 mesh.failures (failure_width * length v.failed) (failure_width * large.rows) (failure_width * small.rows) (omega (arith, f.failed, w.rows)) (omega (arith, f.failed)))

  counts_same : (v : Acceptance) (rows : List Row) (before after : List ℕ) (t u : AfterTurn) (s r : AfterStitch) → u.turned ≡ t.turned → u.against ≡ t.against → r.splits ≡ s.splits
      → count_lines u r (write_mesh v (cleared_slices large rows after)) ≡ count_lines t s (write_mesh v (cleared_slices small rows before))
  unfolding count_lines write_mesh
  counts_same v rows before after t u s r et ea es =
      let mesh = mesh_of v in
      λ j. count_text (record {
        turned = et j;
        against = ea j;
        split = es j;
        ok = length v.accepted;
        edges = mesh.counts.edges;
        opens = mesh.counts.opens;
        overs = mesh.counts.overs;
        closed = mesh.closed;
      })

  -- A body with room in the smaller program is assembled and printed alike, though zeros follow the materials.
  pub assemble_said : (box : Aabb) (materials : List ℕ) (n default : ℕ) (table : List ℕ) (ps ns : List Float) (is before after : List ℕ) (t u : AfterTurn) (s r : AfterStitch)
      → u.turned ≡ t.turned → u.against ≡ t.against → r.splits ≡ s.splits → length table ≤ row_width * small.rows → length ps ≤ 3 * small.result_vertices → length is ≤ small.result_indices
      → length before ≡ length (area small) → length after ≡ length (area large)
      → printed (ended u r (assemble_of table ps ns is box (materials ++ replicate n 0) default (mesh_slices large after)))
      ≡ printed (ended t s (assemble_of table ps ns is box materials default (mesh_slices small before)))
  assemble_said box materials n default table ps ns is before after t u s r et ea es lt lp li lb la =
      let rows = rows_of table in
      let patches = patches_of rows ps ns is in
      let first = first_failing (before_work table ps ns is) in
      let v = acceptance box materials default patches in
      let room : first ≡ 0 → Fitting small rows = λ e. fitting small table ps ns is (clean_before table ps ns is e).tabled lt lp li in
      let text : first ≡ 0 → mesh_said u r (write_mesh (acceptance box (materials ++ replicate n 0) default patches) (cleared_slices large rows after))
      ≡ mesh_said t s (write_mesh v (cleared_slices small rows before)) =
      λ e.
      let fits = mesh_fits small box materials default table ps ns is (clean_before table ps ns is e).tabled (room e) in
      ap (λ (a : Acceptance). mesh_said u r (write_mesh a (cleared_slices large rows after))) (acceptance_zeros box materials n default patches)
      ∙ (λ j. lines_same v (length rows) rows before after fits j ++ counts_same v rows before after t u s r et ea es j) in
      assembled_text_lem large box (materials ++ replicate n 0) default table ps ns is after u r (λ e. fitting_large small large rows w (room e)) la
      ∙ or_same first _ _ (λ e j. pick (bad_zeros materials n default j) (refusal_line 42) (text e j))
      ∙ sym (assembled_text_lem small box materials default table ps ns is before t s room lb)
