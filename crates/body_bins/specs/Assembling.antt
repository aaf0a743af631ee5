-- Assembling and bins: an accepted body is assembled alike whatever its bins, but for those that ranges and failures show. Assumes nothing.
use Rattle.std.specs.Prelude.{◌≡◌, refl, Bool, ◌||◌, cond, ℕ, zero, suc, ◌+◌, ◌*◌, length, drop, ltb, eqb, Float}
use Rattle.std.proofs.Common.{sym, ◌∙◌, arith}
use Rattle.std.proofs.Math.Path.{ap}
use Rattle.std.proofs.Math.Bool.{true, false}
use mathlib.Core.List.{List, [], ◌∷◌, ◌++◌, map, flat_map}
use Rattle.std.proofs.Math.Option.{Option, none, some}
use Rattle.std.proofs.lemmas.List.{length-map}
use Rattle.lists.specs.Lists.{insert_new, sum_of, written}
use Rattle.point_rules.specs.Points.{bits}
use Rattle.body_rows.specs.Body.{Row, Patch, check, rows_of, patches_of, first_failing}
use Rattle.body_refusals.specs.BodyChecks.{body_checks}
use Rattle.patch_geometry.specs.declared.Aabb.{Aabb}
use Rattle.mesh_verdicts.specs.declared.Failure.{Failure}
use Rattle.mesh_verdicts.specs.declared.Failure.TheVariants.{Empty, Upstream, Escape}
use Rattle.mesh_verdicts.specs.Failures.{failure_of}
use Rattle.mesh_materials.specs.Materials.{material_of, bad_materials}
use Rattle.mesh_acceptance.specs.Acceptance.{failure_width, Accepted, Failed, Acceptance, with_patch, acceptance, accepted_vertices, accepted_indices, failure_numbers}
use Rattle.mesh_layout.specs.Mesh.{part_width, range_width, Vertices, Laid, vertices_of, written_vertices, laid_from, materials_of, run_of, runs_of, start_of, part_of, range_of, ranges_from}
use Rattle.mesh_counts.specs.Counts.{Counts, counts_of, closed_mesh}
use Rattle.mesh_room.specs.Slices.{MeshSlices, mesh_too_short, too_short, mesh_checks}
use Rattle.mesh_definition.specs.Assemble.{AfterAssemble, mesh_of, refuse_mesh, write_mesh, cleared_mesh, assemble_or_refuse, assemble_of}
use Rattle.body_bins.specs.Covered.{covered, bin_behind_face, covered_table, cover_row, cover_patch, rows_covered, patches_covered, cleared_covered}

-- what assembling answers and leaves, with the bins of its ranges and failures covered
abbrev pub covered_mesh : AfterAssemble → AfterAssemble
covered_mesh t =
    record {
      refusal = t.refusal;
      vertices = t.vertices;
      indices = t.indices;
      parts = t.parts;
      ranges = t.ranges;
      failures = t.failures;
      counts = t.counts;
      closed = t.closed;
      slices = record {
        vertices = t.slices.vertices;
        indices = t.slices.indices;
        parts = t.slices.parts;
        ranges = covered range_width bin_behind_face t.ranges t.slices.ranges;
        failures = covered failure_width bin_behind_face t.failures t.slices.failures;
        work = t.slices.work;
      };
    }

-- ---- acceptance

-- an accepted patch, its bin covered
abbrev cover_accepted : Accepted → Accepted
cover_accepted a = record { patch = cover_patch a.patch; material = a.material }

-- a failure
abbrev cover_failed : Failed → Failed
cover_failed f = record { face = f.face; bin = 0; failure = f.failure }

-- those of a body
abbrev cover_acceptance : Acceptance → Acceptance
cover_acceptance v = record { accepted = map cover_accepted v.accepted; failed = map cover_failed v.failed }

-- covered patches are accepted or fail as the patches do
acceptance_covered : (box : Aabb) (materials : List ℕ) (default : ℕ) (patches : List Patch)
    → acceptance box materials default (map cover_patch patches) ≡ cover_acceptance (acceptance box materials default patches)
unfolding acceptance with_patch
acceptance_covered box materials default [] = refl
acceptance_covered box materials default (p ∷ ps) =
    ap (with_patch (cover_patch p) (material_of materials default p.row.face) (failure_of box p)) (acceptance_covered box materials default ps) ∙ go (failure_of box p)
  where
    go : (o : Option Failure) → with_patch (cover_patch p) (material_of materials default p.row.face) o (cover_acceptance (acceptance box materials default ps))
        ≡ cover_acceptance (with_patch p (material_of materials default p.row.face) o (acceptance box materials default ps))
    go none = refl
    go (some f) = refl

-- how many vertices the accepted patches have
vertices_accepted : (taken : List Accepted) → accepted_vertices (map cover_accepted taken) ≡ accepted_vertices taken
unfolding accepted_vertices sum_of
vertices_accepted [] = refl
vertices_accepted (a ∷ taken) = ap (λ (n : ℕ). a.patch.row.vertices + n) (vertices_accepted taken)

-- how many indices
indices_accepted : (taken : List Accepted) → accepted_indices (map cover_accepted taken) ≡ accepted_indices taken
unfolding accepted_indices sum_of
indices_accepted [] = refl
indices_accepted (a ∷ taken) = ap (λ (n : ℕ). length a.patch.indices + n) (indices_accepted taken)

-- the mesh's vertices
laid_vertices : (taken : List Accepted) → vertices_of (map cover_accepted taken) ≡ vertices_of taken
unfolding vertices_of flat_map
laid_vertices taken = λ i. record { positions = positions taken i; normals = normals taken i }
  where
    positions : (taken : List Accepted) → flat_map (λ a. a.patch.positions) (map cover_accepted taken) ≡ flat_map (λ a. a.patch.positions) taken
    positions [] = refl
    positions (a ∷ taken) = ap (λ (l : List Float). a.patch.positions ++ l) (positions taken)

    normals : (taken : List Accepted) → flat_map (λ a. a.patch.normals) (map cover_accepted taken) ≡ flat_map (λ a. a.patch.normals) taken
    normals [] = refl
    normals (a ∷ taken) = ap (λ (l : List Float). a.patch.normals ++ l) (normals taken)

-- ---- the mesh

-- a laid patch, its bin covered
abbrev cover_laid : Laid → Laid
cover_laid l = record { face = l.face; bin = 0; material = l.material; indices = l.indices }

-- covered patches laid
laid_covered : (base : ℕ) (taken : List Accepted) → laid_from base (map cover_accepted taken) ≡ map cover_laid (laid_from base taken)
unfolding laid_from
laid_covered base [] = refl
laid_covered base (a ∷ taken) =
    ap (λ (l : List Laid). record { face = a.patch.row.face; bin = 0; material = a.material; indices = map (λ i. base + i) a.patch.indices } ∷ l)
    (laid_covered (base + a.patch.row.vertices) taken)

-- their materials
materials_covered : (ls : List Laid) → materials_of (map cover_laid ls) ≡ materials_of ls
unfolding materials_of
materials_covered [] = refl
materials_covered (l ∷ ls) = ap (insert_new l.material) (materials_covered ls)

-- the run of a material
run_covered : (ls : List Laid) (m : ℕ) → run_of (map cover_laid ls) m ≡ run_of ls m
unfolding run_of flat_map
run_covered [] m = refl
run_covered (l ∷ ls) m = ap (λ (xs : List ℕ). cond (eqb l.material m) l.indices [] ++ xs) (run_covered ls m)

-- where it starts
start_covered : (ls : List Laid) (m : ℕ) → start_of (map cover_laid ls) m ≡ start_of ls m
unfolding start_of sum_of
start_covered [] m = refl
start_covered (l ∷ ls) m = ap (λ (n : ℕ). cond (ltb l.material m) (length l.indices) 0 + n) (start_covered ls m)

-- all runs
runs_covered : (ls : List Laid) → runs_of (map cover_laid ls) ≡ runs_of ls
unfolding runs_of
runs_covered ls = λ i. flat_map (λ m. run_covered ls m i) (materials_covered ls i)

-- a part
part_covered : (ls : List Laid) (m : ℕ) → part_of (map cover_laid ls) m ≡ part_of ls m
unfolding part_of
part_covered ls m = λ i. m ∷ start_covered ls m i ∷ length (run_covered ls m i) ∷ []

-- all parts
parts_covered : (ls : List Laid) → flat_map (part_of (map cover_laid ls)) (materials_of (map cover_laid ls)) ≡ flat_map (part_of ls) (materials_of ls)
parts_covered ls = λ i. flat_map (λ m. part_covered ls m i) (materials_covered ls i)

-- one laid patch more
laid_more : (ls : List Laid) (l : Laid) → map cover_laid ls ++ cover_laid l ∷ [] ≡ map cover_laid (ls ++ l ∷ [])
laid_more [] l = refl
laid_more (x ∷ ls) l = ap (λ (xs : List Laid). cover_laid x ∷ xs) (laid_more ls l)

-- the ranges of covered patches are the covered ranges
ranges_covered : (all before ls : List Laid) (rest : List ℕ)
    → covered range_width bin_behind_face (length ls) (ranges_from all before ls ++ rest) ≡ ranges_from (map cover_laid all) (map cover_laid before) (map cover_laid ls) ++ rest
unfolding ranges_from range_of covered
ranges_covered all before [] rest = refl
ranges_covered all before (l ∷ ls) rest =
    let m = l.material in
    ap (λ (xs : List ℕ). range_of (cover_laid l) (start_of all m + length (run_of before m)) ++ xs) (ranges_covered all (before ++ l ∷ []) ls rest)
    ∙ (λ i. range_of (cover_laid l) (sym (start_covered all m) i + length (sym (run_covered before m) i))
    ++ (ranges_from (map cover_laid all) (sym (laid_more before l) i) (map cover_laid ls) ++ rest))

-- the failures of covered patches are the covered failures
failures_covered : (fs : List Failed) (rest : List ℕ) → covered failure_width bin_behind_face (length fs) (flat_map failure_numbers fs ++ rest) ≡ flat_map failure_numbers (map cover_failed fs) ++ rest
unfolding flat_map covered failure_numbers
failures_covered [] rest = refl
failures_covered (f ∷ fs) rest = go f.face f.bin f.failure (failures_covered fs rest)
  where
    go : (face bin : ℕ) (g : Failure) → covered failure_width bin_behind_face (length fs) (flat_map failure_numbers fs ++ rest) ≡ flat_map failure_numbers (map cover_failed fs) ++ rest
        → covered failure_width bin_behind_face (suc (length fs)) ((failure_numbers (record { face = face; bin = bin; failure = g }) ++ flat_map failure_numbers fs) ++ rest)
        ≡ (failure_numbers (record { face = face; bin = 0; failure = g }) ++ flat_map failure_numbers (map cover_failed fs)) ++ rest
    go face bin Empty e = ap (λ (l : List ℕ). failure_numbers (record { face = face; bin = 0; failure = Empty }) ++ l) e
    go face bin (Upstream n) e = ap (λ (l : List ℕ). failure_numbers (record { face = face; bin = 0; failure = Upstream n }) ++ l) e
    go face bin (Escape r s) e = ap (λ (l : List ℕ). failure_numbers (record { face = face; bin = 0; failure = Escape r s }) ++ l) e

-- ---- the tables written

-- a table whose numbers, with a column covered, are others of the same length
covered_written : (width place n : ℕ) (xs ys old : List ℕ) → ((rest : List ℕ) → covered width place n (xs ++ rest) ≡ ys ++ rest) → length ys ≡ length xs
    → covered width place n (written xs old) ≡ written ys old
unfolding written
covered_written width place n xs ys old e l = e (drop (length xs) old) ∙ ap (λ (m : ℕ). ys ++ drop m old) (sym l)

-- a laid patch for each accepted one
laid_long : (base : ℕ) (taken : List Accepted) → length (laid_from base taken) ≡ length taken
unfolding laid_from
laid_long base [] = refl
laid_long base (a ∷ taken) = ap suc (laid_long (base + a.patch.row.vertices) taken)

-- ranges are as long as they are many
ranges_long : (all before ls : List Laid) → length (ranges_from all before ls) ≡ range_width * length ls
unfolding ranges_from range_of
ranges_long all before [] = refl
ranges_long all before (l ∷ ls) = let e = ranges_long all (before ++ l ∷ []) ls in omega arith

-- so are failures
failures_long : (fs : List Failed) → length (flat_map failure_numbers fs) ≡ failure_width * length fs
unfolding flat_map failure_numbers
failures_long [] = refl
failures_long (f ∷ fs) = go f.face f.bin f.failure (failures_long fs)
  where
    go : (face bin : ℕ) (g : Failure) → length (flat_map failure_numbers fs) ≡ failure_width * length fs
        → length (failure_numbers (record { face = face; bin = bin; failure = g }) ++ flat_map failure_numbers fs) ≡ failure_width * suc (length fs)
    go face bin Empty e = omega arith
    go face bin (Upstream n) e = omega arith
    go face bin (Escape r s) e = omega arith

-- the table of ranges
ranges_written : (taken : List Accepted) (old : List ℕ)
    → covered range_width bin_behind_face (length taken) (written (ranges_from (laid_from 0 taken) [] (laid_from 0 taken)) old)
    ≡ written (ranges_from (laid_from 0 (map cover_accepted taken)) [] (laid_from 0 (map cover_accepted taken))) old
ranges_written taken old =
    let ls = laid_from 0 taken in
    let cs = map cover_laid ls in
    ap (λ (n : ℕ). covered range_width bin_behind_face n (written (ranges_from ls [] ls) old)) (sym (laid_long 0 taken))
    ∙ covered_written range_width bin_behind_face (length ls) (ranges_from ls [] ls) (ranges_from cs [] cs) old (ranges_covered ls [] ls)
    (ranges_long cs [] cs ∙ ap (λ (n : ℕ). range_width * n) (length-map ls cover_laid) ∙ sym (ranges_long ls [] ls))
    ∙ ap (λ (l : List Laid). written (ranges_from l [] l) old) (sym (laid_covered 0 taken))

-- the table of failures
failures_written : (fs : List Failed) (old : List ℕ)
    → covered failure_width bin_behind_face (length fs) (written (flat_map failure_numbers fs) old) ≡ written (flat_map failure_numbers (map cover_failed fs)) old
failures_written fs old =
    covered_written failure_width bin_behind_face (length fs) (flat_map failure_numbers fs) (flat_map failure_numbers (map cover_failed fs)) old (failures_covered fs)
    (failures_long (map cover_failed fs) ∙ ap (λ (n : ℕ). failure_width * n) (length-map fs cover_failed) ∙ sym (failures_long fs))

-- the mesh written
mesh_written : (v : Acceptance) (out : MeshSlices) → covered_mesh (write_mesh v out) ≡ write_mesh (cover_acceptance v) out
unfolding write_mesh mesh_of
mesh_written v out =
    let taken = v.accepted in
    let ls = laid_from 0 taken in
    let laid = laid_covered 0 taken in
    let runs : runs_of ls ≡ runs_of (laid_from 0 (map cover_accepted taken)) = sym (runs_covered ls) ∙ ap runs_of (sym laid) in
    let vertices = sym (laid_vertices taken) in
    λ i. record {
      refusal = 0;
      vertices = sym (vertices_accepted taken) i;
      indices = sym (indices_accepted taken) i;
      parts = length ((sym (materials_covered ls) ∙ ap materials_of (sym laid)) i);
      ranges = sym (length-map taken cover_accepted) i;
      failures = sym (length-map v.failed cover_failed) i;
      counts = counts_of bits (vertices i).positions (runs i);
      closed = closed_mesh (vertices i).positions (runs i);
      slices = record {
        vertices = written_vertices (vertices i) out.vertices;
        indices = written (runs i) out.indices;
        parts = written ((sym (parts_covered ls) ∙ ap (λ (l : List Laid). flat_map (part_of l) (materials_of l)) (sym laid)) i) out.parts;
        ranges = ranges_written taken out.ranges i;
        failures = failures_written v.failed out.failures i;
        work = out.work;
      };
    }

-- ---- the call

-- 42 and 41 look at no bin
checks_covered : (n : ℕ) (materials : List ℕ) (default : ℕ) (taken : List Accepted) (out : MeshSlices)
    → mesh_checks n materials default (map cover_accepted taken) out ≡ mesh_checks n materials default taken out
unfolding mesh_checks mesh_too_short
checks_covered n materials default taken out =
    λ i. check 42 (bad_materials materials default)
    ∷ check 41 (too_short out.vertices (vertices_accepted taken i) || ltb (length out.indices) (indices_accepted taken i)
    || ltb (length out.parts) (part_width * n) || ltb (length out.ranges) (range_width * n) || ltb (length out.failures) (failure_width * n))
    ∷ []

-- the mesh written or refused
result_covered : (rows : List Row) (materials : List ℕ) (default : ℕ) (v : Acceptance) (out : MeshSlices)
    → covered_mesh (assemble_or_refuse rows materials default v out) ≡ assemble_or_refuse (map cover_row rows) materials default (cover_acceptance v) out
unfolding assemble_or_refuse refuse_mesh covered
result_covered rows materials default v out =
    go (eqb (first_failing (mesh_checks (length rows) materials default v.accepted out)) 0) (first_failing (mesh_checks (length rows) materials default v.accepted out))
    ∙ ap (λ (n : ℕ). elim (eqb n 0) [ true ↦ write_mesh (cover_acceptance v) out | false ↦ refuse_mesh n out ])
    (ap first_failing (sym (checks_covered (length rows) materials default v.accepted out)
    ∙ ap (λ (n : ℕ). mesh_checks n materials default (map cover_accepted v.accepted) out) (sym (length-map rows cover_row))))
  where
    go : (b : Bool) (n : ℕ) → covered_mesh (elim b [ true ↦ write_mesh v out | false ↦ refuse_mesh n out ]) ≡ elim b [ true ↦ write_mesh (cover_acceptance v) out | false ↦ refuse_mesh n out ]
    go true n = mesh_written v out
    go false n = refl

module _ (ps ns : List Float) (is : List ℕ) (box : Aabb) (materials : List ℕ) (default : ℕ) (out : MeshSlices) where
  -- rows assembled
  abbrev assemble_rows : List Row → AfterAssemble
  assemble_rows rows = assemble_or_refuse rows materials default (acceptance box materials default (patches_of rows ps ns is)) (cleared_mesh rows out)

  -- an accepted body is assembled by its rows
  accepted : (table : List ℕ) → first_failing (body_checks table ps ns is (length out.work)) ≡ 0 → assemble_of table ps ns is box materials default out ≡ assemble_rows (rows_of table)
  unfolding assemble_of
  accepted table h = ap (λ (n : ℕ). elim (eqb n 0) [ true ↦ assemble_rows (rows_of table) | false ↦ refuse_mesh n out ]) h

  -- covered rows are assembled as the rows are, with the bins of ranges and failures covered
  rows_assembled : (rows : List Row) → covered_mesh (assemble_rows rows) ≡ assemble_rows (map cover_row rows)
  unfolding cleared_mesh
  rows_assembled rows =
      let patches = patches_of rows ps ns is in
      let v = acceptance box materials default patches in
      result_covered rows materials default v (cleared_mesh rows out)
      ∙ ap (λ (work : List ℕ). assemble_or_refuse (map cover_row rows) materials default (cover_acceptance v)
      (record { vertices = out.vertices; indices = out.indices; parts = out.parts; ranges = out.ranges; failures = out.failures; work = work })) (sym (cleared_covered rows out.work))
      ∙ ap (λ (w : Acceptance). assemble_or_refuse (map cover_row rows) materials default w (cleared_mesh (map cover_row rows) out))
      (sym (acceptance_covered box materials default patches) ∙ ap (acceptance box materials default) (sym (patches_covered rows ps ns is)))

  -- Two accepted bodies that agree with the bin column covered are assembled alike: the same answer, and the same slices but for the bins that ranges and failures show.
  pub assemble_without_bins : (table other : List ℕ) → first_failing (body_checks table ps ns is (length out.work)) ≡ 0
      → first_failing (body_checks other ps ns is (length out.work)) ≡ 0 → covered_table table ≡ covered_table other
      → covered_mesh (assemble_of table ps ns is box materials default out) ≡ covered_mesh (assemble_of other ps ns is box materials default out)
  assemble_without_bins table other a b e =
      ap covered_mesh (accepted table a)
      ∙ rows_assembled (rows_of table)
      ∙ ap assemble_rows (sym (rows_covered table) ∙ ap rows_of e ∙ rows_covered other)
      ∙ sym (rows_assembled (rows_of other))
      ∙ ap covered_mesh (sym (accepted other b))
