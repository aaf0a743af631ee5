-- The mesh that assemble makes of an accepted body passes the checks of the STL writer. Assumes nothing.
use Rattle.std.specs.Prelude.{◌≡◌, false, not, List, [], ◌∷◌, ◌++◌, ℕ, ◌*◌, ◌%◌, ◌≤◌, length, take, drop, leb, eqb, Float}
use Rattle.std.proofs.Common.{sym, ◌∙◌, arith, length-drop, length-take-le, eqb-true}
use Rattle.std.proofs.Math.Option.{Option, none, some}
use Rattle.std.proofs.lemmas.Bool.{not-false}
use Rattle.lists.specs.Lists.{any, sum_of}
use Rattle.lists.specs.Any.{any_append}
use Rattle.lists.specs.Each.{Each}
use Rattle.lists.specs.Both.{or_left, or_right}
use Rattle.point_rules.specs.Points.{clamps}
use Rattle.body_rows.specs.Body.{Row, Patch, rows_of, patches_of, all_vertices, all_indices, first_failing}
use Rattle.body_refusals.specs.PatchChecks.{bad_indices}
use Rattle.body_refusals.specs.BodyChecks.{before_work}
use Rattle.body_checks.specs.Accepted.{clean_before}
use Rattle.patch_geometry.specs.declared.Aabb.{Aabb}
use Rattle.mesh_verdicts.specs.declared.Failure.{Failure}
use Rattle.mesh_verdicts.specs.Failures.{failure_of}
use Rattle.mesh_materials.specs.Materials.{material_of}
use Rattle.mesh_acceptance.specs.Acceptance.{Accepted, Acceptance, acceptance, with_patch, accepted_vertices, accepted_indices}
use Rattle.stl_definition.specs.File.{file_length}
use Rattle.stl_definition.specs.Write.{mesh_checks, write_of}
use Rattle.stl_definition.specs.TestLaws.{first_not, rest_not}
use Rattle.body_patch_checks.specs.PatchTests.{not_finite}
use Rattle.stl_definition.specs.CallLaws.{write_fits}
use Rattle.stl_finished.specs.Finished.{SoundPatch, SoundPatches, held_mesh, mesh_indices, finished_passes}

-- ---- the patches of a body that passed

-- each patch is sound, and together they have no more vertices and indices than the rows say
pub record SoundRows (rows : List Row) (patches : List Patch) : Type 0 where
  pub each : Each SoundPatch patches
  pub vertices : sum_of (λ p. p.row.vertices) patches ≤ all_vertices rows
  pub indices : sum_of (λ p. length p.indices) patches ≤ all_indices rows

rows_sound : (rows : List Row) (ps ns : List Float) (is : List ℕ) → length ps ≡ 3 * all_vertices rows → length ns ≡ 3 * all_vertices rows → length is ≡ all_indices rows
    → any (λ p. not (eqb (p.row.indices % 3) 0)) (patches_of rows ps ns is) ≡ false → any bad_indices (patches_of rows ps ns is) ≡ false
    → any (λ p. any not_finite (p.positions ++ p.normals)) (patches_of rows ps ns is) ≡ false → any (λ p. any clamps p.positions) (patches_of rows ps ns is) ≡ false
    → SoundRows rows (patches_of rows ps ns is)
unfolding patches_of any all_vertices all_indices sum_of bad_indices
rows_sound [] ps ns is a b c d e f g = record { each = tt; vertices = omega arith; indices = omega arith }
rows_sound (r ∷ rs) ps ns is a b c d e f g =
    let v = r.vertices in
    let n = r.indices in
    let pp = take (3 * v) ps in
    let nn = take (3 * v) ns in
    let ii = take n is in
    let i : length ii ≡ n = length-take-le n is (omega arith) in
    let m = eqb-true (n % 3) 0 (not-false (eqb (n % 3) 0) (first_not (not (eqb (n % 3) 0)) _ d)) in
    let both = sym (any_append not_finite pp nn) ∙ first_not (any not_finite (pp ++ nn)) _ f in
    let rest = rows_sound rs (drop (3 * v) ps) (drop (3 * v) ns) (drop n is) (omega (arith, length-drop (3 * v) ps)) (omega (arith, length-drop (3 * v) ns)) (omega (arith, length-drop n is))
    (rest_not (not (eqb (n % 3) 0)) _ d) (rest_not (any (λ i. leb v i) ii) _ e) (rest_not (any not_finite (pp ++ nn)) _ f) (rest_not (any clamps pp) _ g) in
    record {
      each = (
        record {
          all_positions = length-take-le (3 * v) ps (omega arith);
          all_normals = length-take-le (3 * v) ns (omega arith);
          threes = omega arith;
          inside = first_not (any (λ i. leb v i) ii) _ e;
          positions = or_left (any not_finite pp) (any not_finite nn) both;
          normals = or_right (any not_finite pp) (any not_finite nn) both;
          unclamped = first_not (any clamps pp) _ g;
        },
        rest.each,
      );
      vertices = omega (arith, rest.vertices);
      indices = omega (arith, rest.indices);
    }

-- ---- those that are accepted

-- the accepted of some patches are sound, and no more
pub record SoundMesh (patches : List Patch) (accepted : List Accepted) : Type 0 where
  pub each : SoundPatches accepted
  pub vertices : accepted_vertices accepted ≤ sum_of (λ p. p.row.vertices) patches
  pub indices : accepted_indices accepted ≤ sum_of (λ p. length p.indices) patches

one_more : (p : Patch) (m : ℕ) (o : Option Failure) (patches : List Patch) (rest : Acceptance) → SoundPatch p → SoundMesh patches rest.accepted
    → SoundMesh (p ∷ patches) (with_patch p m o rest).accepted
unfolding with_patch accepted_vertices accepted_indices sum_of
one_more p m none patches rest s q = record { each = (s, q.each); vertices = omega (arith, q.vertices); indices = omega (arith, q.indices) }
one_more p m (some f) patches rest s q = record { each = q.each; vertices = omega (arith, q.vertices); indices = omega (arith, q.indices) }

accepted_sound : (box : Aabb) (materials : List ℕ) (default : ℕ) (patches : List Patch) → Each SoundPatch patches → SoundMesh patches (acceptance box materials default patches).accepted
unfolding acceptance accepted_vertices accepted_indices sum_of
accepted_sound box materials default [] e = record { each = tt; vertices = omega arith; indices = omega arith }
accepted_sound box materials default (p ∷ patches) e =
    one_more p (material_of materials default p.row.face) (failure_of box p) patches (acceptance box materials default patches) e.0 (accepted_sound box materials default patches e.1)

-- ---- the theorem

-- the accepted patches of a body
abbrev pub accepted_of : List ℕ → List Float → List Float → List ℕ → Aabb → List ℕ → ℕ → List Accepted
accepted_of table ps ns is box materials default = (acceptance box materials default (patches_of (rows_of table) ps ns is)).accepted

module _ (table : List ℕ) (ps ns : List Float) (is : List ℕ) (box : Aabb) (materials : List ℕ) (default : ℕ) (passed : first_failing (before_work table ps ns is) ≡ 0) where
  -- The mesh of every body that passes the checks to 24 passes the writer's: only 71 can refuse it.
  pub finished_writable : let a = accepted_of table ps ns is box materials default in first_failing (mesh_checks (held_mesh a) (mesh_indices a)) ≡ 0
  finished_writable =
      let c = clean_before table ps ns is passed in
      let t = c.tabled in
      let r = rows_sound (rows_of table) ps ns is t.all_positions t.all_normals t.all_indices_lem c.patched.threes c.patched.inside c.patched.numbers c.patched.unclamped in
      let m = accepted_sound box materials default (patches_of (rows_of table) ps ns is) r.each in
      finished_passes (accepted_of table ps ns is box materials default) m.each (omega (arith, m.vertices, r.vertices, t.vertices)) (omega (arith, m.indices, r.indices, t.indices))

  -- So it is written to every slice that is long enough.
  pub finished_written : (out : List ℕ)
      → let a = accepted_of table ps ns is box materials default in file_length (mesh_indices a) ≤ length out → (write_of (held_mesh a) (mesh_indices a) out).refusal ≡ 0
  finished_written out h =
      let a = accepted_of table ps ns is box materials default in
      write_fits (held_mesh a) (mesh_indices a) out finished_writable h
