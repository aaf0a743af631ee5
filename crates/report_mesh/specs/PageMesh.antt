-- The report counts of a body what assembling the same body in the same box answers (request N7). Assumes nothing.
use Rattle.std.specs.Prelude.{◌≡◌, Bool, ℕ, ◌+◌, ◌*◌, ◌/◌, ◌%◌, take, drop, Ok, Err}
use Rattle.std.proofs.Math.Path.{refl, sym, ap}
use Rattle.std.proofs.Common.{◌∙◌, subst, eqb-true}
use Rattle.std.proofs.Math.Bool.{true, false}
use mathlib.Core.List.{List, [], ◌∷◌, flat_map}
use Rattle.std.proofs.Math.Option.{Option, none}
use native.Mathlib.Omega.{arith}
use Rattle.std.proofs.Math.ListN.{length}
use Rattle.std.proofs.Math.Seq.{take_at}
use Rattle.std.proofs.Math.Dec.{eqb}
use Rattle.std.proofs.lemmas.Bool.{not-false}
use Rattle.lists.specs.Lists.{count_if, sum_of, written}
use Rattle.lists.specs.Each.{Each, each_then}
use Rattle.point_rules.specs.Rule.{Rule}
use Rattle.body_rows.specs.Body.{Patch, rows_of, triangles_of, first_failing, cleared}
use Rattle.body_refusals.specs.TableChecks.{bad_row}
use Rattle.body_refusals.specs.BodyChecks.{body_checks}
use Rattle.body_checks.specs.Accepted.{CleanBefore, clean_before, before_passed}
use Rattle.body_passing.specs.Flat.{Whole}
use Rattle.body_passing.specs.Passing.{Passing, no_refusal, accepted_passes, accepted_whole}
use Rattle.mesh_verdicts.specs.declared.Failure.{Failure}
use Rattle.mesh_verdicts.specs.Failures.{failure_of}
use Rattle.mesh_acceptance.specs.Acceptance.{Acceptance, acceptance, accepted_indices, failure_width, failure_numbers}
use Rattle.mesh_room.specs.Slices.{MeshSlices, mesh_checks}
use Rattle.mesh_definition.specs.Assemble.{AfterAssemble, mesh_of, refuse_mesh, write_mesh, cleared_mesh, assemble_or_refuse, assemble_of}
use Rattle.report_definition.specs.declared.Page.{Page}
use Rattle.report_definition.specs.Page.{body_sums, accepted_of}
use Rattle.report_definition.specs.Report.{Body, patches_in, faces_of_body, with_body, room_of, list_after, report_checks, AfterReport, left_report, add_or_refuse, report_of}
use Rattle.report_mesh.specs.Counted.{
  accepted_many,
  failed_many,
  vertices_many,
  triangles_many,
  kind_many,
  failures_known,
  cases_in,
  failures_long,
  Tells,
  cases_many,
  is_upstream_case,
  tells_empty,
  tells_upstream,
  tells_escape,
}

-- a body assembled in its box
abbrev pub assembled : Body → List ℕ → ℕ → MeshSlices → AfterAssemble
assembled b materials default out = assemble_of b.table b.positions b.normals b.indices b.box materials default out

-- the cases of the failures that were written: 0 for empty, 1 to 255 for upstream, 256 for an escape
abbrev pub cases_left : AfterAssemble → List ℕ
cases_left a = cases_in (take (failure_width * a.failures) a.slices.failures)

-- A page with a body added, against the page before and what assembling the body answers: its ranges are the faces accepted, its failures those failed,
-- by kind as the table of failures has them, and its mesh has the triangles and vertices.
pub record MeshAdded (a : AfterAssemble) (before after : Page) : Type 0 where
  pub accepted : after.accepted ≡ before.accepted + a.ranges
  pub failed : after.failed ≡ before.failed + a.failures
  pub triangles : after.triangles ≡ before.triangles + a.indices / 3
  pub vertices : after.vertices ≡ before.vertices + a.vertices
  pub empty : after.empty ≡ before.empty + count_if (eqb 0) (cases_left a)
  pub upstream : after.upstream ≡ before.upstream + count_if is_upstream_case (cases_left a)
  pub escaped : after.escaped ≡ before.escaped + count_if (eqb 256) (cases_left a)

-- ---- a report that is not refused

-- a page that is answered is the page with the body added
page_answered : (rule : Rule) (page : Page) (b : Body) (list work : List ℕ) (q : Page) → (report_of rule page b list work).answer ≡ Ok q → with_body rule page b ≡ q
unfolding report_of add_or_refuse
page_answered rule page b list work q =
    first (first_failing (body_checks b.table b.positions b.normals b.indices (length work)))
    (eqb (first_failing (body_checks b.table b.positions b.normals b.indices (length work))) 0)
  where
    IsPage : AfterReport → Type 0
    IsPage t = t.answer ≡ Ok q → with_body rule page b ≡ q

    zeros : List ℕ
    zeros = cleared (rows_of b.table) work

    listed : List ℕ
    listed = list_after page.listed (faces_of_body rule b) list

    second : (n : ℕ) (c : Bool) → IsPage (elim c [ true ↦ left_report (Ok (with_body rule page b)) listed zeros | false ↦ left_report (Err n) list zeros ])
    second n true e = cc
    second n false e = let z : ◌≡◌ {A = ℕ} 0 1 = cc in absurd (omega arith)

    checks : ℕ
    checks = first_failing (report_checks page (length (faces_of_body rule b)) (room_of list))

    first : (n : ℕ) (c : Bool) → IsPage (elim c [ true ↦ add_or_refuse rule page b list zeros | false ↦ left_report (Err n) list work ])
    first n true e = second checks (eqb checks 0) e
    first n false e = let z : ◌≡◌ {A = ℕ} 0 1 = cc in absurd (omega arith)

-- ---- assembling that is not refused

module _ (b : Body) (materials : List ℕ) (default : ℕ) (out : MeshSlices) where
  -- the accepted patches and the failures
  abbrev verdicts : Acceptance
  verdicts = acceptance b.box materials default (patches_in b)

  -- the slices with the words of 31 cleared
  abbrev zeros : MeshSlices
  zeros = cleared_mesh (rows_of b.table) out

  -- a body that was accepted, and its mesh written
  record Meshed (a : AfterAssemble) : Type 0 where
    clean : CleanBefore b.table b.positions b.normals b.indices
    mesh : a ≡ write_mesh verdicts zeros

  abbrev IfMeshed : AfterAssemble → Type 0
  IfMeshed a = a.refusal ≡ 0 → Meshed a

  meshed : IfMeshed (assembled b materials default out)
  unfolding assemble_of refuse_mesh assemble_or_refuse
  meshed =
      first (first_failing (body_checks b.table b.positions b.normals b.indices (length out.work)))
      (eqb (first_failing (body_checks b.table b.positions b.normals b.indices (length out.work))) 0) refl
      (λ e. clean_before b.table b.positions b.normals b.indices (before_passed b.table b.positions b.normals b.indices (length out.work) e))
    where
      second : (n : ℕ) (c : Bool) → eqb n 0 ≡ c → CleanBefore b.table b.positions b.normals b.indices
          → IfMeshed (elim c [ true ↦ write_mesh verdicts zeros | false ↦ refuse_mesh n zeros ])
      second n true e c r = record { clean = c; mesh = refl }
      second n false e c r = no_refusal n e r

      checks : ℕ
      checks = first_failing (mesh_checks (length (rows_of b.table)) materials default verdicts.accepted zeros)

      first : (n : ℕ) (c : Bool) → eqb n 0 ≡ c → (n ≡ 0 → CleanBefore b.table b.positions b.normals b.indices)
          → IfMeshed (elim c [ true ↦ assemble_or_refuse (rows_of b.table) materials default verdicts zeros | false ↦ refuse_mesh n out ])
      first n true e c r = second checks (eqb checks 0) refl (c (eqb-true n 0 e)) r
      first n false e c r = no_refusal n e r

  -- what stands in the table of failures
  failures_left : {a : AfterAssemble} → Meshed a → cases_left a ≡ cases_in (flat_map failure_numbers verdicts.failed)
  unfolding write_mesh mesh_of written
  failures_left {a} d =
      ap cases_left d.mesh
      ∙ ap cases_in (
      take_at (flat_map failure_numbers verdicts.failed) (drop (length (flat_map failure_numbers verdicts.failed)) zeros.failures) (failure_width * length verdicts.failed)
      (failures_long verdicts.failed)
      )

  -- whole triangles in every patch of an accepted body
  whole_triangles : CleanBefore b.table b.positions b.normals b.indices → Each (λ p. length p.indices % 3 ≡ 0) (patches_in b)
  whole_triangles c =
      threes (patches_in b) (accepted_passes b.table b.positions b.normals b.indices c) (accepted_whole b.table b.positions b.normals b.indices c)
    where
      threes : (patches : List Patch) → Each Passing patches → Each Whole patches → Each (λ p. length p.indices % 3 ≡ 0) patches
      threes [] q w = tt
      threes (p ∷ ps) q w = (
        ap (λ (n : ℕ). n % 3) w.0.indices ∙ eqb-true (p.row.indices % 3) 0 (not-false (eqb (p.row.indices % 3) 0) q.0.part),
        threes ps q.1 w.1,
      )

  -- failures of one kind
  kinds : {k : Option Failure → Bool} {t : ℕ → Bool} → Tells k t → k none ≡ false → {a : AfterAssemble} → Meshed a
      → count_if (λ p. k (failure_of b.box p)) (patches_in b) ≡ count_if t (cases_left a)
  kinds {k} {t} h e d =
      let known =
      failures_known b.box materials default (patches_in b)
      (each_then Passing (λ p. bad_row p.row ≡ false) (λ p q. q.bad) (patches_in b) (accepted_passes b.table b.positions b.normals b.indices d.clean)) in
      kind_many b.box materials default k e (patches_in b) ∙ cases_many h verdicts.failed known ∙ ap (count_if t) (sym (failures_left d))

  -- The page with an accepted body added has what assembling that body in its box answers, whatever the materials, the default and the slices.
  pub page_mesh : (rule : Rule) (page : Page) → (assembled b materials default out).refusal ≡ 0 → MeshAdded (assembled b materials default out) page (with_body rule page b)
  unfolding body_sums write_mesh
  page_mesh rule page r =
      let d = meshed r in
      let box = b.box in
      let patches = patches_in b in
      let m = d.mesh in
      let three : 3 * sum_of (λ p. length (triangles_of p.indices)) (accepted_of box patches) ≡ accepted_indices verdicts.accepted =
      triangles_many box materials default patches (whole_triangles d.clean) in
      let third : sum_of (λ p. length (triangles_of p.indices)) (accepted_of box patches) ≡ accepted_indices verdicts.accepted / 3 = omega arith in
      record {
        accepted = ap (λ (n : ℕ). page.accepted + n) (accepted_many box materials default patches ∙ sym (ap (λ (a : AfterAssemble). a.ranges) m));
        failed = ap (λ (n : ℕ). page.failed + n) (failed_many box materials default patches ∙ sym (ap (λ (a : AfterAssemble). a.failures) m));
        triangles = ap (λ (n : ℕ). page.triangles + n) (third ∙ sym (ap (λ (a : AfterAssemble). a.indices / 3) m));
        vertices = ap (λ (n : ℕ). page.vertices + n) (vertices_many box materials default patches ∙ sym (ap (λ (a : AfterAssemble). a.vertices) m));
        empty = ap (λ (n : ℕ). page.empty + n) (kinds tells_empty refl d);
        upstream = ap (λ (n : ℕ). page.upstream + n) (kinds tells_upstream refl d);
        escaped = ap (λ (n : ℕ). page.escaped + n) (kinds tells_escape refl d);
      }

  -- So has the page that the report answers.
  pub report_mesh : (rule : Rule) (page q : Page) (list work : List ℕ) → (report_of rule page b list work).answer ≡ Ok q → (assembled b materials default out).refusal ≡ 0
      → MeshAdded (assembled b materials default out) page q
  report_mesh rule page q list work e r = subst (MeshAdded (assembled b materials default out) page) (page_answered rule page b list work q e) (page_mesh rule page r)
