-- `assemble` meets its contract. A body that no check refuses is assembled. Assumes nothing.
use Rattle.std.proofs.Common.{◌≡◌, ◌∙◌, sym, ap, rules, Result, Err}
use Rattle.refusals.specs.declared.Refusal.{Refusal}
use Rattle.mesh_definition.specs.declared.MeshCounts.{MeshCounts}
use Rattle.refusals.specs.Numbers.{numbered}
use Rattle.refusals.specs.Laws.{none_failing, number_nonzero}
use Rattle.body_checks.specs.Accepted.{passed}
use Rattle.mesh_definition.specs.Assembled.{left_mesh, slices_of}
use Rattle.mesh_assemble.proofs.CallLaws.{call_done, call_refused}
use Rattle.mesh_assemble.proofs.assembling.assemble.Goals as goal

pub assemble_accepted-requires : goal.assemble_accepted-requires
assemble_accepted-requires c = passed _ _ _ _ _ (sym c.first_failing.ensures ∙ none_failing c.in_ok-first_failing.was)

pub returns : goal.returns
returns c = call_done _ _ _ _ _ _ _ _ c.first_failing.ensures (none_failing c.in_ok-first_failing.was) c.assemble_accepted.ensures

pub returns-in_err-first_failing : goal.returns-in_err-first_failing
returns-in_err-first_failing c =
    let a = c.args in
    let e = c.in_err-first_failing.field-0.0 in
    let told : c.from_residual.result ≡ Err e = search rules in
    ap (λ (r : Result MeshCounts Refusal). left_mesh (numbered r) (slices_of a.mesh_positions.now a.mesh_normals.now a.mesh_indices.now a.parts.now a.ranges.now a.failures.now a.work.now)) told ∙ call_refused _ _ _ _ _ _ _ _ c.in_err-first_failing.ensures (number_nonzero e)
