-- `stitch` meets its contract. Assumes nothing.
use Rattle.std.proofs.Common.{◌≡◌, ◌∙◌, sym, ap, rules, Result, Err}
use Rattle.refusals.specs.declared.Refusal.{Refusal}
use Rattle.stitch_definition.specs.declared.Sizes.{Sizes}
use Rattle.refusals.specs.Numbers.{numbered}
use Rattle.refusals.specs.Laws.{none_failing, number_nonzero}
use Rattle.body_checks.specs.Accepted.{passed}
use Rattle.stitch_definition.specs.Answers.{left_stitch, slices_of}
use Rattle.stitch.proofs.StitchLaws.{call_done, call_refused}
use Rattle.stitch.proofs.stitching.stitch.Goals as goal

pub stitch_accepted-requires : goal.stitch_accepted-requires
stitch_accepted-requires c = passed _ _ _ _ _ (sym c.first_failing.ensures ∙ none_failing c.in_ok-first_failing.was)

pub returns : goal.returns
returns c = call_done _ _ _ _ _ _ _ _ _ _ c.first_failing.ensures (none_failing c.in_ok-first_failing.was) c.stitch_accepted.ensures

pub returns-in_err-first_failing : goal.returns-in_err-first_failing
returns-in_err-first_failing c =
    let a = c.args in
    let e = c.in_err-first_failing.field-0.0 in
    let told : c.from_residual.result ≡ Err e = search rules in
    ap (λ (r : Result Sizes Refusal). left_stitch (numbered r) (slices_of a.out_rows.now a.out_positions.now a.out_normals.now a.out_indices.now a.work.now)) told ∙ call_refused _ _ _ _ _ _ _ _ _ _ c.in_err-first_failing.ensures (number_nonzero e)
