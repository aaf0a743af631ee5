-- `stitch_nothing` meets its contract. Assumes nothing.
use Rattle.std.proofs.Common.{◌≡◌, ◌∙◌, ap, rules, Result, Err}
use Rattle.refusals.specs.Laws.{none_failing, number_nonzero}
use Rattle.stitch_accepted.proofs.CloseLaws.{nothing_refused, copy_room, nothing_done, body_told}
use Rattle.stitch_accepted.proofs.closing.stitch_nothing.Goals as goal

pub copy_body-requires : goal.copy_body-requires
copy_body-requires c =
    copy_room c.requires _ _ _ _ c.result_failing.ensures (none_failing c.in_ok-result_failing.was)

pub returns : goal.returns
returns c = nothing_done c.requires _ _ _ _ c.result_failing.ensures (none_failing c.in_ok-result_failing.was) c.copy_body.ensures

pub returns-in_err-result_failing : goal.returns-in_err-result_failing
returns-in_err-result_failing c =
    let e = c.in_err-result_failing.field-0.0 in
    let told : c.from_residual.result ≡ Err e = search rules in
    body_told told (nothing_refused c.requires _ _ _ _ c.in_err-result_failing.ensures (number_nonzero e))
