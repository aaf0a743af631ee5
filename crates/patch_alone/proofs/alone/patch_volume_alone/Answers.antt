-- `alone::alone::patch_volume_alone` meets its contract. Assumes nothing.
use Rattle.std.proofs.Common.{◌≡◌, ◌∙◌, rules, Err}
use Rattle.refusals.specs.Numbers.{numbered, number}
use Rattle.refusals.specs.Laws.{none_failing, number_nonzero}
use Rattle.patch_alone.proofs.AloneLaws.{within_alone, volume_refused, volume_answered}
use Rattle.patch_alone.proofs.alone.patch_volume_alone.Goals as goal

pub returns-in_err-lone_failing : goal.returns-in_err-lone_failing
returns-in_err-lone_failing c =
    let told : numbered c.from_residual.result ≡ Err (number c.in_err-lone_failing.field-0.0) = search rules in
    told ∙ volume_refused _ _ _ c.in_err-lone_failing.ensures _ (number_nonzero c.in_err-lone_failing.field-0.0)

pub patch_volume-requires : goal.patch_volume-requires
patch_volume-requires c = within_alone _ _ _ c.lone_failing.ensures (none_failing c.in_ok-lone_failing.was)

pub returns : goal.returns
returns c = volume_answered _ _ _ c.lone_failing.ensures _ (none_failing c.in_ok-lone_failing.was) c.patch_volume.ensures
