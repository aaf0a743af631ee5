-- `alone::alone::farthest_alone` meets its contract. Assumes nothing.
use Rattle.std.proofs.Common.{◌≡◌, ◌∙◌, rules, Err}
use Rattle.refusals.specs.Numbers.{numbered, number}
use Rattle.refusals.specs.Laws.{none_failing, number_nonzero}
use Rattle.patch_alone.proofs.AloneLaws.{farthest_refused, farthest_answered}
use Rattle.patch_alone.proofs.alone.farthest_alone.Goals as goal

pub returns-in_err-lone_failing : goal.returns-in_err-lone_failing
returns-in_err-lone_failing c =
    let told : numbered c.from_residual.result ≡ Err (number c.in_err-lone_failing.field-0.0) = search rules in
    told ∙ farthest_refused _ _ _ c.in_err-lone_failing.ensures _ (number_nonzero c.in_err-lone_failing.field-0.0)

pub returns : goal.returns
returns c = farthest_answered _ _ _ c.lone_failing.ensures _ (none_failing c.in_ok-lone_failing.was) c.farthest.ensures
