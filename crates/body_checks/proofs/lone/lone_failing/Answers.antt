-- `checks::lone::lone_failing` meets its contract. Assumes nothing.
use Rattle.std.proofs.Common.{◌≡◌, ◌∙◌, rules}
use Rattle.refusals.specs.Numbers.{failing, number}
use Rattle.refusals.specs.Laws.{none_failing, number_nonzero}
use Rattle.body_checks.proofs.CheckLaws.{table_passed, lone_table_lem, lone_patch}
use Rattle.body_checks.proofs.lone.lone_failing.Goals as goal

pub returns-in_err-lone_table_failing : goal.returns-in_err-lone_table_failing
returns-in_err-lone_table_failing c =
    let told : failing c.from_residual.result ≡ number c.in_err-lone_table_failing.field-0.0 = search rules in
    told ∙ lone_table_lem _ _ _ c.in_err-lone_table_failing.ensures (number_nonzero c.in_err-lone_table_failing.field-0.0)

pub lone_patch_failing-requires : goal.lone_patch_failing-requires
lone_patch_failing-requires c = table_passed _ _ _ _ c.lone_table_failing.ensures (none_failing c.in_ok-lone_table_failing.was)

pub returns : goal.returns
returns c = lone_patch _ _ _ c.lone_table_failing.ensures (none_failing c.in_ok-lone_table_failing.was) c.lone_patch_failing.ensures
