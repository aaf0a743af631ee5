-- `stitch_open` meets its contract. Assumes nothing.
use Rattle.std.proofs.Common.{◌≡◌, ◌∙◌, ap, rules, arith, Result, Err}
use Rattle.refusals.specs.Numbers.{numbered}
use Rattle.refusals.specs.Laws.{none_failing, number_nonzero}
use Rattle.stitch_accepted.proofs.CloseLaws.{rows_few, preparable, open_refused, sizes_fit, open_puttable, open_done, body_told}
use Rattle.stitch_accepted.proofs.closing.stitch_open.Goals as goal

pub prepare-f-requires : goal.prepare-f-requires
prepare-f-requires c =
    preparable c.requires c.shared_slice_known-2-1.given

pub result_failing-requires : goal.result_failing-requires
result_failing-requires c =
    rows_few c.requires

pub put_body-requires : goal.put_body-requires
put_body-requires c =
    let g = c.requires in
    open_puttable g c.prepare-f.ensures c.count_splits-t.ensures _ _ _ _ c.result_failing.ensures (omega arith) (none_failing c.in_ok-result_failing.was)

pub overflow_cast-result : goal.overflow_cast-result
overflow_cast-result c =
    let r = sizes_fit c.result_failing.ensures (none_failing c.in_ok-result_failing.was) in
    omega (arith, r.vertices)

pub overflow_cast-result-2 : goal.overflow_cast-result-2
overflow_cast-result-2 c =
    let r = sizes_fit c.result_failing.ensures (none_failing c.in_ok-result_failing.was) in
    omega (arith, r.indices)

pub returns : goal.returns
returns c =
    let g = c.requires in
    open_done g c.prepare-f.ensures c.count_splits-t.ensures _ _ _ _ c.result_failing.ensures (omega arith) (none_failing c.in_ok-result_failing.was) c.put_body.ensures

pub returns-in_err-result_failing : goal.returns-in_err-result_failing
returns-in_err-result_failing c =
    let g = c.requires in
    let e = c.in_err-result_failing.field-0.0 in
    let told : c.from_residual.result ≡ Err e = search rules in
    body_told told (open_refused g c.prepare-f.ensures c.count_splits-t.ensures _ _ _ _ c.in_err-result_failing.ensures (number_nonzero e))
