-- `with_form` meets its contract. Assumes nothing.
use Rattle.sheet_reader.proofs.LineLaws.{form_ready, form_refused, form_taken}
use Rattle.sheet_reader.proofs.with_form.Goals as goal

pub returns-in-Err : goal.returns-in-Err
returns-in-Err c = form_refused _ _ _ _ _ _ _ _ c.requires _ _ c.in-Err.ensures c.refuse.ensures

pub take_up-requires : goal.take_up-requires
take_up-requires c = form_ready _ _ _ _ _ _ _ _ c.requires c.in-Ok.ensures

pub returns-in-Ok : goal.returns-in-Ok
returns-in-Ok c = form_taken _ _ _ _ _ _ _ _ c.requires c.in-Ok.ensures _ c.take_up.ensures
