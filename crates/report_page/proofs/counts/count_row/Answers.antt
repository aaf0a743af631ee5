-- `count_row` meets its contract. What `row_verdict` answers tells the failure of the row's patch. Assumes nothing.
use mathlib.Core.Path.{sym, ap, ◌∙◌}
use Rattle.mesh_verdicts.specs.Verdicts.{failure_in}
use Rattle.report_page.proofs.CountLaws.{row_yes, row_no}
use Rattle.report_page.proofs.counts.count_row.Goals as goal

pub returns-in-Ok : goal.returns-in-Ok
returns-in-Ok c =
    row_yes _ (sym (ap failure_in c.in-Ok.is) ∙ c.row_verdict-verdict.ensures)
    c.indices-triangles.ensures c.vertices.ensures c.with_accepted.ensures

pub returns-in-Err : goal.returns-in-Err
returns-in-Err c = row_no _ _ _ (sym (ap failure_in c.in-Err.is) ∙ c.row_verdict-verdict.ensures) c.with_failed.ensures
