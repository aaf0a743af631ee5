-- `cad_report` meets its contract. Assumes nothing.
use Rattle.cad_tess.proofs.ReportLaws.{report_left}
use Rattle.cad_tess.proofs.reports.cad_report.Goals as goal

pub returns : goal.returns
returns c = search report_left
