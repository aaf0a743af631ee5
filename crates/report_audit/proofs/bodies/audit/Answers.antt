-- `audit` meets its contract. Assumes nothing.
use Rattle.report_audit.proofs.BodyLaws.{area_ready, audited}
use Rattle.report_audit.proofs.bodies.audit.Goals as goal

pub audit_body-requires : goal.audit_body-requires
audit_body-requires c =
    area_ready c.total_vertices-v.ensures c.row_count-m.ensures c.requires

pub returns : goal.returns
returns c =
    audited c.total_vertices-v.ensures c.row_count-m.ensures c.audit_body.ensures
