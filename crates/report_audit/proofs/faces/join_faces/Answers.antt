-- `join_faces` meets its contract. Assumes nothing.
use Rattle.report_audit.proofs.FaceLaws.{faces_joined}
use Rattle.report_audit.proofs.faces.join_faces.Goals as goal

pub returns : goal.returns
returns c = search faces_joined
