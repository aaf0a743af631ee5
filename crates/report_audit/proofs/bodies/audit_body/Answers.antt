-- `audit_body` meets its contract. Assumes nothing.
use native.Mathlib.Omega.{arith}
use Rattle.report_audit.proofs.BodyLaws.{counts_ready, rank_ready, body_audited}
use Rattle.report_audit.proofs.bodies.audit_body.Goals as goal

pub count_marks-requires : goal.count_marks-requires
count_marks-requires c =
    counts_ready c.requires c.lay_uses.ensures c.join_faces.ensures (omega arith)

pub rank_counts-requires : goal.rank_counts-requires
rank_counts-requires c =
    rank_ready c.requires c.lay_uses.ensures c.join_faces.ensures (omega arith) c.count_marks.ensures

pub returns : goal.returns
returns c =
    body_audited c.requires c.lay_uses.ensures c.join_faces.ensures (omega arith) c.count_marks.ensures c.rank_counts.ensures
