-- `lay_uses` meets its contract. Assumes nothing.
use native.Mathlib.Omega.{arith}
use Rattle.report_audit.proofs.BodyLaws.{uses_ready, uses_laid}
use Rattle.report_audit.proofs.bodies.lay_uses.Goals as goal

pub list_uses-requires : goal.list_uses-requires
list_uses-requires c =
    uses_ready c.requires c.join_points.ensures (omega arith) c.fill.ensures

pub returns : goal.returns
returns c =
    uses_laid c.requires c.join_points.ensures (omega arith) c.fill.ensures c.list_uses.ensures (omega arith)
