-- `mark_open` meets its contract. Assumes nothing.
use Rattle.stitch_open_edges.proofs.OpenLaws.{users_found, flags_ready, marked}
use native.Mathlib.Omega.{arith}
use Rattle.stitch_open_edges.proofs.open.mark_open.Goals as goal

pub count_edges-requires : goal.count_edges-requires
count_edges-requires c = search users_found

pub mark_uses-requires : goal.mark_uses-requires
mark_uses-requires c =
    flags_ready c.requires c.join_body.ensures (omega arith) c.count_edges.ensures (omega arith)

pub returns : goal.returns
returns c =
    marked c.requires c.join_body.ensures (omega arith) c.count_edges.ensures (omega arith) c.mark_uses.ensures (omega arith)
