-- `count_edges` meets its contract. Assumes nothing.
use Rattle.stitch_open_edges.proofs.OpenStages.{counts_room, runs_room, uses_counted}
use native.Mathlib.Omega.{arith}
use Rattle.stitch_open_edges.proofs.open.count_edges.Goals as goal

pub count_uses-requires : goal.count_uses-requires
count_uses-requires c = search counts_room

pub list_runs-requires : goal.list_runs-requires
list_runs-requires c =
    runs_room c.requires c.first_users.ensures (omega arith) c.count_uses.ensures (omega arith)

pub returns : goal.returns
returns c =
    uses_counted c.requires c.first_users.ensures (omega arith) c.count_uses.ensures (omega arith) c.list_runs.ensures
