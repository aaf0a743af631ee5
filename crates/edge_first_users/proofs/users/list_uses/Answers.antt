-- `list_uses` meets its contract. Assumes nothing.
use Rattle.edge_first_users.proofs.ListLaws.{rows_room, runs_room, uses_listed}
use native.Mathlib.Omega.{arith}
use Rattle.edge_first_users.proofs.users.list_uses.Goals as goal

pub list_rows-requires : goal.list_rows-requires
list_rows-requires c = search rows_room

pub list_runs-requires : goal.list_runs-requires
list_runs-requires c =
    runs_room c.requires c.first_users.ensures (omega arith) c.list_rows.ensures

pub returns : goal.returns
returns c = search uses_listed
