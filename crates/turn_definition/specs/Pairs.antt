-- Pairs of rows: a use of an edge and the first use of it, where they are on different rows. Assumes nothing.
use Rattle.std.specs.Prelude.{◌||◌, cond, List, eqb}
use Rattle.std.proofs.Math.Option.{Option, none, some}
use Rattle.lists.specs.Lists.{filter_map}
use Rattle.edge_uses.specs.Edges.{Use, skipped, first_user}
use Rattle.turn_walk.specs.Walk.{Pair}

-- A later user on another row than the first user's records a pair: agreeing if the two run oppositely.
unfoldable pub pair_of : List Use → Use → Option Pair
pair_of all u =
    let f = first_user all u in
    cond (skipped u || eqb f.row u.row) none (some (record { first = f.row; later = u.row; agreeing = eqb f.start u.end }))

-- the pairs in recorded order
unfoldable pub pairs_of : List Use → List Pair
pairs_of all = filter_map (pair_of all) all
