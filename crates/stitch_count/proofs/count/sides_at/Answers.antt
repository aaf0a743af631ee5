-- `sides_at` meets its contract. Assumes nothing.
use Rattle.stitch_count.proofs.CountLaws.{third_edge, sides_made}
use Rattle.stitch_count.proofs.count.sides_at.Goals as goal

pub edge_between-requires-3 : goal.edge_between-requires-3
edge_between-requires-3 c =
    third_edge c.requires c.corner-a.ensures c.corner-b.ensures c.corner-c.ensures

pub returns : goal.returns
returns c =
    sides_made c.requires c.corner-a.ensures c.corner-b.ensures c.corner-c.ensures c.edge_between.ensures c.edge_between-2.ensures c.edge_between-3.ensures
