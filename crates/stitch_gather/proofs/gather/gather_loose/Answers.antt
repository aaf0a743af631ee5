-- `gather_loose` meets its contract. Assumes nothing.
use Rattle.stitch_gather.proofs.SortLaws.{clear_gatherable, loose_ready, all_gathered}
use mathlib.Core.Path.{refl}
use native.Mathlib.Omega.{arith}
use Rattle.stitch_gather.proofs.gather.gather_loose.Goals as goal

pub gather_rows-count-requires : goal.gather_rows-count-requires
gather_rows-count-requires c = search clear_gatherable

pub list_standing-requires : goal.list_standing-requires
list_standing-requires c = search loose_ready

pub returns : goal.returns
returns c =
    let pre = c.requires in
    all_gathered pre c.fill.ensures c.gather_rows-count.ensures refl (omega arith) c.list_standing.ensures (omega arith) c.sort_pairs.ensures (omega arith)
    (λ k. omega (arith, c.slice_known-5-1.given k))
