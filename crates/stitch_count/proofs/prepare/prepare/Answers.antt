-- `prepare` meets its contract. Assumes nothing.
use Rattle.stitch_count.proofs.PrepareLaws.{loose_gatherable, loose_orderable, all_prepared}
use mathlib.Core.Path.{refl}
use native.Mathlib.Omega.{arith}
use Rattle.stitch_count.proofs.prepare.prepare.Goals as goal

pub gather_loose-count-requires : goal.gather_loose-count-requires
gather_loose-count-requires c =
    loose_gatherable c.requires refl refl refl c.mark_open.ensures (omega arith)

pub order_loose-top-requires : goal.order_loose-top-requires
order_loose-top-requires c =
    loose_orderable c.requires refl refl refl c.mark_open.ensures (omega arith) (omega arith) (omega arith) c.gather_loose-count.ensures (omega arith)

pub returns : goal.returns
returns c =
    all_prepared c.requires refl refl refl c.mark_open.ensures (omega arith) (omega arith) (omega arith) c.gather_loose-count.ensures (omega arith) c.order_loose-top.ensures (omega arith) c.beyond_of-beyond.ensures
