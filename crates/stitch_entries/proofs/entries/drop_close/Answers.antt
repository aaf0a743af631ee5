-- `drop_close` meets its contract. Assumes nothing.
use Rattle.stitch_entries.proofs.DropLaws.{keeping_none, keeping_less, keeping_more, keeping_all}
use Rattle.stitch_entries.proofs.entries.drop_close.Goals.{then-not-close_to_last, else-not-close_to_last}
use Rattle.stitch_entries.proofs.entries.drop_close.Goals as goal

pub loop-j-init : goal.loop-j-init
loop-j-init c = search keeping_none

pub loop-j-preserved : goal.loop-j-preserved
loop-j-preserved c =
    elim c.if-not-close_to_last.branch [
      | then-not-close_to_last w ↦
          rw (w.w-is, w.kept-is)
          (keeping_more c.requires c.loop-j.invariant (λ i. (c.slice_known-1.given i).fits) c.loop-j-test.true c.close_to_last.ensures w.if-not-close_to_last.true w.keep_pair.ensures)
      | else-not-close_to_last w ↦
          rw (w.w-is, w.kept-is)
          (keeping_less c.requires c.loop-j.invariant (λ i. (c.slice_known-1.given i).fits) c.loop-j-test.true c.close_to_last.ensures w.if-not-close_to_last.false)
    ]

pub returns : goal.returns
returns c = search keeping_all
