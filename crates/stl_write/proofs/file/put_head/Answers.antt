-- `put_head` meets its contract. Assumes nothing.
use Rattle.std.proofs.Common.{sym, arith, length-take-le}
use Rattle.slice_append.specs.Appended.{appended_filled}
use Rattle.stl_write.proofs.FileLaws.{head_put}
use Rattle.stl_write.proofs.file.put_head.Goals as goal

pub slice_bounds-fill-end-2 : goal.slice_bounds-fill-end-2
slice_bounds-fill-end-2 c = sym (length-take-le 80 c.args.out.now (omega arith))

pub returns : goal.returns
returns c = head_put _ (appended_filled 80 0 (c.fill.ensures.after (λ y e. e)) (omega arith)) c.put_word.ensures
