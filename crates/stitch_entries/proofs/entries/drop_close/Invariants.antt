-- `drop_close` meets its contract. Assumes nothing.
use Rattle.stitch_entries.proofs.DropLaws.{Keeping}
use Rattle.stitch_entries.proofs.entries.drop_close.Given as goal

abbrev pub invariant-loop-j : goal.invariant-loop-j
invariant-loop-j l = Keeping l.at l.ts l.count l.initial.w l.kept l.j l.w
