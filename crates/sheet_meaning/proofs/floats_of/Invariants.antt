-- `floats_of` meets its contract. Assumes nothing.
use Rattle.sheet_meaning.proofs.FloatLaws.{Floated}
use Rattle.sheet_meaning.proofs.floats_of.Given as goal

abbrev pub invariant-loop-i : goal.invariant-loop-i
invariant-loop-i l = Floated l.bits l.initial.out l.out l.i
