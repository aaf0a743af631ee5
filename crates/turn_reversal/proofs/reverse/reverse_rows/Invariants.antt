-- `reverse_rows` meets its contract: after row k the rows before it are as their colours say. Assumes nothing.
use Rattle.turn_reversal.proofs.ReverseRows.{Reversing}
use Rattle.turn_reversal.proofs.reverse.reverse_rows.Given as goal

abbrev pub invariant-loop-k : goal.invariant-loop-k
invariant-loop-k l = Reversing l.rows l.w l.colours l.initial.normals l.initial.indices l.k l.v l.i l.turned l.normals l.indices
