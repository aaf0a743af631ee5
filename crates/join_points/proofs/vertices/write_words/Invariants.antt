-- `join_points::vertices::write_words` meets its contract. Assumes nothing.
use Rattle.join_points.proofs.Loops.{Written}
use Rattle.join_points.specs.Rules.{words_of}
use Prim.Native.Nat.{◌-◌}
use Rattle.join_points.proofs.vertices.write_words.Given as goal

abbrev pub invariant-loop-i : goal.invariant-loop-i
invariant-loop-i l = Written (words_of l.rule l.positions) l.n l.initial.w l.i l.w
