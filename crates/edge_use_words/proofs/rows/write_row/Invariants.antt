-- `write_row` meets its contract: after each triangle the words of those before it are written. Assumes nothing.
use Rattle.edge_use_words.proofs.RowLaws.{Writing}
use Rattle.edge_use_words.proofs.rows.write_row.Given as goal

abbrev pub invariant-loop-k : goal.invariant-loop-k
invariant-loop-k g l = Writing g.word_of l.indices l.initial.w l.points l.from l.to l.at l.shell l.k l.w
