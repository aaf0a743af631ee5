-- `put_vertices` meets its contract. Assumes nothing.
use lib.ListN.{length}
use Rattle.sheet_answer_rows.proofs.RowLaws.{Lined, corner, corners}
use Rattle.sheet_answer_rows.proofs.put_vertices.Given as goal

abbrev pub invariant-loop-position : goal.invariant-loop-position
invariant-loop-position l = Lined corner l.initial.out l.at (corners l.positions l.normals) l.out l.next (length l.yielded)
