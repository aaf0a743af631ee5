-- `put_facets` meets its contract. Assumes nothing.
use Rattle.stl_write.proofs.FileLaws.{Facets}
use Rattle.stl_write.proofs.file.put_facets.Given as goal

abbrev pub invariant-loop-t : goal.invariant-loop-t
invariant-loop-t l = Facets l.positions l.indices l.t l.initial.out l.out
