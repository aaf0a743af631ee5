-- `write_row` meets its contract. With the triangles before k written, their vertices and indices stand behind the row's own. Assumes nothing.
use Rattle.stitch_write.proofs.RowWriteLaws.{Writing}
use Rattle.stitch_write.proofs.write.write_row.Given as goal

abbrev pub invariant-loop-k : goal.invariant-loop-k
invariant-loop-k l = Writing l.positions l.normals l.indices l.f.sag l.f.v l.f.list l.f.count l.f.at l.f.ts l.f.flags l.base l.vertices l.from l.to l.fn.before.vertices l.fn.before.indices l.initial.w l.initial.out_positions l.initial.out_normals l.initial.out_indices l.w l.out_positions l.out_normals l.out_indices l.ends.vertices l.ends.indices l.k
