-- `write_body` meets its contract. Assumes nothing.
use Prim.Native.Nat.{◌-◌}
use Rattle.stitch_write.proofs.BodyWriteLaws.{WritingRows}
use Rattle.stitch_write.proofs.write.write_body.Given as goal

abbrev pub invariant-loop-k : goal.invariant-loop-k
invariant-loop-k l = WritingRows l.rows l.positions l.normals l.indices l.f.sag l.f.v l.f.list l.f.count l.f.at l.f.ts l.f.flags l.initial.w l.initial.out_rows l.initial.out_positions l.initial.out_normals l.initial.out_indices l.ends.vertices l.ends.indices l.base l.i l.k l.w l.out_rows l.out_positions l.out_normals l.out_indices
