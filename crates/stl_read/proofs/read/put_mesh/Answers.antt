-- `put_mesh` meets its contract. Assumes nothing.
use Rattle.std.proofs.Common.{rules, ◌*◌}
use Rattle.slice_append.specs.Appended.{appended_filled}
use Rattle.stl_read.proofs.ReadLaws.{mesh_put}
use Rattle.stl_read.proofs.read.put_mesh.Goals as goal

pub returns : goal.returns
returns c =
    mesh_put _ _ _ _ _ _ _ _ _ _ c.put_row.ensures c.put_corners.ensures (appended_filled (9 * c.args.n) _ (c.fill.ensures.after (λ y e. e)) (search rules)) c.f32_of_bits.ensures c.put_numbers.ensures
