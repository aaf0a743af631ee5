-- `copy_body` meets its contract: each slice has room for all that is copied. Assumes nothing.
use Rattle.std.proofs.Common.{◌∙◌}
use Rattle.slice_front.specs.FrontLaws.{copied_whole}
use Rattle.stitch_copy.proofs.copy.copy_body.Goals as goal

pub returns : goal.returns
returns c =
    let room = c.requires in
    record {
      rows = c.copy.ensures ∙ copied_whole _ _ room.rows;
      positions = c.copy-2.ensures ∙ copied_whole _ _ room.positions;
      normals = c.copy-3.ensures ∙ copied_whole _ _ room.normals;
      indices = c.copy-4.ensures ∙ copied_whole _ _ room.indices;
    }
