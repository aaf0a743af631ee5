-- A claim that says `unfolding evaluation` has every definition of this crate and of those below it computed. Assumes nothing.
use Rattle.std.specs.Prelude.{ℕ}
use Rattle.point_rules.specs.Evaluation as Points
use Rattle.body_refusals.specs.Evaluation as Bodies
use Rattle.stl_definition.specs.Bytes.{number, floats_bytes, floats_of}
use Rattle.stl_definition.specs.File.{corners_of, facet, file_of}
use Rattle.stl_definition.specs.Write.{mesh_checks, write_checks, write_of}
use Rattle.stl_definition.specs.Read.{count_of, facet_corners, file_corners, wrong_length, corner_not_finite, no_room, read_checks, numbers_from, write_corners, refuse_read, read_of}

-- every definition that computes
unfoldable pub evaluation : ℕ
unfolding Points.evaluation Bodies.evaluation number floats_bytes floats_of corners_of facet file_of mesh_checks write_checks write_of count_of facet_corners file_corners
    wrong_length corner_not_finite no_room read_checks numbers_from write_corners refuse_read read_of
evaluation = 0
