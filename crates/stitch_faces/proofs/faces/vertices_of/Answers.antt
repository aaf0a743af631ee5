-- `stitch_faces::faces::vertices_of` meets its contract. Past the end there is no row. Assumes nothing.
use native.Mathlib.Omega.{arith}
use Rattle.stitch_faces.proofs.FaceLaws.{no_vertices}
use Rattle.stitch_faces.proofs.faces.vertices_of.Goals as goal

pub returns : goal.returns
returns c = no_vertices _ _ (omega arith)
