-- `stitch_faces::faces::face_indices` meets its contract. Assumes nothing.
use Rattle.stitch_faces.proofs.FaceLaws.{face_new, face_old}
use borrow.Author.Rules.{rules}
use Rattle.stitch_faces.proofs.faces.face_indices.Goals as goal

pub returns-then-is_stitched : goal.returns-then-is_stitched
returns-then-is_stitched c = search (rules, face_new)

pub returns : goal.returns
returns c = search (rules, face_old)
