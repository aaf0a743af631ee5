-- `stitch_faces::faces::copy_face_indices` meets its contract. Assumes nothing.
use Rattle.stitch_faces.proofs.FaceLaws.{face_copied}
use borrow.Author.Rules.{rules}
use Rattle.stitch_faces.proofs.faces.copy_face_indices.Goals as goal

pub returns : goal.returns
returns c = search (rules, face_copied)
