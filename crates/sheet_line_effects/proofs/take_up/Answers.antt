-- `take_up` meets its contract. Assumes nothing.
use mathlib.Core.Path.{refl}
use Rattle.sheet_lines.specs.declared.Kind.TheVariants.{Face, FaceBin, Fail, FailBin}
use Rattle.sheet_line_order.specs.Reading.{passes_limit}
use Rattle.sheet_line_effects.proofs.TakeLaws.{material_room, open_room, take_box, take_default, take_face, take_face_bin, take_fail, take_fail_bin, take_material, take_none, take_sag, take_triangle, take_vertex, triangle_room, vertex_room}
use borrow.Author.Rules.{rules}
use Rattle.sheet_line_effects.proofs.take_up.Goals as goal

pub set_material-requires : goal.set_material-requires
set_material-requires c = search (rules, material_room)

pub add_row-requires : goal.add_row-requires
unfolding passes_limit
add_row-requires c = open_room _ _ _ _ _ _ _ _ c.requires Face (λ ms x. refl) c.in-Face.is

pub add_row-requires-in-FaceBin : goal.add_row-requires-in-FaceBin
unfolding passes_limit
add_row-requires-in-FaceBin c = open_room _ _ _ _ _ _ _ _ c.requires FaceBin (λ ms x. refl) c.in-FaceBin.is

pub add_vertex-requires : goal.add_vertex-requires
add_vertex-requires c = search (rules, vertex_room)

pub add_triangle-requires : goal.add_triangle-requires
add_triangle-requires c = search (rules, triangle_room)

pub add_row-requires-in-Fail : goal.add_row-requires-in-Fail
unfolding passes_limit
add_row-requires-in-Fail c = open_room _ _ _ _ _ _ _ _ c.requires Fail (λ ms x. refl) c.in-Fail.is

pub add_row-requires-in-FailBin : goal.add_row-requires-in-FailBin
unfolding passes_limit
add_row-requires-in-FailBin c = open_room _ _ _ _ _ _ _ _ c.requires FailBin (λ ms x. refl) c.in-FailBin.is

pub returns-in-Box : goal.returns-in-Box
returns-in-Box c = search take_box

pub returns-in-Sag : goal.returns-in-Sag
returns-in-Sag c = search take_sag

pub returns-in-NoDefault : goal.returns-in-NoDefault
returns-in-NoDefault c = search take_none

pub returns-in-Default : goal.returns-in-Default
returns-in-Default c = search take_default

pub returns-in-Material : goal.returns-in-Material
returns-in-Material c = search take_material

pub returns-in-Face : goal.returns-in-Face
returns-in-Face c = search take_face

pub returns-in-FaceBin : goal.returns-in-FaceBin
returns-in-FaceBin c = search take_face_bin

pub returns-in-Vertex : goal.returns-in-Vertex
returns-in-Vertex c = search take_vertex

pub returns-in-Triangle : goal.returns-in-Triangle
returns-in-Triangle c = search take_triangle

pub returns-in-Fail : goal.returns-in-Fail
returns-in-Fail c = search take_fail

pub returns-in-FailBin : goal.returns-in-FailBin
returns-in-FailBin c = search take_fail_bin
