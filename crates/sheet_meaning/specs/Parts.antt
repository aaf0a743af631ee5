-- The sheet that was read, as numbers, so that reading can be evaluated alone. Assumes nothing.
use Rattle.std.specs.Prelude.{List, [], ◌∷◌, ◌++◌, ℕ}
use Rattle.float_steps.specs.Floats.{bits64}
use Rattle.patch_geometry.specs.declared.Vec3.{Vec3}
use Rattle.sheet_line_order.specs.Reading.{State}
use Rattle.sheet_meaning.specs.Meaning.{meant}

-- the corner of a box, as bits
unfoldable pub corner : Vec3 → List ℕ
corner p = bits64 p.x ∷ bits64 p.y ∷ bits64 p.z ∷ []

-- refusal and place; box, sag and default; materials, table, positions, normals, indices
unfoldable pub state_numbers : State → List ℕ
state_numbers s =
    let x = meant s.sheet in
    (s.refusal ∷ s.place ∷ [])
    ++ corner x.box.min
    ++ corner x.box.max
    ++ (bits64 x.sag ∷ x.default ∷ [])
    ++ x.materials
    ++ x.table
    ++ x.positions
    ++ x.normals
    ++ x.indices
