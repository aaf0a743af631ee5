-- Lines of a short sheet, for the claims. Assumes nothing.
use Rattle.std.specs.Prelude.{List, ◌∷◌, ℕ}
use Rattle.sheet_digits.specs.Bytes.{bytes, lines}

-- box, sag and default, then lines
unfoldable pub sheet : List (List ℕ) → List ℕ
sheet ls =
    lines (bytes "(box 0000000000000000 0000000000000000 0000000000000000 0000000000000000 0000000000000000 0000000000000000)"
    ∷ bytes "(sag 3FD0000000000000)" ∷ bytes "(default 2)" ∷ ls)

-- a face
unfoldable pub face : List ℕ
face = bytes "(face 0 63)"

-- a vertex
unfoldable pub vertex : List ℕ
vertex = bytes "(v (p 3F800000 00000000 80000000) (n 00000000 00000000 7FC00000))"
