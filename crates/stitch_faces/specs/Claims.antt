-- Faces of small bodies, each row's indices out of the list that holds them. Assumes nothing.
use Rattle.std.specs.Prelude.{List, [], ◌∷◌, ◌++◌, ℕ, T, Float}
use Rattle.lists.specs.Lists.{all}
use Rattle.lists.specs.Table.{Case, case, agrees}
use Rattle.float_steps.specs.Floats.{f64}
use Rattle.body_rows.specs.Given.{given_table, given_indices, K8}
use Rattle.stitch_definition.specs.Claims.{roomy, stitch_given}
use Rattle.stitch_definition.specs.Evaluation.{evaluation}
use Rattle.stitch_faces.specs.Faces.{row_indices, is_stitched, face_indices, copy_face}

-- two rows of a triangle each
before : List ℕ
before = 0 ∷ 7 ∷ 0 ∷ 3 ∷ 3 ∷ 1 ∷ 0 ∷ 8 ∷ 0 ∷ 3 ∷ 3 ∷ 2 ∷ []

-- the first with a new vertex, and what a slice holds behind them
after : List ℕ
after = 0 ∷ 7 ∷ 0 ∷ 4 ∷ 6 ∷ 1 ∷ 0 ∷ 8 ∷ 0 ∷ 3 ∷ 3 ∷ 2 ∷ 9 ∷ 9 ∷ 9 ∷ 9 ∷ 9 ∷ 9 ∷ []

-- row k of them, of the old list or the new
told : ℕ → List ℕ
told k = face_indices before after (10 ∷ 11 ∷ 12 ∷ 13 ∷ 14 ∷ 15 ∷ []) (20 ∷ 21 ∷ 22 ∷ 23 ∷ 24 ∷ 25 ∷ 26 ∷ 27 ∷ 28 ∷ 9 ∷ 9 ∷ []) k

-- 0.25
quarter : Float
quarter = f64 0x3FD0000000000000

-- row k of K8 stitched
K8-face : ℕ → List ℕ
K8-face k = let t = stitch_given K8 quarter in face_indices (given_table K8) t.slices.table (given_indices K8) t.slices.indices k

-- a stitched row has its indices in the new list, another in the old, past the end there are none; a list too short holds what it holds; a copy is cut off; K8
pub claims : List Case
claims =
    case 19 (told 0 ++ told 1 ++ told 2) (20 ∷ 21 ∷ 22 ∷ 23 ∷ 24 ∷ 25 ∷ 13 ∷ 14 ∷ 15 ∷ [])
    ∷ case 20 (row_indices before (10 ∷ 11 ∷ 12 ∷ 13 ∷ []) 1) (13 ∷ [])
    ∷ case 21 ((copy_face (1 ∷ 2 ∷ 3 ∷ []) (9 ∷ 9 ∷ [])).count ∷ (copy_face (1 ∷ 2 ∷ 3 ∷ []) (9 ∷ 9 ∷ [])).out) (3 ∷ 1 ∷ 2 ∷ [])
    ∷ case 8 (K8-face 0 ++ K8-face 1) (0 ∷ 3 ∷ 1 ∷ 0 ∷ 1 ∷ 2 ∷ 0 ∷ 1 ∷ 2 ∷ 3 ∷ 4 ∷ 5 ∷ [])
    ∷ []

-- The definitions yield each.
pub claims_hold : T (all agrees claims)
unfolding evaluation roomy stitch_given row_indices is_stitched face_indices copy_face before after told quarter K8-face claims
claims_hold = tt
