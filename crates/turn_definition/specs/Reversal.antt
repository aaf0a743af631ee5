-- Coloured rows reversed: corners swapped and normals negated. Assumes nothing.
use Rattle.std.specs.Prelude.{◌≡◌, refl, cond, List, [], ◌∷◌, map, ℕ, length, eqb}
use Rattle.std.proofs.Common.{arith}
use Rattle.std.specs.Float.Ieee.{neg}
use Rattle.body_rows.specs.Body.{Patch}
use Rattle.turn_walk.specs.Walk.{coloured}

-- corners 1 and 2 of each triangle swapped
unfoldable pub swapped : List ℕ → List ℕ
swapped [] = []
swapped (a ∷ []) = a ∷ []
swapped (a ∷ b ∷ []) = a ∷ b ∷ []
swapped (a ∷ b ∷ c ∷ is) = a ∷ c ∷ b ∷ swapped is

-- as many as before
pub length_swapped : (is : List ℕ) → length (swapped is) ≡ length is
unfolding swapped
length_swapped [] = refl
length_swapped (a ∷ []) = refl
length_swapped (a ∷ b ∷ []) = refl
length_swapped (a ∷ b ∷ c ∷ is) = let h = length_swapped is in omega arith

-- A coloured row has corners 1 and 2 of each triangle swapped and its normals negated, those of unused vertices too.
unfoldable pub turned_patch : ℕ → Patch → Patch
turned_patch c p =
    cond (eqb c coloured) (record { row = p.row; positions = p.positions; normals = map neg p.normals; indices = swapped p.indices }) p

-- each patch by its row's colour
unfoldable pub turned_body : List ℕ → List Patch → List Patch
turned_body [] ps = ps
turned_body (c ∷ cs) [] = []
turned_body (c ∷ cs) (p ∷ ps) = turned_patch c p ∷ turned_body cs ps
