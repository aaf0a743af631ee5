-- A view of a patch's three stretches, what is read through it, and that a view of row k's stretches shows patch k. Assumes nothing.
use Rattle.std.specs.Prelude.{◌≡◌, refl, Bool, List, [], ◌∷◌, ℕ, zero, suc, ◌+◌, ◌*◌, ◌<◌, length, get_or, take, drop, Float, Result}
use Rattle.std.proofs.Common.{sym, ◌∙◌, le_of_suc-le-suc, not-suc-le-zero, arith}
use Rattle.std.specs.Borrow.{Bor}
use Rattle.body_rows.specs.Body.{Row, Patch, Triangle, patches_of, triangles_of}
use Rattle.body_rows.specs.Rows.{no_row, vertices_before, indices_before}
use Rattle.body_rows.specs.Patches.{no_patch, patch_at_lem}
use Rattle.patch_alone.specs.Answers.{answer_of}
use Rattle.patch_alone.specs.Alone.{volume_alone}
use Rattle.patch_view.specs.declared.PatchView.{PatchView}

-- the view of three lent stretches
abbrev pub view_of : Bor (List Float) → Bor (List Float) → Bor (List ℕ) → PatchView
view_of ps ns is = record { positions = ps; normals = ns; indices = is }

-- corner i of the patch's triangles
abbrev pub corner_of : PatchView → ℕ → ℕ
corner_of v i = get_or v.indices.now i 0

-- the volume of the patch alone
abbrev pub volume_of : PatchView → Bool → Result Float ℕ
volume_of v flip = answer_of (volume_alone v.positions.now v.normals.now v.indices.now flip)

-- the patch that a view shows, at its row
abbrev pub patch_in : Row → PatchView → Patch
patch_in r v = record { row = r; positions = v.positions.now; normals = v.normals.now; indices = v.indices.now }

-- v is of row k's stretches: its vertices and indices behind those of the rows before it
pub record Stretches (rows : List Row) (ps ns : List Float) (is : List ℕ) (k : ℕ) (v : PatchView) : Type 0 where
  pub row : k < length rows
  pub positions : v.positions.now ≡ take (3 * (get_or rows k no_row).vertices) (drop (3 * vertices_before rows k) ps)
  pub normals : v.normals.now ≡ take (3 * (get_or rows k no_row).vertices) (drop (3 * vertices_before rows k) ns)
  pub indices : v.indices.now ≡ take (get_or rows k no_row).indices (drop (indices_before rows k) is)

-- Then it shows patch k.
pub shows_patch : (rows : List Row) (ps ns : List Float) (is : List ℕ) (k : ℕ) (v : PatchView) → Stretches rows ps ns is k v
    → patch_in (get_or rows k no_row) v ≡ get_or (patches_of rows ps ns is) k no_patch
shows_patch rows ps ns is k v s =
    (λ j. record { row = get_or rows k no_row; positions = s.positions j; normals = s.normals j; indices = s.indices j })
    ∙ sym (patch_at_lem rows ps ns is k s.row)

-- three indices in a row, from index i on
abbrev triangle_from : List ℕ → ℕ → Triangle
triangle_from is i = record { a = get_or is i 0; b = get_or is (i + 1) 0; c = get_or is (i + 2) 0 }

-- triangle j has the indices from 3 × j on
triangle_at_lem : (is : List ℕ) (j : ℕ) (none : Triangle) → j < length (triangles_of is) → get_or (triangles_of is) j none ≡ triangle_from is (3 * j)
unfolding triangles_of
triangle_at_lem [] j none h = absurd (not-suc-le-zero h)
triangle_at_lem (a ∷ []) j none h = absurd (not-suc-le-zero h)
triangle_at_lem (a ∷ b ∷ []) j none h = absurd (not-suc-le-zero h)
triangle_at_lem (a ∷ b ∷ c ∷ is) zero none h = refl
triangle_at_lem (a ∷ b ∷ c ∷ is) (suc j) none h =
    let e0 : suc (suc (suc (3 * j))) ≡ 3 * suc j = omega arith in
    let e1 : suc (suc (suc (3 * j + 1))) ≡ 3 * suc j + 1 = omega arith in
    let e2 : suc (suc (suc (3 * j + 2))) ≡ 3 * suc j + 2 = omega arith in
    triangle_at_lem is j none (le_of_suc-le-suc h) ∙ (λ t. record { a = get_or (a ∷ b ∷ c ∷ is) (e0 t) 0; b = get_or (a ∷ b ∷ c ∷ is) (e1 t) 0; c = get_or (a ∷ b ∷ c ∷ is) (e2 t) 0 })

-- Corners 3 × j, 3 × j + 1 and 3 × j + 2 are those of triangle j.
pub corner_triangle : (v : PatchView) (j : ℕ) (none : Triangle) → j < length (triangles_of v.indices.now)
    → get_or (triangles_of v.indices.now) j none ≡ record { a = corner_of v (3 * j); b = corner_of v (3 * j + 1); c = corner_of v (3 * j + 2) }
corner_triangle v j none h = triangle_at_lem v.indices.now j none h
