-- How many numbers the mesh of the accepted rows has. Assumes nothing.
use mathlib.Core.Path.{◌≡◌, refl, sym, ap, ◌∙◌}
use mathlib.Core.List.{List, [], ◌∷◌, flat_map}
use Prim.Native.Nat.{ℕ, zero, suc, ◌*◌, ◌%◌, ◌≤◌, ◌<◌}
use native.Mathlib.Omega.{arith}
use lib.ListN.{length, get_or, take, drop, length-append, length-drop}
use lib.Seq.{length-take-le}
use lib.Ieee.{Float}
use Rattle.lists.specs.Lists.{sum_of}
use Rattle.body_rows.specs.Body.{Row, Patch, patches_of, all_vertices, all_indices}
use Rattle.body_rows.specs.Rows.{no_row}
use Rattle.body_rows.specs.Patches.{length_patches}
use Rattle.patch_geometry.specs.declared.Aabb.{Aabb}
use Rattle.mesh_acceptance.specs.Judged.{accepted_by, accepted_rows, failed_of}
use Rattle.mesh_acceptance.specs.JudgedLaws.{accepted_indices_lem, failed_few}
use Rattle.mesh_layout.specs.Mesh.{Laid}
use Rattle.mesh_layout.specs.JudgedRows.{judged_rows, kept_if, numbers_by, laid_by}
use Rattle.mesh_layout.specs.LaidLaws.{laid_by_lem, laid_total}

-- three numbers for each vertex of the accepted rows
pub numbers_long : {A : Type 0} (ds : List ℕ) (rows : List Row) (xs : List A) → 3 * all_vertices rows ≤ length xs → length (numbers_by (judged_rows ds rows) xs) ≡ 3 * all_vertices (accepted_rows ds rows)
unfolding numbers_by judged_rows accepted_rows kept_if all_vertices sum_of
numbers_long [] rows xs h = refl
numbers_long (d ∷ ds) [] xs h = refl
numbers_long (zero ∷ ds) (r ∷ rs) xs h = numbers_long ds rs (drop (3 * r.vertices) xs) (omega (arith, length-drop (3 * r.vertices) xs))
numbers_long (suc m ∷ ds) (r ∷ rs) xs h =
    let e = numbers_long ds rs (drop (3 * r.vertices) xs) (omega (arith, length-drop (3 * r.vertices) xs)) in
    let f = length-take-le (3 * r.vertices) xs (omega arith) in
    let g = length-append (take (3 * r.vertices) xs) (numbers_by (judged_rows ds rs) (drop (3 * r.vertices) xs)) in
    omega arith

-- the indices of the laid patches are those of the accepted rows
pub laid_sum : (ds : List ℕ) (rows : List Row) (is : List ℕ) → all_indices rows ≤ length is → sum_of (λ l. length l.indices) (laid_by 0 (judged_rows ds rows) is) ≡ all_indices (accepted_rows ds rows)
laid_sum ds rows is h =
    ap (λ (ls : List Laid). sum_of (λ l. length l.indices) ls) (sym (laid_by_lem 0 ds rows [] [] is))
    ∙ laid_total 0 (accepted_by ds (patches_of rows [] [] is))
    ∙ accepted_indices_lem ds rows [] [] is h

-- the accepted rows have whole triangles, as all rows have
pub accepted_threes : (ds : List ℕ) (rows : List Row) → ((k : ℕ) → k < length rows → (get_or rows k no_row).indices % 3 ≡ 0) → all_indices (accepted_rows ds rows) % 3 ≡ 0
unfolding accepted_rows all_indices sum_of
accepted_threes [] rows h = refl
accepted_threes (d ∷ ds) [] h = refl
accepted_threes (zero ∷ ds) (r ∷ rs) h = accepted_threes ds rs (λ k l. h (suc k) (omega arith))
accepted_threes (suc m ∷ ds) (r ∷ rs) h =
    let e = accepted_threes ds rs (λ k l. h (suc k) (omega arith)) in
    let f = h 0 (omega arith) in
    omega arith

-- no more failures than rows
failed_all : (box : Aabb) (ps : List Patch) → length (flat_map (failed_of box) ps) ≤ length ps
unfolding flat_map
failed_all box [] = omega arith
failed_all box (p ∷ ps) = let e = failed_few box p in let f = failed_all box ps in omega (arith, length-append (failed_of box p) (flat_map (failed_of box) ps))

pub failed_most : (box : Aabb) (rows : List Row) (ps ns : List Float) (is : List ℕ) → length (flat_map (failed_of box) (patches_of rows ps ns is)) ≤ length rows
failed_most box rows ps ns is = omega (arith, failed_all box (patches_of rows ps ns is), length_patches rows ps ns is)
