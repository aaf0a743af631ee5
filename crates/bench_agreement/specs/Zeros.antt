-- Materials followed by zeros mean what they mean without. Assumes nothing.
use Rattle.std.specs.Prelude.{Bool, true, false, ◌||◌, List, [], ◌∷◌, ◌++◌, ◌≡◌, refl, ℕ, zero, suc, ◌^◌, replicate, ltb}
use Rattle.std.proofs.Math.Option.{Option, none, some}
use Rattle.std.proofs.Common.{◌∙◌, ap}
use Rattle.lists.specs.Lists.{any, item_at}
use Rattle.lists.specs.Any.{any_append}
use Rattle.body_rows.specs.Body.{Patch}
use Rattle.patch_geometry.specs.declared.Aabb.{Aabb}
use Rattle.mesh_materials.specs.Materials.{bad_materials, entry, entry_of, material_of}
use Rattle.mesh_verdicts.specs.Failures.{failure_of}
use Rattle.mesh_acceptance.specs.Acceptance.{acceptance, with_patch}

-- a face's entry
entry_zeros : (materials : List ℕ) (n face : ℕ) → entry_of (materials ++ replicate n 0) face ≡ entry_of materials face
unfolding entry_of item_at entry
entry_zeros [] zero face = refl
entry_zeros [] (suc n) zero = refl
entry_zeros [] (suc n) (suc face) = entry_zeros [] n face
entry_zeros (m ∷ materials) n zero = refl
entry_zeros (m ∷ materials) n (suc face) = entry_zeros materials n face

-- a face's material
material_zeros : (materials : List ℕ) (n default face : ℕ) → material_of (materials ++ replicate n 0) default face ≡ material_of materials default face
unfolding material_of
material_zeros materials n default face =
    ap (λ (o : Option ℕ). elim o as (λ x. ℕ) [ some m ↦ m | none ↦ elim (entry default) as (λ x. ℕ) [ some m ↦ m | none ↦ 0 ] ]) (entry_zeros materials n face)

-- no zero is too large
zeros_small : (n : ℕ) → any (λ (m : ℕ). ltb (2 ^ 32) m) (replicate n 0) ≡ false
unfolding any
zeros_small zero = refl
zeros_small (suc n) = zeros_small n

or_false : (b : Bool) → (b || false) ≡ b
or_false true = refl
or_false false = refl

-- Check 42 is the same.
pub bad_zeros : (materials : List ℕ) (n default : ℕ) → bad_materials (materials ++ replicate n 0) default ≡ bad_materials materials default
unfolding bad_materials
bad_zeros materials n default =
    let large : ℕ → Bool = λ m. ltb (2 ^ 32) m in
    any_append large (default ∷ materials) (replicate n 0)
    ∙ ap (λ (b : Bool). any large (default ∷ materials) || b) (zeros_small n)
    ∙ or_false (any large (default ∷ materials))

-- The same patches are accepted, with the same materials.
pub acceptance_zeros : (box : Aabb) (materials : List ℕ) (n default : ℕ) (ps : List Patch) → acceptance box (materials ++ replicate n 0) default ps ≡ acceptance box materials default ps
unfolding acceptance
acceptance_zeros box materials n default [] = refl
acceptance_zeros box materials n default (p ∷ ps) =
    let rest = acceptance_zeros box materials n default ps in
    λ j. with_patch p (material_zeros materials n default p.row.face j) (failure_of box p) (rest j)
