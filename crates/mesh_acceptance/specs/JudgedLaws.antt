-- The decisions of a body give what the definition of acceptance gives. Assumes nothing.
use Rattle.std.specs.Prelude.{◌≡◌, false, ℕ, zero, suc, ◌+◌, ◌*◌, ◌≤◌, ◌<◌, length, get_or, drop, ltb, Float}
use Rattle.std.proofs.Math.Path.{refl, ap}
use mathlib.Core.List.{List, [], ◌∷◌, ◌++◌, map, flat_map}
use Rattle.std.proofs.Math.Option.{Option, none, some}
use Rattle.std.proofs.Common.{arith, length-drop, length-take-le, ltb-false}
use Rattle.lists.specs.Lists.{sum_of, item_at}
use Rattle.lists.specs.Any.{any_none}
use Rattle.body_rows.specs.Body.{Row, Patch, patches_of, all_vertices, all_indices}
use Rattle.body_rows.specs.Patches.{patch_from}
use Rattle.patch_geometry.specs.declared.Aabb.{Aabb}
use Rattle.mesh_verdicts.specs.declared.Failure.{Failure}
use Rattle.mesh_verdicts.specs.Failures.{failure_of}
use Rattle.mesh_materials.specs.Materials.{entry, entry_of, material_of, bad_materials}
use Rattle.mesh_acceptance.specs.Acceptance.{Accepted, Failed, with_patch, acceptance, accepted_vertices, accepted_indices}
use Rattle.mesh_materials.specs.Small.{SmallMaterials}
use Rattle.mesh_acceptance.specs.Judged.{decision_by, decision_of, accepted_by, accepted_rows, failed_by, failed_of}

module _ (box : Aabb) (materials : List ℕ) (default : ℕ) where
  -- the accepted are those with a decision other than 0, with its material
  pub accepted_by_lem : (ps : List Patch) → accepted_by (map (decision_of box materials default) ps) ps ≡ (acceptance box materials default ps).accepted
  unfolding accepted_by decision_of decision_by acceptance with_patch
  accepted_by_lem [] = refl
  accepted_by_lem (p ∷ ps) = go (failure_of box p) (accepted_by_lem ps)
    where
      go : (f : Option Failure) → accepted_by (map (decision_of box materials default) ps) ps ≡ (acceptance box materials default ps).accepted
          → accepted_by (decision_by f (material_of materials default p.row.face) ∷ map (decision_of box materials default) ps) (p ∷ ps)
          ≡ (with_patch p (material_of materials default p.row.face) f (acceptance box materials default ps)).accepted
      go none e = ap (λ (xs : List Accepted). record { patch = p; material = material_of materials default p.row.face } ∷ xs) e
      go (some g) e = e

  -- the failures are those of the patches
  pub failed_by_lem : (ps : List Patch) → flat_map (failed_of box) ps ≡ (acceptance box materials default ps).failed
  unfolding failed_of failed_by acceptance with_patch flat_map
  failed_by_lem [] = refl
  failed_by_lem (p ∷ ps) = go (failure_of box p) (failed_by_lem ps)
    where
      go : (f : Option Failure) → flat_map (failed_of box) ps ≡ (acceptance box materials default ps).failed
          → failed_by f p.row.face p.row.bin ++ flat_map (failed_of box) ps ≡ (with_patch p (material_of materials default p.row.face) f (acceptance box materials default ps)).failed
      go none e = e
      go (some g) e = ap (λ (fs : List Failed). record { face = p.row.face; bin = p.row.bin; failure = g } ∷ fs) e

  -- normals decide nothing
  pub decisions_bare : (rows : List Row) (ps ns ms : List Float) (is : List ℕ)
      → map (decision_of box materials default) (patches_of rows ps ns is) ≡ map (decision_of box materials default) (patches_of rows ps ms is)
  unfolding patches_of decision_of
  decisions_bare [] ps ns ms is = refl
  decisions_bare (r ∷ rs) ps ns ms is =
      ap (λ (ds : List ℕ). decision_of box materials default (patch_from r ps ns is 0 0) ∷ ds)
      (decisions_bare rs (drop (3 * r.vertices) ps) (drop (3 * r.vertices) ns) (drop (3 * r.vertices) ms) (drop r.indices is))

-- normals fail nothing
pub failed_bare : (box : Aabb) (rows : List Row) (ps ns ms : List Float) (is : List ℕ) → flat_map (failed_of box) (patches_of rows ps ns is) ≡ flat_map (failed_of box) (patches_of rows ps ms is)
unfolding patches_of failed_of flat_map
failed_bare box [] ps ns ms is = refl
failed_bare box (r ∷ rs) ps ns ms is =
    ap (λ (fs : List Failed). failed_of box (patch_from r ps ns is 0 0) ++ fs)
    (failed_bare box rs (drop (3 * r.vertices) ps) (drop (3 * r.vertices) ns) (drop (3 * r.vertices) ms) (drop r.indices is))

-- the accepted patches are as many as the accepted rows
pub accepted_count : (ds : List ℕ) (rows : List Row) (ps ns : List Float) (is : List ℕ) → length (accepted_by ds (patches_of rows ps ns is)) ≡ length (accepted_rows ds rows)
unfolding accepted_by accepted_rows patches_of
accepted_count [] rows ps ns is = refl
accepted_count (d ∷ ds) [] ps ns is = refl
accepted_count (zero ∷ ds) (r ∷ rs) ps ns is = accepted_count ds rs (drop (3 * r.vertices) ps) (drop (3 * r.vertices) ns) (drop r.indices is)
accepted_count (suc m ∷ ds) (r ∷ rs) ps ns is = ap suc (accepted_count ds rs (drop (3 * r.vertices) ps) (drop (3 * r.vertices) ns) (drop r.indices is))

-- they have the rows' vertices
pub accepted_vertices_lem : (ds : List ℕ) (rows : List Row) (ps ns : List Float) (is : List ℕ) → accepted_vertices (accepted_by ds (patches_of rows ps ns is)) ≡ all_vertices (accepted_rows ds rows)
unfolding accepted_by accepted_rows patches_of accepted_vertices all_vertices sum_of
accepted_vertices_lem [] rows ps ns is = refl
accepted_vertices_lem (d ∷ ds) [] ps ns is = refl
accepted_vertices_lem (zero ∷ ds) (r ∷ rs) ps ns is = accepted_vertices_lem ds rs (drop (3 * r.vertices) ps) (drop (3 * r.vertices) ns) (drop r.indices is)
accepted_vertices_lem (suc m ∷ ds) (r ∷ rs) ps ns is = ap (λ (n : ℕ). r.vertices + n) (accepted_vertices_lem ds rs (drop (3 * r.vertices) ps) (drop (3 * r.vertices) ns) (drop r.indices is))

-- and, where the slice has them all, the rows' indices
pub accepted_indices_lem : (ds : List ℕ) (rows : List Row) (ps ns : List Float) (is : List ℕ) → all_indices rows ≤ length is
    → accepted_indices (accepted_by ds (patches_of rows ps ns is)) ≡ all_indices (accepted_rows ds rows)
unfolding accepted_by accepted_rows patches_of accepted_indices all_indices sum_of
accepted_indices_lem [] rows ps ns is h = refl
accepted_indices_lem (d ∷ ds) [] ps ns is h = refl
accepted_indices_lem (zero ∷ ds) (r ∷ rs) ps ns is h =
    accepted_indices_lem ds rs (drop (3 * r.vertices) ps) (drop (3 * r.vertices) ns) (drop r.indices is) (omega (arith, length-drop r.indices is))
accepted_indices_lem (suc m ∷ ds) (r ∷ rs) ps ns is h =
    let rest = accepted_indices_lem ds rs (drop (3 * r.vertices) ps) (drop (3 * r.vertices) ns) (drop r.indices is) (omega (arith, length-drop r.indices is)) in
    let here = length-take-le r.indices is (omega arith) in
    λ j. here j + rest j

-- a part of the rows has no more of anything
accepted_sum : (f : Row → ℕ) (ds : List ℕ) (rows : List Row) → sum_of f (accepted_rows ds rows) ≤ sum_of f rows
unfolding accepted_rows sum_of
accepted_sum f [] rows = omega arith
accepted_sum f (d ∷ ds) [] = omega arith
accepted_sum f (zero ∷ ds) (r ∷ rs) = let e = accepted_sum f ds rs in omega arith
accepted_sum f (suc m ∷ ds) (r ∷ rs) = let e = accepted_sum f ds rs in omega arith

-- no more vertices
pub accepted_few : (ds : List ℕ) (rows : List Row) → all_vertices (accepted_rows ds rows) ≤ all_vertices rows
unfolding all_vertices
accepted_few = accepted_sum (λ r. r.vertices)

-- no more indices
pub accepted_fewer : (ds : List ℕ) (rows : List Row) → all_indices (accepted_rows ds rows) ≤ all_indices rows
unfolding all_indices
accepted_fewer = accepted_sum (λ r. r.indices)

-- and it is no longer
pub accepted_most : (ds : List ℕ) (rows : List Row) → length (accepted_rows ds rows) ≤ length rows
unfolding accepted_rows
accepted_most [] rows = omega arith
accepted_most (d ∷ ds) [] = omega arith
accepted_most (zero ∷ ds) (r ∷ rs) = let e = accepted_most ds rs in omega arith
accepted_most (suc m ∷ ds) (r ∷ rs) = let e = accepted_most ds rs in omega arith

-- a patch has at most one failure
pub failed_few : (box : Aabb) (p : Patch) → length (failed_of box p) ≤ 1
unfolding failed_of failed_by
failed_few box p = go (failure_of box p)
  where
    go : (o : Option Failure) → length (failed_by o p.row.face p.row.bin) ≤ 1
    go none = omega arith
    go (some f) = omega arith

-- ---- what decisions tell

-- an entry not above n tells a number below it
entry_low : (n e : ℕ) → e ≤ n → (d : ℕ) → d < n → elim (entry e) [ some m ↦ m | none ↦ d ] < n
unfolding entry
entry_low n zero h d l = l
entry_low n (suc m) h d l = h

-- so does an item's
item_low : (n : ℕ) (xs : List ℕ) (k : ℕ) → ((j : ℕ) → j < length xs → get_or xs j 0 ≤ n) → (d : ℕ) → d < n → elim (entry_of xs k) [ some m ↦ m | none ↦ d ] < n
unfolding entry_of item_at
item_low n [] k h d l = l
item_low n (x ∷ xs) zero h d l = entry_low n x (h 0 (omega arith)) d l
item_low n (x ∷ xs) (suc k) h d l = item_low n xs k (λ j m. h (suc j) (omega arith)) d l

-- a material is of 32 bits, where no entry and no default is above 2 ^ 32
material_low : (materials : List ℕ) (default face : ℕ) → SmallMaterials materials default → material_of materials default face < 4294967296
unfolding material_of
material_low materials default face s = item_low 4294967296 materials face s.entries (elim (entry default) [ some m ↦ m | none ↦ 0 ]) (entry_low 4294967296 default s.other 0 (omega arith))

-- a decision is not above 2 ^ 32
pub decision_low : (box : Aabb) (materials : List ℕ) (default : ℕ) (p : Patch) → SmallMaterials materials default → decision_of box materials default p ≤ 4294967296
unfolding decision_of decision_by
decision_low box materials default p s = go (failure_of box p)
  where
    go : (f : Option Failure) → decision_by f (material_of materials default p.row.face) ≤ 4294967296
    go none = material_low materials default p.row.face s
    go (some f) = omega arith

-- a patch whose decision isn't 0 does not fail
pub decision_tells : (box : Aabb) (materials : List ℕ) (default : ℕ) (p : Patch) → (decision_of box materials default p ≡ 0 → ⊥) → failure_of box p ≡ none
unfolding decision_of decision_by
decision_tells box materials default p n = go (failure_of box p) n
  where
    go : (f : Option Failure) → (decision_by f (material_of materials default p.row.face) ≡ 0 → ⊥) → f ≡ none
    go none m = refl
    go (some f) m = absurd (m refl)

-- check 42 has passed
pub small_materials : (materials : List ℕ) (default : ℕ) → bad_materials materials default ≡ false → SmallMaterials materials default
unfolding bad_materials
small_materials materials default h =
    record {
      entries = λ k l. ltb-false 4294967296 (get_or materials k 0) (any_none (λ m. ltb 4294967296 m) (default ∷ materials) 0 h (suc k) (omega arith));
      other = ltb-false 4294967296 default (any_none (λ m. ltb 4294967296 m) (default ∷ materials) 0 h 0 (omega arith));
    }
