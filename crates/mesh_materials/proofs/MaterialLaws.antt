-- Laws of the material of a face and of check 42. Assumes nothing.
use mathlib.Core.Path.{◌≡◌, refl, sym, ap, ◌∙◌}
use mathlib.Core.Bool.{Bool, true, false}
use mathlib.Core.List.{List, [], ◌∷◌}
use mathlib.Core.Option.{Option, none, some}
use Prim.Native.Nat.{ℕ, zero, suc, ◌-◌, ◌≤◌, ◌<◌}
use native.Mathlib.Nat.{not-suc-le-zero}
use native.Mathlib.Omega.{arith}
use borrow.Author.Tests.{lt-ltb, le-ltb}
use lib.ListN.{length, get_or, get_or-eq_default}
use lib.Dec.{ltb}
use Rattle.lists.specs.Lists.{any, item_at}
use Rattle.std.specs.Prelude.{◌||◌}
use Rattle.std.specs.List.{list_any}
use Rattle.mesh_materials.specs.Materials.{entry, entry_of, material_of, bad_materials}
use Rattle.mesh_materials.specs.Small.{SmallMaterials}

-- above 2 ^ 32
abbrev pub high : ℕ → Bool
high m = ltb 4294967296 m

-- `any` of this project as the library has it
pub any_list : (xs : List ℕ) → list_any high xs ≡ any high xs
unfolding any
any_list [] = refl
any_list (x ∷ xs) = go (high x) (any_list xs)
  where
    go : (b : Bool) {r s : Bool} → r ≡ s → (b || r) ≡ elim b [ true ↦ true | false ↦ s ]
    go true e = refl
    go false e = e

-- the default is above 2 ^ 32
pub bad_default : (xs : List ℕ) (d : ℕ) → 4294967296 < d → true ≡ bad_materials xs d
unfolding bad_materials any
bad_default xs d l = go (ltb 4294967296 d) (lt-ltb 4294967296 d l)
  where
    go : (b : Bool) → b ≡ true → true ≡ elim b [ true ↦ true | false ↦ any high xs ]
    go b e = ap (λ (c : Bool). pick c) (sym e)
      where
        pick : Bool → Bool
        pick c = elim c [ true ↦ true | false ↦ any high xs ]

-- it isn't
pub bad_entries : (xs : List ℕ) (d : ℕ) {r : Bool} → d ≤ 4294967296 → r ≡ any high xs → r ≡ bad_materials xs d
unfolding bad_materials any
bad_entries xs d l e = e ∙ ap (λ (c : Bool). pick c) (sym (le-ltb 4294967296 d l))
  where
    pick : Bool → Bool
    pick c = elim c [ true ↦ true | false ↦ any high xs ]

-- past the end there is no entry
pub entry_missing : (xs : List ℕ) (k : ℕ) → length xs ≤ k → 0 ≡ get_or xs k 0
entry_missing xs k h = sym (get_or-eq_default xs 0 h)

-- where no entry is above n, what stands at a face isn't
entries_low : (n : ℕ) (xs : List ℕ) (k : ℕ) → ((j : ℕ) → j < length xs → get_or xs j 0 ≤ n) → get_or xs k 0 ≤ n
entries_low n [] k h = omega arith
entries_low n (x ∷ xs) zero h = h 0 (omega arith)
entries_low n (x ∷ xs) (suc k) h = entries_low n xs k (λ j l. h (suc j) (omega arith))

-- an entry is not above 2 ^ 32
pub entry_small : {xs : List ℕ} {d : ℕ} (face : ℕ) {own : ℕ} → SmallMaterials xs d → own ≡ get_or xs face 0 → own ≤ 4294967296
entry_small {xs} face s e = omega (arith, e, entries_low 4294967296 xs face s.entries)

-- the entry of a face as it stands in the list
entry_is : (xs : List ℕ) (face : ℕ) → entry_of xs face ≡ entry (get_or xs face 0)
unfolding entry_of item_at entry
entry_is [] face = refl
entry_is (x ∷ xs) zero = refl
entry_is (x ∷ xs) (suc k) = entry_is xs k

-- the material by a face's entry
by_entry : ℕ → Option ℕ → ℕ
by_entry d o = elim o [ some m ↦ m | none ↦ elim (entry d) [ some m ↦ m | none ↦ 0 ] ]

material_by : (xs : List ℕ) (d face own : ℕ) → own ≡ get_or xs face 0 → by_entry d (entry own) ≡ material_of xs d face
unfolding material_of by_entry
material_by xs d face own e = ap (λ (n : ℕ). by_entry d (entry n)) e ∙ ap (by_entry d) (sym (entry_is xs face))

-- a face with an entry of its own
pub material_own : (xs : List ℕ) (d face : ℕ) (own : ℕ) {r : ℕ} → own ≡ get_or xs face 0 → 0 < own → r ≡ own - 1 → r ≡ material_of xs d face
unfolding entry by_entry
material_own xs d face zero e h q = absurd (not-suc-le-zero h)
material_own xs d face (suc n) {r} e h q = let z : suc n - 1 ≡ n = omega arith in q ∙ z ∙ material_by xs d face (suc n) e

-- one with the default
pub material_default : (xs : List ℕ) (d face : ℕ) {own r : ℕ} → own ≡ get_or xs face 0 → own ≤ 0 → 0 < d → r ≡ d - 1 → r ≡ material_of xs d face
unfolding entry by_entry
material_default xs zero face e h l q = absurd (not-suc-le-zero l)
material_default xs (suc n) face {own} {r} e h l q = let z : suc n - 1 ≡ n = omega arith in let o : 0 ≡ get_or xs face 0 = omega arith in q ∙ z ∙ material_by xs (suc n) face 0 o

-- one with neither
pub material_none : (xs : List ℕ) (d face : ℕ) {own : ℕ} → own ≡ get_or xs face 0 → own ≤ 0 → d ≤ 0 → 0 ≡ material_of xs d face
unfolding entry by_entry
material_none xs zero face {own} e h l = let o : 0 ≡ get_or xs face 0 = omega arith in material_by xs 0 face 0 o
material_none xs (suc n) face e h l = absurd (not-suc-le-zero l)
