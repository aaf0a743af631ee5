-- Laws of the materials of laid patches: they rise, what is among them, and where each run starts. Assumes nothing.
use Rattle.std.specs.Prelude.{◌≡◌, refl, ◌⊎◌, Bool, true, false, cond, ℕ, suc, ◌+◌, ◌≤◌, ◌<◌, length, ltb, eqb}
use Rattle.std.proofs.Common.{sym, ap, ◌∙◌, inl, inr, arith, eqb-true, ltb-true, ltb-false, length-append}
use mathlib.Core.List.{List, [], ◌∷◌, map, flat_map}
use Rattle.std.proofs.lemmas.Bool.{eqb-false}
use Rattle.lists.specs.Lists.{insert_new, sum_of}
use Rattle.lists.specs.Members.{Has}
use Rattle.lists.specs.Rising.{Rising, has_insert, insert_has, insert_long, rising_insert}
use Rattle.mesh_layout.specs.Mesh.{Laid, materials_of, run_of, start_of}

-- ---- what a list has

-- the materials of laid patches, each as often as it stands there
abbrev pub laid_materials : List Laid → List ℕ
laid_materials ls = map (λ l. l.material) ls

-- the materials are those of the patches
pub materials_have : (y : ℕ) (ls : List Laid) → Has y (laid_materials ls) → Has y (materials_of ls)
unfolding materials_of
materials_have y [] h = h
materials_have y (l ∷ ls) (inl e) = has_insert y l.material (materials_of ls) (inl e)
materials_have y (l ∷ ls) (inr h) = has_insert y l.material (materials_of ls) (inr (materials_have y ls h))

-- and no others
pub have_materials : (y : ℕ) (ls : List Laid) → Has y (materials_of ls) → Has y (laid_materials ls)
unfolding materials_of
have_materials y [] h = h
have_materials y (l ∷ ls) h = go (insert_has y l.material (materials_of ls) h) (λ k. have_materials y ls k)
  where
    go : (y ≡ l.material) ⊎ Has y (materials_of ls) → (Has y (materials_of ls) → Has y (laid_materials ls)) → Has y (laid_materials (l ∷ ls))
    go (inl e) f = inl e
    go (inr k) f = inr (f k)

-- ---- they rise

-- materials rise
pub materials_rise : (ls : List Laid) → Rising 0 (materials_of ls)
unfolding materials_of
materials_rise [] = tt
materials_rise (l ∷ ls) = rising_insert l.material 0 (materials_of ls) (omega arith) (materials_rise ls)

-- ---- where runs start

-- no patch has a material from a up to b: both start at the same place
pub start_same : (a b : ℕ) (ls : List Laid) → a ≤ b → ((y : ℕ) → a ≤ y → y < b → Has y (laid_materials ls) → ⊥) → start_of ls a ≡ start_of ls b
unfolding start_of sum_of
start_same a b [] h none = refl
start_same a b (l ∷ ls) h none = λ j. go (ltb l.material a) (ltb l.material b) refl refl j + start_same a b ls h (λ y p q k. none y p q (inr k)) j
  where
    go : (s t : Bool) → ltb l.material a ≡ s → ltb l.material b ≡ t → cond s (length l.indices) 0 ≡ cond t (length l.indices) 0
    go true true e f = refl
    go false false e f = refl
    go true false e f = let p = ltb-true l.material a e in let q = ltb-false l.material b f in absurd (omega arith)
    go false true e f = absurd (none l.material (ltb-false l.material a e) (ltb-true l.material b f) (inl refl))

-- the next material's run starts where this one's ends
pub start_next : (n : ℕ) (ls : List Laid) → start_of ls (suc n) ≡ start_of ls n + length (run_of ls n)
unfolding start_of sum_of run_of flat_map
start_next n [] = refl
start_next n (l ∷ ls) =
    let rest = start_next n ls in
    let both = length-append (cond (eqb l.material n) l.indices []) (run_of ls n) in
    let here = go (ltb l.material (suc n)) (ltb l.material n) (eqb l.material n) refl refl refl in
    omega (arith, rest, both, here)
  where
    go : (s t u : Bool) → ltb l.material (suc n) ≡ s → ltb l.material n ≡ t → eqb l.material n ≡ u
        → cond s (length l.indices) 0 ≡ cond t (length l.indices) 0 + length (cond u l.indices [])
    go true true true e f g = let p = ltb-true l.material n f in let q = eqb-true l.material n g in absurd (omega arith)
    go true true false e f g = omega arith
    go true false true e f g = omega arith
    go true false false e f g = let p = ltb-true l.material (suc n) e in let q = ltb-false l.material n f in absurd (eqb-false l.material n g (omega arith))
    go false true u e f g = let p = ltb-false l.material (suc n) e in let q = ltb-true l.material n f in absurd (omega arith)
    go false false true e f g = let p = ltb-false l.material (suc n) e in let q = eqb-true l.material n g in absurd (omega arith)
    go false false false e f g = omega arith

-- runs start within all indices
pub start_low : (n : ℕ) (ls : List Laid) → start_of ls n ≤ sum_of (λ l. length l.indices) ls
unfolding start_of sum_of
start_low n [] = omega arith
start_low n (l ∷ ls) = let rest = start_low n ls in let here = go (ltb l.material n) in omega arith
  where
    go : (t : Bool) → cond t (length l.indices) 0 ≤ length l.indices
    go true = omega arith
    go false = omega arith

-- the first run starts at 0
pub start_none : (ls : List Laid) → start_of ls 0 ≡ 0
unfolding start_of sum_of
start_none [] = refl
start_none (l ∷ ls) = λ j. go (ltb l.material 0) refl j + start_none ls j
  where
    go : (t : Bool) → ltb l.material 0 ≡ t → cond t (length l.indices) 0 ≡ 0
    go true e = let p = ltb-true l.material 0 e in absurd (omega arith)
    go false e = refl

-- no more materials than patches
pub materials_few : (ls : List Laid) → length (materials_of ls) ≤ length ls
unfolding materials_of
materials_few [] = omega arith
materials_few (l ∷ ls) = let e = insert_long l.material (materials_of ls) in let f = materials_few ls in omega arith
