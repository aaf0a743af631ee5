-- How many indices all runs have: those of all patches laid. Assumes nothing.
use Rattle.std.specs.Prelude.{◌≡◌, refl, Bool, cond, ℕ, suc, ◌+◌, ◌<◌, length, eqb}
use Rattle.std.proofs.Common.{ap, ◌∙◌, inl, inr, arith, eq-eqb, ne_eqb, length-append}
use mathlib.Core.List.{List, [], ◌∷◌, flat_map}
use Rattle.lists.specs.Lists.{sum_of}
use Rattle.mesh_layout.specs.Mesh.{Laid, materials_of, run_of, runs_of}
use Rattle.lists.specs.Members.{Has}
use Rattle.mesh_layout.specs.MaterialLaws.{laid_materials, materials_have, materials_rise}
use Rattle.lists.specs.Rising.{Rising, rising_has}

-- what a patch adds to the runs of some materials
added : ℕ → List ℕ → List ℕ → ℕ
added n xs ms = sum_of (λ m. length (cond (eqb n m) xs [])) ms

-- nothing, if its material is below them
added_none : (n : ℕ) (xs : List ℕ) (low : ℕ) (ms : List ℕ) → Rising low ms → n < low → added n xs ms ≡ 0
unfolding added sum_of
added_none n xs low [] r h = refl
added_none n xs low (m ∷ ms) r h =
    let l = r.0 in
    let e = ap (λ (b : Bool). length (cond b xs [])) (ne_eqb n m (λ z. absurd (omega arith))) in
    let f = added_none n xs (suc m) ms r.1 (omega arith) in
    omega arith

-- its indices, if its material is among them
added_all : (n : ℕ) (xs : List ℕ) (low : ℕ) (ms : List ℕ) → Rising low ms → Has n ms → added n xs ms ≡ length xs
unfolding added sum_of
added_all n xs low [] r h = absurd h
added_all n xs low (m ∷ ms) r (inl z) =
    let e = ap (λ (b : Bool). length (cond b xs [])) (eq-eqb n m z) in
    let f = added_none n xs (suc m) ms r.1 (omega arith) in
    omega arith
added_all n xs low (m ∷ ms) r (inr k) =
    let a = rising_has n (suc m) ms r.1 k in
    let e = ap (λ (b : Bool). length (cond b xs [])) (ne_eqb n m (λ z. absurd (omega arith))) in
    let f = added_all n xs (suc m) ms r.1 k in
    omega arith

-- the runs with a patch in front
runs_more : (l : Laid) (ls : List Laid) (ms : List ℕ) → length (flat_map (run_of (l ∷ ls)) ms) ≡ added l.material l.indices ms + length (flat_map (run_of ls) ms)
unfolding flat_map run_of added sum_of
runs_more l ls [] = refl
runs_more l ls (m ∷ ms) =
    let e = runs_more l ls ms in
    let x = cond (eqb l.material m) l.indices [] in
    omega (
      arith,
      length-append (run_of (l ∷ ls) m) (flat_map (run_of (l ∷ ls)) ms),
      length-append x (run_of ls m),
      length-append (run_of ls m) (flat_map (run_of ls) ms),
    )

-- no runs without patches
runs_none : (ms : List ℕ) → length (flat_map (run_of []) ms) ≡ 0
unfolding flat_map run_of
runs_none [] = refl
runs_none (m ∷ ms) = runs_none ms

runs_total : (low : ℕ) (ms : List ℕ) (ls : List Laid) → Rising low ms → ((y : ℕ) → Has y (laid_materials ls) → Has y ms) → length (flat_map (run_of ls) ms) ≡ sum_of (λ l. length l.indices) ls
unfolding sum_of
runs_total low ms [] r h = runs_none ms
runs_total low ms (l ∷ ls) r h =
    runs_more l ls ms ∙ (λ j. added_all l.material l.indices low ms r (h l.material (inl refl)) j + runs_total low ms ls r (λ y k. h y (inr k)) j)

-- all runs
pub runs_long : (ls : List Laid) → length (runs_of ls) ≡ sum_of (λ l. length l.indices) ls
unfolding runs_of
runs_long ls = runs_total 0 (materials_of ls) ls (materials_rise ls) (λ y k. materials_have y ls k)
