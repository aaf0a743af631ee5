-- A cell that isn't clamped is the nearest whole number, so two such cells are one exactly if the nearest whole numbers are. Assumes nothing.
use Rattle.point_rules.specs.Unclamped.{of_vertex}
use Rattle.std.specs.Prelude.{◌≡◌, refl, Bool, true, false, List, [], ◌∷◌, map, ℕ, zero, suc, ◌-◌, ◌*◌, ◌^◌, ◌<◌, min, ℤ, pos, negsuc, neg_ℤ, take, drop, leb, Float}
use Rattle.std.proofs.Common.{sym, ap, ◌∙◌, arith, leb-false}
use Rattle.std.specs.Float.{nan, inf, fin}
use Rattle.std.specs.Float.Ieee.{up, down}
use Rattle.lists.specs.Lists.{any}
use Rattle.float_round.specs.Integral.{half_up}
use Rattle.point_rules.specs.Points.{cell, nearest, nearest_size, clamps, clamped, signed, outside64}

-- a magnitude inside signed 64 bits stays as it is
unclamped : (s : Bool) (n : ℕ) → outside64 (signed s n) ≡ false → clamped s n ≡ signed s n
unclamped false n h = ap pos (few n (leb-false (2 ^ 63) n h))
  where
    few : (n : ℕ) → n < 2 ^ 63 → min n (2 ^ 63 - 1) ≡ n
    few n l = omega arith
unclamped true zero h = refl
unclamped true (suc n) h = ap (λ (k : ℕ). neg_ℤ (pos k)) (few n (leb-false (2 ^ 63) n h))
  where
    few : (n : ℕ) → n < 2 ^ 63 → min (suc n) (2 ^ 63) ≡ suc n
    few n l = omega arith

-- A cell that isn't clamped is the whole number nearest 1,000,000 × v.
pub unclamped_cell : (v : Float) → clamps v ≡ false → cell v ≡ nearest 1_000_000 v
unfolding cell nearest nearest_size clamps
unclamped_cell nan h = refl
unclamped_cell (inf true) h = unclamped true (1_000_000 * 2 ^ 128) h
unclamped_cell (inf false) h = unclamped false (1_000_000 * 2 ^ 128) h
unclamped_cell (fin s m e) h = unclamped s (half_up (1_000_000 * m * up e) (down e)) h

-- what does not hold of a list holds of neither its first nor the rest
parts : (b r : Bool) → elim b [ true ↦ true | false ↦ r ] ≡ false → (b ≡ false) × (r ≡ false)
parts true r h = (h, absurd (no h))
  where
    no : true ≡ false → ⊥
    no q = let z : ◌≡◌ {A = ℕ} 0 1 = cc in omega arith
parts false r h = (refl, h)

-- So are those of positions none of which clamps.
pub unclamped_cells : (ps : List Float) → any clamps ps ≡ false → map cell ps ≡ map (nearest 1_000_000) ps
unfolding any
unclamped_cells [] h = refl
unclamped_cells (p ∷ ps) h = let both = parts (clamps p) (any clamps ps) h in λ i. unclamped_cell p both.0 i ∷ unclamped_cells ps both.1 i

-- Two of these points have one cell exactly if the nearest whole numbers agree on each axis: from the cells,
pub cell_nearest : (ps : List Float) → any clamps ps ≡ false → (i j : ℕ) → of_vertex (map cell ps) i ≡ of_vertex (map cell ps) j
    → of_vertex (map (nearest 1_000_000) ps) i ≡ of_vertex (map (nearest 1_000_000) ps) j
cell_nearest ps h i j e = let same = unclamped_cells ps h in ap (λ (zs : List ℤ). of_vertex zs i) (sym same) ∙ e ∙ ap (λ (zs : List ℤ). of_vertex zs j) same

-- and from the nearest whole numbers.
pub nearest_cell : (ps : List Float) → any clamps ps ≡ false → (i j : ℕ) → of_vertex (map (nearest 1_000_000) ps) i ≡ of_vertex (map (nearest 1_000_000) ps) j
    → of_vertex (map cell ps) i ≡ of_vertex (map cell ps) j
nearest_cell ps h i j e = let same = unclamped_cells ps h in ap (λ (zs : List ℤ). of_vertex zs i) same ∙ e ∙ ap (λ (zs : List ℤ). of_vertex zs j) (sym same)
