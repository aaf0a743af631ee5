-- The cell of an f32 by its sign and its distance from zero, as a number and as 64 bits. Assumes nothing.
use mathlib.Core.Path.{◌≡◌, refl, sym, ap, ◌∙◌, subst}
use mathlib.Core.Bool.{Bool, true, false, cond}
use Prim.Native.Nat.{ℕ, zero, suc, ◌+◌, ◌-◌, ◌/◌, ◌%◌, ◌^◌, ◌≤◌, ◌<◌, min}
use native.Mathlib.Nat.{add-zero, min-eq_left, min-eq_right, min-le_right}
use native.Mathlib.Omega.{arith}
use borrow.Author.Tests.{lt-leb, le-leb}
use lib.IntN.{ℤ, pos, negsuc, neg_ℤ, ◌-ℤ◌, +ℤ_idl}
use lib.Signed.{mag}
use mir.Syntax.{w64}
use mir.Val.{SFits, to_z, of_z}
use mir.ValLaws.{to_z-of_z, to_z_pos}
use lib.Dec.{leb, eqb}
use lib.Ieee.{Float, nan, inf, fin, binary32, odd, of_fields, to_bits, fits}
use Rattle.point_rules.specs.Points.{cell, nearest_size, cell_size, clamped, clamps, pattern}
use Rattle.point_cell.specs.Told.{cell_told}
use Rattle.point_cell.specs.declared.CellAnswer.{CellAnswer}
use Rattle.point_cell.proofs.Fields.{is}

-- ---- the sign

-- a size that is clamped already
clamp_once : (s : Bool) (n : ℕ) → clamped s n ≡ clamped s (min n (2 ^ 63))
clamp_once true n = ap (λ (z : ℕ). neg_ℤ (pos z)) (two n)
  where
    two : (n : ℕ) → min n (2 ^ 63) ≡ min (min n (2 ^ 63)) (2 ^ 63)
    two n = omega arith
clamp_once false n = ap pos (two n)
  where
    two : (n : ℕ) → min n (2 ^ 63 - 1) ≡ min (min n (2 ^ 63)) (2 ^ 63 - 1)
    two n = omega arith

-- a finite number
odd_cell : (d : ℕ) (s : Bool) (q k l : ℕ) → cell (odd d s q k l) ≡ clamped s (cell_size (odd d s q k l))
unfolding odd cell nearest_size
odd_cell d s zero k l = clamp_once s _
odd_cell d s (suc q) k l = clamp_once s _

-- an infinity
inf_cell : (s : Bool) → cell (inf s) ≡ clamped s (cell_size (inf s))
unfolding cell nearest_size
inf_cell true = refl
inf_cell false = refl

-- a NaN
nan_cell : (s : Bool) → cell nan ≡ clamped s (cell_size nan)
unfolding cell nearest_size
nan_cell true = refl
nan_cell false = refl

-- any fields
fields_cell : (s : Bool) (e t : ℕ) → cell (of_fields binary32 s e t) ≡ clamped s (cell_size (of_fields binary32 s e t))
unfolding of_fields
fields_cell s zero t = odd_cell 24 s t 0 149
fields_cell s (suc x) t = go (eqb (suc x) 255) (eqb t 0)
  where
    go : (b c : Bool) → let v = cond b (cond c (inf s) nan) (odd 24 s (2 ^ 23 + t) x 149) in cell v ≡ clamped s (cell_size v)
    go true true = inf_cell s
    go true false = nan_cell s
    go false c = odd_cell 24 s (2 ^ 23 + t) x 149

-- ---- 0 - k - 1 in signed 64 bits
zero_less : (k : ℕ) → pos 0 -ℤ pos k ≡ neg_ℤ (pos k)
zero_less k = +ℤ_idl (neg_ℤ (pos k))

-- one less
one_less : (k : ℕ) → neg_ℤ (pos k) -ℤ pos 1 ≡ negsuc k
one_less zero = refl
one_less (suc k) = ap (λ (z : ℕ). negsuc (suc z)) (add-zero k)

-- it fits
zero_less_fits : (k : ℕ) → k < 2 ^ 63 → SFits w64 (pos 0 -ℤ to_z w64 k)
zero_less_fits k l = record { sfits = subst (λ (z : ℤ). mag z < 2 ^ 63) (sym (ap (λ (z : ℤ). pos 0 -ℤ z) (to_z_pos w64 k l) ∙ zero_less k)) (go k l) }
  where
    go : (k : ℕ) → k < 2 ^ 63 → mag (neg_ℤ (pos k)) < 2 ^ 63
    go zero h = h
    go (suc k) h = omega arith

-- both, on the machine
zero_less_is : (k : ℕ) → k < 2 ^ 63 → to_z w64 (of_z w64 (pos 0 -ℤ to_z w64 k)) -ℤ pos 1 ≡ negsuc k
zero_less_is k l =
    ap (λ (z : ℤ). z -ℤ pos 1) (to_z-of_z w64 (pos 0 -ℤ to_z w64 k) (zero_less_fits k l) ∙ ap (λ (z : ℤ). pos 0 -ℤ z) (to_z_pos w64 k l) ∙ zero_less k)
    ∙ one_less k

-- they fit
lower_fits : (k : ℕ) → k < 2 ^ 63 → SFits w64 (to_z w64 (of_z w64 (pos 0 -ℤ to_z w64 k)) -ℤ pos 1)
lower_fits k l = record { sfits = subst (λ (z : ℤ). mag z < 2 ^ 63) (sym (zero_less_is k l)) l }

-- and give -(k + 1)
lower_is : (k : ℕ) → k < 2 ^ 63 → to_z w64 (of_z w64 (to_z w64 (of_z w64 (pos 0 -ℤ to_z w64 k)) -ℤ pos 1)) ≡ negsuc k
lower_is k l = to_z-of_z w64 _ (lower_fits k l) ∙ zero_less_is k l

-- ---- the cell and its 64 bits, by the sign
size_le : (x : Float) → cell_size x ≤ 2 ^ 63
size_le x = min-le_right _ _

module _ (x : Float) (b n : ℕ) (f : fits binary32 x ≡ true) (at : b ≡ to_bits binary32 x) (size : n ≡ cell_size x) where
  -- the cell from the sign and the size
  signed : clamped (leb (2 ^ 31) b) n ≡ cell x
  signed = ap (clamped (leb (2 ^ 31) b)) (size ∙ ap cell_size (sym (is x b f at))) ∙ sym (fields_cell (leb (2 ^ 31) b) (b % 2 ^ 31 / 2 ^ 23) (b % 2 ^ 23)) ∙ ap cell (is x b f at)

  -- without a sign
  plus : b < 2 ^ 31 → pos (min n (2 ^ 63 - 1)) ≡ cell x
  plus h = ap (λ (s : Bool). clamped s n) (sym (lt-leb (2 ^ 31) b h)) ∙ signed

  -- the size is at most 2^63
  size_most : n ≤ 2 ^ 63
  size_most = omega (arith, size_le x)

  -- with a sign
  minus : 2 ^ 31 ≤ b → neg_ℤ (pos n) ≡ cell x
  minus h = ap (λ (k : ℕ). neg_ℤ (pos k)) (sym (min-eq_left size_most)) ∙ ap (λ (s : Bool). clamped s n) (sym (le-leb (2 ^ 31) b h)) ∙ signed

  -- a size below the clamp
  plus_small : b < 2 ^ 31 → n < 2 ^ 63 → pos n ≡ cell x
  plus_small h l = ap pos (sym (min-eq_left (omega arith))) ∙ plus h

  -- a size at the clamp
  pub plus_large : b < 2 ^ 31 → 2 ^ 63 ≤ n → pos (2 ^ 63 - 1) ≡ cell x
  plus_large h l = ap pos (sym (min-eq_right (omega arith))) ∙ plus h

  -- minus nothing
  pub minus_none : 2 ^ 31 ≤ b → n ≡ 0 → pos 0 ≡ cell x
  minus_none h z = ap (λ (k : ℕ). neg_ℤ (pos k)) (sym z) ∙ minus h

  -- minus something
  minus_some : 2 ^ 31 ≤ b → (n ≡ 0 → ⊥) → negsuc (n - 1) ≡ cell x
  minus_some h z = ap (λ (k : ℕ). neg_ℤ (pos k)) back ∙ minus h
    where
      back : suc (n - 1) ≡ n
      back = omega arith

  -- the bits
  pub bits_small : b < 2 ^ 31 → n < 2 ^ 63 → n ≡ pattern (cell x)
  bits_small h l = ap pattern (plus_small h l)

  -- at the clamp
  pub bits_large : b < 2 ^ 31 → 2 ^ 63 ≤ n → 2 ^ 63 - 1 ≡ pattern (cell x)
  bits_large h l = ap pattern (plus_large h l)

  -- minus nothing
  pub bits_none : 2 ^ 31 ≤ b → n ≡ 0 → 0 ≡ pattern (cell x)
  bits_none h z = ap pattern (minus_none h z)

  -- minus something
  pub bits_some : 2 ^ 31 ≤ b → (n ≡ 0 → ⊥) → 2 ^ 64 - 1 - (n - 1) ≡ pattern (cell x)
  bits_some h z = turn (n - 1) ∙ ap pattern (minus_some h z)
    where
      turn : (k : ℕ) → 2 ^ 64 - 1 - k ≡ 2 ^ 64 - suc k
      turn k = omega arith

  -- the signed number, and the steps to it
  below : n - 1 < 2 ^ 63
  below = omega (arith, size_most)

  -- one less than the size fits
  pub less_one : SFits w64 (pos (n - 1))
  less_one = record { sfits = below }

  -- so does its negative
  pub zero_less_that : SFits w64 (pos 0 -ℤ to_z w64 (n - 1))
  zero_less_that = zero_less_fits (n - 1) below

  -- and one lower
  pub one_lower : SFits w64 (to_z w64 (of_z w64 (pos 0 -ℤ to_z w64 (n - 1))) -ℤ pos 1)
  one_lower = lower_fits (n - 1) below

  -- below the clamp
  pub number_small : b < 2 ^ 31 → n < 2 ^ 63 → to_z w64 n ≡ cell x
  number_small h l = to_z_pos w64 n l ∙ plus_small h l

  -- minus something
  pub number_some : 2 ^ 31 ≤ b → (n ≡ 0 → ⊥)
      → to_z w64 (of_z w64 (to_z w64 (of_z w64 (pos 0 -ℤ to_z w64 (n - 1))) -ℤ pos 1)) ≡ cell x
  number_some h z = lower_is (n - 1) below ∙ minus_some h z

-- ---- the cell as it is answered

-- a clamped number fits
clamped_fits : (s : Bool) (n : ℕ) → SFits w64 (clamped s n)
clamped_fits false n = record { sfits = few n }
  where
    few : (n : ℕ) → min n (2 ^ 63 - 1) < 2 ^ 63
    few n = omega arith
clamped_fits true n = record { sfits = few (min n (2 ^ 63)) (min-le_right _ _) }
  where
    few : (k : ℕ) → k ≤ 2 ^ 63 → mag (neg_ℤ (pos k)) < 2 ^ 63
    few zero h = omega arith
    few (suc k) h = omega arith

-- so does a cell
cell_fits : (x : Float) → SFits w64 (cell x)
unfolding cell
cell_fits nan = record { sfits = omega arith }
cell_fits (inf s) = clamped_fits s (2 ^ 63)
cell_fits (fin s m e) = clamped_fits s _

-- value and clamped make the answer
pub cell_told_lem : (x : Float) {z : ℤ} {b : Bool} → z ≡ cell x → b ≡ clamps x → ◌≡◌ {A = CellAnswer} (record { value = to_z w64 (of_z w64 z); clamped = b }) (cell_told x)
cell_told_lem x {z} e f = let v : to_z w64 (of_z w64 z) ≡ cell x = ap (λ (y : ℤ). to_z w64 (of_z w64 y)) e ∙ to_z-of_z w64 (cell x) (cell_fits x) in λ i. record { value = v i; clamped = f i }
