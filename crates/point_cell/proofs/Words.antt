-- The whole number nearest a multiple of an f32 by its sign and its distance from zero, and its word. Assumes nothing.
use mathlib.Core.Path.{◌≡◌, refl, sym, ap, ◌∙◌}
use mathlib.Core.Bool.{Bool, true, false, cond}
use Prim.Native.Nat.{ℕ, zero, suc, ◌+◌, ◌-◌, ◌^◌, ◌≤◌, ◌<◌, min}
use native.Mathlib.Omega.{arith}
use borrow.Author.Tests.{lt-leb, le-leb}
use lib.IntN.{pos, neg_ℤ}
use lib.Dec.{leb, eqb}
use lib.Ieee.{Float, nan, inf, binary32, odd, of_fields, to_bits, fits}
use Rattle.signed_numbers.specs.Linear.{up, down, up_neg, down_neg}
use Rattle.point_rules.specs.Points.{nearest, nearest_size, signed}
use Rattle.point_cell.specs.Scale.{NearestWord}
use Rattle.point_cell.proofs.Fields.{is}

-- ---- the sign, by the fields
odd_nearest : (F d : ℕ) (s : Bool) (q k l : ℕ) → nearest F (odd d s q k l) ≡ signed s (nearest_size F (odd d s q k l))
unfolding odd nearest
odd_nearest F d s zero k l = refl
odd_nearest F d s (suc q) k l = refl

inf_nearest : (F : ℕ) (s : Bool) → nearest F (inf s) ≡ signed s (nearest_size F (inf s))
unfolding nearest
inf_nearest F s = refl

nan_nearest : (F : ℕ) (s : Bool) → nearest F nan ≡ signed s (nearest_size F nan)
unfolding nearest nearest_size
nan_nearest F true = refl
nan_nearest F false = refl

fields_nearest : (F : ℕ) (s : Bool) (e t : ℕ) → nearest F (of_fields binary32 s e t) ≡ signed s (nearest_size F (of_fields binary32 s e t))
unfolding of_fields
fields_nearest F s zero t = odd_nearest F 24 s t 0 149
fields_nearest F s (suc x) t = go (eqb (suc x) 255) (eqb t 0)
  where
    go : (b c : Bool) → let v = cond b (cond c (inf s) nan) (odd 24 s (2 ^ 23 + t) x 149) in nearest F v ≡ signed s (nearest_size F v)
    go true true = inf_nearest F s
    go true false = nan_nearest F s
    go false c = odd_nearest F 24 s (2 ^ 23 + t) x 149

module _ (x : Float) (b F : ℕ) (f : fits binary32 x ≡ true) (at : b ≡ to_bits binary32 x) where
  -- by the sign's bit
  pub signed_is : nearest F x ≡ signed (leb (2 ^ 31) b) (nearest_size F x)
  signed_is = ap (nearest F) (sym (is x b f at)) ∙ fields_nearest F (leb (2 ^ 31) b) _ _ ∙ ap (λ (v : Float). signed (leb (2 ^ 31) b) (nearest_size F v)) (is x b f at)

  -- the word of a number without a sign
  pub word_plus : {n M : ℕ} → n ≡ min (nearest_size F x) M → b < 2 ^ 31 → NearestWord F M x (M + n)
  word_plus {n} {M} e h =
      let z : nearest F x ≡ pos (nearest_size F x) = signed_is ∙ ap (λ (s : Bool). signed s (nearest_size F x)) (lt-leb (2 ^ 31) b h) in
      record { is = omega (arith, ap up z, ap down z) }

  -- and with one
  pub word_minus : {n M : ℕ} → n ≡ min (nearest_size F x) M → 2 ^ 31 ≤ b → NearestWord F M x (M - n)
  word_minus {n} {M} e h =
      let z : nearest F x ≡ neg_ℤ (pos (nearest_size F x)) = signed_is ∙ ap (λ (s : Bool). signed s (nearest_size F x)) (le-leb (2 ^ 31) b h) in
      record { is = omega (arith, ap up z, ap down z, up_neg (pos (nearest_size F x)), down_neg (pos (nearest_size F x))) }

-- the word fits, on either side
pub word_fits : (F : ℕ) (x : Float) {n M : ℕ} → n ≡ min (nearest_size F x) M → M ≤ 2 ^ 62 → M + n < 18446744073709551616
word_fits F x e h = omega arith

pub size_within : (F : ℕ) (x : Float) {n M : ℕ} → n ≡ min (nearest_size F x) M → n ≤ M
size_within F x e = omega arith
