-- Whether a cell is clamped, by the bits of its coordinate. Assumes nothing.
use mathlib.Core.Path.{◌≡◌, refl, sym, ap, ◌∙◌}
use mathlib.Core.Logic.{◌⊎◌, inl, inr}
use mathlib.Core.Bool.{Bool, true, false, ◌&&◌}
use Prim.Native.Nat.{ℕ, zero, suc, ◌+◌, ◌-◌, ◌*◌, ◌/◌, ◌%◌, ◌^◌, ◌≤◌, ◌<◌, min}
use native.Mathlib.Nat.{le_refl, lt_of_le_of_lt, mul-le-mul, eq-zero-or-pos}
use native.Mathlib.Omega.{arith}
use native.Mathlib.Decide.{dec_lt}
use borrow.Author.Tests.{lt-leb, le-leb}
use lib.Pow.{pow_mono}
use lib.Dec.{leb, lit≤}
use lib.Ieee.{Float, binary32, to_bits, fits}
use Rattle.float_round.specs.Integral.{half_up}
use Rattle.point_rules.specs.Points.{clamps, nearest_size, signed, outside64}
use Rattle.point_cell.specs.Scale.{Scale}
use Rattle.point_cell.proofs.Fields.{expo, rest, high, size_low, size_mid, quotient_few, size_over, size_nan, size_inf}
use Rattle.point_cell.proofs.Words.{signed_is}

-- on which side of n is m
side : (m n : ℕ) → (m < n) ⊎ (n ≤ m)
side m n = go (dec_lt m n)
  where
    go : Dec (m < n) → (m < n) ⊎ (n ≤ m)
    go (yes h) = inl h
    go (no h) = inr (omega arith)

-- a limit one above the largest size that fits
room : Scale 1000000 (2 ^ 63 + 1)
room = record { few = lit≤ tt; low = lit≤ tt; top = lit≤ tt }

-- a size below 2^63 is inside with either sign
inside : (s : Bool) (n : ℕ) → n < 2 ^ 63 → outside64 (signed s n) ≡ false
inside false n h = lt-leb (2 ^ 63) n h
inside true zero h = refl
inside true (suc n) h = lt-leb (2 ^ 63) n (omega arith)

-- one above it is outside
outside : (s : Bool) (n : ℕ) → 2 ^ 63 < n → outside64 (signed s n) ≡ true
outside false n h = le-leb (2 ^ 63) n (omega arith)
outside true zero h = elim h [ ]
outside true (suc n) h = le-leb (2 ^ 63) n (omega arith)

-- half of a small number
half_few : (q : ℕ) → q < 2 ^ 44 → half_up q 2 < 2 ^ 63
half_few q h = omega arith

module _ (x : Float) (b : ℕ) (f : fits binary32 x ≡ true) (at : b ≡ to_bits binary32 x) where
  -- how far the nearest whole number is from zero
  abbrev size : ℕ
  size = nearest_size 1000000 x

  -- by the size
  by_size : clamps x ≡ outside64 (signed (leb (2 ^ 31) b) size)
  unfolding clamps
  by_size = ap outside64 (signed_is x b 1000000 f at)

  -- inside: the bits are below the first that clamps, or a NaN's
  not_clamped : size < 2 ^ 63 → (b % 2 ^ 31 < 0x550637BE) ⊎ (0x7F800000 < b % 2 ^ 31) → (leb 0x550637BE (b % 2 ^ 31) && leb (b % 2 ^ 31) 0x7F800000) ≡ clamps x
  not_clamped l (inl h) = ap (λ (t : Bool). t && leb (b % 2 ^ 31) 0x7F800000) (lt-leb 0x550637BE (b % 2 ^ 31) h) ∙ sym (by_size ∙ inside (leb (2 ^ 31) b) size l)
  not_clamped l (inr h) =
      (λ i. le-leb 0x550637BE (b % 2 ^ 31) (omega arith) i && lt-leb (b % 2 ^ 31) 0x7F800000 h i) ∙ sym (by_size ∙ inside (leb (2 ^ 31) b) size l)

  -- outside
  is_clamped : 2 ^ 63 < size → 0x550637BE ≤ b % 2 ^ 31 → b % 2 ^ 31 ≤ 0x7F800000 → (leb 0x550637BE (b % 2 ^ 31) && leb (b % 2 ^ 31) 0x7F800000) ≡ clamps x
  is_clamped l h k =
      (λ i. le-leb 0x550637BE (b % 2 ^ 31) h i && le-leb (b % 2 ^ 31) 0x7F800000 k i) ∙ sym (by_size ∙ outside (leb (2 ^ 31) b) size l)

  -- with digits behind the point
  rounded : 105 ≤ expo b → expo b < 150 → size < 2 ^ 63
  rounded l h =
      omega (arith, size_mid x b 1000000 (2 ^ 63 + 1) f at room l h refl, half_few (1000000 * (2 ^ 23 + rest b) / 2 ^ (149 - expo b)) (quotient_few x b 1000000 (2 ^ 63 + 1) f at room))

  -- below the exponent of 2^43
  small : 150 ≤ expo b → expo b < 170 → size < 2 ^ 63
  small l h = omega (arith, high x b 1000000 (2 ^ 63 + 1) f at room l (omega arith), product)
    where
      product : 1000000 * (2 ^ 23 + rest b) * 2 ^ (expo b - 150) < 2 ^ 63
      product =
          lt_of_le_of_lt (mul-le-mul {n₁ = 1000000 * (2 ^ 23 + rest b)} {m₁ = 2 ^ (expo b - 150)} (le_refl _) (pow_mono {i = expo b - 150} {j = 19} (omega arith)))
          (omega arith)

  -- at it: the digits decide
  edge : expo b ≡ 170 → min (1000000 * (2 ^ 23 + rest b) * 2 ^ 20) (2 ^ 63 + 1) ≡ min size (2 ^ 63 + 1)
  edge e = ap (λ (k : ℕ). min (1000000 * (2 ^ 23 + rest b) * 2 ^ k) (2 ^ 63 + 1)) twenty ∙ high x b 1000000 (2 ^ 63 + 1) f at room (omega arith) (omega arith)
    where
      twenty : 20 ≡ expo b - 150
      twenty = omega arith

  -- the bits by their fields
  fields : b % 2 ^ 31 ≡ expo b * 2 ^ 23 + rest b
  fields = omega arith

  pub clamps_between : (leb 0x550637BE (b % 2 ^ 31) && leb (b % 2 ^ 31) 0x7F800000) ≡ clamps x
  clamps_between = low (side (expo b) 105)
    where
      at_edge : expo b ≡ 170 → (rest b < 0x637BE) ⊎ (0x637BE ≤ rest b) → (leb 0x550637BE (b % 2 ^ 31) && leb (b % 2 ^ 31) 0x7F800000) ≡ clamps x
      at_edge e (inl h) = not_clamped (omega (arith, edge e)) (inl (omega (arith, fields)))
      at_edge e (inr h) = is_clamped (omega (arith, edge e)) (omega (arith, fields)) (omega (arith, fields))

      top : expo b ≡ 255 → (rest b ≡ 0) ⊎ (0 < rest b) → (leb 0x550637BE (b % 2 ^ 31) && leb (b % 2 ^ 31) 0x7F800000) ≡ clamps x
      top e (inl z) = is_clamped (omega (arith, size_inf x b 1000000 (2 ^ 63 + 1) f at room e z)) (omega (arith, fields)) (omega (arith, fields))
      top e (inr h) = not_clamped (omega (arith, size_nan x b 1000000 (2 ^ 63 + 1) f at room e (λ z. omega arith))) (inr (omega (arith, fields)))

      over : 170 < expo b → (expo b < 255) ⊎ (255 ≤ expo b) → (leb 0x550637BE (b % 2 ^ 31) && leb (b % 2 ^ 31) 0x7F800000) ≡ clamps x
      over l (inl h) =
          is_clamped (omega (arith, size_over x b 1000000 (2 ^ 63 + 1) f at room (omega arith) (λ e. omega arith))) (omega (arith, fields)) (omega (arith, fields))
      over l (inr h) = top (omega arith) (eq-zero-or-pos (rest b))

      past : 170 ≤ expo b → (expo b < 171) ⊎ (171 ≤ expo b) → (leb 0x550637BE (b % 2 ^ 31) && leb (b % 2 ^ 31) 0x7F800000) ≡ clamps x
      past l (inl h) = at_edge (omega arith) (side (rest b) 0x637BE)
      past l (inr h) = over (omega arith) (side (expo b) 255)

      whole : 150 ≤ expo b → (expo b < 170) ⊎ (170 ≤ expo b) → (leb 0x550637BE (b % 2 ^ 31) && leb (b % 2 ^ 31) 0x7F800000) ≡ clamps x
      whole l (inl h) = not_clamped (small l h) (inl (omega (arith, fields)))
      whole l (inr h) = past h (side (expo b) 171)

      mid : 105 ≤ expo b → (expo b < 150) ⊎ (150 ≤ expo b) → (leb 0x550637BE (b % 2 ^ 31) && leb (b % 2 ^ 31) 0x7F800000) ≡ clamps x
      mid l (inl h) = not_clamped (rounded l h) (inl (omega (arith, fields)))
      mid l (inr h) = whole h (side (expo b) 170)

      low : (expo b < 105) ⊎ (105 ≤ expo b) → (leb 0x550637BE (b % 2 ^ 31) && leb (b % 2 ^ 31) 0x7F800000) ≡ clamps x
      low (inl h) = not_clamped (omega (arith, size_low x b 1000000 (2 ^ 63 + 1) f at room h)) (inl (omega (arith, fields)))
      low (inr h) = mid h (side (expo b) 150)
