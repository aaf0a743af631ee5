-- What the machine asks of signed 64-bit numbers. A signed local holds bits: x is read as `to_z w64 (of_z w64 x)`. Assumes nothing.
use Rattle.std.specs.Prelude.{◌≡◌, suc, ◌^◌, ◌≤◌, T, ℤ, pos, negsuc, nat_abs}
use Rattle.std.proofs.Common.{arith, SFits, to_z, of_z}
use Rattle.std.specs.Int.Signed.{non_neg}
use Rattle.std.specs.Int.{w64}
use Rattle.std.proofs.lemmas.Int.{to_z-of_z}
use Rattle.signed_numbers.specs.Linear.{down, mag_abs}

-- as the machine reads it
abbrev pub read : ℤ → ℤ
read x = to_z w64 (of_z w64 x)

-- a number within 2^62 fits
pub small_fits : (z : ℤ) → nat_abs z ≤ 2 ^ 62 → SFits w64 z
small_fits z h = record { sfits = omega (arith, mag_abs z) }

-- and is read back
pub small_read : (z : ℤ) → nat_abs z ≤ 2 ^ 62 → read z ≡ z
small_read z h = to_z-of_z w64 z (small_fits z h)

-- not negative
pub not_negative : (z : ℤ) → down z ≡ 0 → T (non_neg z)
not_negative (pos n) h = tt
not_negative (negsuc n) h = absurd (none h)
  where
    none : suc n ≡ 0 → ⊥
    none h = omega arith
