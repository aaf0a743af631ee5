-- Finite f32 coordinates overflow nothing, and a value has one size. Assumes nothing.
use Rattle.std.specs.Prelude.{◌≡◌, ℕ, ◌+◌, ◌*◌, ◌^◌, ◌≤◌, ◌<◌, Bool, Float}
use Rattle.std.proofs.Common.{sym, ◌∙◌, lt_of_le_of_lt, mul-le-mul, mul-le-mul_right, arith, lit<}
use Rattle.std.proofs.Math.Nat.{eq_of_mul-eq-mul_right}
use Rattle.std.specs.Float.{nan, inf, fin}
use Rattle.std.specs.Float.Ieee.{down}
use Rattle.std.specs.Float.Ieee.Fits.{down_pos}
use Rattle.std.specs.Float.Ieee.Exact.{HasValue}
use Rattle.float_rounding.specs.Approx.{top64, unit32}
use Rattle.float_rounding.specs.Tri.{sixteenth, Fine}

-- what a product of three coordinates asks grows with M
cubes : (M N k c : ℕ) → M ≤ N → M * M * M * k * c + c ≤ N * N * N * k * c + c
cubes M N k c h = omega (arith, mul-le-mul_right (k * c) (mul-le-mul (mul-le-mul h h) h))

-- so does what a product of two asks
squares : (M N U k c : ℕ) → M ≤ N → U * (M * M * k) * c + c ≤ U * (N * N * k) * c + c
squares M N U k c h = omega (arith, mul-le-mul_right (U * k * c) (mul-le-mul h h))

-- for the M of f32 nothing overflows
pub fine_of : (M : ℕ) → M ≤ 2 ^ 277 → Fine M
unfolding top64 unit32 sixteenth
fine_of M h = record { two = lt_of_le_of_lt (squares M (2 ^ 277) (2 ^ 149) (2 ^ 623) (2 ^ 60) h) (lit< tt); three = lt_of_le_of_lt (cubes M (2 ^ 277) (2 ^ 623) (2 ^ 60) h) (lit< tt) }

-- a value has one size in a unit, whatever sign it is taken to have
pub same_size : (x : Float) (s t : Bool) (a b c : ℕ) → HasValue x s a c → HasValue x t b c → a ≡ b
same_size nan s t a b c p q = absurd p
same_size (inf u) s t a b c p q = absurd p
same_size (fin u m e) s t a b c p q = eq_of_mul-eq-mul_right (down e) (down_pos e) a b (sym p.1 ∙ q.1)
