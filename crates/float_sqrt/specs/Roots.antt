-- The square root (IEEE 754-2019). Assumes nothing.
use Rattle.std.specs.Prelude.{true, false, cond, ℕ, zero, suc, ◌+◌, ◌-◌, ◌*◌, ◌/◌, ◌^◌, leb, ltb, Float}
use Rattle.std.specs.Float.{nan, inf, fin, binary64}
use Rattle.std.specs.Float.Ieee.{up, down, size, round}
use Rattle.float_steps.specs.Floats.{f64, bits64}

-- the whole part of the square root of n, for an n below 4 ^ k: a binary digit of the root for two of n
unfoldable pub isqrt : ℕ → ℕ → ℕ
isqrt zero n = 0
isqrt (suc k) n = let s = 2 * isqrt k (n / 4) in cond (leb ((s + 1) * (s + 1)) n) (s + 1) s

-- the whole number nearest to the square root of n, for an n below 4 ^ 53: no square root of a whole number is halfway between two
abbrev pub nearest_root : ℕ → ℕ
nearest_root n = let s = isqrt 53 n in cond (ltb s (n - s * s)) (s + 1) s

-- The square root of n in units of 2 ^ -1074, kept to its 53 leading digits: the other k stand for 4 ^ k in n.
unfoldable pub root_of : ℕ → Float
root_of n = let k = (size n + 1) / 2 - 53 in round binary64 false (nearest_root (n / 4 ^ k) * 2 ^ k) (2 ^ 1074)

-- Square root is to nearest (5.4.1); `SquareRoot` shows that no other value is as near. A zero is its own root, and what is below zero has none.
-- A value is a whole number of 4 ^ -1074.
unfoldable pub sqrt : Float → Float
sqrt nan = nan
sqrt (inf true) = nan
sqrt (inf false) = inf false
sqrt (fin s zero e) = fin s zero e
sqrt (fin true (suc m) e) = nan
sqrt (fin false (suc m) e) = root_of (suc m * up e * 4 ^ 1074 / down e)

abbrev pub sqrt_bits : ℕ → ℕ
sqrt_bits b = bits64 (sqrt (f64 b))
