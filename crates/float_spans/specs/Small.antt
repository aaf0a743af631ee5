-- Differences of finite f32 values, taken in f64, are finite. Assumes nothing.
use Rattle.std.specs.Prelude.{Bool, true, false, ◌&&◌, ℕ, zero, suc, ◌+◌, ◌*◌, ◌%◌, ◌^◌, ◌≤◌, ◌<◌, T, ltb, leb, eqb, ℤ, pos, Float}
use Rattle.std.proofs.Common.{arith, ltb→lt, pow_pos, mul-pos}
use Rattle.std.specs.Float.{nan, inf, fin, binary32, binary64}
use Rattle.std.specs.Float.Ieee.{up, down, fits, sub, le}
use Rattle.std.specs.Float.Ieee.Fits.{and_r, down_pos}
use Rattle.std.specs.Float.Ieee.Scale.{finite}
use Rattle.float_spans.specs.Signs.{Le→le}
use Rattle.float_spans.specs.Monotone.{sub_le, sub_number}
use Rattle.float_spans.specs.Orders.{below_of_le}
use Rattle.float_spans.specs.Squares.{finite_between}

-- ±2 ^ 128, beyond each finite f32
abbrev end : Bool → Float
end s = fin s 1 (pos 128)

-- what a finite f32 is
pub record Single (x : Float) : Type 0 where
  pub fit : T (fits binary32 x)
  pub real : T (finite x)

size_lt : (s : Bool) (m : ℕ) (e : ℤ) → T (fits binary32 (fin s (suc m) e)) → suc m * up e < 2 ^ 128 * down e
unfolding fits
size_lt s m e h = ltb→lt (suc m * up e) (2 ^ 128 * down e) (and_r (eqb (suc m % 2) 1 && ltb (suc m) (2 ^ 24) && leb (down e) (2 ^ 149)) (ltb (suc m * up e) (2 ^ 128 * down e)) h)

-- K stands for 2 ^ 128, which `omega` would not take
from_plus : (x d K : ℕ) → x < K * d → x * 1 + 0 * d ≤ 1 * K * d + 0 * 1
from_plus x d K h = omega arith

from_minus : (x d K : ℕ) → 0 * 1 + 0 * d ≤ 1 * K * d + x * 1
from_minus x d K = omega arith

to_plus : (x d K : ℕ) → 0 * d + 0 * 1 ≤ x * 1 + 1 * K * d
to_plus x d K = omega arith

to_minus : (x d K : ℕ) → x < K * d → 0 * d + x * 1 ≤ 0 * 1 + 1 * K * d
to_minus x d K h = omega arith

-- zero is below K
zero_lt : (u d K : ℕ) → 0 < K → 0 < d → 0 * u < K * d
zero_lt u d K p q = omega (arith, mul-pos p q)

below_end : (x : Float) → Single x → T (le x (end false))
below_end nan h = absurd h.real
below_end (inf s) h = absurd h.real
below_end (fin true m e) h = Le→le (fin true m e) (end false) tt tt (from_minus (m * up e) (down e) (2 ^ 128))
below_end (fin false zero e) h = Le→le (fin false zero e) (end false) tt tt (from_plus (0 * up e) (down e) (2 ^ 128) (zero_lt (up e) (down e) (2 ^ 128) (pow_pos 128) (down_pos e)))
below_end (fin false (suc m) e) h = Le→le (fin false (suc m) e) (end false) tt tt (from_plus (suc m * up e) (down e) (2 ^ 128) (size_lt false m e h.fit))

above_end : (x : Float) → Single x → T (le (end true) x)
above_end nan h = absurd h.real
above_end (inf s) h = absurd h.real
above_end (fin false m e) h = Le→le (end true) (fin false m e) tt tt (to_plus (m * up e) (down e) (2 ^ 128))
above_end (fin true zero e) h = Le→le (end true) (fin true zero e) tt tt (to_minus (0 * up e) (down e) (2 ^ 128) (zero_lt (up e) (down e) (2 ^ 128) (pow_pos 128) (down_pos e)))
above_end (fin true (suc m) e) h = Le→le (end true) (fin true (suc m) e) tt tt (to_minus (suc m * up e) (down e) (2 ^ 128) (size_lt true m e h.fit))

widest : T (finite (sub binary64 (end false) (end true)))
unfolding sub
widest = tt

lowest : T (finite (sub binary64 (end true) (end false)))
unfolding sub
lowest = tt

-- x - y
pub single_sub : (x y : Float) → Single x → Single y → T (finite (sub binary64 x y))
single_sub x y p q =
    finite_between (sub binary64 (end true) (end false)) (sub binary64 x y) (sub binary64 (end false) (end true)) lowest widest (sub_number binary64 x y p.real q.real)
    (below_of_le (sub binary64 x y) (sub binary64 (end true) (end false)) (sub_le binary64 (end true) x (end false) y tt p.real tt q.real (above_end x p) (below_end y q)))
    (below_of_le (sub binary64 (end false) (end true)) (sub binary64 x y) (sub_le binary64 x (end false) y (end true) p.real tt q.real tt (below_end x p) (above_end y q)))
