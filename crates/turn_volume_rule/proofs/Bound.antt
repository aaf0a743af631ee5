-- From the error of the sum to the bound T * T * M * M * M / 2 ^ 50. Assumes nothing.
use Rattle.std.specs.Prelude.{◌≡◌, refl, List, map, ℕ, ◌+◌, ◌*◌, ◌^◌, ◌≤◌, ◌<◌, T, get_or, ℤ, pos, nat_abs, ◌-ℤ◌, ◌*ℤ◌, Float}
use Rattle.std.proofs.Common.{sym, ap, subst, le_of_mul-le-mul_right, arith, lit<, le→leb}
use Rattle.std.specs.Float.Ieee.Fits.{and_i}
use Rattle.float_rounding.specs.Approx.{Approx}
use Rattle.float_rounding.specs.Tri.{sixteenth}
use Rattle.float_rounding.specs.Sum.{Total, total_bound}
use Rattle.float_rounding.specs.Whole.{fine_of}
use Rattle.body_rows.specs.Body.{Patch}
use Rattle.patch_geometry.specs.Geometry.{zero64}
use Rattle.turn_definition.specs.Inversion.{volume_from}
use Rattle.turn_walk.specs.Walk.{unvisited}
use Rattle.turn_volume_rule.specs.Exact.{whole_of, is_whole, exact_rows, triangles_in, largest_in, exact_volume, bound, volume_of, within_bound}
use Rattle.turn_volume_rule.specs.Ints.{Is, is_pos, is_sub, is_mul, is_cast, abs_le}
use Rattle.turn_volume_rule.specs.Det.{whole_of_lem, is_whole_lem}
use Rattle.turn_volume_rule.specs.Sign.{All}
use Rattle.turn_volume_rule.specs.Sums.{RowGood, from_none, total_none, rows_near}

-- the error, without its 2 ^ 53
cancel : (P a b B e : ℕ) → 0 < P → e ≡ B * P → a * P ≤ b * P + e → a ≤ b + B
cancel P a b B e Z q h = le_of_mul-le-mul_right (omega arith) Z

regroup : (s q r T3 M3 : ℕ) → 768 * s ≡ 6 * q * r → 768 * T3 * (M3 * s) ≡ 6 * (T3 * M3) * q * r
regroup s q r T3 M3 h = omega (arith, ap (λ (x : ℕ). x * (T3 * M3)) h)

constants : 768 * sixteenth ≡ 6 * 2 ^ 577 * 2 ^ 53
unfolding sixteenth
constants = refl

unit_is : 16 * sixteenth ≡ 2 ^ 627
unfolding sixteenth
unit_is = refl

-- a number times u
pub times_unit : (u : ℕ) (y : ℤ) {p m : ℕ} → Is y p m → Is (y *ℤ pos u) (u * p) (u * m)
times_unit u y {p} {m} h = is_cast (y *ℤ pos u) (u * p) (u * m) (is_mul y (pos u) h (is_pos u)) (omega arith)

-- the error as a size
off_by : (x : Float) (e : ℤ) (B : ℕ) {p m E : ℕ} → Is e p m → Approx 6 x (16 * sixteenth * p) (16 * sixteenth * m) E → E ≡ B * 2 ^ 53
    → nat_abs (whole_of 1074 x *ℤ pos 6 -ℤ e *ℤ pos (2 ^ 627)) ≤ B
off_by x e B {p} {m} {E} h r q =
    let k = times_unit 6 (whole_of 1074 x) (whole_of_lem 1074 x r.sign r.size r.is) in
    let l : Is (e *ℤ pos (2 ^ 627)) (16 * sixteenth * p) (16 * sixteenth * m) = subst (λ (u : ℕ). Is (e *ℤ pos (2 ^ 627)) (u * p) (u * m)) (sym unit_is) (times_unit (2 ^ 627) e h) in
    abs_le (whole_of 1074 x *ℤ pos 6 -ℤ e *ℤ pos (2 ^ 627)) B (is_sub (whole_of 1074 x *ℤ pos 6) (e *ℤ pos (2 ^ 627)) k l)
    (omega (arith, cancel (2 ^ 53) _ _ B E (lit< tt) q r.hi)) (omega (arith, cancel (2 ^ 53) _ _ B E (lit< tt) q r.lo))

-- ---- a group: V lies within the bound of E
pub within : (patches : List Patch) (colours rows : List ℕ) → All (RowGood (largest_in patches rows) patches) rows → largest_in patches rows ≤ 2 ^ 277 → triangles_in patches rows ≤ 2 ^ 40
    → T (within_bound patches (record { rows = rows; colours = map (λ n. get_or colours n unvisited) rows; volume = volume_from patches colours zero64 rows }))
unfolding within_bound volume_of exact_volume bound
within patches colours rows g M l =
    let m = largest_in patches rows in
    let t = triangles_in patches rows in
    let fine = fine_of m M in
    let e = exact_rows patches rows (map (λ n. get_or colours n unvisited) rows) in
    let x = volume_from patches colours zero64 rows in
    let o = from_none (Total (m * m * m * sixteenth)) (rows_near m fine patches colours rows g (total_none m fine) (omega arith)) in
    let b = total_bound (m * m * m * sixteenth) t o.near in
    and_i (is_whole 1074 x) _ (is_whole_lem 1074 x b.sign b.size b.is)
    (le→leb _ _ (off_by x e (6 * (t * t * (m * m * m)) * 2 ^ 577) o.is (total_bound (m * m * m * sixteenth) t o.near) (regroup sixteenth (2 ^ 577) (2 ^ 53) (t * t) (m * m * m) constants)))
