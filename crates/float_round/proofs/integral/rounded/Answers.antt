-- `integral::integral::rounded` meets its contract. Assumes nothing.
use mathlib.Core.Path.{◌≡◌, ap, ◌∙◌}
use Prim.Native.Nat.{ℕ, ◌+◌, ◌*◌, ◌/◌, ◌^◌, ◌≤◌, ◌<◌}
use native.Mathlib.Nat.{pow-succ'}
use native.Mathlib.Numerals.{add-one}
use native.Mathlib.Omega.{arith}
use lib.Pow.{pow_mono}
use Rattle.float_round.specs.Integral.{half_up}
use Rattle.float_round.proofs.RoundBits.{half_up_le}
use Rattle.float_round.proofs.integral.rounded.Goals as goal

small : (a u v h m : ℕ) → v ≤ 2 ^ 53 → u ≡ v → a ≡ h * u → h * (u * 2) ≤ m * 2 + u → m < 2 ^ 53 → a < 2 ^ 64
small a u v h m l e p g k = omega (arith, ap (λ (z : ℕ). z * 2) p)

pub overflow_add-result : goal.overflow_add-result
overflow_add-result c = omega (arith, c.power-u.ensures, (pow_mono {i = c.args.k} {j = 53} (omega arith)))

pub overflow_mul-result-2 : goal.overflow_mul-result-2
overflow_mul-result-2 c = record { fits = small ((c.args.m * 2 + c.power-u.result) / 2 ^ (c.args.k + 1) * c.power-u.result) c.power-u.result (2 ^ c.args.k) (half_up c.args.m c.power-u.result) c.args.m ((pow_mono {i = c.args.k} {j = 53} (omega arith))) c.power-u.ensures (ap (λ (z : ℕ). (c.args.m * 2 + c.power-u.result) / z * c.power-u.result) ((ap (λ (z : ℕ). 2 ^ z) (add-one c.args.k) ∙ pow-succ' 2 c.args.k ∙ omega (arith, c.power-u.ensures)))) (half_up_le c.args.m c.power-u.result) (omega arith) }

pub returns : goal.returns
returns c = ap (λ (z : ℕ). (c.args.m * 2 + c.power-u.result) / z * c.power-u.result) ((ap (λ (z : ℕ). 2 ^ z) (add-one c.args.k) ∙ pow-succ' 2 c.args.k ∙ omega (arith, c.power-u.ensures))) ∙ ap (λ (u : ℕ). half_up c.args.m u * u) c.power-u.ensures
