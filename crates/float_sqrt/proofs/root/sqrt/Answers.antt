-- `float_sqrt::root::sqrt` meets its contract. Assumes nothing.
use mathlib.Core.Path.{◌≡◌, sym, ap, ◌∙◌}
use Prim.Native.Nat.{ℕ, ◌-◌, ◌*◌, ◌^◌, ◌<◌}
use native.Mathlib.Omega.{arith}
use lib.Arith.{lt_of_le-ne}
use lib.Count.{count_leading_zeros}
use Rattle.float_steps.specs.Floats.{bits64}
use Rattle.float_sqrt.specs.Roots.{root_of}
use Rattle.float_sqrt.proofs.SqrtBits.{Moved, moved, above_zero, sqrt_zero, sqrt_none, sqrt_infinity, sqrt_normal, sqrt_subnormal}
use Rattle.float_sqrt.proofs.root.sqrt.Goals as goal

product : (b u : ℕ) → u ≡ 2 ^ (count_leading_zeros 64 b - 11) → Moved b → b * u < 2 ^ 64
product b u e m = omega (arith, ap (λ (z : ℕ). b * z) e, m.hi)

pub returns-then-b-eq0 : goal.returns-then-b-eq0
returns-then-b-eq0 c = sym (sqrt_zero c.args.b (omega arith) c.if-b-eq0.true)

pub returns-then-b-gt9218868437227405312 : goal.returns-then-b-gt9218868437227405312
returns-then-b-gt9218868437227405312 c = sym (sqrt_none c.args.b c.if-b-gt9218868437227405312.true c.if-b-eq0.false (omega arith))

pub returns-then-b-eq9218868437227405312 : goal.returns-then-b-eq9218868437227405312
returns-then-b-eq9218868437227405312 c = sym (sqrt_infinity c.args.b c.if-b-eq9218868437227405312.true)

pub overflow_cast-z : goal.overflow_cast-z
overflow_cast-z c = omega (arith, (moved c.args.b (above_zero c.args.b c.if-b-eq0.false) c.if-b-lt4503599627370496.true))

pub overflow_sub-z : goal.overflow_sub-z
overflow_sub-z c = omega (arith, (moved c.args.b (above_zero c.args.b c.if-b-eq0.false) c.if-b-lt4503599627370496.true))

pub power-requires : goal.power-requires
power-requires c = omega (arith, (moved c.args.b (above_zero c.args.b c.if-b-eq0.false) c.if-b-lt4503599627370496.true))

pub overflow_mul-b : goal.overflow_mul-b
overflow_mul-b c = record { fits = product c.args.b c.power.result c.power.ensures ((moved c.args.b (above_zero c.args.b c.if-b-eq0.false) c.if-b-lt4503599627370496.true)) }

pub overflow_sub-z-then-b-lt4503599627370496 : goal.overflow_sub-z-then-b-lt4503599627370496
overflow_sub-z-then-b-lt4503599627370496 c = omega (arith, (moved c.args.b (above_zero c.args.b c.if-b-eq0.false) c.if-b-lt4503599627370496.true))

pub root_bits-requires : goal.root_bits-requires
root_bits-requires c = let b = c.args.b in let m = (moved c.args.b (above_zero c.args.b c.if-b-eq0.false) c.if-b-lt4503599627370496.true) in let e : b * c.power.result ≡ b * 2 ^ (count_leading_zeros 64 b - 11) = ap (λ (z : ℕ). b * z) c.power.ensures in record { bound = omega arith; m_bound = omega arith; le_e = omega arith; e_bound = omega arith }

pub returns-then-b-lt4503599627370496 : goal.returns-then-b-lt4503599627370496
returns-then-b-lt4503599627370496 c = let b = c.args.b in c.root_bits.ensures ∙ ap (λ (u : ℕ). bits64 (root_of (b * u * 2 ^ (1074 - (count_leading_zeros 64 b - 11))))) c.power.ensures ∙ sym (sqrt_subnormal b (above_zero b c.if-b-eq0.false) c.if-b-lt4503599627370496.true (count_leading_zeros 64 b - 11) (omega (arith, (moved c.args.b (above_zero c.args.b c.if-b-eq0.false) c.if-b-lt4503599627370496.true))))

pub returns : goal.returns
returns c = let b = c.args.b in c.root_bits-2.ensures ∙ sym (sqrt_normal b c.if-b-lt4503599627370496.false (lt_of_le-ne c.if-b-gt9218868437227405312.false c.if-b-eq9218868437227405312.false))
