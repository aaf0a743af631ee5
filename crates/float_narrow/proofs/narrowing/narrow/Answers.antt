-- `narrowing::narrowing::narrow` meets its contract. Assumes nothing.
use mathlib.Core.Path.{sym}
use Prim.Native.Nat.{◌+◌, ◌-◌, ◌^◌}
use native.Mathlib.Omega.{arith}
use lib.Pow.{pow_mono}
use native.Mathlib.Nat.{lt_of_lt_of_le}
use Rattle.float_steps.specs.Patterns.{field, tail, sign_weight}
use Rattle.float_narrow.proofs.NarrowBits.{nearest_small, narrow_zero, narrow_subnormal, narrow_normal, narrow_nan}
use Rattle.float_narrow.proofs.narrowing.narrow.Goals as goal

pub returns-then-e-lt872 : goal.returns-then-e-lt872
returns-then-e-lt872 c = let b = c.args.b in omega (arith, narrow_zero b c.if-e-lt872.true, (sign_weight c.args.b 2147483648 (omega arith)))

pub overflow_add-result : goal.overflow_add-result
overflow_add-result c = omega (arith, c.nearest.ensures, (nearest_small (4503599627370496 + tail c.args.b) 24 (926 - field c.args.b) (lt_of_lt_of_le {m = 2 ^ 53} (omega arith) (pow_mono {i = 53} {j = 24 + (926 - field c.args.b)} (omega arith)))))

pub overflow_cast-result-then-e-lt897 : goal.overflow_cast-result-then-e-lt897
overflow_cast-result-then-e-lt897 c = omega (arith, c.nearest.ensures, (nearest_small (4503599627370496 + tail c.args.b) 24 (926 - field c.args.b) (lt_of_lt_of_le {m = 2 ^ 53} (omega arith) (pow_mono {i = 53} {j = 24 + (926 - field c.args.b)} (omega arith)))))

pub returns-then-e-lt897 : goal.returns-then-e-lt897
returns-then-e-lt897 c = omega (arith, c.nearest.ensures, narrow_subnormal c.args.b c.if-e-lt872.false c.if-e-lt897.true, (sign_weight c.args.b 2147483648 (omega arith)))

pub returns-then-b-gt9218868437227405312 : goal.returns-then-b-gt9218868437227405312
returns-then-b-gt9218868437227405312 c = sym (narrow_nan c.args.b c.if-b-gt9218868437227405312.true)

pub overflow_add-n : goal.overflow_add-n
overflow_add-n c = let b = c.args.b in omega (arith, c.nearest-2.ensures, nearest_small (4503599627370496 + tail b) 24 29 (omega arith))

pub returns-then-n-lt2139095040 : goal.returns-then-n-lt2139095040
returns-then-n-lt2139095040 c = omega (arith, c.nearest-2.ensures, narrow_normal c.args.b c.if-e-lt897.false c.if-b-gt9218868437227405312.false, (sign_weight c.args.b 2147483648 (omega arith)))

pub returns-else-n-lt2139095040 : goal.returns-else-n-lt2139095040
returns-else-n-lt2139095040 c = omega (arith, c.nearest-2.ensures, narrow_normal c.args.b c.if-e-lt897.false c.if-b-gt9218868437227405312.false, (sign_weight c.args.b 2147483648 (omega arith)))
