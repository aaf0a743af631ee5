-- `integral::integral::round` meets its contract. Assumes nothing.
use mathlib.Core.Path.{sym}
use Prim.Native.Nat.{◌+◌, ◌-◌}
use native.Mathlib.Omega.{arith}
use Rattle.float_steps.specs.Patterns.{field, tail, sign_weight}
use Rattle.float_round.proofs.RoundBits.{kept_le, round_zero, round_fraction, round_whole, round_nan}
use Rattle.float_round.proofs.integral.round.Goals as goal

pub returns-then-e-lt1022 : goal.returns-then-e-lt1022
returns-then-e-lt1022 c = omega (arith, round_zero c.args.b c.if-e-lt1022.true, (sign_weight c.args.b 9223372036854775808 (omega arith)))

pub returns-then-b-gt9218868437227405312 : goal.returns-then-b-gt9218868437227405312
returns-then-b-gt9218868437227405312 c = sym (round_nan c.args.b c.if-b-gt9218868437227405312.true)

pub returns-then-e-ge1075 : goal.returns-then-e-ge1075
returns-then-e-ge1075 c = let b = c.args.b in sym (round_whole b c.if-e-ge1075.true (omega arith) c.if-b-gt9218868437227405312.false)

pub overflow_add-result-2 : goal.overflow_add-result-2
overflow_add-result-2 c = omega (arith, c.rounded.ensures, (kept_le (4503599627370496 + tail c.args.b) (1075 - field c.args.b) (omega arith) (omega arith) (omega arith) (omega arith)))

pub returns : goal.returns
returns c = omega (arith, c.rounded.ensures, round_fraction c.args.b c.if-e-lt1022.false c.if-e-ge1075.false, (sign_weight c.args.b 9223372036854775808 (omega arith)))
