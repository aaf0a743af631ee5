-- `float_steps::larger_f64` meets its contract. Assumes nothing.
use Rattle.std.proofs.Common.{sym}
use Rattle.float_rounding.specs.Fields.{equals_itself}
use Rattle.float_steps.specs.Plus.{larger_above}
use Rattle.float_steps.proofs.Signs.{plus, minus, larger_left_nan, larger_right_nan, larger_left, equal_plus, equal_minus}
use Rattle.float_steps.proofs.comparison.larger_f64.Goals as goal

pub returns-then-x : goal.returns-then-x
returns-then-x c = let a = c.args in larger_left_nan a.x a.y c.if-x.true

pub returns-then-y : goal.returns-then-y
returns-then-y c = let a = c.args in larger_right_nan a.x a.y c.if-x.false c.if-y.true

pub returns-then-x-y : goal.returns-then-x-y
returns-then-x-y c = let a = c.args in sym (larger_above a.x a.y c.if-x-y.true)

pub returns-then-y-x : goal.returns-then-y-x
returns-then-y-x c = let a = c.args in larger_left a.x a.y c.if-x.false c.if-y.false c.if-x-y.false c.if-y-x.true

pub float_to_bits-x : goal.float_to_bits-x
float_to_bits-x c = equals_itself c.args.x c.if-x.false

pub returns-then-x-lt9223372036854775808 : goal.returns-then-x-lt9223372036854775808
returns-then-x-lt9223372036854775808 c = let a = c.args in let p = c.if-x.false in equal_plus a.x a.y p c.if-y.false c.if-x-y.false c.if-y-x.false (plus a.x c.well_formed.0.1 p c.if-x-lt9223372036854775808.true)

pub returns-else-x-lt9223372036854775808 : goal.returns-else-x-lt9223372036854775808
returns-else-x-lt9223372036854775808 c = let a = c.args in let p = c.if-x.false in equal_minus a.x a.y p c.if-y.false c.if-x-y.false c.if-y-x.false (minus a.x c.well_formed.0.1 p c.if-x-lt9223372036854775808.false)
