-- `float_sqrt::root::is_root` meets its contract. Assumes nothing.
use native.Mathlib.Omega.{arith}
use Rattle.float_sqrt.proofs.Guess.{square_high, square_mixed, square_rest, tested, refused}
use Rattle.float_sqrt.proofs.root.is_root.Goals as goal

pub overflow_mul-b : goal.overflow_mul-b
overflow_mul-b c = omega (arith, square_high c.args.q (omega arith))

pub overflow_mul-b-2 : goal.overflow_mul-b-2
overflow_mul-b-2 c = omega (arith, square_high c.args.q (omega arith))

pub returns-then-n-b : goal.returns-then-n-b
returns-then-n-b c = refused

pub returns-then-c-ge274877906944 : goal.returns-then-c-ge274877906944
returns-then-c-ge274877906944 c = refused

pub overflow_mul-d : goal.overflow_mul-d
overflow_mul-d c = omega (arith, square_mixed c.args.q (omega arith))

pub returns-then-c-d : goal.returns-then-c-d
returns-then-c-d c = refused

pub returns-then-t-ge34359738368 : goal.returns-then-t-ge34359738368
returns-then-t-ge34359738368 c = refused

pub overflow_mul-w : goal.overflow_mul-w
overflow_mul-w c = omega (arith, square_rest c.args.q (omega arith))

pub overflow_add-w : goal.overflow_add-w
overflow_add-w c = omega (arith, square_rest c.args.q (omega arith))

pub returns-then-r-q : goal.returns-then-r-q
returns-then-r-q c = refused

pub returns : goal.returns
returns c = tested c.args.n c.args.q c.if-n-b.false c.if-c-d.false c.if-r-q.false
