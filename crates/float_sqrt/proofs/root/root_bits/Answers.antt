-- `float_sqrt::root::root_bits` meets its contract. Assumes nothing.
use native.Mathlib.Omega.{arith}
use Prim.Native.Nat.{◌%◌}
use Rattle.float_sqrt.proofs.Guess.{kept, pattern}
use Rattle.float_sqrt.proofs.SqrtBits.{nearest_lt}
use Rattle.float_sqrt.proofs.root.root_bits.Goals as goal

pub overflow_mul-m : goal.overflow_mul-m
overflow_mul-m c = omega (arith, (kept c.args.m (c.args.e % 2) (omega arith) (omega arith) (omega arith)))

pub root-q-requires : goal.root-q-requires
root-q-requires c = record { bound = omega (arith, (kept c.args.m (c.args.e % 2) (omega arith) (omega arith) (omega arith))); n_bound = omega (arith, (kept c.args.m (c.args.e % 2) (omega arith) (omega arith) (omega arith))); q_bound = omega (arith, c.guess.ensures) }

pub overflow_add-result : goal.overflow_add-result
overflow_add-result c = omega (arith, c.root-q.ensures, nearest_lt _ ((kept c.args.m (c.args.e % 2) (omega arith) (omega arith) (omega arith))).lo ((kept c.args.m (c.args.e % 2) (omega arith) (omega arith) (omega arith))).hi)

pub returns : goal.returns
returns c = let a = c.args in omega (arith, c.root-q.ensures, pattern a.m a.e (omega arith) (omega arith) (omega arith) (omega arith))
