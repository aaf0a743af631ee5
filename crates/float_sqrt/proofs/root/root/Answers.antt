-- `float_sqrt::root::root` meets its contract. Assumes nothing.
use native.Mathlib.Omega.{arith}
use Rattle.float_sqrt.proofs.Guess.{accepted}
use Rattle.float_sqrt.proofs.root.root.Goals as goal

pub returns-then-is_root : goal.returns-then-is_root
returns-then-is_root c = accepted c.args.n c.args.q (omega arith) (omega arith) (c.is_root.ensures c.if-is_root.true)
