-- `float_steps::power` meets its contract. Assumes nothing.
use Rattle.std.proofs.Common.{◌^◌, ◌∙◌, one-mul, arith, lit<, shl_exact}
use Rattle.float_steps.proofs.powers.power.Goals as goal

pub returns : goal.returns
returns c = shl_exact {a = 1} 1 c.args.k 64 (lit< tt) (omega arith) ∙ one-mul (2 ^ c.args.k)
