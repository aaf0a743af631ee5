-- `limits` meets its contract. Assumes nothing.
use Rattle.bench_yard.proofs.Lengths.{limits_are}
use Rattle.bench_yard.proofs.limits.Goals as goal

pub returns : goal.returns
returns c = limits_are
