-- `limits` meets its contract. Assumes nothing.
use Rattle.bench.proofs.Lengths.{limits_are}
use Rattle.bench.proofs.limits.Goals as goal

pub returns : goal.returns
returns c = limits_are
