-- `bin_limits` meets its contract. Assumes nothing.
use Rattle.bench_yard.proofs.Lengths.{bin_limits_are}
use Rattle.bench_yard.proofs.bin_limits.Goals as goal

pub returns : goal.returns
returns c = bin_limits_are
