-- `join_table::start` meets its contract. Assumes nothing.
use Rattle.std.proofs.Common.{rules}
use Rattle.join_table.proofs.Chains.{begun}
use Rattle.join_table.proofs.start.Goals as goal

pub returns : goal.returns
returns c = begun _ _ _ (search rules) (search rules) (search rules)
