-- `store_row` meets its contract. Assumes nothing.
use mathlib.Core.List.{[], ◌∷◌}
use Rattle.sheet_storing.proofs.StoreLaws.{run_placed}
use Rattle.sheet_storing.proofs.store_row.Goals as goal

pub returns : goal.returns
returns c = run_placed c.args.s.now _ c.args.at (c.args.shell ∷ c.args.face ∷ c.args.outcome ∷ 0 ∷ 0 ∷ c.args.bin ∷ []) c.requires c.put.ensures.stored
