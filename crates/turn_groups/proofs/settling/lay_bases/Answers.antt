-- `lay_bases` meets its contract. Assumes nothing.
use Rattle.turn_groups.proofs.RootLaws.{bases_laid_at}
use Rattle.turn_groups.proofs.settling.lay_bases.Goals as goal

pub returns : goal.returns
returns c = search bases_laid_at
