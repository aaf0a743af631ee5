-- `put_bin` meets its contract. Assumes nothing.
use Rattle.peg_search.proofs.SmallLaws.{put_inside, put_outside}
use Rattle.peg_search.proofs.passes.put_bin.Goals as goal

pub returns-then-i-bins : goal.returns-then-i-bins
returns-then-i-bins c = search put_inside

pub returns-else-i-bins : goal.returns-else-i-bins
returns-else-i-bins c = search put_outside
