-- `listed` meets its contract. Assumes nothing.
use Rattle.peg.proofs.LookupLaws.{listed_found, listed_short}
use Rattle.peg.proofs.lookup.listed.Goals as goal

pub returns-then-bins-count : goal.returns-then-bins-count
returns-then-bins-count c = search listed_short

pub returns : goal.returns
returns c = search listed_found
