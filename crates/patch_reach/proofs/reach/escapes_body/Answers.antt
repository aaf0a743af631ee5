-- `reach::reach::escapes_body` meets its contract. Assumes nothing.
use Rattle.patch_reach.proofs.ReachLaws.{escapes_empty, escapes_is, escapes_point}
use Rattle.patch_reach.proofs.reach.escapes_body.Goals as goal

pub returns-then-is_empty : goal.returns-then-is_empty
returns-then-is_empty c = search escapes_empty

pub returns-then-span : goal.returns-then-span
returns-then-span c = search escapes_is

pub returns : goal.returns
returns c = search escapes_point
