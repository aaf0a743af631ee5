-- `lay_uses` meets its contract. Assumes nothing.
use Rattle.turn_pairs.proofs.LaidLaws.{joinable, users_found, laid}
use Rattle.turn_pairs.proofs.uses.lay_uses.Goals as goal

pub join_body-requires : goal.join_body-requires
join_body-requires c = search joinable

pub list_uses-requires : goal.list_uses-requires
list_uses-requires c = search users_found

pub returns : goal.returns
returns c = search laid
