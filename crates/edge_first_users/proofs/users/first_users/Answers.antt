-- `first_users` meets its contract. Assumes nothing.
use Rattle.edge_first_users.proofs.UserLaws.{users_found}
use Rattle.edge_first_users.proofs.users.first_users.Goals as goal

pub returns : goal.returns
returns c = search users_found
