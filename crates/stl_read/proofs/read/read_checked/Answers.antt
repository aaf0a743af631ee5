-- `read_checked` meets its contract. Assumes nothing.
use Rattle.stl_read.proofs.ReadLaws.{count_there, few_read, mesh_left_lem, mesh_ready, short_left}
use borrow.Author.Rules.{rules}
use Rattle.stl_read.proofs.read.read_checked.Goals as goal

pub word_at-n-requires : goal.word_at-n-requires
word_at-n-requires c = search (rules, count_there)

pub no_room-requires : goal.no_room-requires
no_room-requires c = search (rules, few_read)

pub returns-then-no_room : goal.returns-then-no_room
returns-then-no_room c = search (rules, short_left)

pub put_mesh-requires : goal.put_mesh-requires
put_mesh-requires c = search (rules, mesh_ready)

pub returns : goal.returns
returns c = search (rules, mesh_left_lem)
