-- `in_limits` meets its contract. Assumes nothing.
use Rattle.sheet_reader_state.specs.Limits.{small}
use borrow.Author.Rules.{rules}
use Rattle.sheet_room.proofs.in_limits.Goals as goal

pub room_for-requires : goal.room_for-requires
room_for-requires c = search (rules, small)
