-- `speed_join_words` meets its contract. Assumes nothing.
use mathlib.Core.Path.{refl}
use Rattle.join_speed.specs.Tried.{Done, NoRoom}
use Rattle.join_speed.proofs.speed_join_words.Goals as goal

pub returns-then-n-ge4294967296 : goal.returns-then-n-ge4294967296
returns-then-n-ge4294967296 c = NoRoom refl

pub returns-then-w-n : goal.returns-then-w-n
returns-then-w-n c = NoRoom refl

pub returns : goal.returns
returns c = Done c.join_words.ensures
