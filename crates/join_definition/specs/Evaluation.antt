-- A claim that says `unfolding evaluation` has every definition of this crate and of those below it computed. Assumes nothing.
use Rattle.std.specs.Prelude.{ℕ}
use Rattle.join_definition.specs.Join.{index_of, joined, first_index}

-- every definition that computes
unfoldable pub evaluation : ℕ
unfolding index_of joined first_index
evaluation = 0
