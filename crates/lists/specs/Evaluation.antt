-- A claim that says `unfolding evaluation` has every definition of this crate and of those below it computed. Assumes nothing.
use Rattle.std.specs.Prelude.{ℕ}
use mathlib.Core.List.{flat_map}
use Rattle.lists.specs.Lists.{any, all, count_if, filter, sum_of, filter_map, item_at, written, insert_new, ascending}
use Rattle.lists.specs.Table.{same, agrees}

-- every definition that computes
unfoldable pub evaluation : ℕ
unfolding flat_map any all count_if filter sum_of filter_map item_at written insert_new ascending same agrees
evaluation = 0
