-- A claim that says `unfolding evaluation` has every definition of this crate and of those below it computed. Assumes nothing.
use Rattle.std.specs.Prelude.{ℕ}
use Rattle.stitch_splits.specs.Evaluation as Splits
use Rattle.stitch_rings.specs.Rings.{fan_from, fan, numbers_of}

-- every definition that computes
unfoldable pub evaluation : ℕ
unfolding Splits.evaluation fan_from fan numbers_of
evaluation = 0
