-- A claim that says `unfolding evaluation` has every definition of this crate and of those below it computed. Assumes nothing.
use Rattle.std.specs.Prelude.{ℕ}
use Rattle.lists.specs.Evaluation as Lists
use Rattle.float_round.specs.Evaluation as Integral
use Rattle.point_rules.specs.Rule.{names}
use Rattle.point_rules.specs.Points.{cell, nearest_size, nearest, clamps, little_endian, key_step, key_steps, key, bits, zeros}
use Rattle.point_rules.specs.Bits.{bits_by, front_bits, digest}

-- every definition that computes
unfoldable pub evaluation : ℕ
unfolding Lists.evaluation Integral.evaluation names cell nearest_size nearest clamps little_endian key_step key_steps key bits zeros bits_by front_bits digest
evaluation = 0
