-- A key as the code answers it: its value, and whether one of the three cells was clamped. Assumes nothing.
use Rattle.std.specs.Prelude.{◌||◌, Float}
use Rattle.point_rules.specs.Points.{key, clamps}
use Rattle.point_key.specs.declared.key.KeyAnswer.{KeyAnswer}

-- the key of a point, and whether one of its cells was clamped
abbrev pub key_told : Float → Float → Float → KeyAnswer
key_told x y z = record { value = key x y z; clamped = clamps x || clamps y || clamps z }
