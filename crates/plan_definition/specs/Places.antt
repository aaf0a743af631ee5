-- Places in the yard, in whole micrometres, and their sums. Assumes nothing.
use Rattle.std.specs.Prelude.{Bool, ◌&&◌, List, [], ◌∷◌, ℤ, pos, ◌+ℤ◌}
use Rattle.signed_numbers.specs.Range.{within}

-- a place, or an offset, on three axes
pub record Place : Type 0 where
  pub x : ℤ
  pub y : ℤ
  pub z : ℤ

-- the place that things are offset from
abbrev pub origin : Place
origin = record { x = pos 0; y = pos 0; z = pos 0 }

-- a place moved by an offset
abbrev pub moved : Place → Place → Place
moved p o = record { x = p.x +ℤ o.x; y = p.y +ℤ o.y; z = p.z +ℤ o.z }

-- the sum along a path of offsets, the innermost first
unfoldable pub total : List Place → Place
total [] = origin
total (o ∷ path) = moved (total path) o

-- whether a place is within plus or minus 2^40 on each axis
abbrev pub in_range : Place → Bool
in_range p = within p.x && (within p.y && within p.z)
