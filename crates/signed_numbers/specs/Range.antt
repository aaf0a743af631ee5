-- The range of offsets and places: whole numbers within plus or minus 2^40. Assumes nothing.
use Rattle.std.specs.Prelude.{Bool, ℕ, ◌^◌, leb, ℤ, nat_abs}

-- the farthest that an offset or a place is from zero on an axis
abbrev pub farthest : ℕ
farthest = 2 ^ 40

-- within plus or minus 2^40
abbrev pub within : ℤ → Bool
within n = leb (nat_abs n) farthest
