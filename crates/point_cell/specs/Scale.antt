-- What a factor and a limit must have for one shift to round a coordinate times the factor, and the word of what it is rounded to. Assumes nothing.
use Rattle.std.specs.Prelude.{◌≡◌, ℕ, ◌+◌, ◌*◌, ◌^◌, ◌≤◌, min, Float}
use Rattle.std.proofs.Common.{lit≤}
use Rattle.signed_numbers.specs.Linear.{up, down}
use Rattle.point_rules.specs.Points.{nearest}

-- 24 digits times the factor are below 2^44; the limit isn't reached while digits stand behind the point, and is where they would pass 64 bits
pub record Scale (factor most : ℕ) : Type 0 where
  pub few : factor ≤ 1000000
  pub low : 2 ^ 43 ≤ most
  pub top : most ≤ factor * 2 ^ 44

-- a cell's: 1,000,000, clamped at 2^63
pub cell_scale : Scale 1000000 (2 ^ 63)
cell_scale = record { few = lit≤ tt; low = lit≤ tt; top = lit≤ tt }

-- r is the word of the whole number nearest factor × v: `middle` more, but no less than 0 and no more than twice that
pub record NearestWord (factor middle : ℕ) (v : Float) (r : ℕ) : Type 0 where
  pub is : r + min (down (nearest factor v)) middle ≡ middle + min (up (nearest factor v)) middle
