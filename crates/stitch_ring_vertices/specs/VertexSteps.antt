-- What the functions that write one new vertex ask. Assumes nothing.
use Rattle.std.specs.Prelude.{List, ℕ, ◌+◌, ◌*◌, ◌<◌, ◌≤◌, length, Float}

-- what copying vertex g's coordinates to place k asks: that they are there, and room for three numbers
pub record PointReady (xs : List Float) (g k : ℕ) (out : List Float) : Type 0 where
  pub inside : 3 * g + 2 < length xs
  pub room : k + 3 ≤ length out
