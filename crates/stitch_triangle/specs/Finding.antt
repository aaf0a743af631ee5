-- What finding a point on an edge asks. Assumes nothing.
use Rattle.std.specs.Prelude.{ℕ, ◌≤◌, Float}
use Rattle.stitch_sag.specs.Beyond.{Beyond}

-- a squared distance beyond the sag, and one of the three edges
pub record FindReady (sag beyond : Float) (e : ℕ) : Type 0 where
  pub far : Beyond sag beyond
  pub edge : e ≤ 2
