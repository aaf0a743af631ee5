-- A place in a list that is not past its end. Assumes nothing.
use Rattle.std.specs.Prelude.{◌≡◌, ℕ, ◌≤◌, ◌<◌}

-- the place n of a list that ends at `end`, or its end
pub record Place (n end at : ℕ) : Type 0 where
  pub inside : at ≤ end
  pub low : at ≤ n
  pub here : at < end → at ≡ n
