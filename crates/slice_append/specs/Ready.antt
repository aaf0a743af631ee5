-- What writing moved indices behind what a slice holds asks. Assumes nothing.
use Rattle.std.specs.Prelude.{List, ℕ, ◌+◌, ◌-◌, ◌≤◌, ◌<◌, length, get_or}

-- what writing moved indices asks: they lie in the indices read, there is room for them from place o on, and each stays below 2 ^ 32 with `base` added
pub record MovedReady (from : List ℕ) (start end base : ℕ) (out : List ℕ) (o : ℕ) : Type 0 where
  pub order : start ≤ end
  pub inside : end ≤ length from
  pub room : o + (end - start) ≤ length out
  pub small : (k : ℕ) → start ≤ k → k < end → base + get_or from k 0 < 4294967296
