-- What joining words that may have no room leaves. Assumes nothing.
use Rattle.std.specs.Prelude.{◌≡◌, List, ℕ, take}
use Rattle.join_definition.specs.Join.{Joined}

-- joined and 0, or as they were and 1
pub data Tried (n : ℕ) (W E : List ℕ) : ℕ → Type 0 where
  Done : Joined (take n W) n W E → Tried n W E 0
  NoRoom : E ≡ W → Tried n W E 1
