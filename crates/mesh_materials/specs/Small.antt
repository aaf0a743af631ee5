-- Entries and a default that are no more than 2 ^ 32. Assumes nothing.
use Rattle.std.specs.Prelude.{List, ℕ, ◌≤◌, ◌<◌, length, get_or}

-- no entry and no default is above 2 ^ 32
pub record SmallMaterials (materials : List ℕ) (default : ℕ) : Type 0 where
  pub entries : (k : ℕ) → k < length materials → get_or materials k 0 ≤ 4294967296
  pub other : default ≤ 4294967296
