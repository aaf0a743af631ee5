-- The definitions that the theorems of this name in proofs/ speak of. Assumes nothing.
use Rattle.std.specs.Prelude.{◌≡◌, List, ℕ, ◌<◌}
use Rattle.stitch_loose_points.specs.Loose.{Loose, insert_loose}

-- two names, one lower than the other or both the same
pub data Order (m n : ℕ) : Type 0 where
  lower : m < n → Order m n
  same : m ≡ n → Order m n
  higher : n < m → Order m n

-- three points, one after another
abbrev pub three : Loose → Loose → Loose → List Loose → List Loose
three a b c ls = insert_loose c (insert_loose b (insert_loose a ls))
