-- The definitions that the theorems of this name in proofs/ speak of. Assumes nothing.
use Rattle.std.specs.Prelude.{◌≡◌, ℕ, ◌≤◌, ◌<◌, get_or}
use mathlib.Core.List.{List, map, flat_map}
use Rattle.std.proofs.Math.ListN.{length}
use Rattle.body_rows.specs.Body.{Row, Patch, rows_of}
use Rattle.body_rows.specs.Rows.{row_at}
use Rattle.body_rows.specs.Patches.{no_patch}
use Rattle.stitch_faces.specs.Faces.{row_indices}

-- the rows of some patches
abbrev pub rows_in : List Patch → List Row
rows_in patches = map (λ p. p.row) patches

-- their indices, laid end to end
abbrev pub indices_in : List Patch → List ℕ
indices_in patches = flat_map (λ p. p.indices) patches

-- each patch has as many indices as its row says
pub record Sized (patches : List Patch) : Type 0 where
  pub each : (j : ℕ) → j < length patches → length (get_or patches j no_patch).indices ≡ (get_or patches j no_patch).row.indices

-- a patch for each row, sized, and with the indices that it had if it has no new vertex
pub record Through (table is : List ℕ) (patches : List Patch) : Type 0 where
  pub many : length patches ≡ length (rows_of table)
  pub sized : Sized patches
  pub unsplit : (k : ℕ) → k < length (rows_of table) → (get_or patches k no_patch).row.vertices ≤ (row_at table k).vertices → (get_or patches k no_patch).indices ≡ row_indices table is k
