-- What writing the triangles of a mesh asks, and what the writer leaves of a mesh that was checked. Assumes nothing.
use Rattle.std.specs.Prelude.{true, false, List, ℕ, ◌+◌, ◌*◌, ◌≤◌, ◌<◌, ltb, length, get_or, Float}
use Rattle.lists.specs.Lists.{written}
use Rattle.stl_definition.specs.File.{file_length, file_of}
use Rattle.stl_definition.specs.Write.{AfterWrite, file_too_long}

-- the corners of a triangle are vertices that are there
pub record Inside (ps : List Float) (a b c : ℕ) : Type 0 where
  pub first : 3 * a + 3 ≤ length ps
  pub second : 3 * b + 3 ≤ length ps
  pub third : 3 * c + 3 ≤ length ps

-- each index names a vertex that is there, and the indices are within 13's limit
pub record Checked (ps : List Float) (is : List ℕ) : Type 0 where
  pub inside : (k : ℕ) → k < length is → 3 * get_or is k 0 + 3 ≤ length ps
  pub few : length is ≤ 786432

-- and there is room for the file
pub record Writable (ps : List Float) (is out : List ℕ) : Type 0 where
  pub checked : Checked ps is
  pub room : file_length is ≤ length out

-- the file of a mesh that was checked, or 71
unfoldable pub fitted : List Float → List ℕ → List ℕ → AfterWrite
fitted ps is out =
    elim (ltb (length out) (file_length is)) [
      | true ↦ record { refusal = file_too_long; length = 0; bytes = out }
      | false ↦ record { refusal = 0; length = file_length is; bytes = written (file_of 3 ps is) out }
    ]
