-- What colouring the rows of a body leaves in the work area. Assumes nothing.
use Rattle.std.specs.Prelude.{◌≡◌, List, ℕ, ◌+◌, ◌*◌, length, take, drop, Float}
use Rattle.body_rows.specs.Patches.{shapes}
use Rattle.point_rules.specs.Rule.{names}
use Rattle.point_rules.specs.Points.{key}
use Rattle.join_definition.specs.Join.{joined}
use Rattle.turn_definition.specs.Orient.{walks_of}

-- where the colours stand in the work area of a body of v vertices, m rows and n indices
abbrev pub row_colours_at : ℕ → ℕ → ℕ → ℕ
row_colours_at v m n = 4 * v + 6 * m + 6 * n

-- what colouring the rows leaves: the definition's colours and contradictions, and all behind the words that 31 counts as it was
pub record Coloured (table : List ℕ) (ps : List Float) (is : List ℕ) (v m : ℕ) (W E : List ℕ) (against : ℕ) : Type 0 where
  pub colours : take m (drop (row_colours_at v m (length is)) E) ≡ (walks_of (shapes table ps is) (joined (names key ps))).colours
  pub total : against ≡ (walks_of (shapes table ps is) (joined (names key ps))).against
  pub rest : drop (16 * length is + 16 * m + 4 * v) E ≡ drop (16 * length is + 16 * m + 4 * v) W
