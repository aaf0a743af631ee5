-- A joining rule names points; the names of the vertices of a flat list of positions. Assumes nothing.
use Rattle.std.specs.Prelude.{List, [], ◌∷◌, ℕ, ◌+◌, ◌*◌, ◌<◌, length, Float}

-- A joining rule: the name of a point, from its three coordinates. Points are the same exactly if their names are; names also order points.
abbrev pub Rule : Type 0
Rule = Float → Float → Float → ℕ

-- the name of each vertex, three coordinates a vertex
unfoldable pub names : Rule → List Float → List ℕ
names rule [] = []
names rule (x ∷ []) = []
names rule (x ∷ y ∷ []) = []
names rule (x ∷ y ∷ z ∷ ps) = rule x y z ∷ names rule ps

-- vertex i is among the positions
pub record VertexInside (i : ℕ) (ps : List Float) : Type 0 where
  pub low : 3 * i + 2 < length ps

-- the vertices i and j are among the positions
pub record Both (i j : ℕ) (ps : List Float) : Type 0 where
  pub low : 3 * i + 2 < length ps
  pub low₂ : 3 * j + 2 < length ps
