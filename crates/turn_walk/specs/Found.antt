-- The definitions that the theorems of this name in proofs/ speak of. Assumes nothing.
use Rattle.std.proofs.Math.Path.{◌≡◌}
use Rattle.std.specs.Prelude.{cond, length, take, eqb}
use mathlib.Core.List.{List, [], ◌∷◌}
use Rattle.std.proofs.Math.Option.{some}
use Prim.Native.Nat.{ℕ, suc, ◌+◌, ◌<◌, ◌≤◌}
use Rattle.std.proofs.Math.ListN.{get_or}
use Rattle.lists.specs.Lists.{item_at}
use Rattle.turn_walk.specs.Walk.{Pair, Neighbour, Walk, unvisited, neighbours, walk}
use Rattle.turn_walk.specs.Group.{visited_in}

-- how often x stands in a list
unfoldable pub times : ℕ → List ℕ → ℕ
times x [] = 0
times x (y ∷ ys) = cond (eqb x y) (suc (times x ys)) (times x ys)

-- 1 for a row that is visited, 0 for one that is not
unfoldable pub mark : ℕ → ℕ
mark c = cond (eqb c unvisited) 0 1

-- the neighbours of every row are rows
pub record Inside (m : ℕ) (ps : List Pair) : Type 0 where
  pub rows : (x j : ℕ) (b : Neighbour) → item_at (neighbours x ps) j ≡ some b → b.row < m

-- a group after its walk, where C were the colours before it
pub record Found (m : ℕ) (ps : List Pair) (C : List ℕ) (w : Walk) : Type 0 where
  pub once : (x : ℕ) → x < m → times x w.rows + mark (get_or C x unvisited) ≡ mark (get_or w.colours x unvisited)
  pub kept : (x : ℕ) → unvisited < get_or C x unvisited → get_or w.colours x unvisited ≡ get_or C x unvisited
  pub closed : (k : ℕ) → k < length w.rows → (j : ℕ) (b : Neighbour) → item_at (neighbours (get_or w.rows k 0) ps) j ≡ some b
      → unvisited < get_or w.colours b.row unvisited

-- over m rows, where C were the colours before the group
pub record Consistent (m : ℕ) (C : List ℕ) (w : Walk) : Type 0 where
  pub long : length w.colours ≡ m
  pub rows : (k : ℕ) → k < length w.rows → get_or w.rows k 0 < m
  pub once : (x : ℕ) → x < m → times x w.rows + mark (get_or C x 0) ≡ mark (get_or w.colours x 0)
  pub known : (x : ℕ) → get_or w.colours x 0 ≤ 2
  pub few : length w.rows ≤ visited_in w.colours

-- w became r: the rows found stay ahead, and the colours of visited rows stay
pub record Next (m : ℕ) (C : List ℕ) (w r : Walk) : Type 0 where
  pub consistent : Consistent m C r
  pub ahead : take (length w.rows) r.rows ≡ w.rows
  pub longer : length w.rows ≤ length r.rows
  pub kept : (x : ℕ) → 0 < get_or w.colours x 0 → get_or r.colours x 0 ≡ get_or w.colours x 0

-- the neighbours of row x have colours
pub record Done (ps : List Pair) (x : ℕ) (w : Walk) : Type 0 where
  pub at : (j : ℕ) (b : Neighbour) → item_at (neighbours x ps) j ≡ some b → 0 < get_or w.colours b.row 0
