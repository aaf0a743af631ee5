-- The groups of a body: one walk after another, each group's colours inverted if its volume says so. Assumes nothing.
use Rattle.std.specs.Prelude.{true, false, not, ◌||◌, cond, List, [], ◌∷◌, ◌++◌, map, ℕ, suc, length, get_or, set, eqb, Float}
use Rattle.body_rows.specs.Body.{Patch}
use Rattle.patch_geometry.specs.Geometry.{zero64}
use Rattle.turn_walk.specs.Walk.{Pair, unvisited, plain, Walk, walk, inverted}
use Rattle.turn_definition.specs.Inversion.{volume_from, inverts}

-- a group: the rows of one walk, with the colours that they got, before any inverting, and V
pub record Group : Type 0 where
  pub rows : List ℕ
  pub colours : List ℕ
  pub volume : Float

-- the walks so far: their groups, the colours of all rows, and how often a pair against them was met
pub record Walks : Type 0 where
  pub groups : List Group
  pub colours : List ℕ
  pub against : ℕ

-- the walks with the one that ended in w, its group's colours inverted if V says so
unfoldable pub add_group : List Patch → List Group → Walk → Walks
add_group patches groups w =
    let v = volume_from patches w.colours zero64 w.rows in
    record {
      groups = groups ++ record { rows = w.rows; colours = map (λ n. get_or w.colours n unvisited) w.rows; volume = v } ∷ [];
      colours = cond (inverts patches w.colours w.rows v) (inverted w.rows w.colours) w.colours;
      against = w.against;
    }

-- A walk begins from the lowest unvisited row; only rows with a nonempty patch take part. `n` is the row of the first of `rest`.
unfoldable pub walks_from : List Patch → List Pair → ℕ → List Patch → Walks → Walks
walks_from patches pairs n [] s = s
walks_from patches pairs n (p ∷ rest) s =
    elim (eqb (length p.indices) 0 || not (eqb (get_or s.colours n unvisited) unvisited)) [
      | true ↦ walks_from patches pairs (suc n) rest s
      | false ↦
          walks_from patches pairs (suc n) rest
          (add_group patches s.groups (walk pairs (length patches) 0 (record { rows = n ∷ []; colours = set s.colours n plain; against = s.against })))
    ]
