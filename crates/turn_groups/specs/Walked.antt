-- All groups of a body walked and settled in the work area, each from its lowest row. Assumes nothing.
use Rattle.std.specs.Prelude.{◌≡◌, List, [], ℕ, ◌+◌, ◌*◌, ◌≤◌, ◌<◌, length, get_or, take, drop, replicate, Float}
use Rattle.body_rows.specs.Patches.{shapes}
use Rattle.body_rows.specs.Body.{Patch, rows_of, all_vertices, all_indices}
use Rattle.body_rows.specs.Rows.{WholeRows, row_at, vertices_before, indices_before}
use Rattle.turn_walk.specs.Walk.{Pair, unvisited}
use Rattle.turn_walk.specs.Uses.{pairs_by}
use Rattle.turn_walk.specs.Area.{queue_at, area_end, WrittenBetween, uses_of, Sound}
use Rattle.turn_walk.specs.Chains.{Paired}
use Rattle.turn_walk.specs.Group.{colours_of, Colours, countable}
use Rattle.turn_definition.specs.Groups.{Group, Walks, walks_from}
use Rattle.turn_inversion.specs.Measured.{vertex_bases_at, index_bases_at, bases_end, Measurable}

-- the walks of a body over some pairs
abbrev pub walks_over : List Patch → List Pair → Walks
walks_over patches pairs = walks_from patches pairs 0 patches (record { groups = []; colours = replicate (length patches) unvisited; against = 0 })

-- what row k as a root asks: chains, colours that are known, and contradictions that can still be counted
pub record RootReady (table : List ℕ) (ps : List Float) (is W : List ℕ) (n m k a : ℕ) : Type 0 where
  pub given : Measurable table ps is W n m
  pub paired : Paired n m W
  pub known : Colours n m W
  pub row : k < m
  pub few : a + m * n < countable

-- what it leaves: the definition's walks go on at the next row, whatever groups there were; only queue and colours were written
pub record RootSettled (table : List ℕ) (ps : List Float) (is : List ℕ) (n m k a : ℕ) (W E : List ℕ) (against : ℕ) : Type 0 where
  pub after : List Group → List Group
  pub goes_on : (g : List Group)
      → walks_from (shapes table ps is) (pairs_by (uses_of n W)) (k + 1) (drop (k + 1) (shapes table ps is)) (record { groups = after g; colours = colours_of n m E; against = against })
      ≡ walks_from (shapes table ps is) (pairs_by (uses_of n W)) k (drop k (shapes table ps is)) (record { groups = g; colours = colours_of n m W; against = a })
  pub known : Colours n m E
  pub few : against ≤ a + m * n
  pub within : WrittenBetween (queue_at n m) (area_end n m) W E

-- what settling all groups asks: chains, and no row visited
pub record GroupsReady (table : List ℕ) (ps : List Float) (is W : List ℕ) (n m : ℕ) : Type 0 where
  pub given : Measurable table ps is W n m
  pub paired : Paired n m W
  pub known : Colours n m W
  pub colours : colours_of n m W ≡ replicate m unvisited
  pub uses_few : n ≤ 786432

-- what laying where rows start asks: m rows, and room behind the walk's regions
pub record BasesReady (table W : List ℕ) (n m : ℕ) : Type 0 where
  pub rows : WholeRows table
  pub count : length (rows_of table) ≡ m
  pub room : bases_end n m ≤ length W

-- what it leaves: where each row starts, and the walk's regions as they were
pub record BasesLaid (table : List ℕ) (n m : ℕ) (W E : List ℕ) : Type 0 where
  pub vertices : (k : ℕ) → k < m → get_or E (vertex_bases_at n m + k) 0 ≡ vertices_before (rows_of table) k
  pub indices : (k : ℕ) → k < m → get_or E (index_bases_at n m + k) 0 ≡ indices_before (rows_of table) k
  pub front : take (area_end n m) E ≡ take (area_end n m) W

-- what walking all groups asks: m rows that fill the slices, indices that are of vertices, sound uses, and room
pub record Walkable (table : List ℕ) (ps : List Float) (is W : List ℕ) (n m : ℕ) : Type 0 where
  pub rows : WholeRows table
  pub count : length (rows_of table) ≡ m
  pub all_positions : length ps ≡ 3 * all_vertices (rows_of table)
  pub all_indices_lem : length is ≡ all_indices (rows_of table)
  pub indices_few : all_indices (rows_of table) ≤ 786432
  pub uses_few : n ≤ 786432
  pub inside : (k j : ℕ) → k < length (rows_of table) → j < (row_at table k).indices → get_or is (indices_before (rows_of table) k + j) 0 < (row_at table k).vertices
  pub room : bases_end n m ≤ length W
  pub sound : Sound n m W

-- what it leaves: the definition's colours and contradictions
pub record GroupsWalked (table : List ℕ) (ps : List Float) (is : List ℕ) (n m : ℕ) (W E : List ℕ) (against : ℕ) : Type 0 where
  pub colours : colours_of n m E ≡ (walks_over (shapes table ps is) (pairs_by (uses_of n W))).colours
  pub total : against ≡ (walks_over (shapes table ps is) (pairs_by (uses_of n W))).against
