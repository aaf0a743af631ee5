-- The walk of one group in the work area: its rows in the queue, the colours, and what walking and inverting ask and leave. Assumes nothing.
use Rattle.std.specs.Prelude.{◌≡◌, List, [], ◌∷◌, cond, ℕ, suc, ◌+◌, ◌*◌, ◌<◌, ◌≤◌, length, get_or, take, drop, set, replicate, eqb}
use Rattle.turn_walk.specs.Walk.{unvisited, plain, coloured, Walk, neighbours, visit, walk, inverted}
use Rattle.turn_walk.specs.Uses.{pairs_by}
use Rattle.turn_walk.specs.Area.{queue_at, colours_at, area_end, WrittenBetween, uses_of}
use Rattle.turn_walk.specs.Chains.{UseAt, Paired}

-- the first t rows of the queue
abbrev pub queue_of : (n m t : ℕ) → List ℕ → List ℕ
queue_of n m t W = take t (drop (queue_at n m) W)

-- the colours of the m rows
abbrev pub colours_of : (n m : ℕ) → List ℕ → List ℕ
colours_of n m W = take m (drop (colours_at n m) W)

-- the walk that has found t rows and met `a` contradictions
abbrev pub walk_of : (n m t a : ℕ) → List ℕ → Walk
walk_of n m t a W = record { rows = queue_of n m t W; colours = colours_of n m W; against = a }

-- every colour is one of the three
pub record Colours (n m : ℕ) (W : List ℕ) : Type 0 where
  pub known : (x : ℕ) → x < m → get_or W (colours_at n m + x) 0 ≤ coloured

-- the queue holds t rows, each of which is visited
pub record Queue (n m t : ℕ) (W : List ℕ) : Type 0 where
  pub low : t ≤ m
  pub rows : (k : ℕ) → k < t → get_or W (queue_at n m + k) 0 < m
  pub visited : (k : ℕ) → k < t → unvisited < get_or W (colours_at n m + get_or W (queue_at n m + k) 0) 0

-- ---- reading

-- what reading the word of a row asks
pub record RowAt (n m x : ℕ) (W : List ℕ) : Type 0 where
  pub room : area_end n m ≤ length W
  pub inside : x < m

-- ---- clearing the colours

-- what it leaves: no row is visited, and only colours were written
pub record Uncoloured (n m : ℕ) (W E : List ℕ) : Type 0 where
  pub colours : colours_of n m E ≡ replicate m unvisited
  pub known : Colours n m E
  pub within : WrittenBetween (colours_at n m) (area_end n m) W E

-- ---- the walk of a group

-- the numbers of contradictions that can be counted
abbrev pub countable : ℕ
countable = 4611686018427387904

-- what the walk of a group asks of its root: chains, colours that are known, and that no walk has met it
pub record RootAt (n m root : ℕ) (W : List ℕ) : Type 0 where
  pub paired : Paired n m W
  pub known : Colours n m W
  pub inside : root < m
  pub fresh : get_or W (colours_at n m + root) 0 ≡ unvisited

-- and of the contradictions before it: one for each use from each row can still be counted
pub record Rooted (n m root a : ℕ) (W : List ℕ) : Type 0 where
  pub at : RootAt n m root W
  pub few : a + m * n < countable

-- a group's walk before its first row is visited
abbrev pub begun : (n m root a : ℕ) → List ℕ → Walk
begun n m root a W = record { rows = root ∷ []; colours = set (colours_of n m W) root plain; against = a }

-- the walk from a root, with the colours of the walks before it
abbrev pub walk_from : (n m root a : ℕ) → List ℕ → Walk
walk_from n m root a W = walk (pairs_by (uses_of n W)) m 0 (begun n m root a W)

-- what it leaves: the definition's rows, colours and contradictions; only queue and colours were written
pub record GroupWalked (n m root a found against : ℕ) (W E : List ℕ) : Type 0 where
  pub count : found ≡ length (walk_from n m root a W).rows
  pub rows : queue_of n m found E ≡ (walk_from n m root a W).rows
  pub colours : colours_of n m E ≡ (walk_from n m root a W).colours
  pub total : against ≡ (walk_from n m root a W).against
  pub queue : Queue n m found E
  pub known : Colours n m E
  pub few : against ≤ a + m * n
  pub within : WrittenBetween (queue_at n m) (area_end n m) W E

-- how many of the colours are of visited rows
unfoldable pub visited_in : List ℕ → ℕ
visited_in [] = 0
visited_in (c ∷ cs) = cond (eqb c unvisited) (visited_in cs) (suc (visited_in cs))

-- a walk that has found t rows: no more than are visited, so that each row is found once
pub record UnderWay (n m t : ℕ) (W : List ℕ) : Type 0 where
  pub room : area_end n m ≤ length W
  pub queue : Queue n m t W
  pub known : Colours n m W
  pub fewer : t ≤ visited_in (colours_of n m W)

-- a stage of a walk: it found t rows, at least `least`, and met `a` contradictions, at most `most`; only queue and colours were written
pub record Stage (n m least t a most : ℕ) (W E : List ℕ) (s : Walk) : Type 0 where
  pub under : UnderWay n m t E
  pub state : walk_of n m t a E ≡ s
  pub grew : least ≤ t
  pub few : a ≤ most
  pub within : WrittenBetween (queue_at n m) (area_end n m) W E

-- what meeting row x where colour c is wanted asks
pub record MeetAt (n m t a x c : ℕ) (W : List ℕ) : Type 0 where
  pub under : UnderWay n m t W
  pub inside : x < m
  pub some : unvisited < c
  pub known : c ≤ coloured
  pub few : a < countable

-- what the colour wanted across the pair of use i asks
pub record WantAt (n m i c : ℕ) (W : List ℕ) : Type 0 where
  pub use_at : UseAt n m i W
  pub known : c ≤ coloured

-- what visiting row x asks
pub record VisitAt (n m t a x : ℕ) (W : List ℕ) : Type 0 where
  pub paired : Paired n m W
  pub under : UnderWay n m t W
  pub inside : x < m
  pub visited : unvisited < get_or W (colours_at n m + x) 0
  pub few : a + n < countable

-- row x visited by the definition
abbrev pub visit_of : (n m t a x : ℕ) → List ℕ → Walk
visit_of n m t a x W = visit (get_or (colours_of n m W) x unvisited) (neighbours x (pairs_by (uses_of n W))) (walk_of n m t a W)

-- what starting a group leaves: its root is found
pub record Started (n m root : ℕ) (W E : List ℕ) : Type 0 where
  pub under : UnderWay n m 1 E
  pub state : (a : ℕ) → walk_of n m 1 a E ≡ begun n m root a W
  pub paired : Paired n m E
  pub within : WrittenBetween (queue_at n m) (area_end n m) W E

-- ---- a group inverted

-- what inverting the first t rows of the queue asks
pub record Invertible (n m t : ℕ) (W : List ℕ) : Type 0 where
  pub room : area_end n m ≤ length W
  pub queue : Queue n m t W
  pub known : Colours n m W

-- what it leaves: only colours were written
pub record GroupInverted (n m t : ℕ) (W E : List ℕ) : Type 0 where
  pub colours : colours_of n m E ≡ inverted (queue_of n m t W) (colours_of n m W)
  pub queue : Queue n m t E
  pub known : Colours n m E
  pub within : WrittenBetween (colours_at n m) (area_end n m) W E
