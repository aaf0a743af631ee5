-- Vertices that stand for points. Behind the names of v vertices stands for each the first vertex of its point, behind these a word for each point by its
-- first vertex: 0, or one more than the vertex that stands for it. The first vertices of the points that have one are listed further behind. Assumes nothing.
use Rattle.std.specs.Prelude.{◌≡◌, List, map, ℕ, ◌+◌, ◌-◌, ◌*◌, ◌<◌, ◌≤◌, length, get_or, take, drop, set}
use Rattle.lists.specs.Rising.{Rising}
use Rattle.slice_pairs.specs.Rearranged.{Rearranged}
use Rattle.join_definition.specs.Join.{joined}
use Rattle.stitch_loose_points.specs.Listed.{insert_vertex, insert_triangle}

-- the word of the point whose first vertex is f
abbrev pub mark_of : List ℕ → ℕ → ℕ → ℕ
mark_of W v f = get_or W (2 * v + f) 0

-- the vertex that stands for it
abbrev pub stands_for : List ℕ → ℕ → ℕ → ℕ
stands_for W v f = mark_of W v f - 1

-- the vertices that stand for the points whose n first vertices are listed at `at`
abbrev pub standing_in : List ℕ → ℕ → ℕ → ℕ → List ℕ
standing_in W v at n = map (stands_for W v) (take n (drop at W))

-- the names of vertices
abbrev pub names_of : List ℕ → List ℕ → List ℕ
names_of ns R = map (λ (x : ℕ). get_or ns x 0) R

-- the vertices of R stand for their points: by name they rise, and the n points that have one are listed at `at`, each once
pub record Standing (v at n : ℕ) (W R : List ℕ) : Type 0 where
  pub same : Rearranged R (standing_in W v at n)
  pub rising : Rising 0 (names_of (take v W) R)
  pub low : (j : ℕ) → j < n → get_or W (at + j) 0 < v
  pub set : (j : ℕ) → j < n → 0 < mark_of W v (get_or W (at + j) 0)
  pub apart : (j k : ℕ) → j < k → k < n → get_or W (at + j) 0 ≡ get_or W (at + k) 0 → ⊥
  pub listed : (f : ℕ) → f < v → 0 < mark_of W v f → (j : ℕ) × ((j < n) × (get_or W (at + j) 0 ≡ f))
  pub vertex : (f : ℕ) → f < v → mark_of W v f ≤ v
  pub first : (f : ℕ) → f < v → 0 < mark_of W v f → get_or W (v + stands_for W v f) 0 ≡ f

-- names and first vertices of v vertices stand in front, and the list at `at` behind the words of the points
pub record Pointed (v at : ℕ) (W : List ℕ) : Type 0 where
  pub points : take v (drop v W) ≡ joined (take v W)
  pub behind : 3 * v ≤ at

-- what it asks that vertex g comes to stand for its point: room for one more in the list
pub record Standable (v at count g : ℕ) (W : List ℕ) : Type 0 where
  pub pointed : Pointed v at W
  pub room : at + count < length W
  pub vertex : g < v

-- what it leaves: of those that stood the one of its name is replaced, or it is one more; nothing but the words of the points and the list was written
pub record Stood (v at count g : ℕ) (W E : List ℕ) (r : ℕ) : Type 0 where
  pub stands : (R : List ℕ) → Standing v at count W R → Standing v at r E (insert_vertex (take v W) g R)
  pub few : r ≤ count + 1
  pub front : take (2 * v) E ≡ take (2 * v) W
  pub rest : drop (at + count + 1) E ≡ drop (at + count + 1) W

-- what the corners of a triangle ask: room for three more
pub record TriangleStandable (v at count a b c : ℕ) (W : List ℕ) : Type 0 where
  pub pointed : Pointed v at W
  pub room : at + count + 3 ≤ length W
  pub in_a : a < v
  pub in_b : b < v
  pub in_c : c < v

-- what they leave
pub record TriangleStood (v at count a b c : ℕ) (W E : List ℕ) (r : ℕ) : Type 0 where
  pub stands : (R : List ℕ) → Standing v at count W R → Standing v at r E (insert_triangle (take v W) a b c R)
  pub few : r ≤ count + 3
  pub front : take (2 * v) E ≡ take (2 * v) W
  pub rest : drop (at + count + 3) E ≡ drop (at + count + 3) W

-- what listing the vertices that stand for the n listed points asks, with room for their names at `ts`
pub record ListReady (v at ts n : ℕ) (W : List ℕ) : Type 0 where
  pub behind : 3 * v ≤ at
  pub apart : at + n ≤ ts
  pub room : ts + n ≤ length W
  pub low : (j : ℕ) → j < n → get_or W (at + j) 0 < v
  pub set : (j : ℕ) → j < n → 0 < mark_of W v (get_or W (at + j) 0)
  pub vertex : (j : ℕ) → j < n → mark_of W v (get_or W (at + j) 0) ≤ v

-- what it asks of the point at place j
pub record PlaceReady (v at ts j : ℕ) (W : List ℕ) : Type 0 where
  pub behind : 3 * v ≤ at
  pub apart : at + j < ts
  pub room : ts + j < length W
  pub low : get_or W (at + j) 0 < v
  pub set : 0 < mark_of W v (get_or W (at + j) 0)
  pub vertex : mark_of W v (get_or W (at + j) 0) ≤ v

-- what it leaves there: the vertex in place of the point's first one, and its name at `ts`
abbrev pub placed : List ℕ → ℕ → ℕ → ℕ → ℕ → List ℕ
placed W v at ts j = set (set W (at + j) (stands_for W v (get_or W (at + j) 0))) (ts + j) (get_or W (stands_for W v (get_or W (at + j) 0)) 0)

-- what it leaves of all: the vertices in place of their points' first ones, their names at `ts`
pub record ListStood (v at ts n : ℕ) (W E : List ℕ) : Type 0 where
  pub list : take n (drop at E) ≡ standing_in W v at n
  pub names : take n (drop ts E) ≡ names_of (take v W) (standing_in W v at n)
  pub front : take at E ≡ take at W
  pub rest : drop (ts + n) E ≡ drop (ts + n) W
