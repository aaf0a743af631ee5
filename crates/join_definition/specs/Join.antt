-- Joining: items of one name are one, and the first of them stands for all. Assumes nothing.
use Rattle.std.specs.Prelude.{◌≡◌, true, false, List, [], ◌∷◌, map, ℕ, suc, ◌+◌, ◌*◌, ◌^◌, ◌<◌, ◌≤◌, length, get_or, take, drop, eqb}

-- where a name stands first; the length of the list, if nowhere
unfoldable pub index_of : ℕ → List ℕ → ℕ
index_of n [] = 0
index_of n (x ∷ xs) = elim (eqb n x) [ true ↦ 0 | false ↦ suc (index_of n xs) ]

-- the first item of the same name, for each item: the point that it stands for
unfoldable pub joined : List ℕ → List ℕ
joined ns = map (λ n. index_of n ns) ns

-- the first item with the name of item i, for an i below their number
unfoldable pub first_index : List ℕ → ℕ → ℕ
first_index ns i = index_of (get_or ns i 0) ns

-- item j is the first of its name
abbrev pub First : List ℕ → ℕ → Type 0
First ns j = (k : ℕ) → k < j → get_or ns k 0 ≡ get_or ns j 0 → ⊥

-- item j is the first of the name of item k
pub record IsFirst (ns : List ℕ) (k j : ℕ) : Type 0 where
  pub low : j ≤ k
  pub same : get_or ns j 0 ≡ get_or ns k 0
  pub first : First ns j

-- what joining n items requires of the words W: room for the table, and few enough items
pub record JoinRoom (n : ℕ) (W : List ℕ) : Type 0 where
  pub room : 4 * n ≤ length W
  pub few : n < 2 ^ 32

-- What joining leaves of the words W, for n items with names ns: the first n as they were, then the representatives, and all behind the
-- table's 4 * n as it was.
pub record Joined (ns : List ℕ) (n : ℕ) (W E : List ℕ) : Type 0 where
  pub reps : take n (drop n E) ≡ joined ns
  pub rep : (i : ℕ) → i < n → get_or E (n + i) 0 ≡ first_index ns i
  pub words : take n E ≡ take n W
  pub rest : drop (4 * n) E ≡ drop (4 * n) W

-- what joining n items whose names stand from `at` on requires: the same, behind `at`
pub record RoomAt (at n : ℕ) (W : List ℕ) : Type 0 where
  pub room : at + 4 * n ≤ length W
  pub few : n < 2 ^ 32

-- What it leaves: the names as they were, then the representatives, and all outside the table's 4 * n as it was.
pub record JoinedAt (at n : ℕ) (W E : List ℕ) : Type 0 where
  pub names : take n (drop at E) ≡ take n (drop at W)
  pub reps : take n (drop (at + n) E) ≡ joined (take n (drop at W))
  pub front : take at E ≡ take at W
  pub rest : drop (at + 4 * n) E ≡ drop (at + 4 * n) W
