-- The rows of a body in the order of their decisions, and where each is found: words of the work area. Assumes nothing.
use Rattle.std.specs.Prelude.{◌≡◌, List, ℕ, ◌+◌, ◌*◌, ◌≤◌, ◌<◌, length, get_or, take, drop}
use Rattle.lists.specs.Lists.{sum_of}
use Rattle.slice_sort.specs.Sorting.{Stands}
use Rattle.body_rows.specs.Body.{Row, rows_of, all_vertices, all_indices}
use Rattle.body_rows.specs.Rows.{WholeRows, indices_before}
use Rattle.mesh_layout.specs.JudgedRows.{JudgedRow, judged_in, base_after}

-- how many vertices of the mesh stand before row k's
abbrev pub bases_before : List JudgedRow → ℕ → ℕ
bases_before js k = sum_of (λ j. base_after 0 j.row.vertices j.decision) (take k js)

-- where row k is found: its first vertex in the mesh and its first index in the body, in one word
abbrev pub place_word : List JudgedRow → List Row → ℕ → ℕ
place_word js rows k = bases_before js k * 1048576 + indices_before rows k

-- row k and its decision d, in one word that orders rows by decision
abbrev pub order_word : ℕ → ℕ → ℕ
order_word d k = d * 4096 + k

-- vertices that fit
pub record BaseSmall (base vertices : ℕ) : Type 0 where
  pub small : base + vertices ≤ 262144

-- a decision that tells a material of 32 bits, and a row
pub record WordSmall (d k : ℕ) : Type 0 where
  pub decision : d ≤ 4294967296
  pub row : k < 4096

-- what ordering the m rows of a body asks: not too many vertices and indices, decisions that tell materials of 32 bits, and words
pub record Orderable (table W : List ℕ) (at starts order m : ℕ) : Type 0 where
  pub rows : WholeRows table
  pub few_vertices : all_vertices (rows_of table) ≤ 262144
  pub few_indices : all_indices (rows_of table) ≤ 786432
  pub small : (k : ℕ) → k < m → get_or W (at + k) 0 ≤ 4294967296
  pub rows_are : m ≡ length (rows_of table)
  pub words : at + m ≤ starts
  pub order_is : order ≡ starts + m
  pub room : order + m + m ≤ length W

-- what keeping a word of each kind for each row leaves
pub record RowsKept (table W E : List ℕ) (at starts order m : ℕ) : Type 0 where
  pub places : (k : ℕ) → k < m → get_or E (starts + k) 0 ≡ place_word (judged_in table W at) (rows_of table) k
  pub words : (k : ℕ) → k < m → get_or E (order + k) 0 ≡ order_word (get_or W (at + k) 0) k
  pub front : take starts E ≡ take starts W
  pub rest : drop (order + m) E ≡ drop (order + m) W
  pub long : length E ≡ length W

-- the row of the word at place i
pub record RowAt (W : List ℕ) (at order m i : ℕ) : Type 0 where
  pub row : ℕ
  pub low : row < m
  pub is : get_or W (order + i) 0 ≡ order_word (get_or W (at + row) 0) row

-- the words of all rows stand from `order` on, rising
pub record Ordered (W : List ℕ) (at order m : ℕ) : Type 0 where
  pub rising : (i j : ℕ) → i < j → j < m → get_or W (order + i) 0 < get_or W (order + j) 0
  pub stands : (k : ℕ) → k < m → Stands W order m (order_word (get_or W (at + k) 0) k)
  pub rows : (i : ℕ) → i < m → RowAt W at order m i

-- what ordering the rows leaves
pub record RowsOrdered (table W E : List ℕ) (at starts order m : ℕ) : Type 0 where
  pub places : (k : ℕ) → k < m → get_or E (starts + k) 0 ≡ place_word (judged_in table W at) (rows_of table) k
  pub ordered : Ordered E at order m
  pub front : take starts E ≡ take starts W
  pub rest : drop (order + m + m) E ≡ drop (order + m + m) W
  pub long : length E ≡ length W

-- what looking for the first accepted row asks: words that rise
pub record OrderRoom (W : List ℕ) (order m : ℕ) : Type 0 where
  pub room : order + m ≤ length W
  pub rising : (i j : ℕ) → i < j → j < m → get_or W (order + i) 0 < get_or W (order + j) 0

-- the failed rows stand before place r, the others from there on
pub record FirstAccepted (W : List ℕ) (order m r : ℕ) : Type 0 where
  pub low : r ≤ m
  pub failed : (i : ℕ) → i < r → get_or W (order + i) 0 < 4096
  pub accepted : (i : ℕ) → r ≤ i → i < m → 4096 ≤ get_or W (order + i) 0
