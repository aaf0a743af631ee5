-- What writing the run of one material asks and leaves. Assumes nothing.
use Rattle.std.specs.Prelude.{◌≡◌, List, map, ℕ, ◌+◌, ◌-◌, ◌*◌, ◌≤◌, ◌<◌, length, get_or, take, drop, set}
use Rattle.body_rows.specs.Body.{rows_of}
use Rattle.slice_append.specs.Appended.{Appended}
use Rattle.mesh_layout.specs.JudgedRows.{judged_in, run_by, indices_with}
use Rattle.mesh_layout.specs.Parts.{Runnable}
use Rattle.mesh_material_order.specs.Order.{place_word, Ordered}
use Rattle.mesh_runs.specs.declared.runs.RunEnd.{RunEnd}

-- what a row's part in a run asks: its indices are there and fit when moved, and there is room
pub record RowRunnable (is : List ℕ) (from to base : ℕ) (W : List ℕ) (place : ℕ) (out : List ℕ) (o : ℕ) : Type 0 where
  pub order : from ≤ to
  pub inside : to ≤ length is
  pub word : place < length W
  pub base_small : base ≤ 262144
  pub small : (k : ℕ) → from ≤ k → k < to → base + get_or is k 0 < 4294967296
  pub room : o + (to - from) ≤ length out

-- what it leaves: its indices from place o on, and o at `place`
pub record RowRun (is : List ℕ) (from to base : ℕ) (W E : List ℕ) (place : ℕ) (out new : List ℕ) (o r : ℕ) : Type 0 where
  pub run : Appended o (map (λ i. base + i) (take (to - from) (drop from is))) out new
  pub end : r ≡ o + (to - from)
  pub word : E ≡ set W place o

-- what writing the run of the decision `wanted` asks: its rows' words begin at place `first`, and where each of its rows is found is kept
pub record RunWritable (table is W : List ℕ) (at starts order m first wanted : ℕ) (out : List ℕ) (start : ℕ) : Type 0 where
  pub body : Runnable table is W at starts
  pub rows_are : m ≡ length (rows_of table)
  pub order_is : order ≡ starts + m
  pub ordered : Ordered W at order m
  pub low : first ≤ m
  pub before : (i : ℕ) → i < first → get_or W (order + i) 0 < wanted * 4096
  pub behind : (i : ℕ) → first ≤ i → i < m → wanted * 4096 ≤ get_or W (order + i) 0
  pub places : (k : ℕ) → k < m → get_or W (at + k) 0 ≡ wanted → get_or W (starts + k) 0 ≡ place_word (judged_in table W at) (rows_of table) k
  pub out_room : start + indices_with wanted (judged_in table W at) ≤ length out

-- what it leaves: the run, where it and its words end, and where each of its rows begins
pub record RunWritten (table is W E : List ℕ) (at starts order m wanted : ℕ) (out new : List ℕ) (start : ℕ) (r : RunEnd) : Type 0 where
  pub run : Appended start (run_by wanted 0 (judged_in table W at) is) out new
  pub end : r.end ≡ start + indices_with wanted (judged_in table W at)
  pub low : r.place ≤ m
  pub passed : (i : ℕ) → i < r.place → get_or W (order + i) 0 < wanted * 4096 + 4096
  pub left : (i : ℕ) → r.place ≤ i → i < m → wanted * 4096 + 4096 ≤ get_or W (order + i) 0
  pub firsts : (k : ℕ) → k < length (rows_of table) → get_or W (at + k) 0 ≡ wanted → get_or E (starts + k) 0 ≡ start + indices_with wanted (take k (judged_in table W at))
  pub others : (k : ℕ) → (get_or W (at + k) 0 ≡ wanted → ⊥) → get_or E (starts + k) 0 ≡ get_or W (starts + k) 0
  pub front : take starts E ≡ take starts W
  pub rest : drop (starts + length (rows_of table)) E ≡ drop (starts + length (rows_of table)) W
  pub long : length E ≡ length W
