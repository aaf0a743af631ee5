-- What writing the runs of all materials asks and leaves. Assumes nothing.
use Rattle.std.specs.Prelude.{◌≡◌, ℕ, ◌+◌, ◌-◌, ◌*◌, ◌≤◌, ◌<◌, length, get_or, take, drop}
use mathlib.Core.List.{List, flat_map}
use Rattle.lists.specs.Lists.{sum_of, written}
use Rattle.body_rows.specs.Body.{rows_of, all_vertices, all_indices}
use Rattle.body_rows.specs.Rows.{WholeRows, row_at, indices_before}
use Rattle.mesh_layout.specs.Mesh.{part_width, Laid, materials_of, runs_of, start_of, part_of}
use Rattle.mesh_layout.specs.JudgedRows.{judged_in, laid_by, indices_with}

-- the accepted rows of a body laid
abbrev pub laid_in : List ℕ → List ℕ → ℕ → List ℕ → List Laid
laid_in table W at is = laid_by 0 (judged_in table W at) is

-- the facts of an accepted body that the runs go by, and room in the work area for the decisions, where rows begin, and two words more a row
pub record Runnable (table is W : List ℕ) (at starts : ℕ) : Type 0 where
  pub rows : WholeRows table
  pub all : length is ≡ all_indices (rows_of table)
  pub few_vertices : all_vertices (rows_of table) ≤ 262144
  pub few_indices : all_indices (rows_of table) ≤ 786432
  pub below : (k j : ℕ) → k < length (rows_of table) → j < (row_at table k).indices → get_or is (indices_before (rows_of table) k + j) 0 < (row_at table k).vertices
  pub words : at + length (rows_of table) ≤ starts
  pub room : starts + 3 * length (rows_of table) ≤ length W

-- what writing all runs asks: decisions that tell materials of 32 bits, and room for the indices and a part for each row
pub record RunsWritable (table is W : List ℕ) (at starts : ℕ) (out parts : List ℕ) : Type 0 where
  pub body : Runnable table is W at starts
  pub small : (k : ℕ) → k < length (rows_of table) → get_or W (at + k) 0 ≤ 4294967296
  pub out_room : sum_of (λ l. length l.indices) (laid_in table W at is) ≤ length out
  pub parts_room : part_width * length (rows_of table) ≤ length parts

-- what it leaves: the runs and parts at the front of their slices, and where each accepted row's indices begin
pub record RunsWritten (table is W E : List ℕ) (at starts : ℕ) (out new parts table' : List ℕ) (r : ℕ) : Type 0 where
  pub indices : new ≡ written (runs_of (laid_in table W at is)) out
  pub parts_are : table' ≡ written (flat_map (part_of (laid_in table W at is)) (materials_of (laid_in table W at is))) parts
  pub count : r ≡ length (materials_of (laid_in table W at is))
  pub firsts : (k : ℕ) → k < length (rows_of table) → (get_or W (at + k) 0 ≡ 0 → ⊥)
      → get_or E (starts + k) 0 ≡ start_of (laid_in table W at is) (get_or W (at + k) 0 - 1) + indices_with (get_or W (at + k) 0) (take k (judged_in table W at))
  pub front : take starts E ≡ take starts W
  pub rest : drop (starts + 3 * length (rows_of table)) E ≡ drop (starts + 3 * length (rows_of table)) W
  pub long : length E ≡ length W
