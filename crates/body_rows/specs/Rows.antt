-- Row k of a flat table, where its numbers stand, and where its vertices and indices start. Assumes nothing.
use Rattle.std.specs.Prelude.{◌≡◌, refl, List, [], ◌∷◌, ℕ, zero, suc, ◌+◌, ◌*◌, ◌/◌, ◌≤◌, ◌<◌, length, get_or, take, drop}
use Rattle.std.proofs.Common.{sym, ap, ◌∙◌, add-zero, le_of_suc-le-suc, not-suc-le-zero, arith, drop-cons}
use Rattle.lists.specs.Lists.{sum_of}
use Rattle.body_rows.specs.Body.{row_width, Row, rows_of, table_of, all_vertices, all_indices}

-- a row of zeros: what lies past the end
abbrev pub no_row : Row
no_row = record { shell = 0; face = 0; outcome = 0; vertices = 0; indices = 0; bin = 0 }

-- row k of the flat table
unfoldable pub row_at : List ℕ → ℕ → Row
row_at table k = get_or (rows_of table) k no_row

-- the rows from row k on begin with it
pub rows_here : (table : List ℕ) (k : ℕ) → k < length (rows_of table) → drop k (rows_of table) ≡ row_at table k ∷ drop (k + 1) (rows_of table)
unfolding row_at
rows_here table k h = let e : suc k ≡ k + 1 = omega arith in drop-cons (rows_of table) k no_row h ∙ ap (λ (n : ℕ). get_or (rows_of table) k no_row ∷ drop n (rows_of table)) e

-- the flat table of some rows has `row_width` numbers for each
pub table_length : (rows : List Row) → length (table_of rows) ≡ row_width * length rows
unfolding table_of
table_length [] = refl
table_length (r ∷ rs) = let e = table_length rs in omega arith

-- number j of a row, as it stands in the flat table: shell, face, outcome, vertices, indices, bin
abbrev pub column : ℕ → Row → ℕ
column zero r = r.shell
column (suc zero) r = r.face
column (suc (suc zero)) r = r.outcome
column (suc (suc (suc zero))) r = r.vertices
column (suc (suc (suc (suc zero)))) r = r.indices
column (suc (suc (suc (suc (suc j))))) r = r.bin

-- the sum of column j over the rows before row k
unfoldable pub column_before : ℕ → List Row → ℕ → ℕ
column_before j rows k = sum_of (column j) (take k rows)

-- where row k's vertices start: the vertices of the rows before it
unfoldable pub vertices_before : List Row → ℕ → ℕ
vertices_before rows k = all_vertices (take k rows)

-- where row k's indices start: the indices of the rows before it
unfoldable pub indices_before : List Row → ℕ → ℕ
indices_before rows k = all_indices (take k rows)

-- a word for each row with where it starts, and the words behind those as they were
pub record Starts (before : List Row → ℕ → ℕ) (table old new : List ℕ) : Type 0 where
  pub each : (k : ℕ) → k < length (rows_of table) → get_or new k 0 ≡ before (rows_of table) k
  pub beyond : drop (length (rows_of table)) new ≡ drop (length (rows_of table)) old

-- a table of whole rows, and not too many
pub record WholeRows (table : List ℕ) : Type 0 where
  pub whole : length table ≡ row_width * length (rows_of table)
  pub few : length (rows_of table) ≤ 4096

-- a word for each row
pub record WordsFit (table words : List ℕ) : Type 0 where
  pub rows : WholeRows table
  pub room : length (rows_of table) ≤ length words

-- a column of a table of whole rows
pub record Column (table : List ℕ) (j : ℕ) : Type 0 where
  pub rows : WholeRows table
  pub column : j < row_width

-- a column, and a word for each row
pub record ColumnWords (table words : List ℕ) (j : ℕ) : Type 0 where
  pub column : Column table j
  pub room : length (rows_of table) ≤ length words

-- r is the total; 4,096 counts of 32 bits stay below 2 ^ 45
pub record Total (total r : ℕ) : Type 0 where
  pub is : r ≡ total
  pub small : r < 35184372088832

-- number j of row k lies in the table
pub record InTable (table : List ℕ) (k j : ℕ) : Type 0 where
  pub row : k < length (rows_of table)
  pub column : j < row_width

-- a row is `row_width` numbers
pub length_rows : (table : List ℕ) → length (rows_of table) ≡ length table / row_width
unfolding rows_of
length_rows [] = refl
length_rows (s ∷ []) = refl
length_rows (s ∷ f ∷ []) = refl
length_rows (s ∷ f ∷ o ∷ []) = refl
length_rows (s ∷ f ∷ o ∷ v ∷ []) = refl
length_rows (s ∷ f ∷ o ∷ v ∷ i ∷ []) = refl
length_rows (s ∷ f ∷ o ∷ v ∷ i ∷ b ∷ rest) = let e = length_rows rest in omega arith

-- the numbers of row k lie in the table
pub row_room : (table : List ℕ) (k : ℕ) → k < length (rows_of table) → row_width * k + row_width ≤ length table
row_room table k h = omega (arith, length_rows table)

-- where they stand
pub row_flat : (table : List ℕ) (k : ℕ) → k < length (rows_of table)
    → row_at table k
    ≡ record {
      shell = get_or table (row_width * k) 0;
      face = get_or table (row_width * k + 1) 0;
      outcome = get_or table (row_width * k + 2) 0;
      vertices = get_or table (row_width * k + 3) 0;
      indices = get_or table (row_width * k + 4) 0;
      bin = get_or table (row_width * k + 5) 0;
    }
unfolding rows_of row_at
row_flat [] k h = absurd (not-suc-le-zero h)
row_flat (s ∷ []) k h = absurd (not-suc-le-zero h)
row_flat (s ∷ f ∷ []) k h = absurd (not-suc-le-zero h)
row_flat (s ∷ f ∷ o ∷ []) k h = absurd (not-suc-le-zero h)
row_flat (s ∷ f ∷ o ∷ v ∷ []) k h = absurd (not-suc-le-zero h)
row_flat (s ∷ f ∷ o ∷ v ∷ i ∷ []) k h = absurd (not-suc-le-zero h)
row_flat (s ∷ f ∷ o ∷ v ∷ i ∷ b ∷ rest) zero h = refl
row_flat (s ∷ f ∷ o ∷ v ∷ i ∷ b ∷ rest) (suc k) h =
    row_flat rest k (le_of_suc-le-suc h)
    ∙ (λ j. record { shell = at 0 (e0 j); face = at 0 (e1 j); outcome = at 0 (e2 j); vertices = at 0 (e3 j); indices = at 0 (e4 j); bin = at 0 (e5 j) })
  where
    at : ℕ → ℕ → ℕ
    at d n = get_or (s ∷ f ∷ o ∷ v ∷ i ∷ b ∷ rest) n d

    e0 : suc (suc (suc (suc (suc (suc (row_width * k)))))) ≡ row_width * suc k
    e0 = omega arith

    e1 : suc (suc (suc (suc (suc (suc (row_width * k + 1)))))) ≡ row_width * suc k + 1
    e1 = omega arith

    e2 : suc (suc (suc (suc (suc (suc (row_width * k + 2)))))) ≡ row_width * suc k + 2
    e2 = omega arith

    e3 : suc (suc (suc (suc (suc (suc (row_width * k + 3)))))) ≡ row_width * suc k + 3
    e3 = omega arith

    e4 : suc (suc (suc (suc (suc (suc (row_width * k + 4)))))) ≡ row_width * suc k + 4
    e4 = omega arith

    e5 : suc (suc (suc (suc (suc (suc (row_width * k + 5)))))) ≡ row_width * suc k + 5
    e5 = omega arith

-- number j of row k stands at rowWidth * k + j
pub row_column : (table : List ℕ) (k j : ℕ) → k < length (rows_of table) → j < row_width → get_or table (row_width * k + j) 0 ≡ column j (row_at table k)
row_column table k zero h l = ap (λ (n : ℕ). get_or table n 0) (add-zero (row_width * k)) ∙ sym (ap (λ (r : Row). r.shell) (row_flat table k h))
row_column table k (suc zero) h l = sym (ap (λ (r : Row). r.face) (row_flat table k h))
row_column table k (suc (suc zero)) h l = sym (ap (λ (r : Row). r.outcome) (row_flat table k h))
row_column table k (suc (suc (suc zero))) h l = sym (ap (λ (r : Row). r.vertices) (row_flat table k h))
row_column table k (suc (suc (suc (suc zero)))) h l = sym (ap (λ (r : Row). r.indices) (row_flat table k h))
row_column table k (suc (suc (suc (suc (suc zero))))) h l = sym (ap (λ (r : Row). r.bin) (row_flat table k h))
row_column table k (suc (suc (suc (suc (suc (suc j)))))) h l = absurd (omega arith)
