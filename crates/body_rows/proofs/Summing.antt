-- A running sum over the rows of the flat table. Assumes nothing.
use mathlib.Core.Path.{◌≡◌, refl, sym, ◌∙◌}
use mathlib.Core.List.{List}
use Prim.Native.Nat.{ℕ, ◌+◌, ◌*◌, ◌<◌, ◌≤◌}
use native.Mathlib.Omega.{arith}
use lib.ListN.{length, take}
use Rattle.lists.specs.Lists.{sum_of}
use Rattle.lists.specs.Any.{sum_more, sum_all}
use Rattle.body_rows.specs.Body.{Row, rows_of, all_vertices, all_indices, work_needed}
use Rattle.body_rows.specs.Rows.{row_at, no_row, Total, WholeRows}

-- the sum of the numbers f of the first k rows, each of 32 bits
pub record Summing (f : Row → ℕ) (table : List ℕ) (k sum : ℕ) : Type 0 where
  pub low : k ≤ length (rows_of table)
  pub is : sum ≡ sum_of f (take k (rows_of table))
  pub small : sum ≤ 4294967295 * k

-- no row is passed yet
pub summing_none : (f : Row → ℕ) (table : List ℕ) → Summing f table 0 0
unfolding sum_of
summing_none f table = record { low = omega arith; is = refl; small = omega arith }

-- row k is added
pub summing_more : {f : Row → ℕ} {table : List ℕ} {k sum r : ℕ} → Summing f table k sum → k < length (rows_of table) → r ≡ f (row_at table k) → r < 4294967296
    → Summing f table (k + 1) (sum + r)
unfolding row_at
summing_more {f} {table} {k} {sum} {r} s h e l =
    record {
      low = omega arith;
      is = (λ i. s.is i + e i) ∙ sym (sum_more f (rows_of table) k no_row h);
      small = omega (arith, s.small);
    }

-- at the end the sum is the total
pub total_is : {f : Row → ℕ} {table : List ℕ} {k sum : ℕ} → WholeRows table → Summing f table k sum → length (rows_of table) ≤ k → Total (sum_of f (rows_of table)) sum
total_is {f} {table} {k} {sum} w s h =
    record { is = s.is ∙ sum_all f (rows_of table) k h; small = omega (arith, s.small, s.low, w.few) }

-- the words that the totals need
pub needed_is : (table : List ℕ) {v i n : ℕ} → Total (all_indices (rows_of table)) i → n ≡ length (rows_of table) → Total (all_vertices (rows_of table)) v
    → 16 * i + 16 * n + 4 * v ≡ work_needed (rows_of table)
unfolding work_needed
needed_is table a e b = (λ j. 16 * a.is j + 16 * e j + 4 * b.is j)
