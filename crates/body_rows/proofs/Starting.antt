-- Words filled with where each row starts. Assumes nothing.
use mathlib.Core.Path.{◌≡◌, refl, sym, ap, ◌∙◌, subst}
use mathlib.Core.List.{List}
use Prim.Native.Nat.{ℕ, ◌+◌, ◌≤◌, ◌<◌}
use native.Mathlib.Nat.{le_antisymm}
use native.Mathlib.Omega.{arith}
use lib.ListN.{length, get_or, take, drop, set, length-set}
use lib.Seq.{get_or-set_same, get_or-set_other, drop-set-lt, drop-drop}
use borrow.Author.Count.{below_more}
use Rattle.lists.specs.Lists.{sum_of}
use Rattle.body_rows.specs.Body.{Row, rows_of}
use Rattle.body_rows.specs.Rows.{row_at, column, column_before, Starts}
use Rattle.body_rows.proofs.Summing.{Summing, summing_none, summing_more}

-- the first k words are filled, and base is where row k starts
pub record Starting (f : Row → ℕ) (table old : List ℕ) (k : ℕ) (w : List ℕ) (base : ℕ) : Type 0 where
  pub sum : Summing f table k base
  pub each : (j : ℕ) → j < k → get_or w j 0 ≡ sum_of f (take j (rows_of table))
  pub beyond : drop k w ≡ drop k old
  pub long : length w ≡ length old

-- no word is filled yet
pub starting_none : (f : Row → ℕ) (table old : List ℕ) → Starting f table old 0 old 0
starting_none f table old = record { sum = summing_none f table; each = λ j l. absurd (omega arith); beyond = refl; long = refl }

-- the word of row k is filled
pub starting_more : {f : Row → ℕ} {table old : List ℕ} {k : ℕ} {w : List ℕ} {base r : ℕ} → length (rows_of table) ≤ length old → Starting f table old k w base → k < length (rows_of table)
    → r ≡ f (row_at table k) → r < 4294967296 → Starting f table old (k + 1) (set w k base) (base + r)
starting_more {f} {table} {old} {k} {w} {base} {r} fit s h e l =
    let in_w : k < length w = omega (arith, fit, s.long) in
    record {
      sum = summing_more s.sum h e l;
      each = below_more (λ j. get_or (set w k base) j 0 ≡ sum_of f (take j (rows_of table))) k
          (λ j b. get_or-set_other w k j base 0 (apart j b) ∙ s.each j b) (get_or-set_same w k base 0 in_w ∙ s.sum.is);
      beyond = drop-set-lt (k + 1) w k base (omega arith) ∙ sym (drop-drop 1 k w) ∙ ap (drop 1) s.beyond ∙ drop-drop 1 k old;
      long = simp length-set s.long;
    }
  where
    apart : (j : ℕ) → j < k → j ≡ k → ⊥
    apart j b q = omega arith

-- at the end each word says where its row starts
pub starting_all : (j : ℕ) {table old : List ℕ} {k : ℕ} {w : List ℕ} {base : ℕ} → Starting (column j) table old k w base → length (rows_of table) ≤ k → Starts (column_before j) table old w
unfolding column_before
starting_all j {table} {old} {k} {w} s h =
    let e : k ≡ length (rows_of table) = le_antisymm s.sum.low h in
    record { each = λ i l. s.each i (omega arith); beyond = subst (λ (n : ℕ). drop n w ≡ drop n old) e s.beyond }
