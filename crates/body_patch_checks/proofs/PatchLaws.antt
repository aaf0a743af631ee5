-- The checks of the patches, as the code makes them. Assumes nothing.
use mathlib.Core.Path.{◌≡◌, sym, ap, ◌∙◌}
use mathlib.Core.Bool.{Bool, true, false, ◌||◌}
use mathlib.Core.List.{List, []}
use Prim.Native.Nat.{ℕ, ◌+◌, ◌-◌, ◌≤◌, ◌<◌}
use native.Mathlib.Nat.{add-sub_cancel_left}
use native.Mathlib.Omega.{arith}
use lib.ListN.{length, get_or, take, drop}
use lib.Dec.{leb}
use lib.Ieee.{Float}
use borrow.Author.Tests.{le-leb, lt-leb}
use Rattle.lists.specs.Lists.{any}
use Rattle.lists.specs.Any.{Searched, searched_none, searched_more, searched_hit, searched_all}
use Rattle.body_table_checks.specs.Tabled.{Tabled}
use Rattle.body_rows.specs.Body.{rows_of, patches_of}
use Rattle.body_refusals.specs.PatchChecks.{bad_indices}
use Rattle.body_rows.specs.Patches.{no_patch, IndicesFit, IndicesOfRow, patch_at_lem, length_patches, indices_first, indices_next, indices_room}
use Rattle.body_rows.specs.Rows.{row_at, indices_before}

-- ---- 23: of two lists
-- the first has one
pub first_so : {a : Bool} (p q : Bool) → a ≡ p → a ≡ true → true ≡ (p || q)
first_so p q e t = ap (λ (b : Bool). b || q) (sym t ∙ e)

-- the first has none: the second decides
pub second_so : {a r : Bool} (p q : Bool) → a ≡ p → a ≡ false → r ≡ q → r ≡ (p || q)
second_so p q e t f = f ∙ ap (λ (b : Bool). b || q) (sym t ∙ e)

-- ---- 22: a number that is not below n
module _ (n : ℕ) {xs : List ℕ} {k : ℕ} (s : Searched (λ i. leb n i) xs k) (h : k < length xs) where
  -- item k is at least n
  pub least_hit : n ≤ get_or xs k 0 → true ≡ any (λ i. leb n i) xs
  least_hit l = searched_hit 0 s h (le-leb n (get_or xs k 0) l)

  -- item k is below n
  pub least_more : get_or xs k 0 < n → Searched (λ i. leb n i) xs (k + 1)
  least_more l = searched_more 0 s h (lt-leb n (get_or xs k 0) l)

-- ---- 22: the search has passed the first k rows, whose indices end at base
pub record Indexing (table is : List ℕ) (k base : ℕ) : Type 0 where
  pub low : k ≤ length (rows_of table)
  pub start : base ≡ indices_before (rows_of table) k
  pub searched : Searched bad_indices (patches_of (rows_of table) [] [] is) k

-- no row is passed yet
pub indexing_none : (table is : List ℕ) → Indexing table is 0 0
indexing_none table is = record { low = omega arith; start = indices_first (rows_of table); searched = searched_none bad_indices _ }

module _ {table is : List ℕ} {k base : ℕ} (s : Indexing table is k base) (h : k < length (rows_of table)) where
  -- row k's indices lie in the slice
  pub indexing_room : IndicesFit table is → IndicesOfRow table is k base
  unfolding row_at
  indexing_room f = record { row = h; room = omega (arith, s.start, f.fit, indices_room (rows_of table) k h) }

  -- the test of row k is that of its patch
  test_is : any (λ i. leb (row_at table k).vertices i) (take (row_at table k).indices (drop base is)) ≡ bad_indices (get_or (patches_of (rows_of table) [] [] is) k no_patch)
  unfolding row_at bad_indices
  test_is =
      ap (λ (b : ℕ). any (λ i. leb (row_at table k).vertices i) (take (row_at table k).indices (drop b is))) s.start
      ∙ sym (ap bad_indices (patch_at_lem (rows_of table) [] [] is k h))

  -- row k has a bad index
  pub indexing_hit : {b : Bool} → b ≡ any (λ i. leb (row_at table k).vertices i) (take (row_at table k).indices (drop base is)) → b ≡ true
      → true ≡ any bad_indices (patches_of (rows_of table) [] [] is)
  indexing_hit e t = searched_hit no_patch s.searched (omega (arith, length_patches (rows_of table) [] [] is)) (sym test_is ∙ sym e ∙ t)

  -- row k has none
  pub indexing_more : {b : Bool} {n : ℕ} → b ≡ any (λ i. leb (row_at table k).vertices i) (take (row_at table k).indices (drop base is)) → b ≡ false
      → n ≡ (row_at table k).indices → Indexing table is (k + 1) (base + n)
  unfolding row_at
  indexing_more e t q = record {
    low = omega arith;
    start = (λ j. s.start j + q j) ∙ sym (indices_next table k h);
    searched = searched_more no_patch s.searched (omega (arith, length_patches (rows_of table) [] [] is)) (sym test_is ∙ sym e ∙ t);
  }

-- no row has one
pub indexing_all : {table is : List ℕ} {k base : ℕ} → Indexing table is k base → length (rows_of table) ≤ k → false ≡ any bad_indices (patches_of (rows_of table) [] [] is)
indexing_all {table} {is} s h = searched_all s.searched (omega (arith, length_patches (rows_of table) [] [] is))

-- the test of a part of the slice is that of the row
pub row_test : (is : List ℕ) (base : ℕ) {v n w m : ℕ} {r : Bool} → n ≡ m → v ≡ w → r ≡ any (λ i. leb v i) (take (base + n - base) (drop base is))
    → r ≡ any (λ i. leb w i) (take m (drop base is))
row_test is base {v} {n} e f q =
    q ∙ ap (λ (k : ℕ). any (λ i. leb v i) (take k (drop base is))) (add-sub_cancel_left base n) ∙ (λ j. any (λ i. leb (f j) i) (take (e j) (drop base is)))

-- check 14 has passed
pub all_indices_fit : {table : List ℕ} {ps ns : List Float} {is : List ℕ} → Tabled table ps ns is → IndicesFit table is
all_indices_fit ok = record { fit = ok.all_indices_lem }
