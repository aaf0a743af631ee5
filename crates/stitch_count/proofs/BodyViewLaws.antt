-- Laws of the views of all rows in two areas. Assumes nothing.
use mathlib.Core.Path.{◌≡◌, refl, sym, ap, ◌∙◌}
use mathlib.Core.List.{List, [], ◌∷◌}
use Prim.Native.Nat.{ℕ, zero, suc, ◌+◌, ◌-◌, ◌<◌, ◌≤◌}
use native.Mathlib.Omega.{arith}
use lib.ListN.{length, get_or, take, drop, length-drop, drop_of_length-le}
use lib.Seq.{ext_get_or, length-take-le}
use lib.Ieee.{Float}
use Rattle.lists.specs.Stretches.{stretch_at}
use Rattle.body_rows.specs.Body.{Row, rows_of}
use Rattle.body_rows.specs.Rows.{row_at, vertices_before, indices_before}
use Rattle.body_rows.specs.Patches.{indices_next, vertices_next}
use Rattle.stitch_count.specs.Views.{body_views}
use Rattle.stitch_count.specs.Counting.{views_in, BodyReady}
use Rattle.stitch_count.specs.RowByRow.{views_from, views_here}

-- a stretch whose words are kept
pub stretch_same : (b n : ℕ) (W E : List ℕ) → b + n ≤ length W → length E ≡ length W → ((j : ℕ) → j < n → get_or E (b + j) 0 ≡ get_or W (b + j) 0) → take n (drop b E) ≡ take n (drop b W)
stretch_same b n W E room long same =
    ext_get_or 0 (take n (drop b E)) (take n (drop b W)) (many ∙ sym (length-take-le n (drop b W) (omega (arith, length-drop b W)))) word
  where
    many : length (take n (drop b E)) ≡ n
    many = length-take-le n (drop b E) (omega (arith, length-drop b E))

    word : (j : ℕ) → j < length (take n (drop b E)) → get_or (take n (drop b E)) j 0 ≡ get_or (take n (drop b W)) j 0
    word j h = let l : j < n = omega (arith, many) in stretch_at b n E j 0 l ∙ same j l ∙ sym (stretch_at b n W j 0 l)

-- a row's indices end before those of a later row
row_before : (table : List ℕ) (m h : ℕ) → h + 1 + m ≤ length (rows_of table) → indices_before (rows_of table) h + (row_at table h).indices ≤ indices_before (rows_of table) (h + 1 + m)
row_before table zero h l =
    let e : h + 1 + 0 ≡ h + 1 = omega arith in
    omega (arith, indices_next table h (omega arith), ap (indices_before (rows_of table)) e)
row_before table (suc m) h l =
    let e : h + 1 + suc m ≡ h + 1 + m + 1 = omega arith in
    omega (arith, row_before table m h (omega arith), indices_next table (h + 1 + m) (omega arith), ap (indices_before (rows_of table)) e)

pub row_earlier : (table : List ℕ) (h k : ℕ) → h < k → k ≤ length (rows_of table) → indices_before (rows_of table) h + (row_at table h).indices ≤ indices_before (rows_of table) k
row_earlier table h k l m =
    let e : h + 1 + (k - (h + 1)) ≡ k = omega arith in
    omega (arith, row_before table (k - (h + 1)) h (omega arith), ap (indices_before (rows_of table)) e)

-- the views are the same if those of all rows are
module _ {table : List ℕ} {ps : List Float} {is : List ℕ} {sag beyond : Float} {v list count at ts flags order boxes top : ℕ} {W E : List ℕ}
    (g : BodyReady table ps is sag beyond v list count at ts flags order boxes top W) (h : BodyReady table ps is sag beyond v list count at ts flags order boxes top E)
    (same : (k base i end : ℕ) → k < length (rows_of table) → base ≡ vertices_before (rows_of table) k → i ≡ indices_before (rows_of table) k → end ≡ i + (row_at table k).indices
    → views_in ps is sag v list count flags base i end E ≡ views_in ps is sag v list count flags base i end W) where
  pub body_same : (m k base i : ℕ) → k + m ≡ length (rows_of table) → base ≡ vertices_before (rows_of table) k → i ≡ indices_before (rows_of table) k
      → views_from ps is sag v list count flags base i (drop k (rows_of table)) E ≡ views_from ps is sag v list count flags base i (drop k (rows_of table)) W
  unfolding body_views
  body_same zero k base i e eb ei =
      let none : drop k (rows_of table) ≡ [] = drop_of_length-le (rows_of table) {i = k} (omega arith) in
      ap (λ (rows : List Row). views_from ps is sag v list count flags base i rows E) none ∙ sym (ap (λ (rows : List Row). views_from ps is sag v list count flags base i rows W) none)
  body_same (suc m) k base i e eb ei =
      let more : k < length (rows_of table) = omega arith in
      let r = row_at table k in
      let here = same k base i (i + r.indices) more eb ei refl in
      let next = body_same m (k + 1) (base + r.vertices) (i + r.indices) (omega arith) (omega (arith, eb, vertices_next table k more)) (omega (arith, ei, indices_next table k more)) in
      views_here h k more refl ei refl base E refl ∙ (λ j. here j ∷ next j) ∙ sym (views_here g k more refl ei refl base W refl)
