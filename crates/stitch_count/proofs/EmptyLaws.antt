-- A body without a loose vertex has no splits. Assumes nothing.
use mathlib.Core.Path.{◌≡◌, refl, sym, ap, ◌∙◌}
use mathlib.Core.List.{List, [], ◌∷◌}
use Prim.Native.Nat.{ℕ, ◌+◌}
use native.Mathlib.Omega.{arith}
use lib.ListN.{length, take, drop}
use lib.Ieee.{Float}
use Rattle.lists.specs.Lists.{count_if, sum_of}
use Rattle.body_rows.specs.Body.{Row, Triangle, triangles_of, rows_of}
use Rattle.stitch_splits.specs.Entries.{kept_entries}
use Rattle.stitch_splits.specs.Found.{entries_on, found_count, triangle_found, triangle_kept}
use Rattle.stitch_count.specs.Views.{row_views, body_views, found_in, kept_in}
use Rattle.stitch_count.specs.Counting.{BodyReady, BodyCounted}

-- nothing and nothing more
no_more : (n : ℕ) → n ≡ 0 → 0 + n ≡ 0
no_more n z = omega arith

module _ (sag : Float) (ps : List Float) (ns : List ℕ) where
  row_none : (base : ℕ) (flags : List ℕ) (ts : List Triangle) → found_in (row_views sag ps ns [] base flags ts) ≡ 0
  unfolding row_views found_in sum_of triangle_found found_count count_if
  row_none base flags [] = refl
  row_none base [] (t ∷ ts) = refl
  row_none base (o ∷ []) (t ∷ ts) = refl
  row_none base (o ∷ p ∷ []) (t ∷ ts) = refl
  row_none base (o ∷ p ∷ q ∷ flags) (t ∷ ts) = no_more (found_in (row_views sag ps ns [] base flags ts)) (row_none base flags ts)

  row_kept : (base : ℕ) (flags : List ℕ) (ts : List Triangle) → kept_in (row_views sag ps ns [] base flags ts) ≡ 0
  unfolding row_views kept_in sum_of triangle_kept entries_on kept_entries
  row_kept base flags [] = refl
  row_kept base [] (t ∷ ts) = refl
  row_kept base (o ∷ []) (t ∷ ts) = refl
  row_kept base (o ∷ p ∷ []) (t ∷ ts) = refl
  row_kept base (o ∷ p ∷ q ∷ flags) (t ∷ ts) = no_more (kept_in (row_views sag ps ns [] base flags ts)) (row_kept base flags ts)

  body_none : (base : ℕ) (flags : List ℕ) (rows : List Row) (is : List ℕ) → sum_of found_in (body_views sag ps ns [] base flags rows is) ≡ 0
  unfolding body_views sum_of
  body_none base flags [] is = refl
  body_none base flags (r ∷ rs) is =
      (λ i. row_none base (take r.indices flags) (triangles_of (take r.indices is)) i + body_none (base + r.vertices) (drop r.indices flags) rs (drop r.indices is) i)

  body_kept : (base : ℕ) (flags : List ℕ) (rows : List Row) (is : List ℕ) → sum_of kept_in (body_views sag ps ns [] base flags rows is) ≡ 0
  unfolding body_views sum_of
  body_kept base flags [] is = refl
  body_kept base flags (r ∷ rs) is =
      (λ i. row_kept base (take r.indices flags) (triangles_of (take r.indices is)) i + body_kept (base + r.vertices) (drop r.indices flags) rs (drop r.indices is) i)

-- nothing is counted, and nothing was written
pub none_loose : {table : List ℕ} {ps : List Float} {is : List ℕ} {sag beyond : Float} {v list count at ts flags order boxes top : ℕ} {W : List ℕ}
    → BodyReady table ps is sag beyond v list count at ts flags order boxes top W → count ≡ 0 → BodyCounted table ps is sag v list count at ts flags W W 0 0
none_loose {table} {ps} {is} {sag} {beyond} {v} {list} {count} {at} {ts} {flags} {order} {boxes} {top} {W} g z =
    let none : take count (drop list W) ≡ [] = ap (λ (n : ℕ). take n (drop list W)) z in
    let fs = take (length is) (drop flags W) in
    record {
      views = refl;
      exact = λ a b. sym (ap (λ (gs : List ℕ). sum_of kept_in (body_views sag ps (take v W) gs 0 fs (rows_of table) is)) none ∙ body_kept sag ps (take v W) 0 fs (rows_of table) is);
      found_is = λ a b. sym (ap (λ (gs : List ℕ). sum_of found_in (body_views sag ps (take v W) gs 0 fs (rows_of table) is)) none ∙ body_none sag ps (take v W) 0 fs (rows_of table) is);
      most = omega arith;
      kept_low = omega arith;
      front = refl;
      rest = refl;
    }
