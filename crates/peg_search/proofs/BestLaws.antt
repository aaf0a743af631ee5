-- The laws of the smallest sum of squares of some rows, one row after another. Assumes nothing.
use mathlib.Core.Path.{◌≡◌, refl, sym, ap, ◌∙◌, subst}
use mathlib.Core.Logic.{◌⊎◌, inl, inr}
use mathlib.Core.Bool.{Bool, true, false, cond}
use mathlib.Core.List.{List, [], ◌++◌}
use Prim.Native.Nat.{ℕ, ◌+◌, ◌-◌, ◌*◌, ◌≤◌, ◌<◌, min}
use native.Mathlib.Omega.{arith}
use borrow.Author.Tests.{ltb-true, ltb-false}
use lib.Dec.{ltb}
use lib.IntN.{ℤ}
use lib.ListN.{length, take, drop}
use lib.Ieee.{Float}
use Rattle.body_rows.specs.Body.{rows_of}
use Rattle.body_rows.specs.Rows.{row_at, vertices_before}
use Rattle.body_refusals.specs.TableChecks.{most_bin}
use Rattle.peg_definition.specs.Peg.{Hit, row_hits}
use Rattle.peg_definition.specs.PlaceLaws.{place_at}
use Rattle.peg_distance.specs.Words.{beyond}
use Rattle.plan_definition.specs.declared.PlaceWords.{PlaceWords}
use Rattle.peg_search.specs.Hits.{Ties, least_of, least_append, least_ties, row_bin, ties_either, ties_least, ties_left, ties_right}
use Rattle.peg_search.specs.Search.{BestOf, Placed, best_with, body_hits, no_best, peg_of}
use Rattle.peg_search.specs.declared.best.Best.{Best}
use Rattle.peg_search.proofs.RowLaws.{AtRow, at_first, at_next, front, front_all, front_more, front_none, row_is, row_there, row_of}

-- the vertices of a row: the least of them, and that all have its bin
pub record OneBin (row : List Hit) (m bin : ℕ) : Type 0 where
  pub least : m ≡ least_of row
  pub bins : (s b : ℕ) → Ties s b row → b ≡ bin
  pub has : m < beyond → Ties m bin row

pub one_bin : (row : List Hit) (m bin : ℕ) → m ≡ least_of row → ((s b : ℕ) → Ties s b row → b ≡ bin) → OneBin row m bin
one_bin row m bin e f = record {
  least = e;
  bins = f;
  has = λ l. let p = least_ties row (subst (λ (n : ℕ). n < beyond) e l) in subst (λ (n : ℕ). Ties n bin row) (sym e)
      (subst (λ (n : ℕ). Ties (least_of row) n row) (f (least_of row) p.0 p.1) p.1);
}

-- of no rows
pub best_none : BestOf [] no_best
unfolding least_of
best_none = record { least = refl; lowest = λ l. absurd (omega arith); highest = λ l. absurd (omega arith); between = λ b t. absurd t; order = omega arith; most = omega arith }

module _ (hits row : List Hit) (b : Best) (s bin : ℕ) (v : BestOf hits b) (r : OneBin row s bin) (few : bin ≤ most_bin) where
  both : least_of (hits ++ row) ≡ min b.square s
  both = least_append hits row ∙ (λ i. min (sym v.least i) (sym r.least i))

  -- the row is nearer than all before
  nearer : s < b.square → BestOf (hits ++ row) (record { square = s; low = bin; high = bin })
  nearer h = record {
    least = omega (arith, both);
    lowest = λ l. ties_right s bin hits row (r.has l);
    highest = λ l. ties_right s bin hits row (r.has l);
    between = λ y t. go y (ties_either s y hits row t);
    order = omega arith;
    most = few;
  }
    where
      go : (y : ℕ) → Ties s y hits ⊎ Ties s y row → (bin ≤ y) × (y ≤ bin)
      go y (inl t) = absurd (let l = ties_least s y hits t in omega (arith, v.least))
      go y (inr t) = let e = r.bins s y t in (omega arith, omega arith)

  -- it is farther
  farther : b.square < s → BestOf (hits ++ row) b
  farther h = record {
    least = omega (arith, both);
    lowest = λ l. ties_left b.square b.low hits row (v.lowest l);
    highest = λ l. ties_left b.square b.high hits row (v.highest l);
    between = λ y t. go y (ties_either b.square y hits row t);
    order = v.order;
    most = v.most;
  }
    where
      go : (y : ℕ) → Ties b.square y hits ⊎ Ties b.square y row → (b.low ≤ y) × (y ≤ b.high)
      go y (inl t) = v.between y t
      go y (inr t) = absurd (let l = ties_least b.square y row t in omega (arith, r.least))

  -- it comes as near: the lowest and the highest bin, one of which may be its own
  module _ (e : s ≡ b.square) (low high : ℕ) (below : low ≤ bin) (above : bin ≤ high) (lower : low ≤ b.low) (higher : b.high ≤ high)
      (low_is : (low ≡ b.low) ⊎ (low ≡ bin)) (high_is : (high ≡ b.high) ⊎ (high ≡ bin)) where
    ties_of : (n old : ℕ) → (n ≡ old) ⊎ (n ≡ bin) → Ties s old hits → s < beyond → Ties s n (hits ++ row)
    ties_of n old (inl q) t l = subst (λ (k : ℕ). Ties s k (hits ++ row)) (sym q) (ties_left s old hits row t)
    ties_of n old (inr q) t l = subst (λ (k : ℕ). Ties s k (hits ++ row)) (sym q) (ties_right s bin hits row (r.has l))

    as_near : BestOf (hits ++ row) (record { square = s; low = low; high = high })
    as_near = record {
      least = omega (arith, both);
      lowest = λ l. ties_of low b.low low_is (subst (λ (k : ℕ). Ties k b.low hits) (sym e) (v.lowest (omega arith))) l;
      highest = λ l. ties_of high b.high high_is (subst (λ (k : ℕ). Ties k b.high hits) (sym e) (v.highest (omega arith))) l;
      between = λ y t. go y (ties_either s y hits row t);
      order = omega arith;
      most = most_of high_is;
    }
      where
        go : (y : ℕ) → Ties s y hits ⊎ Ties s y row → (low ≤ y) × (y ≤ high)
        go y (inl t) = let p = v.between y (subst (λ (k : ℕ). Ties k y hits) e t) in let p₀ = p.0 in let p₁ = p.1 in (omega arith, omega arith)
        go y (inr t) = let q = r.bins s y t in (omega arith, omega arith)

        most_of : (high ≡ b.high) ⊎ (high ≡ bin) → high ≤ most_bin
        most_of (inl q) = omega (arith, v.most)
        most_of (inr q) = omega arith

  -- one row more
  pub best_more : BestOf (hits ++ row) (best_with b s bin)
  best_more = first (ltb s b.square) refl (ltb b.square s) refl (ltb bin b.low) refl (ltb b.high bin) refl
    where
      same : ltb s b.square ≡ false → ltb b.square s ≡ false → s ≡ b.square
      same p q = let l = ltb-false s b.square p in let m = ltb-false b.square s q in omega arith

      whole : (p : ltb s b.square ≡ false) (q : ltb b.square s ≡ false) → record { square = s; low = b.low; high = b.high } ≡ b
      whole p q = λ i. record { square = same p q i; low = b.low; high = b.high }

      first : (t : Bool) → ltb s b.square ≡ t → (u : Bool) → ltb b.square s ≡ u → (x : Bool) → ltb bin b.low ≡ x → (y : Bool) → ltb b.high bin ≡ y
          → BestOf (hits ++ row) (cond t (record { square = s; low = bin; high = bin })
          (cond u b (cond x (record { square = s; low = bin; high = b.high }) (cond y (record { square = s; low = b.low; high = bin }) b))))
      first true p u q x a y c = nearer (ltb-true s b.square p)
      first false p true q x a y c = farther (ltb-true b.square s q)
      first false p false q true a y c =
          let l = ltb-true bin b.low a in as_near (same p q) bin b.high (omega arith) (omega (arith, v.order)) (omega arith) (omega arith) (inr refl) (inl refl)
      first false p false q false a true c =
          let l = ltb-true b.high bin c in as_near (same p q) b.low bin (omega (arith, v.order)) (omega arith) (omega arith) (omega arith) (inl refl) (inr refl)
      first false p false q false a false c =
          let l = ltb-false bin b.low a in
          let m = ltb-false b.high bin c in
          subst (BestOf (hits ++ row)) (whole p q) (as_near (same p q) b.low b.high (omega arith) (omega arith) (omega arith) (omega arith) (inl refl) (inl refl))

-- ---- the pass

-- the rows before row k were looked at
pub record Finding (table : List ℕ) (ps : List Float) (list : List ℤ) (peg : PlaceWords) (n k from : ℕ) (b : Best) : Type 0 where
  pub at : AtRow table n k from
  pub best : BestOf (front table ps list peg k) b

pub finding_none : (table : List ℕ) (ps : List Float) (list : List ℤ) (peg : PlaceWords) {n : ℕ} {b : Best} → n ≡ length (rows_of table) → b ≡ no_best → Finding table ps list peg n 0 0 b
finding_none table ps list peg {b = b} e q = record {
  at = at_first table e;
  best = subst (BestOf (front table ps list peg 0)) (sym q) (subst (λ (l : List Hit). BestOf l no_best) (sym (front_none table ps list peg)) best_none);
}

module _ (table : List ℕ) (ps : List Float) (list : List ℤ) (peg : PlaceWords) (p : Placed table ps list peg) (n k from : ℕ) {b : Best} (f : Finding table ps list peg n k from b) where
  pub finding_more : k < n → {v s bin : ℕ} {r : Best} → v ≡ (row_at table k).vertices → s ≡ least_of (row_hits (peg_of peg) 0 (place_at list k) (take (from + 3 * v - from) (drop from ps)))
      → bin ≡ (row_at table k).bin → r ≡ best_with b s bin → Finding table ps list peg n (k + 1) (from + 3 * v) r
  finding_more h {v} {s} {bin} {r} ev es eb er =
      let t : k < length (rows_of table) = row_there table ps list peg p n k from f.at h in
      let row : OneBin (row_of table ps list peg k) s bin =
      one_bin (row_of table ps list peg k) s bin (row_is table ps list peg p n k from f.at h ev es) (λ x y u. row_bin (peg_of peg) (row_at table k).bin (place_at list k) _ x y u ∙ sym eb) in
      record {
        at = at_next table ps list peg p n k from f.at h ev;
        best =
            subst (BestOf (front table ps list peg (k + 1))) (sym er)
            (subst (λ (l : List Hit). BestOf l (best_with b s bin)) (sym (front_more table ps list peg p k t))
            (best_more (front table ps list peg k) (row_of table ps list peg k) b s bin f.best row (subst (λ (m : ℕ). m ≤ most_bin) (sym eb) (p.bins k t))));
      }

  pub finding_all : n ≤ k → BestOf (body_hits table ps list peg) b
  finding_all h = subst (λ (l : List Hit). BestOf l b) (front_all table ps list peg k (omega (arith, f.at.all))) f.best
