-- The laws of the next bin of a row, and of whether a bin has the smallest sum of squares, one row after another. Assumes nothing.
use mathlib.Core.Path.{◌≡◌, refl, sym, ap, ◌∙◌, subst}
use mathlib.Core.Logic.{◌⊎◌, inl, inr}
use mathlib.Core.Bool.{Bool, true, false, ◌&&◌, cond}
use mathlib.Core.List.{List, [], ◌++◌}
use Prim.Native.Nat.{ℕ, suc, ◌+◌, ◌-◌, ◌*◌, ◌≤◌, ◌<◌, min}
use native.Mathlib.Omega.{arith}
use borrow.Author.Tests.{ltb-true, ltb-false, eqb-true, eqb-false, eq-eqb}
use lib.Dec.{ltb, eqb}
use lib.IntN.{ℤ}
use lib.ListN.{length, take, drop}
use lib.Ieee.{Float}
use Rattle.lists.specs.Both.{and_left, and_right}
use Rattle.body_rows.specs.Body.{rows_of}
use Rattle.body_rows.specs.Rows.{row_at}
use Rattle.body_refusals.specs.TableChecks.{most_bin}
use Rattle.peg_definition.specs.Peg.{Hit, row_hits}
use Rattle.peg_definition.specs.PlaceLaws.{place_at}
use Rattle.peg_distance.specs.Words.{beyond}
use Rattle.plan_definition.specs.declared.PlaceWords.{PlaceWords}
use Rattle.peg_search.specs.Hits.{Ties, least_of, least_append, row_bin, ties_either, ties_least, ties_left, ties_right}
use Rattle.peg_search.specs.Search.{BinTies, NextBin, Placed, body_hits, lower_bin, no_bin, peg_of, row_ties}
use Rattle.peg_search.proofs.RowLaws.{AtRow, at_first, at_next, front, front_all, front_least, front_more, front_none, front_ties, row_is, row_there, row_of}
use Rattle.peg_search.proofs.BestLaws.{OneBin, one_bin}

-- ---- the next bin

-- the rows before row k were looked at
pub record Lowering (table : List ℕ) (first n k r : ℕ) : Type 0 where
  pub all : n ≡ length (rows_of table)
  pub low : k ≤ n
  pub most : r ≤ no_bin
  pub from : r < no_bin → first ≤ r
  pub lowest : (j : ℕ) → j < k → first ≤ (row_at table j).bin → r ≤ (row_at table j).bin

pub lowering_none : (table : List ℕ) (first : ℕ) {n : ℕ} → n ≡ length (rows_of table) → Lowering table first n 0 no_bin
lowering_none table first e = record { all = e; low = omega arith; most = omega arith; from = λ l. absurd (omega arith); lowest = λ j l h. absurd (omega arith) }

module _ (table : List ℕ) (first n k r : ℕ) (v : Lowering table first n k r) where
  pub bin_there : k < n → k < length (rows_of table)
  bin_there h = omega (arith, v.all)

  pub lowering_more : k < n → {b q : ℕ} → b ≡ (row_at table k).bin → q ≡ lower_bin b first r → Lowering table first n (k + 1) q
  lowering_more h {b} {q} e f = go (ltb b first) refl f
    where
      made : (x : ℕ) → x ≤ r → (x < no_bin → first ≤ x) → (first ≤ b → x ≤ b) → Lowering table first n (k + 1) x
      made x l g here = record { all = v.all; low = omega arith; most = omega (arith, v.most); from = g; lowest = λ j m i. each j m i (eqb j k) refl }
        where
          each : (j : ℕ) → j < k + 1 → first ≤ (row_at table j).bin → (t : Bool) → eqb j k ≡ t → x ≤ (row_at table j).bin
          each j m i true p =
              let z : (row_at table j).bin ≡ b = ap (λ (a : ℕ). (row_at table a).bin) (eqb-true j k p) ∙ sym e in
              subst (λ (a : ℕ). x ≤ a) (sym z) (here (subst (λ (a : ℕ). first ≤ a) z i))
          each j m i false p = let n = eqb-false j k p in let y = v.lowest j (before j m n) i in omega arith
            where
              before : (a : ℕ) → a < k + 1 → (a ≡ k → ⊥) → a < k
              before a g f = omega arith

      -- the lower of two from `first` on is from `first` on
      lower_from : first ≤ b → min b r < no_bin → first ≤ min b r
      lower_from y l = either (ltb r b) refl
        where
          either : (t : Bool) → ltb r b ≡ t → first ≤ min b r
          either true u = let w = ltb-true r b u in let z = v.from (omega arith) in omega arith
          either false u = let w = ltb-false r b u in omega arith

      go : (s : Bool) → ltb b first ≡ s → q ≡ cond s r (min b r) → Lowering table first n (k + 1) q
      go true p f = subst (Lowering table first n (k + 1)) (sym f) (made r (omega arith) v.from (λ l. absurd (let y = ltb-true b first p in omega arith)))
      go false p f =
          let y = ltb-false b first p in
          subst (Lowering table first n (k + 1)) (sym f) (made (min b r) (omega arith) (lower_from y) (λ l. omega arith))

  pub lowering_all : n ≤ k → NextBin table first r
  lowering_all h = record { most = v.most; from = v.from; lowest = λ j l i. v.lowest j (omega (arith, v.all)) i }

-- ---- whether a bin has the smallest sum of squares

-- no vertex of the rows before row k has it
pub record Seeking (table : List ℕ) (ps : List Float) (list : List ℤ) (peg : PlaceWords) (s wanted n k from : ℕ) : Type 0 where
  pub at : AtRow table n k from
  pub none : Ties s wanted (front table ps list peg k) → ⊥

pub seeking_none : (table : List ℕ) (ps : List Float) (list : List ℤ) (peg : PlaceWords) (s wanted : ℕ) {n : ℕ} → n ≡ length (rows_of table) → Seeking table ps list peg s wanted n 0 0
seeking_none table ps list peg s wanted e = record {
  at = at_first table e;
  none = λ t. subst (Ties s wanted) (front_none table ps list peg) t;
}

module _ (table : List ℕ) (ps : List Float) (list : List ℤ) (peg : PlaceWords) (p : Placed table ps list peg) (s wanted n k from : ℕ) (f : Seeking table ps list peg s wanted n k from)
    (e : s ≡ least_of (body_hits table ps list peg)) (l : s < beyond) where
  module _ (h : k < n) {v : ℕ} (ev : v ≡ (row_at table k).vertices) {q : Bool}
      (eq : q ≡ row_ties (row_at table k).bin wanted s (least_of (row_hits (peg_of peg) 0 (place_at list k) (take (from + 3 * v - from) (drop from ps))))) where
    there : k < length (rows_of table)
    there = row_there table ps list peg p n k from f.at h

    -- the row's own least, and its bin
    row : OneBin (row_of table ps list peg k) (least_of (row_of table ps list peg k)) (row_at table k).bin
    row = one_bin (row_of table ps list peg k) _ (row_at table k).bin refl (λ x y u. row_bin (peg_of peg) (row_at table k).bin (place_at list k) _ x y u)

    tested : q ≡ row_ties (row_at table k).bin wanted s (least_of (row_of table ps list peg k))
    tested = eq ∙ ap (row_ties (row_at table k).bin wanted s) (row_is table ps list peg p n k from f.at h ev refl)

    -- the row has it
    pub seeking_hit : q ≡ true → BinTies (body_hits table ps list peg) s wanted true
    seeking_hit t =
        let both : (eqb (row_at table k).bin wanted && eqb (least_of (row_of table ps list peg k)) s) ≡ true = sym tested ∙ t in
        let b = eqb-true (row_at table k).bin wanted (and_left (eqb (row_at table k).bin wanted) (eqb (least_of (row_of table ps list peg k)) s) both) in
        let g = eqb-true (least_of (row_of table ps list peg k)) s (and_right (eqb (row_at table k).bin wanted) (eqb (least_of (row_of table ps list peg k)) s) both) in
        let here : Ties s wanted (row_of table ps list peg k) =
        subst (λ (x : ℕ). Ties s x (row_of table ps list peg k)) b (subst (λ (x : ℕ). Ties x (row_at table k).bin (row_of table ps list peg k)) g (row.has (subst (λ (x : ℕ). x < beyond) (sym g) l))) in
        record {
          has = λ z. front_ties table ps list peg s wanted (k + 1)
              (subst (Ties s wanted) (sym (front_more table ps list peg p k there)) (ties_right s wanted (front table ps list peg k) (row_of table ps list peg k) here));
          none = λ z. absurd (no z);
        }
      where
        no : true ≡ false → ⊥
        no z = let y : ◌≡◌ {A = ℕ} 0 1 = cc in omega arith

    -- it has not
    pub seeking_more : q ≡ false → Seeking table ps list peg s wanted n (k + 1) (from + 3 * v)
    seeking_more t = record {
      at = at_next table ps list peg p n k from f.at h ev;
      none = λ u. go (ties_either s wanted (front table ps list peg k) (row_of table ps list peg k) (subst (Ties s wanted) (front_more table ps list peg p k there) u));
    }
      where
        low : s ≤ least_of (row_of table ps list peg k)
        low =
            let is : least_of (front table ps list peg (k + 1)) ≡ min (least_of (front table ps list peg k)) (least_of (row_of table ps list peg k)) =
            ap least_of (front_more table ps list peg p k there) ∙ least_append (front table ps list peg k) (row_of table ps list peg k) in
            omega (arith, e, is, front_least table ps list peg (k + 1))

        other : Ties s wanted (row_of table ps list peg k) → ⊥
        other u =
            let b : wanted ≡ (row_at table k).bin = row.bins s wanted u in
            let g : least_of (row_of table ps list peg k) ≡ s = same (ties_least s wanted (row_of table ps list peg k) u) low in
            absurd (yes (sym t ∙ tested ∙ rw (eq-eqb (row_at table k).bin wanted (sym b), eq-eqb (least_of (row_of table ps list peg k)) s g)))
          where
            same : {a c : ℕ} → a ≤ c → c ≤ a → a ≡ c
            same x y = omega arith

            yes : false ≡ true → ⊥
            yes z = let y : ◌≡◌ {A = ℕ} 0 1 = cc in omega arith

        go : Ties s wanted (front table ps list peg k) ⊎ Ties s wanted (row_of table ps list peg k) → ⊥
        go (inl u) = f.none u
        go (inr u) = other u

  pub seeking_all : n ≤ k → BinTies (body_hits table ps list peg) s wanted false
  seeking_all h = record { has = λ z. absurd (no z); none = λ z u. f.none (subst (Ties s wanted) (sym (front_all table ps list peg k (omega (arith, f.at.all)))) u) }
    where
      no : false ≡ true → ⊥
      no z = let y : ◌≡◌ {A = ℕ} 0 1 = cc in omega arith
