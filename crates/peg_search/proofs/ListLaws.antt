-- The laws of the list: the lowest bin first, then the next one above the last, until the highest stands. Assumes nothing.
use mathlib.Core.Path.{◌≡◌, refl, sym, ap, ◌∙◌, subst}
use mathlib.Core.Logic.{◌⊎◌, inl, inr}
use mathlib.Core.Bool.{Bool, true, false, not, cond}
use mathlib.Core.List.{List, [], ◌∷◌, ◌++◌, append_assoc}
use Prim.Native.Nat.{ℕ, suc, ◌+◌, ◌-◌, ◌≤◌, ◌<◌}
use native.Mathlib.Omega.{arith}
use borrow.Author.Tests.{leb-true, leb-false, not-true, not-false}
use lib.Dec.{leb}
use lib.IntN.{ℤ}
use lib.Ieee.{Float}
use lib.ListN.{length, set, length-append}
use lib.Seq.{sets}
use Rattle.lists.specs.Lists.{filter, written}
use Rattle.lists.specs.Members.{Has}
use Rattle.lists.specs.Rising.{Rising, rising_all, rising_from, rising_none}
use Rattle.slice_append.specs.Appended.{Appended, appended_none, appended_sets, appended_written, behind}
use Rattle.body_refusals.specs.TableChecks.{most_bin}
use Rattle.peg_definition.specs.Peg.{Hit, nearest_bins}
use Rattle.peg_definition.specs.Nearest.{nearest_bins_lem}
use Rattle.peg_distance.specs.Words.{beyond}
use Rattle.peg_search.specs.Hits.{Ties, least_of, listed_ties, ties_listed}
use Rattle.peg_search.specs.Search.{BestOf, BinPut, BinTies, Listed, NextBin, OneListed, Placed, body_hits, no_bin}
use Rattle.plan_definition.specs.declared.PlaceWords.{PlaceWords}
use Rattle.peg_search.proofs.RowLaws.{OfRow, ties_row}
use Rattle.peg_search.specs.declared.best.Best.{Best}

-- the smallest sum of squares is the best's
pub least_is : (hits : List Hit) (best : Best) → BestOf hits best → best.square ≡ least_of hits
least_is hits best o = o.least

-- a bin put behind those that a list has
put_behind : (done E W new : List ℕ) (i n : ℕ) → i ≡ length done → length W ≡ length E → BinPut W i n new → i + 1 ≤ length E → Appended 0 done E W → Appended 0 (done ++ n ∷ []) E new
put_behind done E W new i n e l p h a = behind a (sym e) (appended_sets {o = i} {xs = n ∷ []} {out = W} {new = new} (omega arith) (p.inside (omega arith)))

-- i bins stand in the list, those below b
pub record Listing (hits : List Hit) (best : Best) (E W : List ℕ) (b i : ℕ) : Type 0 where
  pub done : List ℕ
  pub split : done ++ filter (leb b) (nearest_bins hits) ≡ nearest_bins hits
  pub count : i ≡ length done
  pub few : i ≤ b
  pub last : b ≤ best.high
  pub long : length W ≡ length E
  pub put : i ≤ length E → Appended 0 done E W

-- one bin listed, or not
pub one_kept : (hits : List Hit) (s bin i : ℕ) (E : List ℕ) (t : Bool) → BinTies hits s bin t → not t ≡ true → OneListed hits s bin E E i i
one_kept hits s bin i E t v q = record { tells = t; ties = v; put = λ z. absurd (no (sym (not-true t q) ∙ z)); kept = λ z. (refl, refl) }
  where
    no : false ≡ true → ⊥
    no z = let y : ◌≡◌ {A = ℕ} 0 1 = cc in omega arith

pub one_put : (hits : List Hit) (s bin i : ℕ) (E W : List ℕ) (t : Bool) → BinTies hits s bin t → not t ≡ false → BinPut E i bin W → OneListed hits s bin E W i (i + 1)
one_put hits s bin i E W t v q p = record { tells = t; ties = v; put = λ z. (p, refl); kept = λ z. absurd (no (sym (not-false t q) ∙ z)) }
  where
    no : true ≡ false → ⊥
    no z = let y : ◌≡◌ {A = ℕ} 0 1 = cc in omega arith

-- where no number stands between two, a list goes on alike from both
pub skipped : (a b : ℕ) (xs : List ℕ) → a ≤ b → ((y : ℕ) → a ≤ y → y < b → Has y xs → ⊥) → filter (leb a) xs ≡ filter (leb b) xs
unfolding filter
skipped a b [] l f = refl
skipped a b (x ∷ xs) l f = go (leb a x) refl (leb b x) refl (skipped a b xs l (λ y p q h. f y p q (inr h)))
  where
    go : (s : Bool) → leb a x ≡ s → (t : Bool) → leb b x ≡ t → filter (leb a) xs ≡ filter (leb b) xs
        → cond s (x ∷ filter (leb a) xs) (filter (leb a) xs) ≡ cond t (x ∷ filter (leb b) xs) (filter (leb b) xs)
    go true p true q e = ap (λ (ys : List ℕ). x ∷ ys) e
    go false p false q e = e
    go true p false q e = absurd (f x (leb-true a x p) (leb-false b x q) (inl refl))
    go false p true q e = absurd (let y = leb-false a x p in let z = leb-true b x q in omega arith)

module _ (hits : List Hit) (best : Best) (o : BestOf hits best) (h : best.square < beyond) where
  small : least_of hits < beyond
  small = omega (arith, o.least)

  -- a listed bin shares the smallest sum of squares, and the other way round
  has_ties : (b : ℕ) → Has b (nearest_bins hits) → Ties best.square b hits
  has_ties b m = subst (λ (n : ℕ). Ties n b hits) (sym o.least) (listed_ties b hits m small)

  ties_has : (b : ℕ) → Ties best.square b hits → Has b (nearest_bins hits)
  ties_has b t = ties_listed b hits (subst (λ (n : ℕ). Ties n b hits) o.least t)

  rises : Rising 0 (nearest_bins hits)
  rises = (nearest_bins_lem hits).rising

  -- from a listed bin on, the list begins with it
  from_bin : (b : ℕ) → Has b (nearest_bins hits) → filter (leb b) (nearest_bins hits) ≡ b ∷ filter (leb (suc b)) (nearest_bins hits)
  from_bin b m = rising_from b b 0 (nearest_bins hits) rises m (omega arith) (λ y k n. k)

  -- the lowest is the first
  pub listing_none : (E : List ℕ) → Listing hits best E E best.low 0
  listing_none E = record {
    done = [];
    split =
        sym (skipped 0 best.low (nearest_bins hits) (omega arith) (λ y p q m. absurd (let k = (o.between y (has_ties y m)).0 in omega arith)))
        ∙ rising_all 0 0 (nearest_bins hits) (omega arith) rises;
    count = refl;
    few = omega arith;
    last = o.order;
    long = refl;
    put = λ k. appended_none 0 E;
  }

  module _ (E W : List ℕ) (b i : ℕ) (v : Listing hits best E W b i) where
    pub listing_fits : b < best.high → b + 1 < 4294967296
    listing_fits l = omega (arith, o.most)

    pub count_few : i < 65536
    count_few = omega (arith, v.few, v.last, o.most)

    pub count_fits : i + 1 < 18446744073709551616
    count_fits = omega (arith, count_few)

    -- what stands once b was looked at, and no listed bin is from there up to r
    module _ (l : b < best.high) {r : ℕ} (from : suc b ≤ r) (high : r ≤ best.high) (free : (y : ℕ) → suc b ≤ y → y < r → Has y (nearest_bins hits) → ⊥) where
      rest : filter (leb (suc b)) (nearest_bins hits) ≡ filter (leb r) (nearest_bins hits)
      rest = skipped (suc b) r (nearest_bins hits) from free

      taken : {j : ℕ} {new : List ℕ} → length new ≡ length W → Has b (nearest_bins hits) → BinPut W i b new → j ≡ i + 1 → Listing hits best E new r j
      taken {j} {new} k m p e = record {
        done = v.done ++ b ∷ [];
        split =
            append_assoc v.done (b ∷ []) (filter (leb r) (nearest_bins hits))
            ∙ ap (λ (xs : List ℕ). v.done ++ b ∷ xs) (sym rest)
            ∙ ap (λ (xs : List ℕ). v.done ++ xs) (sym (from_bin b m))
            ∙ v.split;
        count = omega (arith, v.count, length-append v.done (b ∷ []));
        few = omega (arith, v.few);
        last = high;
        long = k ∙ v.long;
        put = λ q. put_behind v.done E W new i b v.count v.long p (omega arith) (v.put (omega arith));
      }

      passed : {j : ℕ} {new : List ℕ} → length new ≡ length W → (Has b (nearest_bins hits) → ⊥) → new ≡ W → j ≡ i → Listing hits best E new r j
      passed {j} {new} k n p e = record {
        done = v.done;
        split = ap (λ (xs : List ℕ). v.done ++ xs) (sym (skipped b (suc b) (nearest_bins hits) (omega arith) here ∙ rest)) ∙ v.split;
        count = e ∙ v.count;
        few = omega (arith, v.few);
        last = high;
        long = k ∙ v.long;
        put = λ q. subst (Appended 0 v.done E) (sym p) (v.put (omega arith));
      }
        where
          here : (y : ℕ) → b ≤ y → y < suc b → Has y (nearest_bins hits) → ⊥
          here y p q h = n (subst (λ (x : ℕ). Has x (nearest_bins hits)) (let e : y ≡ b = omega arith in e) h)

      went : {j : ℕ} {new : List ℕ} → length new ≡ length W → OneListed hits best.square b W new i j → Listing hits best E new r j
      went {j} {new} k w = go w.tells refl
        where
          go : (t : Bool) → w.tells ≡ t → Listing hits best E new r j
          go true q = let p = w.put q in taken k (ties_has b (w.ties.has q)) p.0 p.1
          go false q = let p = w.kept q in passed k (λ m. w.ties.none q (has_ties b m)) p.0 p.1

    -- the highest was put there: that is all
    pub listing_all : best.high ≤ b → {new : List ℕ} → length new ≡ length W → BinPut W i b new → Listed (nearest_bins hits) E new (i + 1)
    listing_all l {new} k p =
        let top : best.high ≡ b = omega (arith, v.last) in
        let m : Has b (nearest_bins hits) = ties_has b (subst (λ (x : ℕ). Ties best.square x hits) top (o.highest h)) in
        let none : filter (leb (suc b)) (nearest_bins hits) ≡ [] = rising_none (suc b) (nearest_bins hits) (λ y q n. let z = (o.between y (has_ties y n)).1 in omega arith) in
        let all : v.done ++ b ∷ [] ≡ nearest_bins hits = ap (λ (xs : List ℕ). v.done ++ b ∷ xs) (sym none) ∙ ap (λ (xs : List ℕ). v.done ++ xs) (sym (from_bin b m)) ∙ v.split in
        record {
          count = omega (arith, v.count, length-append v.done (b ∷ []), ap (length {A = ℕ}) all);
          few = omega (arith, v.few, v.last, o.most);
          long = k ∙ v.long;
          front = λ q. appended_written (subst (λ (xs : List ℕ). Appended 0 xs E new) all (put_behind v.done E W new i b v.count v.long p q (v.put (omega arith))));
        }

-- ---- the bins of a placed body
module _ (table : List ℕ) (ps : List Float) (list : List ℤ) (peg : PlaceWords) (p : Placed table ps list peg) (best : Best) (o : BestOf (body_hits table ps list peg) best) (h : best.square < beyond)
    (E W : List ℕ) (b i : ℕ) (v : Listing (body_hits table ps list peg) best E W b i) (l : b < best.high) {r : ℕ} (n : NextBin table (b + 1) r) where
  -- a listed bin is a row's
  next_low : (y : ℕ) → b + 1 ≤ y → Ties best.square y (body_hits table ps list peg) → r ≤ y
  next_low y m t =
      let w : OfRow table y = ties_row table ps list peg p best.square y t in
      subst (λ (x : ℕ). r ≤ x) w.is (n.lowest w.row w.there (subst (λ (x : ℕ). b + 1 ≤ x) (sym w.is) m))

  high : r ≤ best.high
  high = next_low best.high (omega arith) (o.highest h)

  from : b + 1 ≤ r
  from = n.from (omega (arith, high, o.most))

  pub listing_more : {j : ℕ} {new : List ℕ} → length new ≡ length W → OneListed (body_hits table ps list peg) best.square b W new i j → Listing (body_hits table ps list peg) best E new r j
  listing_more {j} {new} k w =
      went (body_hits table ps list peg) best o h E W b i v l (omega (arith, from)) high
      (λ y m q t. absurd (let z = next_low y (omega arith) (has_ties (body_hits table ps list peg) best o h y t) in omega arith)) k w

  -- how far it is to the highest
  pub listing_nearer : best.high - r < best.high - b
  listing_nearer = omega (arith, from)
