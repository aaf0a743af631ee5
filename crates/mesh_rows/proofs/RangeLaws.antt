-- Laws of writing the ranges of the accepted rows. Assumes nothing.
use mathlib.Core.Path.{◌≡◌, refl, sym, ap, ◌∙◌, subst}
use mathlib.Core.List.{List, [], ◌∷◌, ◌++◌, append_assoc, append-nil}
use Prim.Native.Nat.{ℕ, zero, suc, ◌+◌, ◌*◌, ◌≤◌, ◌<◌}
use native.Mathlib.Omega.{arith}
use lib.ListN.{length, get_or, take, drop, length-append, length-drop, drop_of_length-le}
use lib.Seq.{length-take-le, drop-cons}
use Rattle.lists.specs.Lists.{written}
use Rattle.lists.specs.Stretches.{stretch_at}
use Rattle.body_rows.specs.Body.{Row, rows_of}
use Rattle.body_rows.specs.Rows.{row_at, rows_here}
use Rattle.slice_append.specs.Appended.{Appended, appended_none, appended_written, appended_long, behind}
use Rattle.mesh_acceptance.specs.Judged.{accepted_rows, decisions_in}
use Rattle.mesh_acceptance.specs.RestLaws.{decisions_here, rows_no, rows_yes, rows_none}
use Rattle.mesh_layout.specs.JudgedRows.{judged_in, base_after, kept_if, ranges_with}
use Rattle.mesh_layout.specs.RowLaws.{judged_here, judged_long}
use Rattle.mesh_layout.specs.Ranges.{RowRangeable, RowRanged, RangesWritable, RangesWritten}
use Rattle.mesh_layout.specs.Mesh.{range_width}

-- ---- one row

-- a failed row has none
pub range_no : {table W : List ℕ} {at starts k : ℕ} {out : List ℕ} {r : ℕ} → RowRangeable table W at starts k out r → get_or W (at + k) 0 ≡ 0 → RowRanged table W at starts k out out r r
unfolding kept_if base_after
range_no {table} {W} {at} {starts} {k} {out} {r} g e =
    let x = (row_at table k).face ∷ (row_at table k).bin ∷ get_or W (starts + k) 0 ∷ (get_or W (starts + k) 0 + (row_at table k).indices) ∷ [] in
    record {
      numbers = subst (λ (d : ℕ). Appended (range_width * r) (kept_if d x) out out) (sym e) (appended_none (range_width * r) out);
      end = ap (λ (d : ℕ). base_after r 1 d) (sym e);
    }

-- what an accepted row adds
kept_is : {A : Type 0} (d : ℕ) (xs : List A) → (d ≡ 0 → ⊥) → xs ≡ kept_if d xs
unfolding kept_if
kept_is zero xs n = absurd (n refl)
kept_is (suc m) xs n = refl

-- and how many there are with it
after_is : (d r : ℕ) → (d ≡ 0 → ⊥) → r + 1 ≡ base_after r 1 d
unfolding base_after
after_is zero r n = absurd (n refl)
after_is (suc m) r n = refl

-- an accepted row has one
pub range_yes : {table W : List ℕ} {at starts k : ℕ} {out : List ℕ} {r : ℕ} {new : List ℕ} {face bin first end : ℕ} → RowRangeable table W at starts k out r → (get_or W (at + k) 0 ≡ 0 → ⊥)
    → face ≡ (row_at table k).face → bin ≡ (row_at table k).bin → first ≡ get_or W (starts + k) 0 → end ≡ get_or W (starts + k) 0 + (row_at table k).indices
    → Appended (range_width * r) (face ∷ bin ∷ first ∷ end ∷ []) out new → RowRanged table W at starts k out new r (r + 1)
range_yes {table} {W} {at} {starts} {k} {out} {r} {new} g n a s b e t =
    record {
      numbers = subst (λ (xs : List ℕ). Appended (range_width * r) xs out new) ((λ j. a j ∷ s j ∷ b j ∷ e j ∷ [])
          ∙ kept_is (get_or W (at + k) 0) ((row_at table k).face ∷ (row_at table k).bin ∷ get_or W (starts + k) 0 ∷ (get_or W (starts + k) 0 + (row_at table k).indices) ∷ []) n) t;
      end = after_is (get_or W (at + k) 0) r n;
    }

-- ---- all rows

-- where the rows' indices begin
abbrev firsts_in : List ℕ → List ℕ → ℕ → List ℕ
firsts_in table W starts = take (length (rows_of table)) (drop starts W)

-- the ranges of the rows before row k are written, r of them: out became new
pub record Ranging (table W : List ℕ) (at starts : ℕ) (out : List ℕ) (r k : ℕ) (new : List ℕ) : Type 0 where
  pub low : k ≤ length (rows_of table)
  pub done : List ℕ
  pub are : done ++ ranges_with (drop k (firsts_in table W starts)) (drop k (judged_in table W at)) ≡ ranges_with (firsts_in table W starts) (judged_in table W at)
  pub many : length done ≡ range_width * r
  pub count : r + length (accepted_rows (drop k (decisions_in table W at)) (drop k (rows_of table))) ≡ length (accepted_rows (decisions_in table W at) (rows_of table))
  pub few : r ≤ k
  pub put : Appended 0 done out new
  pub long : length new ≡ length out

-- a row adds four numbers or none
kept_four : (d r a s b c : ℕ) → range_width * r + length (kept_if d (a ∷ s ∷ b ∷ c ∷ [])) ≡ range_width * base_after r 1 d
unfolding kept_if base_after
kept_four zero r a s b c = omega arith
kept_four (suc m) r a s b c = omega arith

after_few : (d r k : ℕ) → r ≤ k → base_after r 1 d ≤ k + 1
unfolding base_after
after_few zero r k h = omega arith
after_few (suc m) r k h = omega arith

-- and counts as one or none
after_count : (d r n : ℕ) (rs ss : List Row) (x : Row) → (d ≡ 0 → rs ≡ ss) → ((d ≡ 0 → ⊥) → rs ≡ x ∷ ss) → r + length rs ≡ n → base_after r 1 d + length ss ≡ n
unfolding base_after
after_count zero r n rs ss x p q e = ap (λ (l : List Row). r + length l) (sym (p refl)) ∙ e
after_count (suc m) r n rs ss x p q e = let f = ap length (q (λ z. absurd (omega arith))) in omega arith

module _ {table W : List ℕ} {at starts : ℕ} {out : List ℕ} where
  -- none is written yet
  pub ranging_none : Ranging table W at starts out 0 0 out
  ranging_none = record { low = omega arith; done = []; are = refl; many = refl; count = omega arith; few = omega arith; put = appended_none 0 out; long = refl }

  module _ (g : RangesWritable table W at starts out) {r k : ℕ} {new : List ℕ} (c : Ranging table W at starts out r k new) (l : k < length (rows_of table)) where
    -- what row k's range asks
    pub ranging_ready : RowRangeable table W at starts k new r
    ranging_ready =
        record {
          row = l;
          word = omega (arith, g.words);
          first = omega (arith, g.firsts);
          small = g.small k l;
          room = omega (arith, g.room, c.few, c.long);
        }

    firsts_long : length (firsts_in table W starts) ≡ length (rows_of table)
    firsts_long = length-take-le (length (rows_of table)) (drop starts W) (omega (arith, length-drop starts W, g.firsts))

    abbrev own : List ℕ
    own = kept_if (get_or W (at + k) 0) ((row_at table k).face ∷ (row_at table k).bin ∷ get_or W (starts + k) 0 ∷ (get_or W (starts + k) 0 + (row_at table k).indices) ∷ [])

    -- what is left begins with row k's
    left_here : ranges_with (drop k (firsts_in table W starts)) (drop k (judged_in table W at)) ≡ own ++ ranges_with (drop (k + 1) (firsts_in table W starts)) (drop (k + 1) (judged_in table W at))
    unfolding ranges_with
    left_here =
        let f : suc k ≡ k + 1 = omega arith in
        λ j. ranges_with ((drop-cons (firsts_in table W starts) k 0 (omega (arith, firsts_long)) ∙ (λ q. stretch_at starts (length (rows_of table)) W k 0 l q ∷ drop (f q) (firsts_in table W starts))) j)
        (judged_here table W at g.words k l j)

    -- row k's is written
    pub ranging_more : {new' : List ℕ} {s : ℕ} → RowRanged table W at starts k new new' r s → Ranging table W at starts out s (k + 1) new'
    ranging_more {new'} {s} w =
        let d = get_or W (at + k) 0 in
        let four = kept_four d r (row_at table k).face (row_at table k).bin (get_or W (starts + k) 0) (get_or W (starts + k) 0 + (row_at table k).indices) in
        let few = after_few d r k c.few in
        let h = decisions_here table W at k l g.words in
        record {
          low = omega arith;
          done = c.done ++ own;
          are = append_assoc c.done own (ranges_with (drop (k + 1) (firsts_in table W starts)) (drop (k + 1) (judged_in table W at))) ∙ ap (λ (ys : List ℕ). c.done ++ ys) (sym left_here) ∙ c.are;
          many = omega (arith, length-append c.done own, c.many, w.end, four);
          count =
              ap (λ (x : ℕ). x + length (accepted_rows (drop (k + 1) (decisions_in table W at)) (drop (k + 1) (rows_of table)))) w.end
              ∙ after_count d r (length (accepted_rows (decisions_in table W at) (rows_of table))) (accepted_rows (drop k (decisions_in table W at)) (drop k (rows_of table)))
              (accepted_rows (drop (k + 1) (decisions_in table W at)) (drop (k + 1) (rows_of table))) (row_at table k)
              (λ z. rows_no h (rows_here table k l) z) (λ n. rows_yes d h (rows_here table k l) n) c.count;
          few = omega (arith, w.end, few);
          put = behind c.put c.many w.numbers;
          long = appended_long w.numbers (omega (arith, four, few, g.room, c.long)) ∙ c.long;
        }

  -- all are
  pub ranging_all : {r k : ℕ} {new : List ℕ} → RangesWritable table W at starts out → Ranging table W at starts out r k new → length (rows_of table) ≤ k → RangesWritten table W at starts out new r
  unfolding ranges_with accepted_rows
  ranging_all {r} {k} {new} g c l =
      let js = judged_in table W at in
      let none_left : ranges_with (drop k (firsts_in table W starts)) (drop k js) ≡ [] =
      ap (ranges_with (drop k (firsts_in table W starts))) (drop_of_length-le js {i = k} (omega (arith, judged_long table W at g.words))) ∙ nothing (drop k (firsts_in table W starts)) in
      let no_rows : accepted_rows (drop k (decisions_in table W at)) (drop k (rows_of table)) ≡ [] =
      ap (accepted_rows (drop k (decisions_in table W at))) (drop_of_length-le (rows_of table) {i = k} l) ∙ rows_none (drop k (decisions_in table W at)) in
      record {
        numbers = appended_written c.put ∙ ap (λ (ys : List ℕ). written ys out) (sym (append-nil c.done) ∙ ap (λ (ys : List ℕ). c.done ++ ys) (sym none_left) ∙ c.are);
        count = omega (arith, c.count, ap length no_rows);
      }
    where
      nothing : (fs : List ℕ) → ranges_with fs [] ≡ []
      nothing [] = refl
      nothing (f ∷ fs) = refl
