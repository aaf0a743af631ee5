-- Laws of the words of rows: each row's words kept, and sorted. Assumes nothing.
use mathlib.Core.Path.{◌≡◌, refl, sym, ap, ◌∙◌, subst}
use mathlib.Core.List.{List}
use Prim.Native.Nat.{ℕ, zero, suc, ◌+◌, ◌-◌, ◌*◌, ◌≤◌, ◌<◌}
use native.Mathlib.Omega.{arith}
use native.Mathlib.Decide.{ℕ_discrete}
use borrow.Author.Count.{below_more}
use borrow.Author.Tests.{ltb-true, ltb-false}
use borrow.Rule.Slice.PartMut.{mid_of, mid_len}
use lib.Dec.{ltb}
use mathlib.Core.Bool.{true, false}
use Rattle.std.specs.List.Sorted.{IsPartitionPoint}
use lib.ListN.{length, get_or, take, drop, set, length-set}
use lib.Seq.{get_or-take, get_or-drop, get_or-set_same, get_or-set_other, take-set-le, drop-set-lt}
use Rattle.lists.specs.Lists.{sum_of}
use Rattle.lists.specs.Stretches.{front_at, front_less, rest_less}
use Rattle.slice_sort.specs.Sorting.{Sortable, Stands, Sorted}
use Rattle.body_rows.specs.Body.{rows_of}
use Rattle.body_rows.specs.Rows.{row_at, indices_before}
use Rattle.body_rows.specs.Patches.{indices_first, indices_next, indices_room, vertices_room}
use Rattle.mesh_layout.specs.JudgedRows.{judged_in, base_after}
use Rattle.mesh_material_order.specs.Bases.{bases_next, bases_low}
use Rattle.mesh_material_order.specs.Order.{bases_before, place_word, order_word, Orderable, RowsKept, RowsOrdered, OrderRoom, FirstAccepted}

-- ---- vertices before the next row

-- after a failed row
pub after_no : (base vertices d : ℕ) → d ≡ 0 → base ≡ base_after base vertices d
unfolding base_after
after_no base vertices zero e = refl
after_no base vertices (suc m) e = absurd (omega arith)

-- after an accepted one
pub after_yes : (base vertices d : ℕ) → (d ≡ 0 → ⊥) → base + vertices ≡ base_after base vertices d
unfolding base_after
after_yes base vertices zero n = absurd (n refl)
after_yes base vertices (suc m) n = refl

-- ---- each row's words kept

-- those of the first k rows are: W became E, and `base` vertices of the mesh and i indices of the body stand before row k
pub record Keeping (table W : List ℕ) (at starts order m base i k : ℕ) (E : List ℕ) : Type 0 where
  pub low : k ≤ m
  pub at_base : base ≡ bases_before (judged_in table W at) k
  pub at_i : i ≡ indices_before (rows_of table) k
  pub places : (q : ℕ) → q < k → get_or E (starts + q) 0 ≡ place_word (judged_in table W at) (rows_of table) q
  pub words : (q : ℕ) → q < k → get_or E (order + q) 0 ≡ order_word (get_or W (at + q) 0) q
  pub front : take starts E ≡ take starts W
  pub rest : drop (order + m) E ≡ drop (order + m) W
  pub long : length E ≡ length W

module _ {table W : List ℕ} {at starts order m : ℕ} (g : Orderable table W at starts order m) where
  abbrev n : ℕ
  n = length (rows_of table)

  room : at + n ≤ length W
  room = omega (arith, g.rows_are, g.words, g.order_is, g.room)

  -- none is kept yet
  pub keeping_none : Keeping table W at starts order m 0 0 0 W
  unfolding sum_of
  keeping_none =
      record {
        low = omega arith;
        at_base = refl;
        at_i = indices_first (rows_of table);
        places = λ q h. absurd (omega arith);
        words = λ q h. absurd (omega arith);
        front = refl;
        rest = refl;
        long = refl;
      }

  module _ {base i k : ℕ} {E : List ℕ} (c : Keeping table W at starts order m base i k E) (l : k < m) where
    in_rows : k < n
    in_rows = omega (arith, g.rows_are)

    -- the row's decision is as it was
    pub decision_is : get_or E (at + k) 0 ≡ get_or W (at + k) 0
    decision_is = front_at starts (at + k) W E 0 c.front (omega (arith, g.words))

    pub decision_low : get_or E (at + k) 0 ≤ 4294967296
    decision_low = omega (arith, decision_is, g.small k l)

    -- what stands before it is not too much
    pub base_low : base + (row_at table k).vertices ≤ 262144
    unfolding row_at
    base_low = omega (arith, c.at_base, bases_low k (take n (drop at W)) (rows_of table), vertices_room (rows_of table) k in_rows, g.few_vertices)

    pub index_low : i + (row_at table k).indices ≤ 786432
    unfolding row_at
    index_low = omega (arith, c.at_i, indices_room (rows_of table) k in_rows, g.few_indices)

    pub row_few : k < 4096
    row_few = omega (arith, g.rows.few, g.rows_are)

    -- its words are kept
    pub keeping_more : {d vertices size b x y : ℕ} {E' : List ℕ} → d ≡ get_or E (at + k) 0 → vertices ≡ (row_at table k).vertices → size ≡ (row_at table k).indices → b ≡ base_after base vertices d
        → x ≡ base * 1048576 + i → y ≡ d * 4096 + k → E' ≡ set (set E (starts + k) x) (order + k) y → Keeping table W at starts order m b (i + size) (k + 1) E'
    keeping_more {d} {vertices} {size} {b} {x} {y} {E'} e v s a px py w =
        record {
          low = omega arith;
          at_base = a ∙ (λ j. base_after (c.at_base j) (v j) ((e ∙ decision_is) j)) ∙ sym (bases_next table W at room k in_rows);
          at_i = omega (arith, c.at_i, indices_next table k in_rows);
          places = below_more (λ (q : ℕ). get_or E' (starts + q) 0 ≡ place_word (judged_in table W at) (rows_of table) q) k
              (λ q h. at_place (starts + q) ∙ get_or-set_other (set E (starts + k) x) (order + k) (starts + q) y 0 (λ z. absurd (omega (arith, g.order_is)))
              ∙ get_or-set_other E (starts + k) (starts + q) x 0 (λ z. absurd (omega arith)) ∙ c.places q h)
              (at_place (starts + k) ∙ get_or-set_other (set E (starts + k) x) (order + k) (starts + k) y 0 (λ z. absurd (omega (arith, g.order_is)))
              ∙ get_or-set_same E (starts + k) x 0 (omega (arith, g.order_is, g.room, c.long)) ∙ px ∙ (λ j. c.at_base j * 1048576 + c.at_i j));
          words = below_more (λ (q : ℕ). get_or E' (order + q) 0 ≡ order_word (get_or W (at + q) 0) q) k
              (λ q h. at_place (order + q) ∙ get_or-set_other (set E (starts + k) x) (order + k) (order + q) y 0 (λ z. absurd (omega arith))
              ∙ get_or-set_other E (starts + k) (order + q) x 0 (λ z. absurd (omega (arith, g.order_is))) ∙ c.words q h)
              (at_place (order + k) ∙ get_or-set_same (set E (starts + k) x) (order + k) y 0 (omega (arith, g.room, c.long, length-set E (starts + k) x)) ∙ py
              ∙ ap (λ (t : ℕ). t * 4096 + k) (e ∙ decision_is));
          front = ap (take starts) w ∙ take-set-le starts (set E (starts + k) x) (order + k) y (omega (arith, g.order_is)) ∙ take-set-le starts E (starts + k) x (omega arith) ∙ c.front;
          rest = ap (drop (order + m)) w ∙ drop-set-lt (order + m) (set E (starts + k) x) (order + k) y (omega arith) ∙ drop-set-lt (order + m) E (starts + k) x (omega (arith, g.order_is)) ∙ c.rest;
          long = ap length w ∙ length-set (set E (starts + k) x) (order + k) y ∙ length-set E (starts + k) x ∙ c.long;
        }
      where
        at_place : (t : ℕ) → get_or E' t 0 ≡ get_or (set (set E (starts + k) x) (order + k) y) t 0
        at_place t = ap (λ (ws : List ℕ). get_or ws t 0) w

  -- those of all rows are
  pub keeping_all : {base i k : ℕ} {E : List ℕ} → Keeping table W at starts order m base i k E → m ≤ k → RowsKept table W E at starts order m
  keeping_all c h =
      record {
        places = λ q l. c.places q (omega arith);
        words = λ q l. c.words q (omega arith);
        front = c.front;
        rest = c.rest;
        long = c.long;
      }

  -- ---- and sorted

  module _ {E : List ℕ} (r : RowsKept table W E at starts order m) where
    -- what sorting asks
    pub sort_ready : Sortable order m 12 E
    sort_ready =
        record {
          room = omega (arith, g.room, r.long);
          low_small = omega arith;
          small = λ k h. omega (arith, r.words k h, g.small k h, g.rows.few, g.rows_are);
          rising = λ i j l h. omega (arith, r.words i (omega arith), r.words j h, g.rows.few, g.rows_are);
        }

    module _ {X : List ℕ} (s : Sorted order m E X) where
      kept_at : (k : ℕ) → k < m → get_or X (at + k) 0 ≡ get_or W (at + k) 0
      kept_at k h = front_at order (at + k) E X 0 s.front (omega (arith, g.words, g.order_is)) ∙ front_at starts (at + k) W E 0 r.front (omega (arith, g.words))

      -- the rows are ordered
      pub ordered_rows : RowsOrdered table W X at starts order m
      ordered_rows =
          record {
            places = λ k h. front_at order (starts + k) E X 0 s.front (omega (arith, g.order_is)) ∙ r.places k h;
            ordered = record {
              rising = s.rising;
              stands = λ k h. subst (Stands X order m) (r.words k h ∙ ap (λ (d : ℕ). order_word d k) (sym (kept_at k h))) (s.kept k h);
              rows = λ i h.
                  let p = s.same i h in
                  record {
                    row = p.place;
                    low = p.low;
                    is = sym p.is ∙ r.words p.place p.low ∙ ap (λ (d : ℕ). order_word d p.place) (sym (kept_at p.place p.low));
                  };
            };
            front = front_less starts order E X s.front (omega (arith, g.order_is)) ∙ r.front;
            rest = s.rest ∙ rest_less (order + m) (order + m + m) W E r.rest (omega arith);
            long = s.long ∙ r.long;
          }

-- ---- the first accepted row

-- the words of all rows
module _ {W : List ℕ} {order m : ℕ} (g : OrderRoom W order m) where
  abbrev words : List ℕ
  words = mid_of order (order + m - order) W

  words_long : length words ≡ m
  words_long = let e : order + m - order ≡ m = omega arith in mid_len order (order + m) W g.room ∙ e

  word_at : (i : ℕ) → i < m → get_or words i 0 ≡ get_or W (order + i) 0
  word_at i h = get_or-take (order + m - order) (drop order W) i 0 (omega arith) ∙ get_or-drop order W i 0

  -- they rise
  pub words_rise : (i j : ℕ) → i ≤ j → j < length words → get_or words i 0 ≤ get_or words j 0
  words_rise i j h l = go (ℕ_discrete i j)
    where
      go : Dec (i ≡ j) → get_or words i 0 ≤ get_or words j 0
      go (yes e) = subst (λ (k : ℕ). get_or words i 0 ≤ get_or words k 0) e (omega arith)
      go (no d) =
          let r = g.rising i j (omega arith) (omega (arith, words_long)) in
          omega (arith, r, word_at i (omega (arith, words_long)), word_at j (omega (arith, words_long)))

  -- those of failed rows stand before place p
  pub first_is : {p : ℕ} → p ≤ length words → IsPartitionPoint (λ y. ltb y 4096 ≡ true) (λ y. ltb y 4096 ≡ false) words p → FirstAccepted W order m p
  first_is {p} l e =
      record {
        low = omega (arith, words_long);
        failed = λ i h.
            let t : get_or words i 0 < 4096 = ltb-true _ _ (e.0 i 0 (omega arith) h) in
            omega (arith, word_at i (omega (arith, words_long)));
        accepted = λ i h b.
            let t : 4096 ≤ get_or words i 0 = ltb-false _ _ (e.1 i 0 h (omega (arith, words_long))) in
            omega (arith, word_at i b);
      }
