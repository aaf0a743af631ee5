-- Laws of writing the vertices of the accepted rows. Assumes nothing.
use mathlib.Core.Path.{◌≡◌, refl, sym, ap, ◌∙◌, subst}
use mathlib.Core.List.{List, [], ◌++◌, append_assoc, append-nil}
use Prim.Native.Nat.{ℕ, zero, suc, ◌+◌, ◌-◌, ◌*◌, ◌≤◌, ◌<◌}
use native.Mathlib.Omega.{arith}
use lib.ListN.{length, get_or, take, drop, length-append, length-drop, drop_of_length-le}
use lib.Seq.{drop-drop, length-take-le}
use lib.Ieee.{Float}
use Rattle.lists.specs.Lists.{sum_of, written}
use Rattle.body_rows.specs.Body.{Row, rows_of, all_vertices}
use Rattle.body_rows.specs.Rows.{row_at, vertices_before}
use Rattle.body_rows.specs.Patches.{vertices_next, vertices_room}
use Rattle.slice_append.specs.Appended.{Appended, appended_none, appended_written, appended_long, behind, part_low}
use Rattle.mesh_layout.specs.JudgedRows.{JudgedRow, judged_in, base_after, kept_if, numbers_by}
use Rattle.mesh_layout.specs.RowLaws.{judged_here, judged_long}
use Rattle.mesh_layout.specs.Written.{RowCopyable, RowCopied, VerticesWritable, VerticesWritten}

-- ---- one row

-- an accepted row keeps what it has
kept_all : {A : Type 0} (d : ℕ) (xs : List A) → (d ≡ 0 → ⊥) → kept_if d xs ≡ xs
unfolding kept_if
kept_all zero xs n = absurd (n refl)
kept_all (suc m) xs n = refl

-- and its vertices stand before the next row
after_yes : (base vertices d : ℕ) → (d ≡ 0 → ⊥) → base_after base vertices d ≡ base + vertices
unfolding base_after
after_yes base vertices zero n = absurd (n refl)
after_yes base vertices (suc m) n = refl

-- a failed row adds nothing
pub copied_no : (xs : List Float) (base vertices d : ℕ) (out : List Float) (o : ℕ) → d ≡ 0 → RowCopied xs base vertices d out o out o
unfolding kept_if base_after
copied_no xs base vertices zero out o e = record { numbers = appended_none (3 * o) out; end = refl }
copied_no xs base vertices (suc m) out o e = absurd (omega arith)

module _ {xs : List Float} {base vertices d : ℕ} {out : List Float} {o : ℕ} (g : RowCopyable xs base vertices d out o) (n : d ≡ 0 → ⊥) where
  -- there is room for its numbers
  pub copy_room : 3 * o + length (take (3 * (base + vertices) - 3 * base) (drop (3 * base) xs)) ≤ length out
  copy_room = omega (arith, g.inside, g.room n, length-take-le (3 * (base + vertices) - 3 * base) (drop (3 * base) xs) (omega (arith, g.inside, length-drop (3 * base) xs)))

  -- an accepted row adds its numbers
  pub copied_yes : {new : List Float} → Appended (3 * o) (take (3 * (base + vertices) - 3 * base) (drop (3 * base) xs)) out new → RowCopied xs base vertices d out o new (o + vertices)
  copied_yes {new} a =
      let e : 3 * (base + vertices) - 3 * base ≡ 3 * vertices = omega arith in
      record {
        numbers = subst (λ (ys : List Float). Appended (3 * o) ys out new) (ap (λ (k : ℕ). take k (drop (3 * base) xs)) e ∙ sym (kept_all d (take (3 * vertices) (drop (3 * base) xs)) n)) a;
        end = sym (after_yes o vertices d n);
      }

-- ---- all rows

-- the rows before row k are written, o vertices: out became new
pub record Copying (table : List ℕ) (xs : List Float) (W : List ℕ) (at : ℕ) (out : List Float) (o base k : ℕ) (new : List Float) : Type 0 where
  pub low : k ≤ length (rows_of table)
  pub at_v : base ≡ vertices_before (rows_of table) k
  pub done : List Float
  pub are : done ++ numbers_by (drop k (judged_in table W at)) (drop (3 * base) xs) ≡ numbers_by (judged_in table W at) xs
  pub many : length done ≡ 3 * o
  pub put : Appended 0 done out new
  pub long : length new ≡ length out

-- the first row starts at 0
starts : (rows : List Row) → 0 ≡ vertices_before rows 0
unfolding vertices_before all_vertices sum_of
starts rows = refl

-- a row with a decision adds as many numbers as its vertices have, or none
kept_long : {A : Type 0} (d : ℕ) (xs : List A) (o v : ℕ) → length xs ≡ 3 * v → 3 * o + length (kept_if d xs) ≡ 3 * base_after o v d
unfolding kept_if base_after
kept_long zero xs o v e = omega arith
kept_long (suc m) xs o v e = omega arith

module _ {table : List ℕ} {xs : List Float} {W : List ℕ} {at : ℕ} {out : List Float} where
  -- none is written yet
  pub copying_none : Copying table xs W at out 0 0 0 out
  copying_none = record { low = omega arith; at_v = starts (rows_of table); done = []; are = refl; many = refl; put = appended_none 0 out; long = refl }

  module _ (g : VerticesWritable table xs W at out) {o base k : ℕ} {new : List Float} (c : Copying table xs W at out o base k new) (l : k < length (rows_of table)) {vertices : ℕ}
      (v : vertices ≡ (row_at table k).vertices) where
    -- row k's vertices are there
    pub inside : 3 * (base + vertices) ≤ length xs
    unfolding row_at
    inside = omega (arith, c.at_v, v, vertices_room (rows_of table) k l, g.all)

    abbrev own : List Float
    own = take (3 * vertices) (drop (3 * base) xs)

    own_long : length own ≡ 3 * vertices
    own_long = length-take-le (3 * vertices) (drop (3 * base) xs) (omega (arith, inside, length-drop (3 * base) xs))

    -- what is left begins with row k's
    left_here : numbers_by (drop k (judged_in table W at)) (drop (3 * base) xs)
        ≡ kept_if (get_or W (at + k) 0) own ++ numbers_by (drop (k + 1) (judged_in table W at)) (drop (3 * (base + vertices)) xs)
    unfolding numbers_by
    left_here =
        let e : 3 * base + 3 * vertices ≡ 3 * (base + vertices) = omega arith in
        ap (λ (js : List JudgedRow). numbers_by js (drop (3 * base) xs)) (judged_here table W at g.words k l)
        ∙ (λ j. kept_if (get_or W (at + k) 0) (take (3 * sym v j) (drop (3 * base) xs)) ++ numbers_by (drop (k + 1) (judged_in table W at)) (drop (3 * sym v j) (drop (3 * base) xs)))
        ∙ ap (λ (ys : List Float). kept_if (get_or W (at + k) 0) own ++ numbers_by (drop (k + 1) (judged_in table W at)) ys) (drop-drop (3 * vertices) (3 * base) xs ∙ ap (λ (n : ℕ). drop n xs) e)

    -- with it there is room
    room_here : length c.done + length (kept_if (get_or W (at + k) 0) own) ≤ length new
    room_here =
        omega (
          arith,
          part_low c.done (kept_if (get_or W (at + k) 0) own) (numbers_by (drop (k + 1) (judged_in table W at)) (drop (3 * (base + vertices)) xs)) (numbers_by (judged_in table W at) xs)
              (ap (λ (ys : List Float). c.done ++ ys) (sym left_here) ∙ c.are),
          g.room,
          c.long,
        )

    -- what copying row k asks
    pub copying_ready : RowCopyable xs base vertices (get_or W (at + k) 0) new o
    copying_ready = record { inside = inside; room = λ n. omega (arith, room_here, c.many, ap length (kept_all (get_or W (at + k) 0) own n), own_long) }

    -- it is copied
    pub copying_more : {new' : List Float} {r : ℕ} → RowCopied xs base vertices (get_or W (at + k) 0) new o new' r → Copying table xs W at out r (base + vertices) (k + 1) new'
    copying_more {new'} {r} w =
        let more = kept_if (get_or W (at + k) 0) own in
        record {
          low = omega arith;
          at_v = omega (arith, c.at_v, v, vertices_next table k l);
          done = c.done ++ more;
          are = append_assoc c.done more (numbers_by (drop (k + 1) (judged_in table W at)) (drop (3 * (base + vertices)) xs)) ∙ ap (λ (ys : List Float). c.done ++ ys) (sym left_here) ∙ c.are;
          many = omega (arith, length-append c.done more, c.many, w.end, kept_long (get_or W (at + k) 0) own o vertices own_long);
          put = behind c.put c.many w.numbers;
          long = appended_long w.numbers (omega (arith, room_here, c.many)) ∙ c.long;
        }

  -- all are
  pub copying_all : {o base k : ℕ} {new : List Float} → VerticesWritable table xs W at out → Copying table xs W at out o base k new → length (rows_of table) ≤ k → VerticesWritten table xs W at out new
  unfolding numbers_by
  copying_all {o} {base} {k} {new} g c l =
      let js = judged_in table W at in
      let none_left : numbers_by (drop k js) (drop (3 * base) xs) ≡ [] = ap (λ (ks : List JudgedRow). numbers_by ks (drop (3 * base) xs))
      (drop_of_length-le js {i = k} (omega (arith, judged_long table W at g.words))) in
      record { numbers = appended_written c.put ∙ ap (λ (ys : List Float). written ys out) (sym (append-nil c.done) ∙ ap (λ (ys : List Float). c.done ++ ys) (sym none_left) ∙ c.are) }
