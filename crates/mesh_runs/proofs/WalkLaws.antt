-- Laws of writing the run of one material, place by place of the ordered words. Assumes nothing.
use mathlib.Core.Path.{◌≡◌, sym, ap, ◌∙◌, subst}
use mathlib.Core.List.{List}
use Prim.Native.Nat.{ℕ, ◌+◌, ◌-◌, ◌*◌, ◌/◌, ◌%◌, ◌≤◌, ◌<◌}
use native.Mathlib.Omega.{arith}
use native.Mathlib.Decide.{ℕ_discrete}
use borrow.Author.Count.{below_more}
use lib.ListN.{length, get_or}
use Rattle.lists.specs.Stretches.{front_at, rest_at}
use Rattle.body_rows.specs.Body.{rows_of}
use Rattle.body_rows.specs.Rows.{row_at, indices_before}
use Rattle.body_rows.specs.Patches.{indices_room}
use Rattle.mesh_layout.specs.JudgedRows.{judged_in}
use Rattle.mesh_material_order.specs.Order.{bases_before, order_word, RowAt}
use Rattle.mesh_runs.specs.Runs.{RowRunnable, RowRun, RunWritable, RunWritten}
use Rattle.mesh_runs.proofs.RunLaws.{Reached, reached_none, reached_ready, reached_row, reached_skip, reached_run, reached_end, not_above}

-- the words before place p are written, which are those of the rows before row k: W became E, and out became new, where the indices end at o
pub record Walking (table is W : List ℕ) (at starts order m first wanted : ℕ) (out : List ℕ) (start p o : ℕ) (E new : List ℕ) : Type 0 where
  pub k : ℕ
  pub low : first ≤ p
  pub high : p ≤ m
  pub passed : (i : ℕ) → i < p → get_or W (order + i) 0 < wanted * 4096 + k
  pub ahead : (i : ℕ) → p ≤ i → i < m → wanted * 4096 + k ≤ get_or W (order + i) 0
  pub reached : Reached table is W at starts wanted out start k o E new

module _ {table is W : List ℕ} {at starts order m first wanted : ℕ} {out : List ℕ} {start : ℕ} (g : RunWritable table is W at starts order m first wanted out start) where
  abbrev n : ℕ
  n = length (rows_of table)

  -- none is written yet
  pub walking_none : Walking table is W at starts order m first wanted out start first start W out
  walking_none =
      record {
        k = 0;
        low = omega arith;
        high = g.low;
        passed = λ i h. let l = g.before i h in omega arith;
        ahead = λ i a b. let l = g.behind i a b in omega arith;
        reached = reached_none g;
      }

  -- places from p on hold no lower word than place p
  rises : (p i : ℕ) → p ≤ i → i < m → get_or W (order + p) 0 ≤ get_or W (order + i) 0
  rises p i a b = go (ℕ_discrete i p)
    where
      go : Dec (i ≡ p) → get_or W (order + p) 0 ≤ get_or W (order + i) 0
      go (yes e) = subst (λ (x : ℕ). get_or W (order + p) 0 ≤ get_or W (order + x) 0) (sym e) (omega arith)
      go (no d) = let r = g.ordered.rising p i (omega arith) b in omega arith

  module _ {p o : ℕ} {E new : List ℕ} (c : Walking table is W at starts order m first wanted out start p o E new) where
    -- a row from row k on that is wanted has its word from place p on, where none is lower than `top`
    no_row_lem : (top q : ℕ) → ((i : ℕ) → p ≤ i → i < m → top ≤ get_or W (order + i) 0) → c.k ≤ q → q < m → wanted * 4096 + q < top → get_or W (at + q) 0 ≡ wanted → ⊥
    no_row_lem top q f a b l e =
        let s = g.ordered.stands q b in
        let x : get_or W (order + s.place) 0 ≡ wanted * 4096 + q = s.is ∙ ap (λ (d : ℕ). order_word d q) e in
        let y : p ≤ s.place = not_above (λ h. absurd (low s.place h x)) in
        let z = f s.place y s.low in
        absurd (omega arith)
      where
        low : (i : ℕ) → i < p → get_or W (order + i) 0 ≡ wanted * 4096 + q → ⊥
        low i h x = let u = c.passed i h in absurd (omega arith)

    -- no word from place p on is of the run: it is written
    pub walking_done : ((i : ℕ) → p ≤ i → i < m → wanted * 4096 + 4096 ≤ get_or W (order + i) 0) → RunWritten table is W E at starts order m wanted out new start (record { place = p; end = o })
    walking_done f =
        let r = c.reached in
        let z : c.k + (n - c.k) ≡ n = let l = r.low in omega arith in
        let few = g.body.rows.few in
        let all : Reached table is W at starts wanted out start n o E new =
        subst (λ (x : ℕ). Reached table is W at starts wanted out start x o E new) z
        (reached_skip g (n - c.k) c.k (omega arith) (λ q a b. no_row_lem (wanted * 4096 + 4096) q f a (omega (arith, g.rows_are)) (omega arith)) r) in
        record {
          run = reached_run g all;
          end = reached_end g all;
          low = c.high;
          passed = λ i h. let u = c.passed i h in let v = r.low in omega arith;
          left = f;
          firsts = λ q h e. all.firsts q h e;
          others = all.others;
          front = all.front;
          rest = all.rest;
          long = all.long;
        }

    -- no word is left: it is written
    pub walking_all : p ≡ m → RunWritten table is W E at starts order m wanted out new start (record { place = m; end = o })
    walking_all e =
        subst (λ (x : ℕ). RunWritten table is W E at starts order m wanted out new start (record { place = x; end = o })) e
        (walking_done (λ i a b. absurd (omega arith)))

    module _ (l : p < m) where
      abbrev here : RowAt W at order m p
      here = g.ordered.rows p l

      -- the word at place p is as it was, and tells its row
      word_kept : get_or E (order + p) 0 ≡ get_or W (order + p) 0
      word_kept = rest_at (starts + n) (order + p) W E 0 c.reached.rest (omega (arith, g.order_is, g.rows_are))

      pub row_is : get_or E (order + p) 0 % 4096 ≡ here.row
      row_is = let a = here.low in omega (arith, word_kept, here.is, g.body.rows.few, g.rows_are)

      pub row_low : get_or E (order + p) 0 % 4096 < n
      row_low = omega (arith, row_is, here.low, g.rows_are)

      module _ {q : ℕ} (e : q ≡ get_or E (order + p) 0 % 4096) where
        at_row : q ≡ here.row
        at_row = e ∙ row_is

        in_rows : q < n
        in_rows = omega (arith, at_row, here.low, g.rows_are)

        word_is : get_or W (order + p) 0 ≡ order_word (get_or W (at + q) 0) q
        word_is = here.is ∙ (λ j. order_word (get_or W (at + sym at_row j) 0) (sym at_row j))

        decision_kept : get_or E (at + q) 0 ≡ get_or W (at + q) 0
        decision_kept = front_at starts (at + q) W E 0 c.reached.front (omega (arith, in_rows, g.body.words))

        -- its decision is another: the run is written
        pub walking_stop : (get_or E (at + q) 0 ≡ wanted → ⊥) → RunWritten table is W E at starts order m wanted out new start (record { place = p; end = o })
        walking_stop d = walking_done (λ i a b. let r = rises p i a b in omega (arith, above))
          where
            other : get_or W (at + q) 0 ≡ wanted → ⊥
            other z = d (decision_kept ∙ z)

            few : q < 4096
            few = omega (arith, in_rows, g.body.rows.few)

            above : wanted * 4096 + 4096 ≤ get_or W (order + p) 0
            above = let b = g.behind p c.low l in let w = word_is in let f = few in go (ℕ_discrete (get_or W (at + q) 0) wanted)
              where
                go : Dec (get_or W (at + q) 0 ≡ wanted) → wanted * 4096 + 4096 ≤ get_or W (order + p) 0
                go (yes z) = absurd (other z)
                go (no z) = let b = g.behind p c.low l in let w = word_is in let f = few in omega arith

        module _ (d : get_or E (at + q) 0 ≡ wanted) where
          wanted_here : get_or W (at + q) 0 ≡ wanted
          wanted_here = sym decision_kept ∙ d

          -- the row is not behind, and the rows up to it are passed over
          not_behind : c.k ≤ q
          not_behind = let a = c.ahead p (omega arith) l in let w = word_is in let z = wanted_here in omega arith

          pub skipped : Reached table is W at starts wanted out start q o E new
          skipped =
              let z : c.k + (q - c.k) ≡ q = let h = not_behind in omega arith in
              let w = word_is in
              let v = wanted_here in
              subst (λ (x : ℕ). Reached table is W at starts wanted out start x o E new) z
              (reached_skip g (q - c.k) c.k (omega (arith, in_rows, not_behind))
              (λ r a b. no_row_lem (get_or W (order + p) 0) r (λ i x y. rises p i x y) a (omega (arith, in_rows, g.rows_are)) (omega arith)) c.reached)

          -- where it is found is as it was
          found_is : get_or E (starts + q) 0 ≡ bases_before (judged_in table W at) q * 1048576 + indices_before (rows_of table) q
          found_is = skipped.later q (omega arith) ∙ g.places q (omega (arith, in_rows, g.rows_are)) wanted_here

          first_low : indices_before (rows_of table) q + (row_at table q).indices ≤ 786432
          unfolding row_at
          first_low = omega (arith, indices_room (rows_of table) q in_rows, g.body.few_indices)

          module _ {from to base size : ℕ} (f : from ≡ get_or E (starts + q) 0 % 1048576) (s : size ≡ (row_at table q).indices) (t : to ≡ from + size) (b : base ≡ get_or E (starts + q) 0 / 1048576) where
            from_is : from ≡ indices_before (rows_of table) q
            from_is = omega (arith, found_is, first_low)

            base_is : base ≡ bases_before (judged_in table W at) q
            base_is = omega (arith, found_is, first_low)

            pub walking_ready : RowRunnable is from to base E (starts + q) new o
            walking_ready = reached_ready g q in_rows skipped wanted_here from_is (t ∙ ap (λ (x : ℕ). from + x) s) base_is

            -- the word at place p is written
            pub walking_more : {E' new' : List ℕ} {r : ℕ} → RowRun is from to base E E' (starts + q) new new' o r → Walking table is W at starts order m first wanted out start (p + 1) r E' new'
            walking_more w =
                let x : get_or W (order + p) 0 ≡ wanted * 4096 + q = word_is ∙ ap (λ (y : ℕ). order_word y q) wanted_here in
                let a = c.low in
                record {
                  k = q + 1;
                  low = omega arith;
                  high = omega arith;
                  passed = below_more (λ (i : ℕ). get_or W (order + i) 0 < wanted * 4096 + (q + 1)) p (λ i h. let u = g.ordered.rising i p h l in omega arith) (omega arith);
                  ahead = λ i u v. let y = g.ordered.rising p i (omega arith) v in omega arith;
                  reached = reached_row g q in_rows skipped wanted_here from_is (t ∙ ap (λ (y : ℕ). from + y) s) base_is w;
                }
