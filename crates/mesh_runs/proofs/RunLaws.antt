-- Laws of a run's rows, one after the other: a row of it writes its indices, the rows between are passed over. Assumes nothing.
use mathlib.Core.Path.{◌≡◌, refl, sym, ap, ◌∙◌, subst}
use mathlib.Core.Bool.{Bool, cond}
use mathlib.Core.List.{List, [], ◌++◌, map, append_assoc, append-nil}
use Prim.Native.Nat.{ℕ, zero, suc, ◌+◌, ◌-◌, ◌≤◌, ◌<◌}
use native.Mathlib.Omega.{arith}
use native.Mathlib.Decide.{ℕ_discrete}
use borrow.Author.Tests.{eq-eqb, ne_eqb}
use lib.ListN.{length, get_or, take, drop, length-append, length-drop, length-map, length-set, drop_of_length-le}
use lib.Seq.{drop-drop, length-take-le, get_or-set_same, get_or-set_other, take-set-le, drop-set-lt}
use lib.Dec.{eqb}
use Rattle.lists.specs.Lists.{sum_of}
use Rattle.lists.specs.Any.{sum_front, sum_all}
use Rattle.body_rows.specs.Body.{rows_of, all_indices}
use Rattle.body_rows.specs.Rows.{row_at, indices_before}
use Rattle.body_rows.specs.Patches.{indices_next, indices_room, vertices_room}
use Rattle.slice_append.specs.Appended.{Appended, appended_none, appended_long, appended_twice}
use Rattle.mesh_acceptance.specs.Judged.{decisions_in}
use Rattle.mesh_layout.specs.JudgedRows.{JudgedRow, judged_in, same_if, run_by, indices_with}
use Rattle.mesh_layout.specs.RowLaws.{judged_here, judged_long, sum_here}
use Rattle.mesh_material_order.specs.Order.{bases_before}
use Rattle.mesh_runs.specs.Runs.{RowRunnable, RowRun, RunWritable}
use Rattle.mesh_material_order.specs.Bases.{bases_next, bases_low}
use native.Mathlib.Nat.{le_of_suc-le-suc, lt_of_not-le}

-- what isn't above is at most as high
pub not_above : {a b : ℕ} → (a < b → ⊥) → b ≤ a
not_above h = le_of_suc-le-suc (lt_of_not-le h)

-- what the rows before row k have that are wanted
abbrev pub before : List ℕ → List ℕ → ℕ → ℕ → ℕ → ℕ
before table W at wanted k = indices_with wanted (take k (judged_in table W at))

-- the part of the run that the rows from row k on have
abbrev pub left : List ℕ → List ℕ → List ℕ → ℕ → ℕ → ℕ → List ℕ
left table is W at wanted k = run_by wanted (bases_before (judged_in table W at) k) (drop k (judged_in table W at)) (drop (indices_before (rows_of table) k) is)

-- the part of the rows before row k is written: W became E, and out became new, where the indices end at o
pub record Reached (table is W : List ℕ) (at starts wanted : ℕ) (out : List ℕ) (start k o : ℕ) (E new : List ℕ) : Type 0 where
  pub low : k ≤ length (rows_of table)
  pub done : List ℕ
  pub are : done ++ left table is W at wanted k ≡ run_by wanted 0 (judged_in table W at) is
  pub many : length done ≡ before table W at wanted k
  pub end : o ≡ start + before table W at wanted k
  pub put : Appended start done out new
  pub firsts : (q : ℕ) → q < k → get_or W (at + q) 0 ≡ wanted → get_or E (starts + q) 0 ≡ start + before table W at wanted q
  pub others : (q : ℕ) → (get_or W (at + q) 0 ≡ wanted → ⊥) → get_or E (starts + q) 0 ≡ get_or W (starts + q) 0
  pub later : (q : ℕ) → k ≤ q → get_or E (starts + q) 0 ≡ get_or W (starts + q) 0
  pub front : take starts E ≡ take starts W
  pub rest : drop (starts + length (rows_of table)) E ≡ drop (starts + length (rows_of table)) W
  pub long : length E ≡ length W
  pub out_long : length new ≡ length out

module _ {table is W : List ℕ} {at starts order m first wanted : ℕ} {out : List ℕ} {start : ℕ} (g : RunWritable table is W at starts order m first wanted out start) where
  abbrev n : ℕ
  n = length (rows_of table)

  abbrev js : List JudgedRow
  js = judged_in table W at

  words : at + n ≤ length W
  words = omega (arith, g.body.words, g.body.room)

  -- none is
  pub reached_none : Reached table is W at starts wanted out start 0 start W out
  unfolding sum_of indices_before all_indices
  reached_none =
      record {
        low = omega arith;
        done = [];
        are = refl;
        many = refl;
        end = omega arith;
        put = appended_none start out;
        firsts = λ q h. absurd (omega arith);
        others = λ q h. refl;
        later = λ q h. refl;
        front = refl;
        rest = refl;
        long = refl;
        out_long = refl;
      }

  module _ (k : ℕ) (l : k < n) where
    abbrev size : ℕ
    size = (row_at table k).indices

    abbrev moved : List ℕ
    moved = map (λ i. bases_before js k + i) (take size (drop (indices_before (rows_of table) k) is))

    -- what is left begins with row k's
    left_here : left table is W at wanted k ≡ same_if (get_or W (at + k) 0) wanted moved ++ left table is W at wanted (k + 1)
    unfolding run_by
    left_here =
        ap (λ (xs : List JudgedRow). run_by wanted (bases_before js k) xs (drop (indices_before (rows_of table) k) is)) (judged_here table W at words k l)
        ∙ (λ j. same_if (get_or W (at + k) 0) wanted moved ++ run_by wanted (sym (bases_next table W at words k l) j) (drop (k + 1) js)
        ((drop-drop size (indices_before (rows_of table) k) is ∙ ap (λ (i : ℕ). drop i is) (sym (indices_next table k l))) j))

    -- what one row more has that is wanted
    before_next : before table W at wanted (k + 1) ≡ before table W at wanted k + cond (eqb (get_or W (at + k) 0) wanted) size 0
    before_next = sum_here table W at words k l (λ j. cond (eqb j.decision wanted) j.row.indices 0)

    -- and with it there is room
    before_low : before table W at wanted (k + 1) ≤ indices_with wanted js
    before_low = sum_front (λ j. cond (eqb j.decision wanted) j.row.indices 0) js (k + 1)

    inside : indices_before (rows_of table) k + size ≤ length is
    unfolding row_at
    inside = omega (arith, indices_room (rows_of table) k l, g.body.all)

    base_small : bases_before js k + (row_at table k).vertices ≤ 262144
    unfolding row_at
    base_small = omega (arith, bases_low k (decisions_in table W at) (rows_of table), vertices_room (rows_of table) k l, g.body.few_vertices)

    module _ {o : ℕ} {E new : List ℕ} (c : Reached table is W at starts wanted out start k o E new) where
      -- a row that is not wanted is passed over
      pub reached_pass : (get_or W (at + k) 0 ≡ wanted → ⊥) → Reached table is W at starts wanted out start (k + 1) o E new
      reached_pass ne =
          let t = ne_eqb (get_or W (at + k) 0) wanted ne in
          let same : left table is W at wanted k ≡ left table is W at wanted (k + 1) = left_here ∙ ap (λ (b : Bool). cond b moved [] ++ left table is W at wanted (k + 1)) t in
          let more : before table W at wanted (k + 1) ≡ before table W at wanted k = let f = ap (λ (b : Bool). cond b size 0) t in omega (arith, before_next) in
          record {
            low = omega arith;
            done = c.done;
            are = ap (λ (ys : List ℕ). c.done ++ ys) (sym same) ∙ c.are;
            many = c.many ∙ sym more;
            end = c.end ∙ ap (λ (x : ℕ). start + x) (sym more);
            put = c.put;
            firsts = λ q h z. first_is q h z (ℕ_discrete q k);
            others = c.others;
            later = λ q h. c.later q (omega arith);
            front = c.front;
            rest = c.rest;
            long = c.long;
            out_long = c.out_long;
          }
        where
          first_is : (q : ℕ) → q < k + 1 → get_or W (at + q) 0 ≡ wanted → Dec (q ≡ k) → get_or E (starts + q) 0 ≡ start + before table W at wanted q
          first_is q h z (yes p) = absurd (ne (ap (λ (x : ℕ). get_or W (at + x) 0) (sym p) ∙ z))
          first_is q h z (no d) = c.firsts q (omega arith) z

      module _ (e : get_or W (at + k) 0 ≡ wanted) {from to base : ℕ} (f : from ≡ indices_before (rows_of table) k) (t : to ≡ from + size) (b : base ≡ bases_before js k) where
        with_row : before table W at wanted (k + 1) ≡ before table W at wanted k + size
        with_row = before_next ∙ ap (λ (x : Bool). before table W at wanted k + cond x size 0) (eq-eqb (get_or W (at + k) 0) wanted e)

        -- what a row that is asks
        pub reached_ready : RowRunnable is from to base E (starts + k) new o
        reached_ready =
            record {
              order = omega arith;
              inside = omega (arith, inside);
              word = omega (arith, g.body.room, c.long);
              base_small = omega (arith, base_small);
              small = λ q x y.
                  let j = q - from in
                  let p : indices_before (rows_of table) k + j ≡ q = omega arith in
                  let below : get_or is q 0 < (row_at table k).vertices = subst (λ (z : ℕ). get_or is z 0 < (row_at table k).vertices) p (g.body.below k j l (omega arith)) in
                  omega (arith, below, base_small);
              room = omega (arith, c.end, with_row, before_low, g.out_room, c.out_long);
            }

        -- it writes its indices
        pub reached_row : {E' new' : List ℕ} {r : ℕ} → RowRun is from to base E E' (starts + k) new new' o r → Reached table is W at starts wanted out start (k + 1) r E' new'
        reached_row {E'} {new'} {r} w =
            let s : to - from ≡ size = omega arith in
            let same : map (λ i. base + i) (take (to - from) (drop from is)) ≡ moved = λ j. map (λ i. b j + i) (take (s j) (drop (f j) is)) in
            let own : Appended o moved new new' = subst (λ (ys : List ℕ). Appended o ys new new') same w.run in
            let long : length moved ≡ size = length-map (take size (drop (indices_before (rows_of table) k) is)) (λ i. bases_before js k + i)
            ∙ length-take-le size (drop (indices_before (rows_of table) k) is) (omega (arith, inside, length-drop (indices_before (rows_of table) k) is)) in
            record {
              low = omega arith;
              done = c.done ++ moved;
              are =
                  append_assoc c.done moved (left table is W at wanted (k + 1))
                  ∙ ap (λ (ys : List ℕ). c.done ++ ys) (sym (left_here ∙ ap (λ (x : Bool). cond x moved [] ++ left table is W at wanted (k + 1)) (eq-eqb (get_or W (at + k) 0) wanted e)))
                  ∙ c.are;
              many = omega (arith, length-append c.done moved, c.many, long, with_row);
              end = omega (arith, w.end, c.end, with_row);
              put = appended_twice c.put (subst (λ (x : ℕ). Appended x moved new new') (c.end ∙ ap (λ (x : ℕ). start + x) (sym c.many)) own);
              firsts = λ q h z. first_is q h z (ℕ_discrete q k);
              others = λ q d. word_other q (λ p. d (ap (λ (x : ℕ). get_or W (at + x) 0) p ∙ e)) ∙ c.others q d;
              later = λ q h. word_other q (λ p. absurd (omega arith)) ∙ c.later q (omega arith);
              front = ap (take starts) w.word ∙ take-set-le starts E (starts + k) o (omega arith) ∙ c.front;
              rest = ap (drop (starts + n)) w.word ∙ drop-set-lt (starts + n) E (starts + k) o (omega arith) ∙ c.rest;
              long = ap length w.word ∙ length-set E (starts + k) o ∙ c.long;
              out_long = appended_long own (omega (arith, long, c.end, with_row, before_low, g.out_room, c.out_long)) ∙ c.out_long;
            }
          where
            word_other : (q : ℕ) → (q ≡ k → ⊥) → get_or E' (starts + q) 0 ≡ get_or E (starts + q) 0
            word_other q d = ap (λ (ws : List ℕ). get_or ws (starts + q) 0) w.word ∙ get_or-set_other E (starts + k) (starts + q) o 0 (λ h. d (omega arith))

            first_is : (q : ℕ) → q < k + 1 → get_or W (at + q) 0 ≡ wanted → Dec (q ≡ k) → get_or E' (starts + q) 0 ≡ start + before table W at wanted q
            first_is q h z (yes p) =
                subst (λ (x : ℕ). get_or E' (starts + x) 0 ≡ start + before table W at wanted x) (sym p)
                (ap (λ (ws : List ℕ). get_or ws (starts + k) 0) w.word ∙ get_or-set_same E (starts + k) o 0 (omega (arith, g.body.room, c.long)) ∙ c.end)
            first_is q h z (no d) = word_other q d ∙ c.firsts q (omega arith) z

  -- the rows from row k on are passed over, `gap` of them, if none is wanted
  pub reached_skip : (gap k : ℕ) {o : ℕ} {E new : List ℕ} → k + gap ≤ n → ((q : ℕ) → k ≤ q → q < k + gap → get_or W (at + q) 0 ≡ wanted → ⊥) → Reached table is W at starts wanted out start k o E new
      → Reached table is W at starts wanted out start (k + gap) o E new
  reached_skip zero k {o} {E} {new} h f c = let z : k ≡ k + 0 = omega arith in subst (λ (x : ℕ). Reached table is W at starts wanted out start x o E new) z c
  reached_skip (suc gap) k {o} {E} {new} h f c =
      let z : k + 1 + gap ≡ k + suc gap = omega arith in
      subst (λ (x : ℕ). Reached table is W at starts wanted out start x o E new) z
      (reached_skip gap (k + 1) (omega arith) (λ q a b. f q (omega arith) (omega arith)) (reached_pass k (omega arith) c (f k (omega arith) (omega arith))))

  -- all rows are behind: the run is written
  pub reached_run : {o : ℕ} {E new : List ℕ} → Reached table is W at starts wanted out start n o E new → Appended start (run_by wanted 0 js is) out new
  unfolding run_by
  reached_run {o} {E} {new} c =
      let nothing : left table is W at wanted n ≡ [] = ap (λ (xs : List JudgedRow). run_by wanted (bases_before js n) xs (drop (indices_before (rows_of table) n) is))
      (drop_of_length-le js {i = n} (omega (arith, judged_long table W at words))) in
      subst (λ (xs : List ℕ). Appended start xs out new) (sym (append-nil c.done) ∙ ap (λ (ys : List ℕ). c.done ++ ys) (sym nothing) ∙ c.are) c.put

  pub reached_end : {o : ℕ} {E new : List ℕ} → Reached table is W at starts wanted out start n o E new → o ≡ start + indices_with wanted js
  reached_end c = c.end ∙ ap (λ (x : ℕ). start + x) (sum_all (λ j. cond (eqb j.decision wanted) j.row.indices 0) js n (omega (arith, judged_long table W at words)))
