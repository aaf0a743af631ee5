-- Laws of writing the runs of all materials. Assumes nothing.
use mathlib.Core.Path.{◌≡◌, refl, sym, ap, ◌∙◌, subst}
use mathlib.Core.List.{List, [], ◌∷◌, ◌++◌, flat_map, append_assoc, append-nil}
use Prim.Native.Nat.{ℕ, suc, ◌+◌, ◌-◌, ◌*◌, ◌/◌, ◌≤◌, ◌<◌}
use native.Mathlib.Nat.{le_of_suc-le-suc}
use native.Mathlib.Omega.{arith}
use native.Mathlib.Decide.{ℕ_discrete}
use lib.ListN.{length, get_or, take, drop, length-append, length-drop}
use lib.Seq.{length-take-le}
use lib.Dec.{leb}
use Rattle.lists.specs.Lists.{sum_of, filter, written}
use Rattle.lists.specs.Members.{Has, has_place, has_item}
use Rattle.lists.specs.Stretches.{stretch_kept, stretch_at, front_at, rest_at, rest_less}
use Rattle.body_rows.specs.Body.{rows_of}
use Rattle.slice_append.specs.Appended.{Appended, appended_none, appended_written, appended_long, behind}
use Rattle.mesh_acceptance.specs.Judged.{decisions_in}
use Rattle.mesh_layout.specs.Mesh.{part_width, Laid, materials_of, run_of, runs_of, start_of, part_of}
use Rattle.mesh_layout.specs.JudgedRows.{JudgedRow, judged_rows, judged_in, laid_by, run_by, indices_with}
use Rattle.mesh_layout.specs.RowLaws.{judged_long}
use Rattle.mesh_layout.specs.LaidLaws.{run_by_lem, run_long, judged_indices_lem, laid_low, laid_few, laid_has, has_laid}
use Rattle.lists.specs.Rising.{rising_all, rising_from, rising_none}
use Rattle.mesh_layout.specs.MaterialLaws.{materials_have, have_materials, materials_rise, start_same, start_next, start_low, start_none, materials_few}
use Rattle.mesh_layout.specs.Parts.{laid_in, RunsWritable, RunsWritten}
use Rattle.mesh_material_order.specs.Order.{place_word, order_word, Orderable, RowAt, Ordered, RowsOrdered, OrderRoom, FirstAccepted}
use Rattle.mesh_runs.specs.Runs.{RunWritable, RunWritten}
use Rattle.mesh_runs.specs.declared.runs.RunEnd.{RunEnd}
use Rattle.mesh_runs.proofs.RunLaws.{not_above}

-- ---- what the runs go by

-- the rows of W are ordered, and where each is found is kept
pub record PartsReady (table is W : List ℕ) (at starts order m : ℕ) (out parts : List ℕ) : Type 0 where
  pub writable : RunsWritable table is W at starts out parts
  pub rows_are : m ≡ length (rows_of table)
  pub order_is : order ≡ starts + m
  pub ordered : Ordered W at order m
  pub places : (k : ℕ) → k < m → get_or W (starts + k) 0 ≡ place_word (judged_in table W at) (rows_of table) k

-- the runs of the materials below `last` are written: W became E, out became new, and parts became qs; the words from place q on are to come
pub record Parting (table is W : List ℕ) (at starts order m : ℕ) (out parts : List ℕ) (q o p : ℕ) (E new qs : List ℕ) : Type 0 where
  pub ready : PartsReady table is W at starts order m out parts
  pub last : ℕ
  pub low : q ≤ m
  pub passed : (i : ℕ) → i < q → get_or W (order + i) 0 < last * 4096 + 4096
  pub left : (i : ℕ) → q ≤ i → i < m → last * 4096 + 4096 ≤ get_or W (order + i) 0
  pub start : o ≡ start_of (laid_in table W at is) last
  pub done : List ℕ
  pub are : done ++ filter (leb last) (materials_of (laid_in table W at is)) ≡ materials_of (laid_in table W at is)
  pub many : length done ≡ p
  pub indices_put : Appended 0 (flat_map (run_of (laid_in table W at is)) done) out new
  pub indices_many : length (flat_map (run_of (laid_in table W at is)) done) ≡ o
  pub parts_put : Appended 0 (flat_map (part_of (laid_in table W at is)) done) parts qs
  pub firsts : (k : ℕ) → k < length (rows_of table) → (get_or W (at + k) 0 ≡ 0 → ⊥) → get_or W (at + k) 0 ≤ last
      → get_or E (starts + k) 0 ≡ start_of (laid_in table W at is) (get_or W (at + k) 0 - 1) + indices_with (get_or W (at + k) 0) (take k (judged_in table W at))
  pub later : (k : ℕ) → k < length (rows_of table) → last < get_or W (at + k) 0 → get_or E (starts + k) 0 ≡ get_or W (starts + k) 0
  pub front : take starts E ≡ take starts W
  pub rest : drop (starts + length (rows_of table)) E ≡ drop (starts + length (rows_of table)) W
  pub long : length E ≡ length W
  pub out_long : length new ≡ length out
  pub parts_long : length qs ≡ length parts

-- what two lists of materials have together
both : {A : Type 0} (f : ℕ → List A) (xs : List ℕ) (x : ℕ) → flat_map f (xs ++ x ∷ []) ≡ flat_map f xs ++ f x
unfolding flat_map
both f [] x = append-nil (f x)
both f (y ∷ ys) x = ap (λ l. f y ++ l) (both f ys x) ∙ sym (append_assoc (f y) (flat_map f ys) (f x))

-- three numbers for each part
parts_three : (ls : List Laid) (ms : List ℕ) → length (flat_map (part_of ls) ms) ≡ part_width * length ms
unfolding flat_map part_of
parts_three ls [] = refl
parts_three ls (m ∷ ms) = let e = parts_three ls ms in omega arith

-- ---- the words made ready

module _ {table is W : List ℕ} {at starts : ℕ} {out parts : List ℕ} (g : RunsWritable table is W at starts out parts) {m order : ℕ} (rows_are : m ≡ length (rows_of table))
    (order_is : order ≡ starts + m) where
  -- what ordering the rows asks
  pub order_ready : Orderable table W at starts order m
  order_ready =
      record {
        rows = g.body.rows;
        few_vertices = g.body.few_vertices;
        few_indices = g.body.few_indices;
        small = λ k h. g.small k (omega arith);
        rows_are = rows_are;
        words = omega (arith, g.body.words);
        order_is = order_is;
        room = omega (arith, g.body.room);
      }

  module _ {X : List ℕ} (r : RowsOrdered table W X at starts order m) where
    decisions_same : decisions_in table X at ≡ decisions_in table W at
    decisions_same = stretch_kept at (length (rows_of table)) starts W X r.front g.body.words

    decision_same : (k : ℕ) → k < length (rows_of table) → get_or X (at + k) 0 ≡ get_or W (at + k) 0
    decision_same k h = front_at starts (at + k) W X 0 r.front (omega (arith, g.body.words))

    judged_same : judged_in table X at ≡ judged_in table W at
    judged_same = ap (λ (ds : List ℕ). judged_rows ds (rows_of table)) decisions_same

    -- what the runs go by
    pub parts_ready : PartsReady table is X at starts order m out parts
    parts_ready =
        record {
          writable = record {
            body = record {
              rows = g.body.rows;
              all = g.body.all;
              few_vertices = g.body.few_vertices;
              few_indices = g.body.few_indices;
              below = g.body.below;
              words = g.body.words;
              room = omega (arith, g.body.room, r.long);
            };
            small = λ k h. omega (arith, decision_same k h, g.small k h);
            out_room = subst (λ (js : List JudgedRow). sum_of (λ l. length l.indices) (laid_by 0 js is) ≤ length out) (sym judged_same) g.out_room;
            parts_room = g.parts_room;
          };
          rows_are = rows_are;
          order_is = order_is;
          ordered = r.ordered;
          places = λ k h. r.places k h ∙ ap (λ (js : List JudgedRow). place_word js (rows_of table) k) (sym judged_same);
        }

    -- what is written of the rows so ordered is written of the rows
    pub runs_same : {E new qs : List ℕ} {p : ℕ} → RunsWritten table is X E at starts out new parts qs p → RunsWritten table is W E at starts out new parts qs p
    runs_same {E} {new} {qs} {p} w =
        let three : order + m + m ≡ starts + 3 * length (rows_of table) = omega arith in
        record {
          indices = w.indices ∙ ap (λ (js : List JudgedRow). written (runs_of (laid_by 0 js is)) out) judged_same;
          parts_are = w.parts_are ∙ ap (λ (js : List JudgedRow). written (flat_map (part_of (laid_by 0 js is)) (materials_of (laid_by 0 js is))) parts) judged_same;
          count = w.count ∙ ap (λ (js : List JudgedRow). length (materials_of (laid_by 0 js is))) judged_same;
          firsts = λ k h n.
              w.firsts k h (λ z. n (sym (decision_same k h) ∙ z))
              ∙ (λ j. start_of (laid_by 0 (judged_same j) is) (decision_same k h j - 1) + indices_with (decision_same k h j) (take k (judged_same j)));
          front = w.front ∙ r.front;
          rest = w.rest ∙ subst (λ (x : ℕ). drop x X ≡ drop x W) three r.rest;
          long = w.long ∙ r.long;
        }

-- ---- run by run

module _ {table is W : List ℕ} {at starts order m : ℕ} {out parts : List ℕ} (g : PartsReady table is W at starts order m out parts) where
  abbrev n : ℕ
  n = length (rows_of table)

  abbrev ls : List Laid
  ls = laid_in table W at is

  abbrev ds : List ℕ
  ds = decisions_in table W at

  words : at + n ≤ length W
  words = omega (arith, g.writable.body.words, g.writable.body.room)

  decisions_long : length ds ≡ n
  decisions_long = length-take-le n (drop at W) (omega (arith, words, length-drop at W))

  -- what looking for the first accepted row asks
  pub first_ready : OrderRoom W order m
  first_ready = record { room = omega (arith, g.order_is, g.rows_are, g.writable.body.room); rising = g.ordered.rising }

  -- none is written yet
  pub parting_none : {q : ℕ} → FirstAccepted W order m q → Parting table is W at starts order m out parts q 0 0 W out parts
  unfolding flat_map
  parting_none {q} f =
      record {
        ready = g;
        last = 0;
        low = f.low;
        passed = λ i h. let l = f.failed i h in omega arith;
        left = λ i a b. let l = f.accepted i a b in omega arith;
        start = sym (start_none ls);
        done = [];
        are = rising_all 0 0 (materials_of ls) (omega arith) (materials_rise ls);
        many = refl;
        indices_put = appended_none 0 out;
        indices_many = refl;
        parts_put = appended_none 0 parts;
        firsts = λ k h z l. absurd (z (omega arith));
        later = λ k h l. refl;
        front = refl;
        rest = refl;
        long = refl;
        out_long = refl;
        parts_long = refl;
      }

module _ {table is W : List ℕ} {at starts order m : ℕ} {out parts : List ℕ} {q o p : ℕ} {E new qs : List ℕ} (c : Parting table is W at starts order m out parts q o p E new qs) where
  abbrev g : PartsReady table is W at starts order m out parts
  g = c.ready

  abbrev rs : List Laid
  rs = laid_in table W at is

  abbrev es : List ℕ
  es = decisions_in table W at

  long_ds : length es ≡ length (rows_of table)
  long_ds = decisions_long g

  rows_few : m ≤ 4096
  rows_few = omega (arith, g.rows_are, g.writable.body.rows.few)

  decision_has : (k : ℕ) → k < length (rows_of table) → Has (get_or W (at + k) 0) es
  decision_has k h = subst (λ (y : ℕ). Has y es) (stretch_at at (length (rows_of table)) W k 0 h) (has_item es k (omega (arith, long_ds)))

  material_has : (y : ℕ) → Has y (materials_of rs) → Has (suc y) es
  material_has y h = laid_has y 0 es (rows_of table) is (have_materials y rs h)

  has_material : (y : ℕ) → Has (suc y) es → Has y (materials_of rs)
  has_material y h = materials_have y rs (has_laid y 0 es (rows_of table) is (omega (arith, long_ds)) h)

  -- a decision above `last` is not below that of the word at any place up to q, and there is such a place
  word_above : (y : ℕ) → c.last < y → Has y es → (i : ℕ) × ((q ≤ i) × ((i < m) × (get_or W (order + i) 0 < y * 4096 + 4096)))
  word_above y l h =
      let k = has_place y es h in
      let kl : k.0 < length (rows_of table) = let z = k.1.0 in omega (arith, long_ds) in
      let s = g.ordered.stands k.0 (omega (arith, kl, g.rows_are)) in
      let e : get_or W (at + k.0) 0 ≡ y = sym (stretch_at at (length (rows_of table)) W k.0 0 kl) ∙ k.1.1 in
      let x : get_or W (order + s.place) 0 ≡ y * 4096 + k.0 = s.is ∙ ap (λ (d : ℕ). order_word d k.0) e in
      (s.place, (not_above (λ b. absurd (low s.place k.0 b x)), (s.low, omega (arith, x, kl, rows_few, g.rows_are))))
    where
      low : (i k : ℕ) → i < q → get_or W (order + i) 0 ≡ y * 4096 + k → ⊥
      low i k b x = let u = c.passed i b in absurd (omega arith)

  -- all are written
  pub parting_all : m ≤ q → RunsWritten table is W E at starts out new parts qs p
  unfolding runs_of
  parting_all z =
      let nothing : filter (leb c.last) (materials_of rs) ≡ [] = rising_none c.last (materials_of rs) (λ y l h. none (suc y) (omega arith) (material_has y h)) in
      let e : c.done ≡ materials_of rs = sym (append-nil c.done) ∙ ap (λ (ys : List ℕ). c.done ++ ys) (sym nothing) ∙ c.are in
      record {
        indices = appended_written c.indices_put ∙ ap (λ (ms : List ℕ). written (flat_map (run_of rs) ms) out) e;
        parts_are = appended_written c.parts_put ∙ ap (λ (ms : List ℕ). written (flat_map (part_of rs) ms) parts) e;
        count = sym c.many ∙ ap length e;
        firsts = λ k h d. c.firsts k h d (not_above (λ l. none (get_or W (at + k) 0) l (decision_has k h)));
        front = c.front;
        rest = rest_less (starts + length (rows_of table)) (starts + 3 * length (rows_of table)) W E c.rest (omega arith);
        long = c.long;
      }
    where
      none : (y : ℕ) → c.last < y → Has y es → ⊥
      none y l h = let w = word_above y l h in let a = w.1.0 in let b = w.1.1.0 in absurd (omega arith)

  module _ (l : q < m) where
    -- the words are as they were
    pub word_kept : (i : ℕ) → get_or E (order + i) 0 ≡ get_or W (order + i) 0
    word_kept i = rest_at (starts + length (rows_of table)) (order + i) W E 0 c.rest (omega (arith, g.order_is, g.rows_are))

    module _ {next : ℕ} (d : next ≡ get_or E (order + q) 0 / 4096) where
      abbrev here : RowAt W at order m q
      here = g.ordered.rows q l

      -- the decision to come is that of the row whose word stands there
      next_row : next ≡ get_or W (at + here.row) 0
      next_row = omega (arith, d, word_kept q, here.is, here.low, rows_few)

      in_rows : here.row < length (rows_of table)
      in_rows = omega (arith, here.low, g.rows_are)

      above : c.last < next
      above = omega (arith, d, word_kept q, c.left q (omega arith) l)

      pub next_low : next ≤ 4294967296
      next_low = omega (arith, next_row, g.writable.small here.row in_rows)

      pub next_some : 0 < next
      next_some = omega (arith, above)

      -- the material to come
      abbrev x : ℕ
      x = next - 1

      next_suc : next ≡ suc x
      next_suc = omega (arith, above)

      has : Has next es
      has = subst (λ (y : ℕ). Has y es) (sym next_row) (decision_has here.row in_rows)

      rises : (i : ℕ) → q ≤ i → i < m → get_or W (order + q) 0 ≤ get_or W (order + i) 0
      rises i a b = go (ℕ_discrete i q)
        where
          go : Dec (i ≡ q) → get_or W (order + q) 0 ≤ get_or W (order + i) 0
          go (yes e) = subst (λ (z : ℕ). get_or W (order + q) 0 ≤ get_or W (order + z) 0) (sym e) (omega arith)
          go (no z) = let r = g.ordered.rising q i (omega arith) b in omega arith

      least : (y : ℕ) → c.last < y → Has y es → next ≤ y
      least y a h = let w = word_above y a h in let z = w.1.1.1 in omega (arith, d, word_kept q, rises w.0 w.1.0 w.1.1.0)

      least_material : (y : ℕ) → c.last ≤ y → Has y (materials_of rs) → x ≤ y
      least_material y a h = let z = least (suc y) (omega arith) (material_has y h) in omega arith

      first_left : filter (leb c.last) (materials_of rs) ≡ x ∷ filter (leb next) (materials_of rs)
      first_left =
          rising_from c.last x 0 (materials_of rs) (materials_rise rs) (has_material x (subst (λ (y : ℕ). Has y es) next_suc has)) (omega (arith, above)) least_material
          ∙ ap (λ (y : ℕ). x ∷ filter (leb y) (materials_of rs)) (sym next_suc)

      start_here : o ≡ start_of rs x
      start_here = c.start ∙ start_same c.last x rs (omega (arith, above)) (λ y a h k. absurd (apart y h (least_material y a (materials_have y rs k))))
        where
          apart : (y : ℕ) → y < x → x ≤ y → ⊥
          apart y a b = absurd (omega arith)

      -- the run has as many indices as its rows
      run_size : length (run_of rs x) ≡ indices_with next (judged_in table W at)
      run_size =
          ap length (run_by_lem x 0 (judged_in table W at) is)
          ∙ run_long (suc x) 0 (judged_in table W at) is (omega (arith, judged_indices_lem es (rows_of table), g.writable.body.all))
          ∙ ap (λ (w : ℕ). indices_with w (judged_in table W at)) (sym next_suc)

      start_after : start_of rs next ≡ o + indices_with next (judged_in table W at)
      start_after = ap (start_of rs) next_suc ∙ start_next x rs ∙ (λ j. sym start_here j + run_size j)

      -- indices stay below the limit
      pub few : o + indices_with next (judged_in table W at) ≤ 786432
      few = omega (arith, start_after, start_low next rs, laid_low 0 (judged_in table W at) is, judged_indices_lem es (rows_of table), g.writable.body.few_indices)

      decision_kept : (k : ℕ) → k < length (rows_of table) → get_or E (at + k) 0 ≡ get_or W (at + k) 0
      decision_kept k h = front_at starts (at + k) W E 0 c.front (omega (arith, g.writable.body.words))

      judged_kept : judged_in table E at ≡ judged_in table W at
      judged_kept = ap (λ (es : List ℕ). judged_rows es (rows_of table)) (stretch_kept at (length (rows_of table)) starts W E c.front g.writable.body.words)

      -- the rows are ordered still
      ordered_kept : Ordered E at order m
      ordered_kept =
          record {
            rising = λ i j a b. omega (arith, word_kept i, word_kept j, g.ordered.rising i j a b);
            stands = λ k h.
                let s = g.ordered.stands k h in
                record {
                  place = s.place;
                  low = s.low;
                  is = word_kept s.place ∙ s.is ∙ ap (λ (y : ℕ). order_word y k) (sym (decision_kept k (omega (arith, g.rows_are))));
                };
            rows = λ i h.
                let r = g.ordered.rows i h in
                record {
                  row = r.row;
                  low = r.low;
                  is = word_kept i ∙ r.is ∙ ap (λ (y : ℕ). order_word y r.row) (sym (decision_kept r.row (omega (arith, g.rows_are, r.low))));
                };
          }

      -- what writing the run asks
      pub run_ready : RunWritable table is E at starts order m q next new o
      run_ready =
          record {
            body = record {
              rows = g.writable.body.rows;
              all = g.writable.body.all;
              few_vertices = g.writable.body.few_vertices;
              few_indices = g.writable.body.few_indices;
              below = g.writable.body.below;
              words = g.writable.body.words;
              room = omega (arith, g.writable.body.room, c.long);
            };
            rows_are = g.rows_are;
            order_is = g.order_is;
            ordered = ordered_kept;
            low = c.low;
            before = λ i h. omega (arith, word_kept i, c.passed i h, above);
            behind = λ i a b. omega (arith, word_kept i, d, word_kept q, rises i a b);
            places = λ k h e.
                let f : get_or W (at + k) 0 ≡ next = sym (decision_kept k (omega (arith, g.rows_are))) ∙ e in
                c.later k (omega (arith, g.rows_are)) (omega (arith, above))
                ∙ g.places k h
                ∙ ap (λ (js : List JudgedRow). place_word js (rows_of table) k) (sym judged_kept);
            out_room =
                subst (λ (js : List JudgedRow). o + indices_with next js ≤ length new) (sym judged_kept)
                (omega (arith, start_after, start_low next rs, g.writable.out_room, c.out_long));
          }

      -- there is room for its part
      pub part_room : part_width * p + part_width ≤ length qs
      part_room =
          omega (
            arith,
            c.many,
            sym (ap length c.are),
            length-append c.done (filter (leb c.last) (materials_of rs)),
            ap length first_left,
            materials_few rs,
            laid_few 0 (judged_in table W at) is,
            judged_long table W at (words g),
            g.writable.parts_room,
            c.parts_long,
          )

      module _ {E' new' : List ℕ} {run : RunEnd} (w : RunWritten table is E E' at starts order m next new new' o run) where
        -- where the run ends
        pub run_end : run.end ≡ o + indices_with next (judged_in table W at)
        run_end = w.end ∙ ap (λ js. o + indices_with next js) judged_kept

        -- its words are behind
        pub place_more : q < run.place
        place_more = not_above (λ b. absurd (stays (w.left q (le_of_suc-le-suc b) l)))
          where
            stays : next * 4096 + 4096 ≤ get_or E (order + q) 0 → ⊥
            stays b = absurd (omega arith)

        run_is : Appended o (run_of rs x) new new'
        run_is = subst (λ (ys : List ℕ). Appended o ys new new') ((λ j. run_by (next_suc j) 0 (judged_kept j) is) ∙ sym (run_by_lem x 0 (judged_in table W at) is)) w.run

        first_is : (k : ℕ) → k < length (rows_of table) → (get_or W (at + k) 0 ≡ 0 → ⊥) → get_or W (at + k) 0 ≤ next → Dec (get_or W (at + k) 0 ≡ next)
            → get_or E' (starts + k) 0 ≡ start_of rs (get_or W (at + k) 0 - 1) + indices_with (get_or W (at + k) 0) (take k (judged_in table W at))
        first_is k h z b (yes e) =
            w.firsts k h (decision_kept k h ∙ e)
            ∙ (λ j. start_here j + indices_with next (take k (judged_kept j)))
            ∙ (λ j. start_of rs (sym e j - 1) + indices_with (sym e j) (take k (judged_in table W at)))
        first_is k h z b (no f) =
            w.others k (λ e. f (sym (decision_kept k h) ∙ e))
            ∙ c.firsts k h z (not_above (λ a. f (same a)))
          where
            same : c.last < get_or W (at + k) 0 → get_or W (at + k) 0 ≡ next
            same a = let y = least (get_or W (at + k) 0) a (decision_has k h) in omega arith

        module _ {qs' : List ℕ} {material first count : ℕ} (t : Appended (part_width * p) (material ∷ first ∷ count ∷ []) qs qs')
            (em : material ≡ next - 1) (ef : first ≡ o) (ec : count ≡ run.end - o) where
          part_is : Appended (part_width * p) (part_of rs x) qs qs'
          unfolding part_of
          part_is = subst (λ (ys : List ℕ). Appended (part_width * p) ys qs qs') (λ j. em j ∷ (ef ∙ start_here) j ∷ counted j ∷ []) t
            where
              counted : count ≡ length (run_of rs x)
              counted = let e = run_end in let r = run_size in omega arith

          -- the run is written
          pub parting_more : Parting table is W at starts order m out parts run.place run.end (p + 1) E' new' qs'
          parting_more =
              record {
                ready = g;
                last = next;
                low = w.low;
                passed = λ i h. omega (arith, word_kept i, w.passed i h);
                left = λ i a b. omega (arith, word_kept i, w.left i a b);
                start = run_end ∙ sym start_after;
                done = c.done ++ x ∷ [];
                are = append_assoc c.done (x ∷ []) (filter (leb next) (materials_of rs)) ∙ ap (λ (ys : List ℕ). c.done ++ ys) (sym first_left) ∙ c.are;
                many = omega (arith, length-append c.done (x ∷ []), c.many);
                indices_put = subst (λ (ys : List ℕ). Appended 0 ys out new') (sym (both (run_of rs) c.done x)) (behind c.indices_put c.indices_many run_is);
                indices_many = ap length (both (run_of rs) c.done x) ∙ length-append (flat_map (run_of rs) c.done) (run_of rs x) ∙ (λ j. c.indices_many j + run_size j) ∙ sym run_end;
                parts_put = subst (λ (ys : List ℕ). Appended 0 ys parts qs') (sym (both (part_of rs) c.done x))
                    (behind c.parts_put (parts_three rs c.done ∙ ap (λ (y : ℕ). part_width * y) c.many) part_is);
                firsts = λ k h z b. first_is k h z b (ℕ_discrete (get_or W (at + k) 0) next);
                later = λ k h b. w.others k (λ e. absurd (other k h b e)) ∙ c.later k h (omega (arith, above));
                front = w.front ∙ c.front;
                rest = w.rest ∙ c.rest;
                long = w.long ∙ c.long;
                out_long = appended_long run_is (omega (arith, run_size, start_after, start_low next rs, g.writable.out_room, c.out_long)) ∙ c.out_long;
                parts_long = appended_long t part_room ∙ c.parts_long;
              }
            where
              other : (k : ℕ) → k < length (rows_of table) → next < get_or W (at + k) 0 → get_or E (at + k) 0 ≡ next → ⊥
              other k h b e = absurd (omega (arith, decision_kept k h))
