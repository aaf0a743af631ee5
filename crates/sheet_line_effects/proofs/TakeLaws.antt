-- The laws of taking a line up, kind by kind: what the code stores is the definition's state in the slices. Assumes nothing.
use mathlib.Core.Bool.{Bool, true, false, ◌&&◌, ◌||◌}
use mathlib.Core.List.{List, [], ◌∷◌, ◌++◌}
use mathlib.Core.Path.{◌≡◌, refl, sym, ◌∙◌, ap, subst}
use Prim.Native.Nat.{ℕ, ◌+◌, ◌-◌, ◌*◌, ◌/◌, ◌%◌, ◌^◌, ◌≤◌, ◌<◌}
use native.Mathlib.Nat.{mod-eq_of_lt}
use native.Mathlib.Omega.{arith}
use borrow.Author.Tests.{leb-true, leb-false, ltb-false}
use lib.Dec as Dec
use lib.Ieee.Fits.{and_l, and_r}
use lib.Dec.{leb, ltb, ltb→lt}
use lib.ListN.{length, get_or, take, set, length-append, length-set}
use lib.Seq.{get_or-take}
use Rattle.body_rows.specs.Body.{row_width, vertices_back, indices_back}
use Rattle.sheet_lines.specs.Counted.{count_in}
use Rattle.sheet_lines.specs.Forms.{form, numbers}
use Rattle.sheet_lines.specs.declared.Kind.{Kind}
use Rattle.sheet_lines.specs.declared.Kind.TheVariants.{Box, Sag, NoDefault, Default, Material, Face, FaceBin, Vertex, Triangle, Fail, FailBin}
use Rattle.sheet_reader_state.specs.declared.Reader.{Reader}
use Rattle.sheet_line_order.specs.Reading.{Patterns, at, passes_limit, raised, take_up, with_line}
use Rattle.sheet_reader_state.specs.Slices.{Lent, boxed, defaulted, lent, line_from, moved, onto, over, patterns_of, sagged, state_of, taken_up}
use Rattle.sheet_line_effects.specs.Added.{Ready, RowAdded, RowRoom, TriangleAdded, TriangleRoom, VertexAdded, VertexRoom}
use Rattle.sheet_line_order.specs.Refusals.{Passed, passed}
use Rattle.lists.specs.Both.{and_left, and_right, or_right}
use Rattle.sheet_storing.specs.Placed.{placed, three_same}
use Rattle.sheet_reader_state.specs.Held.{Held, counts_of, held_of, last_index, last_vertex, some_row}
use Rattle.sheet_reader_state.specs.Same.{header, indices_fit, kept, normals_fit, rows_fit, same_indices, same_lent, same_reader, same_rows, same_vertices, vertices_fit}
use Rattle.sheet_line_effects.proofs.FrontLaws.{changed, grown}

-- a list of six numbers at least is these six and a rest
six : (P : List ℕ → Type 0) → ((a b c d e f : ℕ) (rest : List ℕ) → P (a ∷ b ∷ c ∷ d ∷ e ∷ f ∷ rest)) → (ns : List ℕ) → 6 < length ns → P ns
six P g [] h = absurd (omega arith)
six P g (a ∷ []) h = absurd (omega arith)
six P g (a ∷ b ∷ []) h = absurd (omega arith)
six P g (a ∷ b ∷ c ∷ []) h = absurd (omega arith)
six P g (a ∷ b ∷ c ∷ d ∷ []) h = absurd (omega arith)
six P g (a ∷ b ∷ c ∷ d ∷ e ∷ []) h = absurd (omega arith)
six P g (a ∷ b ∷ c ∷ d ∷ e ∷ f ∷ rest) h = g a b c d e f rest

-- a number of 32 bits
low : (n : ℕ) → Dec.T (ltb n (2 ^ 32)) → n % 2 ^ 32 ≡ n
low n t = mod-eq_of_lt (ltb→lt n (2 ^ 32) t)

-- a row at a place, by equal numbers
row_same : {W : List ℕ} (S : List ℕ) (i : ℕ) {x x' y y' z z' b b' : ℕ} → x ≡ x' → y ≡ y' → z ≡ z' → b ≡ b' → W ≡ placed S i (x ∷ y ∷ z ∷ 0 ∷ 0 ∷ b ∷ [])
    → W ≡ placed S i (x' ∷ y' ∷ z' ∷ 0 ∷ 0 ∷ b' ∷ [])
row_same S i {x} {x'} {y} {y'} {z} {z'} {b} {b'} p q o t e =
    three_same S i (0 ∷ 0 ∷ b' ∷ []) p q o (e ∙ ap (λ (n : ℕ). placed S i (x ∷ y ∷ z ∷ 0 ∷ 0 ∷ n ∷ [])) t)

module _ (s : Reader) (T P N I M : List ℕ) where
  abbrev here : Lent
  here = lent s T P N I M

  module _ (r : Reader) where
    -- ---- box, sag, default
    box_six : (a b c d e f : ℕ) (rest : List ℕ) → Ready here Box (a ∷ b ∷ c ∷ d ∷ e ∷ f ∷ rest) → r ≡ boxed s (a ∷ b ∷ c ∷ d ∷ e ∷ f ∷ rest)
        → lent r T P N I M ≡ taken_up here Box (a ∷ b ∷ c ∷ d ∷ e ∷ f ∷ rest)
    unfolding taken_up take_up with_line form count_in
    box_six a b c d e f rest v q =
        let h = held_of s T P N I M v.fitting.roomy.held in
        let ns : List ℕ = a ∷ b ∷ c ∷ d ∷ e ∷ f ∷ rest in
        header s T P N I M r (take_up (state_of here) (line_from Box ns))
        (q ∙ same_reader (boxed s ns) s.refusal 0 1 1 s.rows _ s.vertices _ s.indices _ s.default s.default s.sag v.fitting.roomy.clean refl (same_rows s T P N I M h)
        (same_vertices s T P N I M h) (same_indices s T P N I M h) refl)
        refl refl refl refl refl

    sag_six : (a b c d e f : ℕ) (rest : List ℕ) → Ready here Sag (a ∷ b ∷ c ∷ d ∷ e ∷ f ∷ rest) → r ≡ sagged s a → lent r T P N I M ≡ taken_up here Sag (a ∷ b ∷ c ∷ d ∷ e ∷ f ∷ rest)
    unfolding taken_up take_up with_line form count_in
    sag_six a b c d e f rest v q =
        let h = held_of s T P N I M v.fitting.roomy.held in
        header s T P N I M r (take_up (state_of here) (line_from Sag (a ∷ b ∷ c ∷ d ∷ e ∷ f ∷ rest)))
        (q ∙ same_reader s s.refusal 0 2 2 s.rows _ s.vertices _ s.indices _ s.default s.default a v.fitting.roomy.clean refl (same_rows s T P N I M h)
        (same_vertices s T P N I M h) (same_indices s T P N I M h) refl)
        refl refl refl refl refl

    none_six : (ns : List ℕ) → Ready here NoDefault ns → r ≡ defaulted s 0 → lent r T P N I M ≡ taken_up here NoDefault ns
    unfolding taken_up take_up with_line
    none_six ns v q =
        let h = held_of s T P N I M v.fitting.roomy.held in
        header s T P N I M r (take_up (state_of here) (line_from NoDefault ns))
        (q ∙ same_reader s s.refusal 0 3 3 s.rows _ s.vertices _ s.indices _ 0 0 s.sag v.fitting.roomy.clean refl (same_rows s T P N I M h) (same_vertices s T P N I M h)
        (same_indices s T P N I M h) refl)
        refl refl refl refl refl

    default_six : (a b c d e f : ℕ) (rest : List ℕ) → Ready here Default (a ∷ b ∷ c ∷ d ∷ e ∷ f ∷ rest) → r ≡ defaulted s (a % 2 ^ 32 + 1)
        → lent r T P N I M ≡ taken_up here Default (a ∷ b ∷ c ∷ d ∷ e ∷ f ∷ rest)
    unfolding taken_up take_up with_line form numbers count_in
    default_six a b c d e f rest v q =
        let h = held_of s T P N I M v.fitting.roomy.held in
        let small : Dec.T (ltb a (2 ^ 32)) = and_l (ltb a (2 ^ 32)) true v.fitting.small in
        header s T P N I M r (take_up (state_of here) (line_from Default (a ∷ b ∷ c ∷ d ∷ e ∷ f ∷ rest)))
        (q ∙ same_reader s s.refusal 0 3 3 s.rows _ s.vertices _ s.indices _ (a % 2 ^ 32 + 1) (a + 1) s.sag v.fitting.roomy.clean refl (same_rows s T P N I M h)
        (same_vertices s T P N I M h) (same_indices s T P N I M h) (ap (λ (n : ℕ). n + 1) (low a small)))
        refl refl refl refl refl

    -- ---- a material
    material_six : (a b c d e f : ℕ) (rest W : List ℕ) → Ready here Material (a ∷ b ∷ c ∷ d ∷ e ∷ f ∷ rest) → W ≡ set M a (b % 2 ^ 32 + 1)
        → lent s T P N I W ≡ taken_up here Material (a ∷ b ∷ c ∷ d ∷ e ∷ f ∷ rest)
    unfolding taken_up take_up with_line form numbers count_in passes_limit
    material_six a b c d e f rest W v q =
        let h = held_of s T P N I M v.fitting.roomy.held in
        let ok : Passed (line_from Material (a ∷ b ∷ c ∷ d ∷ e ∷ f ∷ rest)) (state_of here) = passed _ _ v.taken in
        let low_face : a ≤ s.limits.face = ltb-false s.limits.face a ok.limit in
        let first : leb 3 s.place ≡ true = and_left (leb 3 s.place) (leb s.place 3) ok.order in
        let last : leb s.place 3 ≡ true = and_right (leb 3 s.place) (leb s.place 3) ok.order in
        let place : s.place ≡ 3 = omega (arith, leb-true 3 s.place first, leb-true s.place 3 last) in
        let small : Dec.T (ltb b (2 ^ 32)) = and_l (ltb b (2 ^ 32)) true (and_r (ltb a (2 ^ 32)) (ltb b (2 ^ 32) && true) v.fitting.small) in
        same_lent
        (same_reader s s.refusal 0 s.place 3 s.rows _ s.vertices _ s.indices _ s.default s.default s.sag v.fitting.roomy.clean place (same_rows s T P N I M h)
        (same_vertices s T P N I M h) (same_indices s T P N I M h) refl)
        (kept (row_width * s.rows) T)
        (kept (3 * s.vertices) P)
        (kept (3 * s.vertices) N)
        (kept s.indices I)
        (q ∙ ap (λ (n : ℕ). set M a (n + 1)) (low b small) ∙ changed (s.limits.face + 1) M a (b + 1) (omega arith) (omega (arith, h.limits.room.materials)))

    -- ---- a row
    row_more : (place x y z b : ℕ) (W : List ℕ) → Held s T P N I M → s.refusal ≡ 0 → r ≡ moved s place (s.rows + 1) s.vertices s.indices s.default s.sag
        → W ≡ placed T (row_width * s.rows) (x ∷ y ∷ z ∷ 0 ∷ 0 ∷ b ∷ [])
        → lent r W P N I M ≡ over here (record {
          limits = s.limits;
          refusal = 0;
          place = place;
          sheet = record {
            box = (patterns_of here).box;
            sag = s.sag;
            default = s.default;
            materials = take (s.limits.face + 1) M;
            table = take (row_width * s.rows) T ++ x ∷ y ∷ z ∷ 0 ∷ 0 ∷ b
                ∷ [];
            positions = take (3 * s.vertices) P;
            normals = take (3 * s.vertices) N;
            indices = take s.indices I;
          };
        })
    row_more place x y z b W h clean q e =
        let long : length (take (row_width * s.rows) T ++ x ∷ y ∷ z ∷ 0 ∷ 0 ∷ b ∷ []) ≡ length (take (row_width * s.rows) T) + row_width =
        length-append (take (row_width * s.rows) T) (x ∷ y ∷ z ∷ 0 ∷ 0 ∷ b ∷ []) in
        let rows : s.rows + 1 ≡ length (take (row_width * s.rows) T ++ x ∷ y ∷ z ∷ 0 ∷ 0 ∷ b ∷ []) / row_width = omega (arith, (counts_of s T P N I M h).table) in
        same_lent
        (q ∙ same_reader s s.refusal 0 place place (s.rows + 1) _ s.vertices _ s.indices _ s.default s.default s.sag clean refl rows (same_vertices s T P N I M h)
        (same_indices s T P N I M h) refl)
        (e ∙ grown (row_width * s.rows) T (x ∷ y ∷ z ∷ 0 ∷ 0 ∷ b ∷ []) (rows_fit s T P N I M h))
        (kept (3 * s.vertices) P)
        (kept (3 * s.vertices) N)
        (kept s.indices I)
        (kept (s.limits.face + 1) M)

  few_rows : (x : Bool) → Held s T P N I M → x || leb (row_width * s.limits.rows) (length (take (row_width * s.rows) T)) ≡ false → s.rows < s.limits.rows
  few_rows x h e =
      let n : ℕ = length (take (row_width * s.rows) T) in
      omega (arith, leb-false (row_width * s.limits.rows) n (or_right x (leb (row_width * s.limits.rows) n) e), (counts_of s T P N I M h).table)

  -- a line that opens a row has room for it
  row_room : (k : Kind)
      → ((ms : List ℕ) (x : Patterns) → passes_limit s.limits k ms x ≡ ltb s.limits.face (at ms 1) || leb (row_width * s.limits.rows) (length x.table))
      → (ns : List ℕ) → Ready here k ns → RowRoom s T
  row_room k is ns v =
      let h = held_of s T P N I M v.fitting.roomy.held in
      let ok : Passed (line_from k ns) (state_of here) = passed _ _ v.taken in
      let few : s.rows < s.limits.rows =
      few_rows (ltb s.limits.face (at (line_from k ns).numbers 1)) h (sym (is (line_from k ns).numbers (patterns_of here)) ∙ ok.limit) in
      record { rows = omega (arith, h.limits.few.rows); table = omega (arith, h.limits.room.table) }

  face_six : (r : Reader) (a b c d e f : ℕ) (rest W : List ℕ) → Ready here Face (a ∷ b ∷ c ∷ d ∷ e ∷ f ∷ rest) → RowAdded s T a b 0 0 4 r W
      → lent r W P N I M ≡ taken_up here Face (a ∷ b ∷ c ∷ d ∷ e ∷ f ∷ rest)
  unfolding taken_up take_up with_line form numbers count_in passes_limit
  face_six r a b c d e f rest W v q =
      let h = held_of s T P N I M v.fitting.roomy.held in
      let t0 : Dec.T (ltb a (2 ^ 32)) = and_l (ltb a (2 ^ 32)) (ltb b (2 ^ 32) && true) v.fitting.small in
      let w1 : Dec.T (ltb b (2 ^ 32) && true) = and_r (ltb a (2 ^ 32)) (ltb b (2 ^ 32) && true) v.fitting.small in
      let t1 : Dec.T (ltb b (2 ^ 32)) = and_l (ltb b (2 ^ 32)) true w1 in
      row_more r 4 a b 0 0 W h v.fitting.roomy.clean q.reader (row_same T (row_width * s.rows) (low a t0) (low b t1) refl refl q.table)

  face_bin_six : (r : Reader) (a b c d e f : ℕ) (rest W : List ℕ) → Ready here FaceBin (a ∷ b ∷ c ∷ d ∷ e ∷ f ∷ rest) → RowAdded s T a b 0 c 4 r W
      → lent r W P N I M ≡ taken_up here FaceBin (a ∷ b ∷ c ∷ d ∷ e ∷ f ∷ rest)
  unfolding taken_up take_up with_line form numbers count_in passes_limit
  face_bin_six r a b c d e f rest W v q =
      let h = held_of s T P N I M v.fitting.roomy.held in
      let t0 : Dec.T (ltb a (2 ^ 32)) = and_l (ltb a (2 ^ 32)) (ltb b (2 ^ 32) && (ltb c (2 ^ 32) && true)) v.fitting.small in
      let w1 : Dec.T (ltb b (2 ^ 32) && (ltb c (2 ^ 32) && true)) = and_r (ltb a (2 ^ 32)) (ltb b (2 ^ 32) && (ltb c (2 ^ 32) && true)) v.fitting.small in
      let t1 : Dec.T (ltb b (2 ^ 32)) = and_l (ltb b (2 ^ 32)) (ltb c (2 ^ 32) && true) w1 in
      let w2 : Dec.T (ltb c (2 ^ 32) && true) = and_r (ltb b (2 ^ 32)) (ltb c (2 ^ 32) && true) w1 in
      let t2 : Dec.T (ltb c (2 ^ 32)) = and_l (ltb c (2 ^ 32)) true w2 in
      row_more r 4 a b 0 c W h v.fitting.roomy.clean q.reader (row_same T (row_width * s.rows) (low a t0) (low b t1) refl (low c t2) q.table)

  fail_six : (r : Reader) (a b c d e f : ℕ) (rest W : List ℕ) → Ready here Fail (a ∷ b ∷ c ∷ d ∷ e ∷ f ∷ rest) → RowAdded s T a b c 0 6 r W
      → lent r W P N I M ≡ taken_up here Fail (a ∷ b ∷ c ∷ d ∷ e ∷ f ∷ rest)
  unfolding taken_up take_up with_line form numbers count_in passes_limit
  fail_six r a b c d e f rest W v q =
      let h = held_of s T P N I M v.fitting.roomy.held in
      let t0 : Dec.T (ltb a (2 ^ 32)) = and_l (ltb a (2 ^ 32)) (ltb b (2 ^ 32) && (ltb c (2 ^ 32) && true)) v.fitting.small in
      let w1 : Dec.T (ltb b (2 ^ 32) && (ltb c (2 ^ 32) && true)) = and_r (ltb a (2 ^ 32)) (ltb b (2 ^ 32) && (ltb c (2 ^ 32) && true)) v.fitting.small in
      let t1 : Dec.T (ltb b (2 ^ 32)) = and_l (ltb b (2 ^ 32)) (ltb c (2 ^ 32) && true) w1 in
      let w2 : Dec.T (ltb c (2 ^ 32) && true) = and_r (ltb b (2 ^ 32)) (ltb c (2 ^ 32) && true) w1 in
      let t2 : Dec.T (ltb c (2 ^ 32)) = and_l (ltb c (2 ^ 32)) true w2 in
      row_more r 6 a b c 0 W h v.fitting.roomy.clean q.reader (row_same T (row_width * s.rows) (low a t0) (low b t1) (low c t2) refl q.table)

  fail_bin_six : (r : Reader) (a b c d e f : ℕ) (rest W : List ℕ) → Ready here FailBin (a ∷ b ∷ c ∷ d ∷ e ∷ f ∷ rest) → RowAdded s T a b c d 6 r W
      → lent r W P N I M ≡ taken_up here FailBin (a ∷ b ∷ c ∷ d ∷ e ∷ f ∷ rest)
  unfolding taken_up take_up with_line form numbers count_in passes_limit
  fail_bin_six r a b c d e f rest W v q =
      let h = held_of s T P N I M v.fitting.roomy.held in
      let t0 : Dec.T (ltb a (2 ^ 32)) = and_l (ltb a (2 ^ 32)) (ltb b (2 ^ 32) && (ltb c (2 ^ 32) && (ltb d (2 ^ 32) && true))) v.fitting.small in
      let w1 : Dec.T (ltb b (2 ^ 32) && (ltb c (2 ^ 32) && (ltb d (2 ^ 32) && true))) = and_r (ltb a (2 ^ 32)) (ltb b (2 ^ 32) && (ltb c (2 ^ 32) && (ltb d (2 ^ 32) && true))) v.fitting.small in
      let t1 : Dec.T (ltb b (2 ^ 32)) = and_l (ltb b (2 ^ 32)) (ltb c (2 ^ 32) && (ltb d (2 ^ 32) && true)) w1 in
      let w2 : Dec.T (ltb c (2 ^ 32) && (ltb d (2 ^ 32) && true)) = and_r (ltb b (2 ^ 32)) (ltb c (2 ^ 32) && (ltb d (2 ^ 32) && true)) w1 in
      let t2 : Dec.T (ltb c (2 ^ 32)) = and_l (ltb c (2 ^ 32)) (ltb d (2 ^ 32) && true) w2 in
      let w3 : Dec.T (ltb d (2 ^ 32) && true) = and_r (ltb c (2 ^ 32)) (ltb d (2 ^ 32) && true) w2 in
      let t3 : Dec.T (ltb d (2 ^ 32)) = and_l (ltb d (2 ^ 32)) true w3 in
      row_more r 6 a b c d W h v.fitting.roomy.clean q.reader (row_same T (row_width * s.rows) (low a t0) (low b t1) (low c t2) (low d t3) q.table)

  material_below : (a b c d e f : ℕ) (rest : List ℕ) → Ready here Material (a ∷ b ∷ c ∷ d ∷ e ∷ f ∷ rest) → a < length M
  unfolding form numbers count_in passes_limit
  material_below a b c d e f rest v =
      let h = held_of s T P N I M v.fitting.roomy.held in
      let ok : Passed (line_from Material (a ∷ b ∷ c ∷ d ∷ e ∷ f ∷ rest)) (state_of here) = passed _ _ v.taken in
      omega (arith, ltb-false s.limits.face a ok.limit, h.limits.room.materials)

  -- ---- the last row's counts
  module _ (back n : ℕ) (h : Held s T P N I M) (some_back : 0 < back) (few : back ≤ row_width * s.rows) where
    raised_is : raised back n (take (row_width * s.rows) T) ≡ set (take (row_width * s.rows) T) (row_width * s.rows - back) (at T (row_width * s.rows - back) + n)
    unfolding raised
    raised_is =
        ap (λ (i : ℕ). set (take (row_width * s.rows) T) (i - back) (at (take (row_width * s.rows) T) (i - back) + n)) (counts_of s T P N I M h).table
        ∙ ap (λ (v : ℕ). set (take (row_width * s.rows) T) (row_width * s.rows - back) (v + n)) (get_or-take (row_width * s.rows) T (row_width * s.rows - back) 0 (omega arith))

    raised_in : (W : List ℕ) → W ≡ set T (row_width * s.rows - back) (at T (row_width * s.rows - back) + n) → W ≡ onto (raised back n (take (row_width * s.rows) T)) T
    raised_in W e =
        e ∙ changed (row_width * s.rows) T (row_width * s.rows - back) (at T (row_width * s.rows - back) + n) (omega arith) (rows_fit s T P N I M h) ∙ ap (λ (xs : List ℕ). onto xs T) (sym raised_is)

    raised_rows : s.rows ≡ length (raised back n (take (row_width * s.rows) T)) / row_width
    raised_rows = omega (arith, (counts_of s T P N I M h).table, ap length raised_is ∙ length-set (take (row_width * s.rows) T) (row_width * s.rows - back) (at T (row_width * s.rows - back) + n))

  -- ---- a vertex
  vertex_six_room : (a b c d e f : ℕ) (rest : List ℕ) → Ready here Vertex (a ∷ b ∷ c ∷ d ∷ e ∷ f ∷ rest) → VertexRoom s T P N (a ∷ b ∷ c ∷ d ∷ e ∷ f ∷ rest)
  unfolding form count_in passes_limit
  vertex_six_room a b c d e f rest v =
      let h = held_of s T P N I M v.fitting.roomy.held in
      let ok : Passed (line_from Vertex (a ∷ b ∷ c ∷ d ∷ e ∷ f ∷ rest)) (state_of here) = passed _ _ v.taken in
      let first : leb 4 s.place ≡ true = and_left (leb 4 s.place) (leb s.place 4) ok.order in
      let row : 0 < s.rows = some_row s T P N I M h (omega (arith, leb-true 4 s.place first)) in
      let few : s.vertices < s.limits.vertices = omega (arith, leb-false (3 * s.limits.vertices) (length (take (3 * s.vertices) P)) ok.limit, (counts_of s T P N I M h).positions) in
      record {
        some_row = row;
        rows = omega (arith, h.limits.rows, h.limits.few.rows);
        vertices = omega (arith, h.limits.few.vertices);
        table = rows_fit s T P N I M h;
        positions = omega (arith, h.limits.room.positions);
        normals = omega (arith, h.limits.room.normals);
        count = omega (arith, last_vertex s T P N I M h row, h.limits.few.vertices);
        long = v.fitting.long;
      }

  abbrev short : ℕ → Bool
  short n = ltb n (16 ^ 8)

  vertex_six : (r : Reader) (a b c d e f : ℕ) (rest T' P' N' : List ℕ) → Ready here Vertex (a ∷ b ∷ c ∷ d ∷ e ∷ f ∷ rest) → VertexAdded s T P N (a ∷ b ∷ c ∷ d ∷ e ∷ f ∷ rest) r T' P' N'
      → lent r T' P' N' I M ≡ taken_up here Vertex (a ∷ b ∷ c ∷ d ∷ e ∷ f ∷ rest)
  unfolding taken_up take_up with_line form count_in
  vertex_six r a b c d e f rest T' P' N' v q =
      let h = held_of s T P N I M v.fitting.roomy.held in
      let room = vertex_six_room a b c d e f rest v in
      let w0 : Dec.T (short a && (short b && (short c && (short d && (short e && (short f && true)))))) = v.fitting.small in
      let w1 = and_r (short a) (short b && (short c && (short d && (short e && (short f && true))))) w0 in
      let w2 = and_r (short b) (short c && (short d && (short e && (short f && true)))) w1 in
      let w3 = and_r (short c) (short d && (short e && (short f && true))) w2 in
      let w4 = and_r (short d) (short e && (short f && true)) w3 in
      let w5 = and_r (short e) (short f && true) w4 in
      let back : vertices_back ≤ row_width * s.rows = omega (arith, room.some_row) in
      let long : length (take (3 * s.vertices) P ++ a ∷ b ∷ c ∷ []) ≡ length (take (3 * s.vertices) P) + 3 = length-append (take (3 * s.vertices) P) (a ∷ b ∷ c ∷ []) in
      let vertices : s.vertices + 1 ≡ length (take (3 * s.vertices) P ++ a ∷ b ∷ c ∷ []) / 3 = omega (arith, (counts_of s T P N I M h).positions) in
      same_lent
      (q.reader ∙ same_reader s s.refusal 0 4 4 s.rows _ (s.vertices + 1) _ s.indices _ s.default s.default s.sag v.fitting.roomy.clean refl
      (raised_rows vertices_back 1 h (omega arith) back) vertices (same_indices s T P N I M h) refl)
      (raised_in vertices_back 1 h (omega arith) back T' q.table)
      (three_same P (3 * s.vertices) [] (low a (and_l (short a) (short b && (short c && (short d && (short e && (short f && true))))) w0))
      (low b (and_l (short b) (short c && (short d && (short e && (short f && true)))) w1)) (low c (and_l (short c) (short d && (short e && (short f && true))) w2)) q.positions
      ∙ grown (3 * s.vertices) P (a ∷ b ∷ c ∷ []) (vertices_fit s T P N I M h))
      (three_same N (3 * s.vertices) [] (low d (and_l (short d) (short e && (short f && true)) w3)) (low e (and_l (short e) (short f && true) w4)) (low f (and_l (short f) true w5)) q.normals
      ∙ grown (3 * s.vertices) N (d ∷ e ∷ f ∷ []) (normals_fit s T P N I M h))
      (kept s.indices I)
      (kept (s.limits.face + 1) M)

  -- ---- a triangle
  triangle_six_room : (a b c d e f : ℕ) (rest : List ℕ) → Ready here Triangle (a ∷ b ∷ c ∷ d ∷ e ∷ f ∷ rest) → TriangleRoom s T I (a ∷ b ∷ c ∷ d ∷ e ∷ f ∷ rest)
  unfolding form numbers count_in passes_limit
  triangle_six_room a b c d e f rest v =
      let h = held_of s T P N I M v.fitting.roomy.held in
      let ok : Passed (line_from Triangle (a ∷ b ∷ c ∷ d ∷ e ∷ f ∷ rest)) (state_of here) = passed _ _ v.taken in
      let first : leb 4 s.place ≡ true = and_left (leb 4 s.place) (leb s.place 5) ok.order in
      let row : 0 < s.rows = some_row s T P N I M h (omega (arith, leb-true 4 s.place first)) in
      record {
        some_row = row;
        rows = omega (arith, h.limits.rows, h.limits.few.rows);
        indices = omega (arith, ltb-false s.limits.indices (length (take s.indices I) + 3) ok.limit, (counts_of s T P N I M h).indices, h.limits.room.indices);
        table = rows_fit s T P N I M h;
        count = omega (arith, last_index s T P N I M h row, h.limits.few.indices);
        long = v.fitting.long;
      }

  triangle_six : (r : Reader) (a b c d e f : ℕ) (rest T' I' : List ℕ) → Ready here Triangle (a ∷ b ∷ c ∷ d ∷ e ∷ f ∷ rest) → TriangleAdded s T I (a ∷ b ∷ c ∷ d ∷ e ∷ f ∷ rest) r T' I'
      → lent r T' P N I' M ≡ taken_up here Triangle (a ∷ b ∷ c ∷ d ∷ e ∷ f ∷ rest)
  unfolding taken_up take_up with_line form numbers count_in
  triangle_six r a b c d e f rest T' I' v q =
      let h = held_of s T P N I M v.fitting.roomy.held in
      let room = triangle_six_room a b c d e f rest v in
      let w0 : Dec.T (ltb a (2 ^ 32) && (ltb b (2 ^ 32) && (ltb c (2 ^ 32) && true))) = v.fitting.small in
      let w1 = and_r (ltb a (2 ^ 32)) (ltb b (2 ^ 32) && (ltb c (2 ^ 32) && true)) w0 in
      let w2 = and_r (ltb b (2 ^ 32)) (ltb c (2 ^ 32) && true) w1 in
      let back : indices_back ≤ row_width * s.rows = omega (arith, room.some_row) in
      let long : length (take s.indices I ++ a ∷ b ∷ c ∷ []) ≡ length (take s.indices I) + 3 = length-append (take s.indices I) (a ∷ b ∷ c ∷ []) in
      let indices : s.indices + 3 ≡ length (take s.indices I ++ a ∷ b ∷ c ∷ []) = omega (arith, (counts_of s T P N I M h).indices) in
      same_lent
      (q.reader ∙ same_reader s s.refusal 0 5 5 s.rows _ s.vertices _ (s.indices + 3) _ s.default s.default s.sag v.fitting.roomy.clean refl
      (raised_rows indices_back 3 h (omega arith) back) (same_vertices s T P N I M h) indices refl)
      (raised_in indices_back 3 h (omega arith) back T' q.table)
      (kept (3 * s.vertices) P)
      (kept (3 * s.vertices) N)
      (three_same I s.indices [] (low a (and_l (ltb a (2 ^ 32)) (ltb b (2 ^ 32) && (ltb c (2 ^ 32) && true)) w0)) (low b (and_l (ltb b (2 ^ 32)) (ltb c (2 ^ 32) && true) w1))
      (low c (and_l (ltb c (2 ^ 32)) true w2)) q.indices ∙ grown s.indices I (a ∷ b ∷ c ∷ []) (indices_fit s T P N I M h))
      (kept (s.limits.face + 1) M)

  -- ---- every kind, whatever numbers follow the line's own
  module _ (k : Kind) (ns : List ℕ) (v : Ready here k ns) where
    ready : (j : Kind) → k ≡ j → Ready here j ns
    ready j e = subst (λ (i : Kind). Ready here i ns) e v

    back_to : (j : Kind) → k ≡ j → taken_up here j ns ≡ taken_up here k ns
    back_to j e = ap (λ (i : Kind). taken_up here i ns) (sym e)

    pub take_box : (r : Reader) → k ≡ Box → r ≡ boxed s ns → lent r T P N I M ≡ taken_up here k ns
    take_box r e q = six (λ xs. Ready here Box xs → r ≡ boxed s xs → lent r T P N I M ≡ taken_up here Box xs) (box_six r) ns v.fitting.long (ready Box e) q ∙ back_to Box e

    pub take_sag : (r : Reader) → k ≡ Sag → r ≡ sagged s (get_or ns 0 0) → lent r T P N I M ≡ taken_up here k ns
    take_sag r e q = six (λ xs. Ready here Sag xs → r ≡ sagged s (get_or xs 0 0) → lent r T P N I M ≡ taken_up here Sag xs) (sag_six r) ns v.fitting.long (ready Sag e) q ∙ back_to Sag e

    pub take_none : (r : Reader) → k ≡ NoDefault → r ≡ defaulted s 0 → lent r T P N I M ≡ taken_up here k ns
    take_none r e q = none_six r ns (ready NoDefault e) q ∙ back_to NoDefault e

    pub take_default : (r : Reader) (d : ℕ) → k ≡ Default → d ≡ get_or ns 0 0 % 2 ^ 32 + 1 → r ≡ defaulted s d → lent r T P N I M ≡ taken_up here k ns
    take_default r d e p q =
        six (λ xs. Ready here Default xs → r ≡ defaulted s (get_or xs 0 0 % 2 ^ 32 + 1) → lent r T P N I M ≡ taken_up here Default xs) (default_six r) ns v.fitting.long (ready Default e)
        (q ∙ ap (defaulted s) p) ∙ back_to Default e

    pub material_room : k ≡ Material → get_or ns 0 0 < length M
    material_room e = six (λ xs. Ready here Material xs → get_or xs 0 0 < length M) material_below ns v.fitting.long (ready Material e)

    pub take_material : (W : List ℕ) → k ≡ Material → W ≡ set M (get_or ns 0 0) (get_or ns 1 0 % 2 ^ 32 + 1) → lent s T P N I W ≡ taken_up here k ns
    take_material W e q =
        six (λ xs. Ready here Material xs → W ≡ set M (get_or xs 0 0) (get_or xs 1 0 % 2 ^ 32 + 1) → lent s T P N I W ≡ taken_up here Material xs) (λ a b c d e f rest. material_six s a b c d e f rest W) ns
        v.fitting.long (ready Material e) q ∙ back_to Material e

    pub open_room : (j : Kind)
        → ((ms : List ℕ) (x : Patterns) → passes_limit s.limits j ms x ≡ ltb s.limits.face (at ms 1) || leb (row_width * s.limits.rows) (length x.table)) → k ≡ j → RowRoom s T
    open_room j is e = row_room j is ns (ready j e)

    pub take_face : (r : Reader) (W : List ℕ) → k ≡ Face → RowAdded s T (get_or ns 0 0) (get_or ns 1 0) 0 0 4 r W → lent r W P N I M ≡ taken_up here k ns
    take_face r W e q =
        six (λ xs. Ready here Face xs → RowAdded s T (get_or xs 0 0) (get_or xs 1 0) 0 0 4 r W → lent r W P N I M ≡ taken_up here Face xs)
        (λ a b c d e f rest. face_six r a b c d e f rest W) ns v.fitting.long (ready Face e) q ∙ back_to Face e

    pub take_face_bin : (r : Reader) (W : List ℕ) → k ≡ FaceBin → RowAdded s T (get_or ns 0 0) (get_or ns 1 0) 0 (get_or ns 2 0) 4 r W → lent r W P N I M ≡ taken_up here k ns
    take_face_bin r W e q =
        six (λ xs. Ready here FaceBin xs → RowAdded s T (get_or xs 0 0) (get_or xs 1 0) 0 (get_or xs 2 0) 4 r W → lent r W P N I M ≡ taken_up here FaceBin xs)
        (λ a b c d e f rest. face_bin_six r a b c d e f rest W) ns v.fitting.long (ready FaceBin e) q ∙ back_to FaceBin e

    pub take_fail : (r : Reader) (W : List ℕ) → k ≡ Fail → RowAdded s T (get_or ns 0 0) (get_or ns 1 0) (get_or ns 2 0) 0 6 r W → lent r W P N I M ≡ taken_up here k ns
    take_fail r W e q =
        six (λ xs. Ready here Fail xs → RowAdded s T (get_or xs 0 0) (get_or xs 1 0) (get_or xs 2 0) 0 6 r W → lent r W P N I M ≡ taken_up here Fail xs)
        (λ a b c d e f rest. fail_six r a b c d e f rest W) ns v.fitting.long (ready Fail e) q ∙ back_to Fail e

    pub take_fail_bin : (r : Reader) (W : List ℕ) → k ≡ FailBin → RowAdded s T (get_or ns 0 0) (get_or ns 1 0) (get_or ns 2 0) (get_or ns 3 0) 6 r W → lent r W P N I M ≡ taken_up here k ns
    take_fail_bin r W e q =
        six (λ xs. Ready here FailBin xs → RowAdded s T (get_or xs 0 0) (get_or xs 1 0) (get_or xs 2 0) (get_or xs 3 0) 6 r W → lent r W P N I M ≡ taken_up here FailBin xs)
        (λ a b c d e f rest. fail_bin_six r a b c d e f rest W) ns v.fitting.long (ready FailBin e) q ∙ back_to FailBin e

    pub vertex_room : k ≡ Vertex → VertexRoom s T P N ns
    vertex_room e = six (λ xs. Ready here Vertex xs → VertexRoom s T P N xs) vertex_six_room ns v.fitting.long (ready Vertex e)

    pub take_vertex : (r : Reader) (T' P' N' : List ℕ) → k ≡ Vertex → VertexAdded s T P N ns r T' P' N' → lent r T' P' N' I M ≡ taken_up here k ns
    take_vertex r T' P' N' e q =
        six (λ xs. Ready here Vertex xs → VertexAdded s T P N xs r T' P' N' → lent r T' P' N' I M ≡ taken_up here Vertex xs) (λ a b c d e f rest. vertex_six r a b c d e f rest T' P' N') ns
        v.fitting.long (ready Vertex e) q ∙ back_to Vertex e

    pub triangle_room : k ≡ Triangle → TriangleRoom s T I ns
    triangle_room e = six (λ xs. Ready here Triangle xs → TriangleRoom s T I xs) triangle_six_room ns v.fitting.long (ready Triangle e)

    pub take_triangle : (r : Reader) (T' I' : List ℕ) → k ≡ Triangle → TriangleAdded s T I ns r T' I' → lent r T' P N I' M ≡ taken_up here k ns
    take_triangle r T' I' e q =
        six (λ xs. Ready here Triangle xs → TriangleAdded s T I xs r T' I' → lent r T' P N I' M ≡ taken_up here Triangle xs) (λ a b c d e f rest. triangle_six r a b c d e f rest T' I') ns
        v.fitting.long (ready Triangle e) q ∙ back_to Triangle e

-- ---- the parts that are stored
pub material_set : (M : List ℕ) (face material x : ℕ) → x ≡ material % 2 ^ 32 + 1 → set M face x ≡ set M face (material % 2 ^ 32 + 1)
material_set M face material x e = ap (set M face) e

pub row_added : (s : Reader) (T W : List ℕ) (shell face outcome bin place a b c d : ℕ) → a ≡ shell % 2 ^ 32 → b ≡ face % 2 ^ 32 → c ≡ outcome % 2 ^ 32 → d ≡ bin % 2 ^ 32
    → W ≡ placed T (row_width * s.rows) (a ∷ b ∷ c ∷ 0 ∷ 0 ∷ d ∷ [])
    → RowAdded s T shell face outcome bin place (moved s place (s.rows + 1) s.vertices s.indices s.default s.sag) W
row_added s T W shell face outcome bin place a b c d p q r t e =
    record { reader = refl; table = row_same T (row_width * s.rows) p q r t e }
