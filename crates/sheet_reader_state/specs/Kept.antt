-- Over slices with room, line by line from the beginning: every line passes the test of room, and what stands in the slices is the definition's state. Assumes nothing.
use Rattle.std.specs.Prelude.{Bool, not, ◌&&◌, ◌||◌, cond, ◌≡◌, ℕ, zero, suc, ◌+◌, ◌-◌, ◌*◌, ◌/◌, ◌%◌, ◌≤◌, ◌<◌, leb, ltb, take, drop, set}
use Rattle.std.proofs.Math.Bool.{true, false}
use mathlib.Core.List.{List, [], ◌∷◌, ◌++◌}
use Rattle.std.proofs.Math.Option.{Option, none, some}
use Rattle.std.proofs.Math.Path.{refl, ap}
use Rattle.std.proofs.Common.{sym, ◌∙◌, subst, get_or-append-add, take_at}
use native.Mathlib.Omega.{arith}
use borrow.Author.Tests.{eq-eqb, ne_eqb, le-leb, leb-true, leb-false, eqb-true, lt-ltb, ltb-false}
use Rattle.std.proofs.Math.Dec.{eqb}
use Rattle.std.proofs.Math.ListN.{get_or-append, length, replicate, length-append, length-set, length-drop}
use Rattle.std.proofs.lemmas.List.{length-replicate}
use Rattle.std.proofs.Math.Seq.{length-take-le, get_or-set_same, get_or-set_other}
use Rattle.body_rows.specs.Body.{row_width, vertices_back, indices_back}
use Rattle.sheet_lines.specs.Counted.{count_in, line_count}
use Rattle.sheet_lines.specs.Forms.{Line, form, line_of, numbers}
use Rattle.sheet_lines.specs.declared.Kind.{Kind}
use Rattle.sheet_lines.specs.declared.Kind.TheVariants.{Box, Sag, NoDefault, Default, Material, Face, FaceBin, Vertex, Triangle, Fail, FailBin}
use Rattle.sheet_reader_state.specs.declared.Reader.{Reader}
use Rattle.sheet_line_order.specs.declared.Limits.{Limits}
use Rattle.sheet_line_order.specs.Laws.{line_limits}
use Rattle.sheet_line_order.specs.Reading.{Patterns, State, at, finished, line_refusal, order_of, passes_limit, raised, read_line, refuse, start, take_up, with_form, with_line}
use Rattle.sheet_line_order.specs.Refusals.{Passed, passed}
use Rattle.sheet_reader_state.specs.Slices.{Lent, ended, fits, fits_in, in_limits, last_fits, lent, of_bodies, onto, over, read_into, reader_of, refused, state_of}
use Rattle.sheet_reader_state.specs.Limits.{SheetRoom, counts_hold, room_holds}
use Rattle.lists.specs.Both.{and_left, or_right}

-- the slices have room for the limits
abbrev pub RoomIn : Limits → Lent → Type 0
RoomIn limits l = SheetRoom limits (length l.table) (length l.positions) (length l.normals) (length l.indices) (length l.materials)

-- a state of whole rows, vertices and triangles within the limits
pub record Sized (s : State) : Type 0 where
  pub box : length s.sheet.box ≡ 6
  pub materials : length s.sheet.materials ≡ s.limits.face + 1
  pub rows : ℕ
  pub vertices : ℕ
  pub triangles : ℕ
  pub table : length s.sheet.table ≡ row_width * rows
  pub positions : length s.sheet.positions ≡ 3 * vertices
  pub normals : length s.sheet.normals ≡ 3 * vertices
  pub indices : length s.sheet.indices ≡ 3 * triangles
  pub few_rows : rows ≤ s.limits.rows
  pub few_vertices : vertices ≤ s.limits.vertices
  pub few_triangles : 3 * triangles ≤ s.limits.indices
  pub no_row_lem : rows ≡ 0 → s.place < 4
  pub last_vertices : at s.sheet.table (row_width * rows - vertices_back) ≤ vertices
  pub last_indices : at s.sheet.table (row_width * rows - indices_back) ≤ 3 * triangles

-- ---- a line keeps the sizes

pub sized_start : (limits : Limits) → Sized (start limits)
unfolding start
sized_start limits =
    record {
      box = refl;
      materials = length-replicate {A = ℕ} (limits.face + 1) 0;
      rows = 0;
      vertices = 0;
      triangles = 0;
      table = refl;
      positions = refl;
      normals = refl;
      indices = refl;
      few_rows = omega arith;
      few_vertices = omega arith;
      few_triangles = omega arith;
      no_row_lem = λ e. omega arith;
      last_vertices = omega arith;
      last_indices = omega arith;
    }

sized_refuse : (n : ℕ) (s : State) → Sized s → Sized (refuse n s)
unfolding refuse
sized_refuse n s v =
    record {
      box = v.box;
      materials = v.materials;
      rows = v.rows;
      vertices = v.vertices;
      triangles = v.triangles;
      table = v.table;
      positions = v.positions;
      normals = v.normals;
      indices = v.indices;
      few_rows = v.few_rows;
      few_vertices = v.few_vertices;
      few_triangles = v.few_triangles;
      no_row_lem = v.no_row_lem;
      last_vertices = v.last_vertices;
      last_indices = v.last_indices;
    }

-- a row behind the table: its counts are 0
module _ (T row : List ℕ) (rows : ℕ) (e : length T ≡ row_width * rows) where
  row_at : (back i : ℕ) → row_width * (rows + 1) - back ≡ row_width * rows + i → at (T ++ row) (row_width * (rows + 1) - back) ≡ at row i
  row_at back i q = ap (at (T ++ row)) (q ∙ ap (λ (n : ℕ). n + i) (sym e)) ∙ get_or-append-add T row i 0

module _ (s : State) (v : Sized s) where
  -- a line before the faces
  header : (k : Kind) (x : Patterns) → length x.box ≡ 6 → length x.materials ≡ s.limits.face + 1 → x.table ≡ s.sheet.table → x.positions ≡ s.sheet.positions
      → x.normals ≡ s.sheet.normals
      → x.indices ≡ s.sheet.indices → (order_of k).then < 4
      → Sized (record { limits = s.limits; refusal = 0; place = (order_of k).then; sheet = x })
  header k x b m t p n i l =
      record {
        box = b;
        materials = m;
        rows = v.rows;
        vertices = v.vertices;
        triangles = v.triangles;
        table = ap length t ∙ v.table;
        positions = ap length p ∙ v.positions;
        normals = ap length n ∙ v.normals;
        indices = ap length i ∙ v.indices;
        few_rows = v.few_rows;
        few_vertices = v.few_vertices;
        few_triangles = v.few_triangles;
        no_row_lem = λ e. l;
        last_vertices = subst (λ (xs : List ℕ). at xs (row_width * v.rows - vertices_back) ≤ v.vertices) (sym t) v.last_vertices;
        last_indices = subst (λ (xs : List ℕ). at xs (row_width * v.rows - indices_back) ≤ 3 * v.triangles) (sym t) v.last_indices;
      }

  -- a row more
  row_more : (x : Patterns) (place a b c bin : ℕ) → x.box ≡ s.sheet.box → x.materials ≡ s.sheet.materials
      → x.table ≡ s.sheet.table ++ a ∷ b ∷ c ∷ 0 ∷ 0 ∷ bin ∷ [] → x.positions ≡ s.sheet.positions
      → x.normals ≡ s.sheet.normals → x.indices ≡ s.sheet.indices
      → (d : Bool) → d || leb (row_width * s.limits.rows) (length s.sheet.table) ≡ false → Sized (record { limits = s.limits; refusal = 0; place = place; sheet = x })
  row_more x place a b c bin e m t p n i d l =
      let few : length s.sheet.table < row_width * s.limits.rows =
      leb-false (row_width * s.limits.rows) (length s.sheet.table) (or_right d (leb (row_width * s.limits.rows) (length s.sheet.table)) l) in
      let row : List ℕ = a ∷ b ∷ c ∷ 0 ∷ 0 ∷ bin ∷ [] in
      let three : row_width * (v.rows + 1) - vertices_back ≡ row_width * v.rows + 3 = omega arith in
      let four : row_width * (v.rows + 1) - indices_back ≡ row_width * v.rows + 4 = omega arith in
      record {
        box = ap length e ∙ v.box;
        materials = ap length m ∙ v.materials;
        rows = v.rows + 1;
        vertices = v.vertices;
        triangles = v.triangles;
        table = ap length t ∙ length-append s.sheet.table row ∙ omega (arith, v.table);
        positions = ap length p ∙ v.positions;
        normals = ap length n ∙ v.normals;
        indices = ap length i ∙ v.indices;
        few_rows = omega (arith, v.table);
        few_vertices = v.few_vertices;
        few_triangles = v.few_triangles;
        no_row_lem = λ z. absurd (omega arith);
        last_vertices = omega (arith, ap (λ (xs : List ℕ). at xs (row_width * (v.rows + 1) - vertices_back)) t ∙ row_at s.sheet.table row v.rows v.table vertices_back 3 three);
        last_indices = omega (arith, ap (λ (xs : List ℕ). at xs (row_width * (v.rows + 1) - indices_back)) t ∙ row_at s.sheet.table row v.rows v.table indices_back 4 four);
      }

  -- a row has been read where a vertex or a triangle may stand
  some_row : 3 < s.place → 0 < v.rows
  some_row h = go v.rows refl
    where
      go : (n : ℕ) → v.rows ≡ n → 0 < v.rows
      go zero e = absurd (omega (arith, v.no_row_lem e))
      go (suc n) e = omega arith

  -- the last row's counts, one of them raised
  module _ (row : 0 < v.rows) where
    abbrev table : List ℕ
    table = s.sheet.table

    raised_length : (back n : ℕ) → length (raised back n table) ≡ length table
    unfolding raised
    raised_length back n = length-set table (length table - back) (at table (length table - back) + n)

    raised_there : (back n : ℕ) → 0 < back → back ≤ row_width → at (raised back n table) (row_width * v.rows - back) ≡ at table (row_width * v.rows - back) + n
    unfolding raised
    raised_there back n p few =
        let e : length table ≡ row_width * v.rows = v.table in
        ap (λ (i : ℕ). at (set table (i - back) (at table (i - back) + n)) (row_width * v.rows - back)) e
        ∙ get_or-set_same table (row_width * v.rows - back) (at table (row_width * v.rows - back) + n) 0 (omega arith)

    raised_other : (back n other : ℕ) → (row_width * v.rows - other ≡ row_width * v.rows - back → ⊥) → at (raised back n table) (row_width * v.rows - other) ≡ at table (row_width * v.rows - other)
    unfolding raised
    raised_other back n other ne =
        ap (λ (i : ℕ). at (set table (i - back) (at table (i - back) + n)) (row_width * v.rows - other)) v.table
        ∙ get_or-set_other table (row_width * v.rows - back) (row_width * v.rows - other) (at table (row_width * v.rows - back) + n) 0 ne

  vertex_more : (ns : List ℕ) → length ns ≡ 6 → 3 < s.place → leb (3 * s.limits.vertices) (length s.sheet.positions) ≡ false
      → Sized (record { limits = s.limits; refusal = 0; place = 4; sheet = with_line Vertex ns s.sheet })
  unfolding with_line
  vertex_more ns six far l =
      let row : 0 < v.rows = some_row far in
      let few : length s.sheet.positions < 3 * s.limits.vertices = leb-false (3 * s.limits.vertices) (length s.sheet.positions) l in
      let front : length (take 3 ns) ≡ 3 = length-take-le 3 ns (omega arith) in
      let back : length (drop 3 ns) ≡ 3 = length-drop 3 ns ∙ omega arith in
      record {
        box = v.box;
        materials = v.materials;
        rows = v.rows;
        vertices = v.vertices + 1;
        triangles = v.triangles;
        table = raised_length row vertices_back 1 ∙ v.table;
        positions = length-append s.sheet.positions (take 3 ns) ∙ omega (arith, v.positions);
        normals = length-append s.sheet.normals (drop 3 ns) ∙ omega (arith, v.normals);
        indices = v.indices;
        few_rows = v.few_rows;
        few_vertices = omega (arith, v.positions);
        few_triangles = v.few_triangles;
        no_row_lem = λ z. absurd (omega arith);
        last_vertices = omega (arith, raised_there row vertices_back 1 (omega arith) (omega arith), v.last_vertices);
        last_indices = omega (arith, raised_other row vertices_back 1 indices_back (λ q. omega arith), v.last_indices);
      }

  triangle_more : (ns : List ℕ) → length ns ≡ 3 → 3 < s.place → ltb s.limits.indices (length s.sheet.indices + 3) ≡ false
      → Sized (record { limits = s.limits; refusal = 0; place = 5; sheet = with_line Triangle ns s.sheet })
  unfolding with_line
  triangle_more ns three far l =
      let row : 0 < v.rows = some_row far in
      let few : length s.sheet.indices + 3 ≤ s.limits.indices = ltb-false s.limits.indices (length s.sheet.indices + 3) l in
      record {
        box = v.box;
        materials = v.materials;
        rows = v.rows;
        vertices = v.vertices;
        triangles = v.triangles + 1;
        table = raised_length row indices_back 3 ∙ v.table;
        positions = v.positions;
        normals = v.normals;
        indices = length-append s.sheet.indices ns ∙ omega (arith, v.indices);
        few_rows = v.few_rows;
        few_vertices = v.few_vertices;
        few_triangles = omega (arith, v.indices);
        no_row_lem = λ z. absurd (omega arith);
        last_vertices = omega (arith, raised_other row indices_back 3 vertices_back (λ q. omega arith), v.last_vertices);
        last_indices = omega (arith, raised_there row indices_back 3 (omega arith) (omega arith), v.last_indices);
      }

  sized_take : (k : Kind) (ns : List ℕ) → length ns ≡ count_in (form k) → Passed (record { kind = k; numbers = ns }) s → Sized (take_up s (record { kind = k; numbers = ns }))
  unfolding take_up with_line count_in form numbers passes_limit
  sized_take Box ns c p = header Box (with_line Box ns s.sheet) c v.materials refl refl refl refl (omega arith)
  sized_take Sag ns c p = header Sag (with_line Sag ns s.sheet) v.box v.materials refl refl refl refl (omega arith)
  sized_take NoDefault ns c p = header NoDefault (with_line NoDefault ns s.sheet) v.box v.materials refl refl refl refl (omega arith)
  sized_take Default ns c p = header Default (with_line Default ns s.sheet) v.box v.materials refl refl refl refl (omega arith)
  sized_take Material ns c p = header Material (with_line Material ns s.sheet) v.box (length-set s.sheet.materials (at ns 0) (at ns 1 + 1) ∙ v.materials) refl refl refl refl (omega arith)
  sized_take Face ns c p = row_more (with_line Face ns s.sheet) 4 (at ns 0) (at ns 1) 0 0 refl refl refl refl refl refl (ltb s.limits.face (at ns 1)) p.limit
  sized_take FaceBin ns c p = row_more (with_line FaceBin ns s.sheet) 4 (at ns 0) (at ns 1) 0 (at ns 2) refl refl refl refl refl refl (ltb s.limits.face (at ns 1)) p.limit
  sized_take Vertex ns c p = vertex_more ns c (omega (arith, leb-true 4 s.place (and_left (leb 4 s.place) (leb s.place 4) p.order))) p.limit
  sized_take Triangle ns c p = triangle_more ns c (omega (arith, leb-true 4 s.place (and_left (leb 4 s.place) (leb s.place 5) p.order))) p.limit
  sized_take Fail ns c p = row_more (with_line Fail ns s.sheet) 6 (at ns 0) (at ns 1) (at ns 2) 0 refl refl refl refl refl refl (ltb s.limits.face (at ns 1)) p.limit
  sized_take FailBin ns c p = row_more (with_line FailBin ns s.sheet) 6 (at ns 0) (at ns 1) (at ns 2) (at ns 3) refl refl refl refl refl refl (ltb s.limits.face (at ns 1)) p.limit

  sized_form : (l : Line) → length l.numbers ≡ count_in (form l.kind) → Sized (with_form s l)
  unfolding with_form
  sized_form l c = go (eqb (line_refusal l s) 0) refl
    where
      go : (b : Bool) → eqb (line_refusal l s) 0 ≡ b → Sized (elim b as (λ x. State) [ true ↦ take_up s l | false ↦ refuse (line_refusal l s) s ])
      go true q = sized_take l.kind l.numbers c (passed l s (eqb-true (line_refusal l s) 0 q))
      go false q = sized_refuse (line_refusal l s) s v

  pub sized_line : (xs : List ℕ) → Sized (read_line s xs)
  unfolding read_line
  sized_line xs = go (eqb s.refusal 0) (line_of xs) refl
    where
      go : (b : Bool) (o : Option Line) → line_of xs ≡ o → Sized (elim b as (λ x. State) [ true ↦ elim o as (λ x. State) [ none ↦ refuse 51 s | some l ↦ with_form s l ] | false ↦ s ])
      go true none q = sized_refuse 51 s v
      go true (some l) q = sized_form l (line_count xs l q)
      go false o q = v

-- ---- a state of such sizes in the slices

-- at least as long as the slice was
onto_long : (n : ℕ) (xs former : List ℕ) → n ≤ length former → n ≤ length (onto xs former)
onto_long n xs former h = omega (arith, length-append xs (drop (length xs) former), length-drop (length xs) former)

-- what stands in the front
onto_at : (xs former : List ℕ) (i : ℕ) → i < length xs → at (onto xs former) i ≡ at xs i
onto_at xs former i h = get_or-append xs (drop (length xs) former) 0 i h

onto_front : (xs former : List ℕ) (n : ℕ) → length xs ≡ n → take n (onto xs former) ≡ xs
onto_front xs former n e = take_at xs (drop (length xs) former) n e

six_of : (xs : List ℕ) → length xs ≡ 6 → at xs 0 ∷ at xs 1 ∷ at xs 2 ∷ at xs 3 ∷ at xs 4 ∷ at xs 5 ∷ [] ≡ xs
six_of (a ∷ b ∷ c ∷ d ∷ e ∷ f ∷ []) h = refl
six_of [] h = absurd (omega arith)
six_of (a ∷ []) h = absurd (omega arith)
six_of (a ∷ b ∷ []) h = absurd (omega arith)
six_of (a ∷ b ∷ c ∷ []) h = absurd (omega arith)
six_of (a ∷ b ∷ c ∷ d ∷ []) h = absurd (omega arith)
six_of (a ∷ b ∷ c ∷ d ∷ e ∷ []) h = absurd (omega arith)
six_of (a ∷ b ∷ c ∷ d ∷ e ∷ f ∷ g ∷ xs) h = absurd (omega arith)

same_patterns : {b b' m m' t t' p p' n n' i i' : List ℕ} (sag default : ℕ) → b ≡ b' → m ≡ m' → t ≡ t' → p ≡ p' → n ≡ n' → i ≡ i'
    → ◌≡◌ {A = Patterns} (record { box = b; sag = sag; default = default; materials = m; table = t; positions = p; normals = n; indices = i })
    (record { box = b'; sag = sag; default = default; materials = m'; table = t'; positions = p'; normals = n'; indices = i' })
same_patterns sag default eb em et ep en ei = cc

module _ (l : Lent) (s : State) (room : RoomIn s.limits l) (few : of_bodies s.limits ≡ true) (v : Sized s) where
  -- The slices hold the state.
  pub state_over : state_of (over l s) ≡ s
  state_over =
      let x : Patterns = s.sheet in
      let rows : row_width * (length x.table / row_width) ≡ length x.table = omega (arith, v.table) in
      let vertices : 3 * (length x.positions / 3) ≡ length x.positions = omega (arith, v.positions) in
      let as_many : 3 * (length x.positions / 3) ≡ length x.normals = omega (arith, v.positions, v.normals) in
      ap (λ (y : Patterns). record { limits = s.limits; refusal = s.refusal; place = s.place; sheet = y })
      (same_patterns x.sag x.default (six_of x.box v.box) (onto_front x.materials l.materials (s.limits.face + 1) v.materials)
      (onto_front x.table l.table (row_width * (length x.table / row_width)) (sym rows)) (onto_front x.positions l.positions (3 * (length x.positions / 3)) (sym vertices))
      (onto_front x.normals l.normals (3 * (length x.positions / 3)) (sym as_many)) (onto_front x.indices l.indices (length x.indices) refl))

  last_over : (rows : ℕ) → rows ≡ v.rows → last_fits s.limits s.place rows (onto s.sheet.table l.table) ≡ true
  last_over zero e = lt-ltb s.place 4 (v.no_row_lem (sym e))
  last_over (suc n) e =
      let T : List ℕ = s.sheet.table in
      let long : length T ≡ row_width * suc n = v.table ∙ ap (λ (k : ℕ). row_width * k) (sym e) in
      let a : at (onto T l.table) (row_width * suc n - vertices_back) ≤ s.limits.vertices =
      omega (arith, onto_at T l.table (row_width * suc n - vertices_back) (omega arith), v.last_vertices, v.few_vertices, ap (λ (k : ℕ). at T (row_width * k - vertices_back)) e) in
      let b : at (onto T l.table) (row_width * suc n - indices_back) ≤ s.limits.indices =
      omega (arith, onto_at T l.table (row_width * suc n - indices_back) (omega arith), v.last_indices, v.few_triangles, ap (λ (k : ℕ). at T (row_width * k - indices_back)) e) in
      rw (
        ne_eqb (suc n) 0 (λ q. omega arith),
        le-leb (at (onto T l.table) (row_width * suc n - vertices_back)) s.limits.vertices a,
        le-leb (at (onto T l.table) (row_width * suc n - indices_back)) s.limits.indices b,
      )

  room_over : RoomIn s.limits (over l s)
  room_over =
      let x : Patterns = s.sheet in
      record {
        table = onto_long (row_width * s.limits.rows) x.table l.table room.table;
        positions = onto_long (3 * s.limits.vertices) x.positions l.positions room.positions;
        normals = onto_long (3 * s.limits.vertices) x.normals l.normals room.normals;
        indices = onto_long s.limits.indices x.indices l.indices room.indices;
        materials = onto_long (suc s.limits.face) x.materials l.materials room.materials;
      }

  -- They pass the test of room again.
  pub fits_over : fits (over l s) ≡ true
  unfolding fits_in in_limits
  fits_over =
      let x : Patterns = s.sheet in
      let rows : length x.table / row_width ≤ s.limits.rows = omega (arith, v.table, v.few_rows) in
      let vertices : length x.positions / 3 ≤ s.limits.vertices = omega (arith, v.positions, v.few_vertices) in
      let indices : length x.indices ≤ s.limits.indices = omega (arith, v.indices, v.few_triangles) in
      let whole : length x.indices % 3 ≡ 0 = omega (arith, v.indices) in
      rw (
        few,
        room_holds s.limits _ _ _ _ _ room_over,
        counts_hold s.limits (length x.table / row_width) (length x.positions / 3) (length x.indices) rows vertices indices,
        eq-eqb (length x.indices % 3) 0 whole,
      )
      (last_over (length x.table / row_width) (omega (arith, v.table)))

-- ---- line by line

-- the slices have room and hold a state of such sizes
pub record Kept (l : Lent) (s : State) : Type 0 where
  pub room : RoomIn s.limits l
  pub few : of_bodies s.limits ≡ true
  pub sized : Sized s
  pub same : state_of l ≡ s
  pub fit : fits l ≡ true

-- A line read into the slices is the line read, and the slices pass the test of room again.
pub kept_line : (l : Lent) (s : State) (xs : List ℕ) → Kept l s → Kept (read_into l xs) (read_line s xs)
unfolding read_into read_line
kept_line l s xs k = go (eqb s.refusal 0) refl
  where
    first : l.reader.refusal ≡ s.refusal
    first = ap (λ (t : State). t.refusal) k.same

    go : (b : Bool) → eqb s.refusal 0 ≡ b → Kept (read_into l xs) (read_line s xs)
    go true q =
        let into : read_into l xs ≡ over l (read_line s xs) = rw (ap (λ (n : ℕ). eqb n 0) first ∙ q, k.fit, read_into) (ap (λ (t : State). over l (read_line t xs)) k.same) in
        let next : State = read_line s xs in
        let sized : Sized next = sized_line s k.sized xs in
        let room : RoomIn next.limits l = subst (λ (m : Limits). RoomIn m l) (sym (line_limits s xs)) k.room in
        let few : of_bodies next.limits ≡ true = ap of_bodies (line_limits s xs) ∙ k.few in
        subst (λ (m : Lent). Kept m next) (sym into) (record
        { room = room_over l next room few sized; few = few; sized = sized; same = state_over l next room few sized; fit = fits_over l next room few sized })
    go false q =
        let into : read_into l xs ≡ l = rw (ap (λ (n : ℕ). eqb n 0) first ∙ q, read_into) in
        let line : read_line s xs ≡ s = rw (q, read_line) in
        subst (λ (m : Lent). Kept m (read_line s xs)) (sym into) (subst (λ (t : State). Kept l t) (sym line) k)

module _ (limits : Limits) (T P N I M : List ℕ) (room : SheetRoom limits (length T) (length P) (length N) (length I) (length M)) (few : of_bodies limits ≡ true) where
  fits_begin : fits (lent (reader_of (start limits)) T P N I M) ≡ true
  unfolding fits_in in_limits start
  fits_begin = rw (few, room_holds limits _ _ _ _ _ room, counts_hold limits 0 0 0 (omega arith) (omega arith) (omega arith))

  -- The slices that `begin` leaves hold the state before the first line.
  pub kept_begin : take (limits.face + 1) M ≡ replicate (limits.face + 1) 0 → Kept (lent (reader_of (start limits)) T P N I M) (start limits)
  unfolding start
  kept_begin e =
      let l : Lent = lent (reader_of (start limits)) T P N I M in
      let same : state_of l ≡ start limits = ap (λ (ms : List ℕ). record {
        limits = limits;
        refusal = 0;
        place = 0;
        sheet = record
            { box = replicate 6 0; sag = 0; default = 0; materials = ms; table = []; positions = []; normals = []; indices = [] };
      }) e in
      record { room = room; few = few; sized = sized_start limits; same = same; fit = fits_begin }

-- The end of the sheet is the definition's.
pub ended_state : (r : Reader) (T P N I M rest : List ℕ) → state_of (lent (ended r rest) T P N I M) ≡ finished (state_of (lent r T P N I M)) rest
unfolding ended finished refuse
ended_state r T P N I M rest = go (eqb r.refusal 0 && not (eqb (length rest) 0 && leb 3 r.place))
  where
    go : (b : Bool) → state_of (lent (cond b (refused 51 r) r) T P N I M) ≡ cond b (refuse 51 (state_of (lent r T P N I M))) (state_of (lent r T P N I M))
    go true = refl
    go false = refl
