-- What the test of room gives. Assumes nothing.
use Rattle.std.specs.Prelude.{Bool, true, false, ◌&&◌, cond, List, ◌≡◌, refl, ℕ, ◌-◌, ◌*◌, ◌%◌, ◌≤◌, ◌<◌, leb, ltb, eqb, length}
use Rattle.std.proofs.Common.{sym, ◌∙◌, ap, arith, eq-eqb, ne_eqb, leb-true, ltb-true, eqb-true, length-take-le}
use Rattle.body_rows.specs.Body.{row_width, vertices_back, indices_back}
use Rattle.sheet_reader_state.specs.declared.Reader.{Reader}
use Rattle.sheet_line_order.specs.declared.Limits.{Limits}
use Rattle.sheet_line_order.specs.Reading.{at}
use Rattle.sheet_line_order.specs.Refusals.{SheetCounts}
use Rattle.sheet_reader_state.specs.Slices.{fits, fits_in, in_limits, last_fits, lent, patterns_of}
use Rattle.sheet_reader_state.specs.Limits.{Limited, limited}
use Rattle.lists.specs.Both.{and_left, and_right}

-- without a row no line of a face has been read
pub last_none : (limits : Limits) (place rows : ℕ) (table : List ℕ) → rows ≡ 0 → ltb place 4 ≡ last_fits limits place rows table
last_none limits place rows table e = rw (eq-eqb rows 0 e)

-- the reader and its slices are within the limits, and it counts whole triangles and a last row that fits
pub record Held (s : Reader) (T P N I M : List ℕ) : Type 0 where
  pub limits : Limited s (length T) (length P) (length N) (length I) (length M)
  pub whole : s.indices % 3 ≡ 0
  pub last : last_fits s.limits s.place s.rows T ≡ true

pub held_of : (s : Reader) (T P N I M : List ℕ) → fits (lent s T P N I M) ≡ true → Held s T P N I M
unfolding fits_in
held_of s T P N I M e =
    let rest : eqb (s.indices % 3) 0 && last_fits s.limits s.place s.rows T ≡ true = and_right (in_limits s (length T) (length P) (length N) (length I) (length M)) _ e in
    record {
      limits = limited s (length T) (length P) (length N) (length I) (length M) (and_left _ _ e);
      whole = eqb-true (s.indices % 3) 0 (and_left _ _ rest);
      last = and_right
          (eqb (s.indices % 3) 0) _ rest;
    }

module _ (s : Reader) (T P N I M : List ℕ) (h : Held s T P N I M) where
  pub some_row : 3 < s.place → 0 < s.rows
  some_row l = go (eqb s.rows 0) refl
    where
      go : (b : Bool) → eqb s.rows 0 ≡ b → 0 < s.rows
      go true q =
          let e : ltb s.place 4 ≡ true = last_none s.limits s.place s.rows T (eqb-true s.rows 0 q) ∙ h.last in
          absurd (omega (arith, ltb-true s.place 4 e))
      go false q = let n : ¬ (s.rows ≡ 0) = ne_of q in omega arith
        where
          ne_of : eqb s.rows 0 ≡ false → ¬ (s.rows ≡ 0)
          ne_of q e = let t : true ≡ false = sym (eq-eqb s.rows 0 e) ∙ q in let z : ◌≡◌ {A = ℕ} 0 1 = cc in omega arith

  both : 0 < s.rows → leb (at T (row_width * s.rows - vertices_back)) s.limits.vertices && leb (at T (row_width * s.rows - indices_back)) s.limits.indices ≡ true
  both l =
      sym (ap (λ (b : Bool). cond b (ltb s.place 4) (leb (at T (row_width * s.rows - vertices_back)) s.limits.vertices && leb (at T (row_width * s.rows - indices_back)) s.limits.indices))
      (ne_eqb s.rows 0 (λ e. omega arith))) ∙ h.last

  pub last_vertex : 0 < s.rows → at T (row_width * s.rows - vertices_back) ≤ s.limits.vertices
  last_vertex l =
      leb-true (at T (row_width * s.rows - vertices_back)) s.limits.vertices
      (and_left (leb (at T (row_width * s.rows - vertices_back)) s.limits.vertices) (leb (at T (row_width * s.rows - indices_back)) s.limits.indices) (both l))

  pub last_index : 0 < s.rows → at T (row_width * s.rows - indices_back) ≤ s.limits.indices
  last_index l =
      leb-true (at T (row_width * s.rows - indices_back)) s.limits.indices
      (and_right (leb (at T (row_width * s.rows - vertices_back)) s.limits.vertices) (leb (at T (row_width * s.rows - indices_back)) s.limits.indices) (both l))

  pub counts_of : SheetCounts s.rows s.vertices s.indices (patterns_of (lent s T P N I M))
  counts_of = record {
    table = length-take-le (row_width * s.rows) T (omega (arith, h.limits.room.table, h.limits.rows));
    positions = length-take-le (3 * s.vertices) P (omega (arith, h.limits.room.positions, h.limits.vertices));
    indices = length-take-le s.indices I (omega (arith, h.limits.room.indices, h.limits.counted));
  }
