-- Laws of adding up the accepted rows. Assumes nothing.
use mathlib.Core.Path.{◌≡◌, refl, sym, ap, ◌∙◌}
use mathlib.Core.List.{List, [], ◌∷◌}
use Prim.Native.Nat.{ℕ, zero, suc, ◌+◌, ◌≤◌, ◌<◌}
use native.Mathlib.Omega.{arith}
use lib.ListN.{length, get_or, drop, drop_of_length-le}
use Rattle.lists.specs.Lists.{sum_of}
use Rattle.body_rows.specs.Body.{Row, rows_of, all_vertices, all_indices}
use Rattle.body_rows.specs.Rows.{row_at, rows_here}
use Rattle.mesh_judge.specs.declared.totals.Totals.{Totals}
use Rattle.mesh_acceptance.specs.Judged.{accepted_rows, decisions_in}
use Rattle.mesh_acceptance.specs.JudgedLaws.{accepted_few, accepted_fewer, accepted_most}
use Rattle.mesh_acceptance.specs.RestLaws.{decisions_here, rows_no, rows_yes, rows_none}
use Rattle.mesh_judge.specs.Totals.{totals_with, RowAddable, TotalsReady, Totalled}

-- a row whose decision is 0 adds nothing
pub total_no : (d : ℕ) (r : Row) (t : Totals) → d ≡ 0 → t ≡ totals_with d r t
unfolding totals_with
total_no zero r t e = refl
total_no (suc m) r t e = absurd (omega arith)

-- another adds its counts
pub total_yes : (d : ℕ) (r : Row) (t : Totals) {v n : ℕ} → (d ≡ 0 → ⊥) → v ≡ r.vertices → n ≡ r.indices
    → record { rows = t.rows + 1; vertices = t.vertices + v; indices = t.indices + n } ≡ totals_with d r t
unfolding totals_with
total_yes zero r t h e f = absurd (h refl)
total_yes (suc m) r t h e f = λ j. record { rows = t.rows + 1; vertices = t.vertices + e j; indices = t.indices + f j }

-- the accepted rows from row k on
abbrev left : List ℕ → List ℕ → ℕ → ℕ → List Row
left table W at k = accepted_rows (drop k (decisions_in table W at)) (drop k (rows_of table))

-- the rows before row k are added up
pub record Totalling (table W : List ℕ) (at k : ℕ) (t : Totals) : Type 0 where
  pub low : k ≤ length (rows_of table)
  pub rows_are : t.rows + length (left table W at k) ≡ length (accepted_rows (decisions_in table W at) (rows_of table))
  pub vertices_are : t.vertices + all_vertices (left table W at k) ≡ all_vertices (accepted_rows (decisions_in table W at) (rows_of table))
  pub indices_are : t.indices + all_indices (left table W at k) ≡ all_indices (accepted_rows (decisions_in table W at) (rows_of table))

-- none is yet
pub totalling_none : (table W : List ℕ) (at : ℕ) {t : Totals} → (t.rows ≡ 0) × ((t.vertices ≡ 0) × (t.indices ≡ 0)) → Totalling table W at 0 t
totalling_none table W at e =
    record { low = omega arith; rows_are = omega (arith, e.0); vertices_are = omega (arith, e.1.0); indices_are = omega (arith, e.1.1) }

module _ {table W : List ℕ} {at : ℕ} (g : TotalsReady table W at) {k : ℕ} {t : Totals} (c : Totalling table W at k t) where
  -- what adding row k asks
  pub totalling_ready : k < length (rows_of table) → RowAddable table W at k t
  totalling_ready l =
      record {
        row = l;
        word = omega (arith, g.room);
        few_rows = omega (arith, c.rows_are, accepted_most (decisions_in table W at) (rows_of table), g.rows.few);
        few_vertices = omega (arith, c.vertices_are, accepted_few (decisions_in table W at) (rows_of table), g.few_vertices);
        few_indices = omega (arith, c.indices_are, accepted_fewer (decisions_in table W at) (rows_of table), g.few_indices);
      }

  -- row k is added
  pub totalling_more : {u : Totals} → k < length (rows_of table) → u ≡ totals_with (get_or W (at + k) 0) (row_at table k) t → Totalling table W at (k + 1) u
  unfolding totals_with all_vertices all_indices sum_of
  totalling_more {u} l e = go (get_or W (at + k) 0) (decisions_here table W at k l g.room) e
    where
      go : (d : ℕ) → drop k (decisions_in table W at) ≡ d ∷ drop (k + 1) (decisions_in table W at) → u ≡ totals_with d (row_at table k) t → Totalling table W at (k + 1) u
      go zero h f =
          let q : left table W at k ≡ left table W at (k + 1) = rows_no h (rows_here table k l) refl in
          record {
            low = omega arith;
            rows_are = (λ j. (f j).rows + length (sym q j)) ∙ c.rows_are;
            vertices_are = (λ j. (f j).vertices + all_vertices (sym q j)) ∙ c.vertices_are;
            indices_are = (λ j. (f j).indices + all_indices (sym q j)) ∙ c.indices_are;
          }
      go (suc m) h f =
          let q : left table W at k ≡ row_at table k ∷ left table W at (k + 1) = rows_yes (suc m) h (rows_here table k l) (λ z. absurd (omega arith)) in
          record {
            low = omega arith;
            rows_are = omega (arith, ap (λ (x : Totals). x.rows) f, ap length q, c.rows_are);
            vertices_are = omega (arith, ap (λ (x : Totals). x.vertices) f, ap all_vertices q, c.vertices_are);
            indices_are = omega (arith, ap (λ (x : Totals). x.indices) f, ap all_indices q, c.indices_are);
          }

  -- all are
  pub totalling_all : length (rows_of table) ≤ k → Totalled table W at t
  unfolding accepted_rows all_vertices all_indices sum_of
  totalling_all l =
      let e : left table W at k ≡ [] =
      ap (λ (rows : List Row). accepted_rows (drop k (decisions_in table W at)) rows) (drop_of_length-le (rows_of table) l) ∙ rows_none (drop k (decisions_in table W at)) in
      record {
        rows_are = omega (arith, ap length e, c.rows_are);
        vertices_are = omega (arith, ap all_vertices e, c.vertices_are);
        indices_are = omega (arith, ap all_indices e, c.indices_are);
      }
