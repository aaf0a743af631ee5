-- The views of a body's triangles row by row, seen in a work area that the rows before wrote only entries to. Assumes nothing.
use Rattle.std.specs.Prelude.{◌≡◌, ℕ, ◌+◌, ◌-◌, ◌<◌, ◌≤◌, length, Float}
use Rattle.std.proofs.Math.Path.{sym, ap}
use Rattle.std.proofs.Common.{◌∙◌, arith, drop-drop}
use mathlib.Core.List.{List, ◌∷◌}
use Rattle.std.proofs.Math.ListN.{take, drop}
use Rattle.lists.specs.Stretches.{stretch_front, stretch_kept, front_less}
use Rattle.body_rows.specs.Body.{Row, triangles_of, rows_of}
use Rattle.body_rows.specs.Rows.{row_at, vertices_before, indices_before, rows_here}
use Rattle.body_rows.specs.Patches.{indices_room, vertices_room}
use Rattle.stitch_count.specs.Views.{View, row_views, body_views}
use Rattle.stitch_count.specs.Counting.{views_in, BodyReady}

-- the views of the rows from row k on, whose vertices start at `base` and whose indices at i
abbrev pub views_from : List Float → List ℕ → Float → ℕ → ℕ → ℕ → ℕ → ℕ → ℕ → List Row → List ℕ → List (List View)
views_from ps is sag v list count flags base i rows W = body_views sag ps (take v W) (take count (drop list W)) base (drop i (take (length is) (drop flags W))) rows (drop i is)

module _ {table : List ℕ} {ps : List Float} {is : List ℕ} {sag beyond : Float} {v list count at ts flags order boxes top : ℕ} {W : List ℕ}
    (g : BodyReady table ps is sag beyond v list count at ts flags order boxes top W) (k : ℕ) (more : k < length (rows_of table)) {vertices : ℕ} (ev : vertices ≡ (row_at table k).vertices) where
  -- row k's vertices end within all
  pub vertices_within : {base : ℕ} → base ≡ vertices_before (rows_of table) k → base + vertices ≤ v
  unfolding row_at
  vertices_within e = omega (arith, ev, vertices_room (rows_of table) k more, g.vertices)

  module _ {i end : ℕ} (e : i ≡ indices_before (rows_of table) k) (ee : end ≡ i + (row_at table k).indices) where
    -- so do its indices
    pub indices_within : end ≤ length is
    unfolding row_at
    indices_within = omega (arith, indices_room (rows_of table) k more, g.all)

    module _ (base : ℕ) (E : List ℕ) (front : take at E ≡ take at W) where
      -- the row's views
      views_are : views_in ps is sag v list count flags base i end E
          ≡ row_views sag ps (take v W) (take count (drop list W)) base (take (row_at table k).indices (drop i (take (length is) (drop flags W))))
          (triangles_of (take (row_at table k).indices (drop i is)))
      views_are =
          let size : end - i ≡ (row_at table k).indices = omega arith in
          let names : take v E ≡ take v W = front_less v at W E front (omega (arith, g.stands.listed.behind, g.stands.flags_behind, g.stands.behind)) in
          let listed : take count (drop list E) ≡ take count (drop list W) = stretch_kept list count at W E front (omega (arith, g.stands.flags_behind, g.stands.behind)) in
          let flagged : take (end - i) (drop (flags + i) E) ≡ take (row_at table k).indices (drop i (take (length is) (drop flags W))) =
          stretch_kept (flags + i) (end - i) at W E front (omega (arith, indices_within, g.stands.behind))
          ∙ ap (take (end - i)) (sym (drop-drop i flags W))
          ∙ ap (λ (x : ℕ). take x (drop i (drop flags W))) size
          ∙ sym (stretch_front i (row_at table k).indices (length is) (drop flags W) (omega (arith, indices_within))) in
          λ j. row_views sag ps (names j) (listed j) base (flagged j) (triangles_of (take (size j) (drop i is)))

      -- the views from row k on begin with them
      pub views_here : views_from ps is sag v list count flags base i (drop k (rows_of table)) W
          ≡ views_in ps is sag v list count flags base i end E ∷ views_from ps is sag v list count flags (base + vertices) end (drop (k + 1) (rows_of table)) W
      unfolding body_views
      views_here =
          let FL = take (length is) (drop flags W) in
          let r = row_at table k in
          ap (λ (rows : List Row). body_views sag ps (take v W) (take count (drop list W)) base (drop i FL) rows (drop i is)) (rows_here table k more)
          ∙ (λ j. sym views_are j ∷ body_views sag ps (take v W) (take count (drop list W)) (base + sym ev j) ((drop-drop r.indices i FL ∙ ap (λ (x : ℕ). drop x FL) (sym ee)) j)
          (drop (k + 1) (rows_of table)) ((drop-drop r.indices i is ∙ ap (λ (x : ℕ). drop x is) (sym ee)) j))
