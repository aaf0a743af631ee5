-- Laws of counting the rows of a body. Assumes nothing.
use mathlib.Core.Path.{◌≡◌, refl, sym, ap, ◌∙◌}
use mathlib.Core.Bool.{cond}
use mathlib.Core.List.{List, [], ◌∷◌}
use mathlib.Core.Option.{Option, none, some}
use Prim.Native.Nat.{ℕ, suc, ◌+◌, ◌*◌, ◌/◌, ◌≤◌, ◌<◌}
use native.Mathlib.Nat.{zero-add, add-zero}
use native.Mathlib.Omega.{arith}
use lib.ListN.{length, drop, length-drop, drop_of_length-le}
use lib.Seq.{length-take-le}
use lib.Ieee.{Float}
use Rattle.lists.specs.Lists.{count_if, filter, sum_of}
use Rattle.body_rows.specs.Body.{Row, Patch, rows_of, patches_of, triangles_of}
use Rattle.body_rows.specs.Rows.{row_at}
use Rattle.body_rows.specs.Patches.{patch_from, shapes, length_patches}
use Rattle.patch_geometry.specs.declared.Aabb.{Aabb}
use Rattle.mesh_verdicts.specs.declared.Failure.{Failure}
use Rattle.mesh_verdicts.specs.declared.Failure.TheVariants.{Empty, Upstream, Escape}
use Rattle.mesh_verdicts.specs.Failures.{failure_of}
use Rattle.mesh_acceptance.specs.RestLaws.{rest_of, rest_here}
use Rattle.mesh_acceptance.specs.RowStarts.{AtRow, at_first, at_next, vertices_in, indices_in}
use Rattle.report_definition.specs.Page.{is_accepted, is_empty, is_upstream, is_escape, accepted_of, body_sums}
use Rattle.report_definition.specs.Limits.{count_low, filter_sum, triangles_rows, vertices_rows}
use Rattle.report_page.specs.declared.counts.RowCounts.{RowCounts}
use Rattle.report_page.specs.Counts.{CountReady, Countable, FewCounts, accepted_with, counts_of, counts_with, failed_with, no_counts}

-- ---- one row

module _ (c : RowCounts) where
  -- a row without triangles
  pub failed_empty : {f : Failure} → f ≡ Empty
      → record { accepted = c.accepted; empty = c.empty + 1; upstream = c.upstream; escaped = c.escaped; triangles = c.triangles; vertices = c.vertices } ≡ failed_with f c
  failed_empty e = ap (λ (f : Failure). failed_with f c) (sym e)

  -- a row that failed upstream
  pub failed_upstream : {f : Failure} {n : ℕ} → f ≡ Upstream n
      → record { accepted = c.accepted; empty = c.empty; upstream = c.upstream + 1; escaped = c.escaped; triangles = c.triangles; vertices = c.vertices } ≡ failed_with f c
  failed_upstream e = ap (λ (f : Failure). failed_with f c) (sym e)

  -- a row that escapes
  pub failed_escape : {f : Failure} {reach span : Float} → f ≡ Escape reach span
      → record { accepted = c.accepted; empty = c.empty; upstream = c.upstream; escaped = c.escaped + 1; triangles = c.triangles; vertices = c.vertices } ≡ failed_with f c
  failed_escape e = ap (λ (f : Failure). failed_with f c) (sym e)

  -- a row that is accepted
  pub row_yes : {o : Option Failure} {n v m w : ℕ} {r : RowCounts} → none ≡ o → n ≡ m → v ≡ w → r ≡ accepted_with (n / 3) v c → r ≡ counts_with o (m / 3) w c
  row_yes e f g h = h ∙ (λ j. counts_with (e j) (f j / 3) (g j) c)

  -- a row that failed
  pub row_no : {o : Option Failure} {f : Failure} (m w : ℕ) {r : RowCounts} → some f ≡ o → r ≡ failed_with f c → r ≡ counts_with o m w c
  row_no m w e h = h ∙ ap (λ (o : Option Failure). counts_with o m w c) e

-- ---- some rows

-- the counts of two, number by number
abbrev both : RowCounts → RowCounts → RowCounts
both c d =
    record {
      accepted = c.accepted + d.accepted;
      empty = c.empty + d.empty;
      upstream = c.upstream + d.upstream;
      escaped = c.escaped + d.escaped;
      triangles = c.triangles + d.triangles;
      vertices = c.vertices + d.vertices;
    }

-- what some patches count
abbrev counted : Aabb → List Patch → RowCounts
counted box patches = counts_of (body_sums box patches 0)

-- three indices a triangle
triangles_third : (is : List ℕ) → length (triangles_of is) ≡ length is / 3
unfolding triangles_of
triangles_third [] = refl
triangles_third (a ∷ []) = refl
triangles_third (a ∷ b ∷ []) = refl
triangles_third (a ∷ b ∷ c ∷ is) = let e = triangles_third is in omega arith

-- no patches count nothing
counted_none : (box : Aabb) (d : RowCounts) → both d (counted box []) ≡ d
unfolding body_sums accepted_of count_if filter sum_of
counted_none box d =
    λ j. record {
      accepted = add-zero d.accepted j;
      empty = add-zero d.empty j;
      upstream = add-zero d.upstream j;
      escaped = add-zero d.escaped j;
      triangles = add-zero d.triangles j;
      vertices = add-zero d.vertices j;
    }

-- the first patch, then the rest
counted_next : (box : Aabb) (p : Patch) (ps : List Patch) (c : RowCounts)
    → both (counts_with (failure_of box p) (length (triangles_of p.indices)) p.row.vertices c) (counted box ps) ≡ both c (counted box (p ∷ ps))
unfolding body_sums accepted_of count_if filter sum_of
counted_next box p ps c = go (failure_of box p)
  where
    t : ℕ
    t = length (triangles_of p.indices)

    v : ℕ
    v = p.row.vertices

    rest : List Patch
    rest = filter (λ q. is_accepted (failure_of box q)) ps

    after : Option Failure → RowCounts
    after o =
        record {
          accepted = cond (is_accepted o) (suc (counted box ps).accepted) (counted box ps).accepted;
          empty = cond (is_empty o) (suc (counted box ps).empty) (counted box ps).empty;
          upstream = cond (is_upstream o) (suc (counted box ps).upstream) (counted box ps).upstream;
          escaped = cond (is_escape o) (suc (counted box ps).escaped) (counted box ps).escaped;
          triangles = sum_of (λ q. length (triangles_of q.indices)) (cond (is_accepted o) (p ∷ rest) rest);
          vertices = sum_of (λ q. q.row.vertices) (cond (is_accepted o) (p ∷ rest) rest);
        }

    one : (n m : ℕ) → n + 1 + m ≡ n + suc m
    one n m = omega arith

    more : (n m k : ℕ) → n + m + k ≡ n + (m + k)
    more n m k = omega arith

    go : (o : Option Failure) → both (counts_with o t v c) (counted box ps) ≡ both c (after o)
    go none =
        λ j. record {
          accepted = one c.accepted (counted box ps).accepted j;
          empty = c.empty + (counted box ps).empty;
          upstream = c.upstream + (counted box ps).upstream;
          escaped = c.escaped + (counted box ps).escaped;
          triangles = more c.triangles t (counted box ps).triangles j;
          vertices = more c.vertices v (counted box ps).vertices j;
        }
    go (some Empty) =
        λ j. record {
          accepted = c.accepted + (counted box ps).accepted;
          empty = one c.empty (counted box ps).empty j;
          upstream = c.upstream + (counted box ps).upstream;
          escaped = c.escaped + (counted box ps).escaped;
          triangles = c.triangles + (counted box ps).triangles;
          vertices = c.vertices + (counted box ps).vertices;
        }
    go (some (Upstream n)) =
        λ j. record {
          accepted = c.accepted + (counted box ps).accepted;
          empty = c.empty + (counted box ps).empty;
          upstream = one c.upstream (counted box ps).upstream j;
          escaped = c.escaped + (counted box ps).escaped;
          triangles = c.triangles + (counted box ps).triangles;
          vertices = c.vertices + (counted box ps).vertices;
        }
    go (some (Escape reach span)) =
        λ j. record {
          accepted = c.accepted + (counted box ps).accepted;
          empty = c.empty + (counted box ps).empty;
          upstream = c.upstream + (counted box ps).upstream;
          escaped = one c.escaped (counted box ps).escaped j;
          triangles = c.triangles + (counted box ps).triangles;
          vertices = c.vertices + (counted box ps).vertices;
        }

-- ---- the loop

-- the rows before row k are counted
pub record Counting (table : List ℕ) (ps : List Float) (is : List ℕ) (box : Aabb) (base i k : ℕ) (c : RowCounts) : Type 0 where
  pub here : AtRow table base i k
  pub are : both c (counted box (rest_of table ps [] is k base i)) ≡ counted box (shapes table ps is)

module _ {table : List ℕ} {ps : List Float} {is : List ℕ} {box : Aabb} where
  -- none is yet
  pub counting_none : {c : RowCounts} → c.accepted ≡ 0 → c.empty ≡ 0 → c.upstream ≡ 0 → c.escaped ≡ 0 → c.triangles ≡ 0 → c.vertices ≡ 0 → Counting table ps is box 0 0 0 c
  counting_none {c} ea ee eu es et ev = record {
    here = at_first table;
    are = ap (λ (d : RowCounts). both d (counted box (shapes table ps is))) e ∙ zeros (counted box (shapes table ps is));
  }
    where
      e : c ≡ no_counts
      e = λ j. record { accepted = ea j; empty = ee j; upstream = eu j; escaped = es j; triangles = et j; vertices = ev j }

      zeros : (d : RowCounts) → both no_counts d ≡ d
      zeros d =
          λ j. record {
            accepted = zero-add d.accepted j;
            empty = zero-add d.empty j;
            upstream = zero-add d.upstream j;
            escaped = zero-add d.escaped j;
            triangles = zero-add d.triangles j;
            vertices = zero-add d.vertices j;
          }

  module _ (g : Countable table ps is) {base i k : ℕ} {c : RowCounts} (a : Counting table ps is box base i k c) where
    -- what is counted so far is within the limits
    counting_few : FewCounts c
    unfolding body_sums accepted_of
    counting_few =
        let rows = rows_of table in
        let patches = shapes table ps is in
        let few = g.rows.few in
        let n = length_patches rows ps [] is in
        record {
          accepted = omega (arith, few, n, ap (λ (d : RowCounts). d.accepted) a.are, count_low (λ p. is_accepted (failure_of box p)) patches);
          empty = omega (arith, few, n, ap (λ (d : RowCounts). d.empty) a.are, count_low (λ p. is_empty (failure_of box p)) patches);
          upstream = omega (arith, few, n, ap (λ (d : RowCounts). d.upstream) a.are, count_low (λ p. is_upstream (failure_of box p)) patches);
          escaped = omega (arith, few, n, ap (λ (d : RowCounts). d.escaped) a.are, count_low (λ p. is_escape (failure_of box p)) patches);
          triangles =
              omega (
                arith,
                g.few_indices,
                ap (λ (d : RowCounts). d.triangles) a.are,
                triangles_rows rows ps [] is,
                filter_sum (λ (p : Patch). length (triangles_of p.indices)) (λ p. is_accepted (failure_of box p)) patches,
              );
          vertices =
              omega (
                arith,
                g.few_vertices,
                ap (λ (d : RowCounts). d.vertices) a.are,
                vertices_rows rows ps [] is,
                filter_sum (λ (p : Patch). p.row.vertices) (λ p. is_accepted (failure_of box p)) patches,
              );
        }

    module _ (l : k < length (rows_of table)) where
      -- row k's indices are there
      room : i + (row_at table k).indices ≤ length is
      room = omega (arith, g.all_indices_lem, indices_in a.here l)

      -- what counting row k asks
      pub counting_ready : CountReady table ps is k base i c
      counting_ready =
          record {
            judgeable = record {
              row = l;
              positions_in = omega (arith, g.all_positions, vertices_in a.here l);
              indices_in = room;
            };
            few = counting_few;
          }

      -- row k is counted
      pub counting_more : {r : RowCounts} {vertices indices : ℕ}
          → r ≡ counts_with (failure_of box (patch_from (row_at table k) ps [] is base i)) ((row_at table k).indices / 3) (row_at table k).vertices c
          → vertices ≡ (row_at table k).vertices → indices ≡ (row_at table k).indices
          → Counting table ps is box (base + vertices) (i + indices) (k + 1) r
      counting_more {r} {vertices} {indices} e v n =
          let p = patch_from (row_at table k) ps [] is base i in
          let m = (row_at table k).indices in
          let long : length p.indices ≡ m = length-take-le m (drop i is) (omega (arith, length-drop i is, room)) in
          let third : m / 3 ≡ length (triangles_of p.indices) = ap (λ (x : ℕ). x / 3) (sym long) ∙ sym (triangles_third p.indices) in
          record {
            here = at_next a.here l v n;
            are =
                (λ j. both (e j) (counted box (rest_of table ps [] is (k + 1) (base + v j) (i + n j))))
                ∙ ap (λ (x : ℕ). both (counts_with (failure_of box p) x (row_at table k).vertices c)
                (counted box (rest_of table ps [] is (k + 1) (base + (row_at table k).vertices) (i + (row_at table k).indices)))) third
                ∙ counted_next box p (rest_of table ps [] is (k + 1) (base + (row_at table k).vertices) (i + (row_at table k).indices)) c
                ∙ ap (λ (qs : List Patch). both c (counted box qs)) (sym (rest_here table ps [] is k base i l))
                ∙ a.are;
          }

    -- all are
    pub counting_all : length (rows_of table) ≤ k → c ≡ counted box (shapes table ps is)
    unfolding patches_of
    counting_all l =
        let none_left : rest_of table ps [] is k base i ≡ [] =
        ap (λ (rows : List Row). patches_of rows (drop (3 * base) ps) (drop (3 * base) []) (drop i is)) (drop_of_length-le (rows_of table) l) in
        sym (counted_none box c) ∙ ap (λ (qs : List Patch). both c (counted box qs)) (sym none_left) ∙ a.are
