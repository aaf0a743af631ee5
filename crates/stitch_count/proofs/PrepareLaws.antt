-- Laws of making the work area ready. Assumes nothing.
use mathlib.Core.Path.{◌≡◌, refl, sym, ap, ◌∙◌}
use mathlib.Core.List.{List, [], ◌∷◌, map}
use Prim.Native.Nat.{ℕ, ◌+◌, ◌*◌, ◌<◌, ◌≤◌}
use native.Mathlib.Omega.{arith}
use lib.ListN.{length, take, drop}
use lib.Ieee.{Float}
use Rattle.lists.specs.Stretches.{stretch_kept, front_less, rest_less}
use Rattle.lists.specs.Lists.{sum_of}
use Rattle.point_rules.specs.Rule.{names}
use Rattle.point_rules.specs.Points.{key}
use Rattle.join_definition.specs.Join.{joined}
use Rattle.body_rows.specs.Body.{Row, rows_of, all_indices}
use Rattle.stitch_sag.specs.Beyond.{Beyond}
use Rattle.stitch_loose_points.specs.Listed.{body_vertices, listed_kept}
use Rattle.stitch_loose_points.specs.Open.{Marked, body_uses, flag_of}
use Rattle.stitch_gather.specs.Gathering.{Gatherable, Gathered}
use Rattle.stitch_count.specs.Counting.{Stands, BodyReady}
use Rattle.stitch_count.specs.SearchOrder.{OrderReady, OrderMade}
use Rattle.stitch_count.specs.Prepared.{Preparable, Prepared}
use Rattle.stitch_count.proofs.BodyViewLaws.{stretch_same}
use Rattle.edge_uses.specs.Area.{AreaReady}

-- an index is of a row
index_row : (rows : List Row) {m : ℕ} → 0 < all_indices rows → length rows ≡ m → 1 ≤ m
unfolding all_indices sum_of
index_row [] a e = absurd (omega arith)
index_row (r ∷ rows) a e = omega arith

module _ {table : List ℕ} {ps : List Float} {is W : List ℕ} {v m : ℕ} (q : Preparable table ps is W v m) where
  abbrev g : AreaReady table ps is W v m
  g = q.area

  module _ {n list flags : ℕ} (en : n ≡ length is) (el : list ≡ 4 * v + 4 * m) (ef : flags ≡ list + 3 * n) {X : List ℕ} (k : Marked table ps is v m W X) (ex : length X ≡ length W) where
    -- the loose vertices can be gathered
    pub loose_gatherable : Gatherable table is v list flags X
    loose_gatherable =
        record {
          rows = g.body.rows;
          vertices = g.body.vertices;
          all = g.body.all_indices_lem;
          few = g.body.few_indices;
          few_vertices = g.body.few_vertices;
          threes = g.body.threes;
          inside = g.body.inside;
          points = k.points ∙ ap joined (sym k.names);
          behind = omega arith;
          apart = omega arith;
          room = omega (arith, g.enough);
        }

    -- a loose vertex is of a row
    some_row : {count : ℕ} → count ≤ length is → 0 < count → 1 ≤ m
    some_row {count} l h = index_row (rows_of table) (omega (arith, g.body.all_indices_lem)) g.body.count

    module _ {order boxes count : ℕ} (eo : order ≡ list + n) (eb : boxes ≡ list + 10 * n) {Y : List ℕ} (d : Gathered table is v list flags X Y count) (ey : length Y ≡ length X) where
      -- the loose vertices can be put in order
      pub loose_orderable : OrderReady ps v list count order boxes Y
      loose_orderable =
          record {
            listed = d.listed;
            few = g.body.few_vertices;
            all = g.body.all_positions;
            points = q.points;
            small = omega (arith, d.few, g.body.all_indices_lem, g.body.few_indices);
            behind = omega (arith, d.few);
            apart = omega (arith, d.few);
            room = omega (arith, d.few, g.enough);
            least = λ some. omega (arith, some_row d.few some, g.enough);
          }

      module _ {E : List ℕ} {top : ℕ} (o : OrderMade ps list count order boxes Y E top) (le : length E ≡ length Y) where
        flags_kept : take (length is) (drop flags E) ≡ take (length is) (drop flags Y)
        flags_kept =
            stretch_same flags (length is) Y E (omega (arith, g.enough)) le (λ j l. o.between (flags + j) (omega (arith, d.few)) (omega arith))

        stands : {sag beyond : Float} → Beyond sag beyond → Stands ps sag beyond (length is) v list count (list + 4 * n) (list + 7 * n) flags order boxes top E
        stands far =
            record {
              listed = listed_kept {at = order} d.listed (omega (arith, d.few)) o.front le;
              few = g.body.few_vertices;
              all = g.body.all_positions;
              points = q.points;
              flags_behind = omega (arith, d.few);
              order_names = omega arith;
              order_behind = omega (arith, d.few);
              behind = omega arith;
              apart = omega (arith, d.few);
              room = omega (arith, d.few);
              long = omega (arith, d.few, g.enough);
              boxes_room = o.inside;
              small = omega (arith, d.few, g.body.all_indices_lem, g.body.few_indices);
              ranked = o.ranked;
              boxed = o.boxed;
              low = o.low;
              far = far;
            }

        ready : {sag beyond : Float} → Beyond sag beyond → BodyReady table ps is sag beyond v list count (list + 4 * n) (list + 7 * n) flags order boxes top E
        ready far =
            record {
              stands = stands far;
              rows = g.body.rows;
              vertices = g.body.vertices;
              all = g.body.all_indices_lem;
              few = g.body.few_indices;
              threes = g.body.threes;
              inside = g.body.inside;
            }

        -- all is in its place
        pub all_prepared : {sag beyond : Float} → Beyond sag beyond → Prepared table ps is sag v m W E
            (record { sag = sag; beyond = beyond; v = v; list = list; count = count; at = list + 4 * n; ts = list + 7 * n; flags = flags; order = order; boxes = boxes; top = top })
        all_prepared far =
            let place : 4 * v + 4 * m + 3 * length is ≡ flags = omega arith in
            let names : take v E ≡ names key ps = front_less v order Y E o.front (omega arith) ∙ front_less v (2 * v) X Y d.front (omega arith) ∙ k.names in
            let flagged : take (length is) (drop flags X) ≡ map (flag_of (body_uses table ps is)) (body_uses table ps is) = ap (λ (j : ℕ). take (length is) (drop j X)) (sym place) ∙ k.flags in
            record {
              ready = ready far;
              sag_is = refl;
              v_is = refl;
              names_are = names;
              flags_are = flags_kept ∙ ap (take (length is)) d.rest ∙ flagged;
              loose_are = stretch_kept list count order Y E o.front (omega (arith, d.few)) ∙ d.list ∙ (λ i. body_vertices (k.names i) 0 (flagged i) (rows_of table) is []);
              end = omega (arith, d.few);
              rest =
                  o.rest (16 * length is + 16 * m + 4 * v) (λ some. omega (arith, some_row d.few some)) (omega (arith, d.few))
                  ∙ rest_less flags (16 * length is + 16 * m + 4 * v) X Y d.rest (omega arith)
                  ∙ rest_less (4 * v + 4 * m + 4 * length is) (16 * length is + 16 * m + 4 * v) W X k.rest (omega arith);
            }
