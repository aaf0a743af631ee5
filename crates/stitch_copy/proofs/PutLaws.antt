-- Laws of putting the stitched body into the second slices: without a new vertex a copy is it. Assumes nothing.
use mathlib.Core.Path.{◌≡◌, refl, sym, ap, ◌∙◌}
use mathlib.Core.List.{List}
use Prim.Native.Nat.{ℕ, ◌%◌, ◌<◌}
use native.Mathlib.Omega.{arith}
use lib.ListN.{length, get_or, take, drop, length-drop}
use lib.Seq.{length-take-le}
use lib.Ieee.{Float}
use Rattle.lists.specs.Lists.{sum_of, written}
use Rattle.body_rows.specs.Body.{Row, rows_of, table_of}
use Rattle.body_rows.specs.Rows.{no_row, row_at}
use Rattle.stitch_splits.specs.declared.finder.Finder.{Finder}
use Rattle.stitch_count.specs.Views.{kept_in}
use Rattle.stitch_count.specs.Counting.{views_of}
use Rattle.stitch_write.specs.BodyLengths.{views_many}
use Rattle.stitch_write.specs.Writing.{BodyWritten}
use Rattle.stitch_copy.specs.Copied.{BodyRoom, BodyCopied, flat_table}
use Rattle.stitch_copy.specs.Put.{Puttable}
use Rattle.stitch_copy.proofs.UnsplitLaws.{positions_none, normals_none, indices_none, rows_none}

module _ {table : List ℕ} {ps ns : List Float} {is : List ℕ} {f : Finder} {kept : ℕ} {W R : List ℕ} {P N : List Float} {I : List ℕ} (g : Puttable table ps ns is f kept W R P N I) where
  -- there is room for a copy
  pub put_room : BodyRoom table ps ns is R P N I
  put_room =
      record {
        rows = omega (arith, g.writable.room_rows, g.writable.body.rows.whole);
        positions = omega (arith, g.writable.room_positions, g.writable.body.stands.all);
        normals = omega (arith, g.writable.room_normals, g.writable.all);
        indices = omega (arith, g.writable.room_indices);
      }

  module _ (z : kept ≡ 0) where
    none : sum_of kept_in (views_of table ps is f.sag f.v f.list f.count f.flags W) ≡ 0
    none = sym g.kept_is ∙ z

    marked : length (take (length is) (drop f.flags W)) ≡ length is
    marked = length-take-le (length is) (drop f.flags W) (omega (arith, length-drop f.flags W, g.writable.body.stands.behind, g.writable.body.stands.apart, g.writable.body.stands.long))

    threes : (k : ℕ) → k < length (rows_of table) → (get_or (rows_of table) k no_row).indices % 3 ≡ 0
    unfolding row_at
    threes = g.writable.body.threes

    many : length (views_of table ps is f.sag f.v f.list f.count f.flags W) ≡ length (rows_of table)
    many = views_many f.sag ps (take f.v W) (take f.count (drop f.list W)) 0 (take (length is) (drop f.flags W)) (rows_of table) is

    -- the copy is what is written
    pub put_copied : {R' : List ℕ} {P' N' : List Float} {I' : List ℕ} → BodyCopied table ps ns is R P N I R' P' N' I' → BodyWritten table ps ns is f.sag f.v f.list f.count f.at f.ts f.flags W W R R' P P' N N' I I'
    put_copied {R'} {P'} {N'} {I'} d =
        record {
          rows_are =
              d.rows
              ∙ ap (λ (xs : List ℕ). written xs R) (sym (flat_table table g.writable.body.rows.whole))
              ∙ ap (λ (rs : List Row). written (table_of rs) R) (sym (rows_none f.sag ps (take f.v W) (take f.count (drop f.list W)) 0 (take (length is) (drop f.flags W)) (rows_of table) is
              g.writable.body.all marked threes none));
          positions_are =
              d.positions
              ∙ ap (λ (xs : List Float). written xs P) (sym (positions_none ps (rows_of table) ps (views_of table ps is f.sag f.v f.list f.count f.flags W) many
              (omega (arith, g.writable.body.stands.all, g.writable.body.vertices)) none));
          normals_are =
              d.normals
              ∙ ap (λ (xs : List Float). written xs N) (sym (normals_none ns 0 (rows_of table) ns (views_of table ps is f.sag f.v f.list f.count f.flags W) many
              (omega (arith, g.writable.all, g.writable.body.vertices)) none));
          indices_are =
              d.indices
              ∙ ap (λ (xs : List ℕ). written xs I) (sym (indices_none f.sag ps (take f.v W) (take f.count (drop f.list W)) 0 (take (length is) (drop f.flags W)) (rows_of table) is
              g.writable.body.all marked threes none));
          front = refl;
          rest = refl;
        }
