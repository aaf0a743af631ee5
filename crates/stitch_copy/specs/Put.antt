-- What putting the stitched body into the second slices asks. Assumes nothing.
use Rattle.std.specs.Prelude.{◌≡◌, List, ℕ, Float}
use Rattle.lists.specs.Lists.{sum_of}
use Rattle.stitch_splits.specs.declared.finder.Finder.{Finder}
use Rattle.stitch_count.specs.Views.{kept_in}
use Rattle.stitch_count.specs.Counting.{views_of}
use Rattle.stitch_write.specs.ByFinder.{BodyWritable}

-- a body that can be written, and how many new vertices it has
pub record Puttable (table : List ℕ) (ps ns : List Float) (is : List ℕ) (f : Finder) (kept : ℕ) (W R : List ℕ) (P N : List Float) (I : List ℕ) : Type 0 where
  pub writable : BodyWritable table ps ns is f W R P N I
  pub kept_is : kept ≡ sum_of kept_in (views_of table ps is f.sag f.v f.list f.count f.flags W)
