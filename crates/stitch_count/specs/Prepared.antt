-- The work area made ready for finding splits: open edges marked, loose vertices listed and put in the order of the search. Assumes nothing.
use Rattle.std.specs.Prelude.{◌≡◌, List, [], map, ℕ, ◌+◌, ◌*◌, ◌<◌, ◌≤◌, length, take, drop, Float}
use Rattle.point_rules.specs.Rule.{names}
use Rattle.point_rules.specs.Points.{key}
use Rattle.body_rows.specs.Body.{rows_of}
use Rattle.patch_geometry.specs.Geometry.{point_at}
use Rattle.edge_uses.specs.Area.{AreaReady}
use Rattle.stitch_boxes.specs.Points.{Point}
use Rattle.stitch_loose_points.specs.Listed.{body_vertices}
use Rattle.stitch_loose_points.specs.Open.{body_uses, flag_of}
use Rattle.stitch_splits.specs.declared.finder.Finder.{Finder}
use Rattle.stitch_count.specs.Counting.{BodyReady}

-- what making it ready asks: a body that can be worked on in its area, and points of finite f32 coordinates
pub record Preparable (table : List ℕ) (ps : List Float) (is W : List ℕ) (v m : ℕ) : Type 0 where
  pub area : AreaReady table ps is W v m
  pub points : (g : ℕ) → g < v → Point (point_at ps g)

-- what making it ready leaves: names, flags and loose vertices in their places, and all behind the words that 31 counts as it was
pub record Prepared (table : List ℕ) (ps : List Float) (is : List ℕ) (sag : Float) (v m : ℕ) (W E : List ℕ) (f : Finder) : Type 0 where
  pub ready : BodyReady table ps is f.sag f.beyond f.v f.list f.count f.at f.ts f.flags f.order f.boxes f.top E
  pub sag_is : f.sag ≡ sag
  pub v_is : f.v ≡ v
  pub names_are : take f.v E ≡ names key ps
  pub flags_are : take (length is) (drop f.flags E) ≡ map (flag_of (body_uses table ps is)) (body_uses table ps is)
  pub loose_are : take f.count (drop f.list E) ≡ body_vertices (names key ps) 0 (map (flag_of (body_uses table ps is)) (body_uses table ps is)) (rows_of table) is []
  pub end : f.ts + 3 * f.count ≤ 16 * length is + 16 * m + 4 * v
  pub rest : drop (16 * length is + 16 * m + 4 * v) E ≡ drop (16 * length is + 16 * m + 4 * v) W
