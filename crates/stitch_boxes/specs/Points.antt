-- The definitions that the theorems of this name in proofs/ speak of. Assumes nothing.
use Rattle.std.specs.Prelude.{◌≡◌, false, Float}
use Rattle.float_spans.specs.Small.{Single}
use Rattle.float_spans.specs.Hulls.{Ends}
use Rattle.patch_geometry.specs.declared.Vec3.{Vec3}
use Rattle.stitch_projection.specs.Projection.{edge_of, within_sag}
use Rattle.stitch_sag.specs.Beyond.{Beyond}
use Rattle.stitch_boxes.specs.declared.Bounds.{Bounds}
use Rattle.stitch_boxes.specs.Boxes.{Within, far}

-- a point of finite f32 coordinates
pub record Point (p : Vec3) : Type 0 where
  pub x : Single p.x
  pub y : Single p.y
  pub z : Single p.z

-- a box of such ends, or the infinities of the empty span
pub record BoxEnds (B : Bounds) : Type 0 where
  pub x : Ends B.x
  pub y : Ends B.y
  pub z : Ends B.z

-- a far box is passed over: none of its points is within a sag that b is beyond
pub record Passed (p q : Vec3) (B : Bounds) (b : Float) : Type 0 where
  pub out : (sag : Float) (r : Vec3) → Beyond sag b → Point r → Within B r → within_sag sag (edge_of p q) r ≡ false
