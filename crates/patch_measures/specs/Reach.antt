-- How far a patch reaches from the centre of the body's box, and whether it escapes. Assumes nothing.
use Rattle.std.specs.Prelude.{Bool, not, ◌&&◌, cond, List, [], ◌∷◌, ℕ, Float}
use Rattle.std.specs.Float.Ieee.{lt}
use Rattle.float_steps.specs.Floats.{widen, larger}
use Rattle.patch_geometry.specs.declared.Vec3.{Vec3}
use Rattle.patch_geometry.specs.declared.Aabb.{Aabb}
use Rattle.patch_geometry.specs.Geometry.{zero64, sub_v, dot, length_v, vertex_at, is_empty, centre, diagonal}

-- the square of how far the vertex whose coordinates start at k is from c
abbrev pub square_at : List Float → ℕ → Vec3 → Float
square_at ps k c = dot (sub_v (vertex_at ps k) c) (sub_v (vertex_at ps k) c)

-- the larger of r and the distances of the points, three coordinates each, from c
unfoldable pub reach_from : Vec3 → Float → List Float → Float
reach_from c r [] = r
reach_from c r (x ∷ []) = r
reach_from c r (x ∷ y ∷ []) = r
reach_from c r (x ∷ y ∷ z ∷ ps) = reach_from c (larger r (length_v (sub_v (record { x = widen x; y = widen y; z = widen z }) c))) ps

-- how far the farthest vertex, used or not, is from the box's centre; 0 for an empty box
unfoldable pub farthest : List Float → Aabb → Float
farthest ps box = cond (is_empty box) zero64 (reach_from (centre box) zero64 ps)

-- A patch escapes if the box isn't empty, its diagonal is above 0, and the farthest vertex from its centre is beyond the diagonal.
unfoldable pub escapes_body : List Float → Aabb → Bool
escapes_body ps box = not (is_empty box) && lt zero64 (diagonal box) && lt (diagonal box) (farthest ps box)
