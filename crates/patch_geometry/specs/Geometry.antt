-- Points and the box. Each operation on f64 rounds once. Assumes nothing.
use Rattle.std.specs.Prelude.{Bool, true, false, ◌||◌, cond, List, ℕ, ◌+◌, ◌*◌, get_or, Float}
use Rattle.std.specs.Float.Ieee as Ieee
use Rattle.std.specs.Float.{nan, binary64}
use Rattle.std.specs.Float.Ieee.{lt}
use Rattle.float_steps.specs.Floats.{f64, widen}
use Rattle.float_sqrt.specs.Roots.{sqrt}
use Rattle.patch_geometry.specs.declared.Vec3.{Vec3}
use Rattle.patch_geometry.specs.declared.Aabb.{Aabb}

-- the f64 sum
abbrev pub add : Float → Float → Float
add x y = Ieee.add binary64 x y

-- the f64 difference
abbrev pub sub : Float → Float → Float
sub x y = Ieee.sub binary64 x y

-- the f64 product
abbrev pub mul : Float → Float → Float
mul x y = Ieee.mul binary64 x y

-- the f64 quotient
abbrev pub div : Float → Float → Float
div x y = Ieee.div binary64 x y

-- 0.0
abbrev pub zero64 : Float
zero64 = f64 0

-- 0.5
abbrev pub half64 : Float
half64 = f64 0x3FE0000000000000

-- 1.0
abbrev pub one64 : Float
one64 = f64 0x3FF0000000000000

-- 6.0
abbrev pub six64 : Float
six64 = f64 0x4018000000000000

-- `Vec3`'s add works by component.
abbrev pub add_v : Vec3 → Vec3 → Vec3
add_v p q = record { x = add p.x q.x; y = add p.y q.y; z = add p.z q.z }

-- `Vec3`'s subtract works by component.
abbrev pub sub_v : Vec3 → Vec3 → Vec3
sub_v p q = record { x = sub p.x q.x; y = sub p.y q.y; z = sub p.z q.z }

-- `Vec3`'s scale works by component.
abbrev pub scale : Vec3 → Float → Vec3
scale p s = record { x = mul p.x s; y = mul p.y s; z = mul p.z s }

-- the dot product: the products of the components, added left to right
abbrev pub dot : Vec3 → Vec3 → Float
dot p q = add (add (mul p.x q.x) (mul p.y q.y)) (mul p.z q.z)

-- the length: the root of the dot product with itself
unfoldable pub length_v : Vec3 → Float
length_v p = sqrt (dot p p)

-- the vertex whose coordinates start at k, widened
abbrev pub vertex_at : List Float → ℕ → Vec3
vertex_at ps k = record { x = widen (get_or ps k nan); y = widen (get_or ps (k + 1) nan); z = widen (get_or ps (k + 2) nan) }

-- vertex i of a patch
abbrev pub point_at : List Float → ℕ → Vec3
point_at ps i = vertex_at ps (3 * i)

-- a box is empty if its minimum is above its maximum on some axis
abbrev pub is_empty : Aabb → Bool
is_empty box = lt box.max.x box.min.x || lt box.max.y box.min.y || lt box.max.z box.min.z

-- the middle of a box that isn't empty
abbrev pub centre : Aabb → Vec3
centre box = scale (add_v box.min box.max) half64

-- the zero vector
abbrev pub zero_v : Vec3
zero_v = record { x = zero64; y = zero64; z = zero64 }

-- the first of two where the test holds
abbrev pub pick_v : Bool → Vec3 → Vec3 → Vec3
pick_v true p q = p
pick_v false p q = q

-- from minimum to maximum; zero of an empty box
abbrev pub size : Aabb → Vec3
size box = pick_v (is_empty box) zero_v (sub_v box.max box.min)

-- the middle; zero of an empty box
abbrev pub centre_of : Aabb → Vec3
centre_of box = pick_v (is_empty box) zero_v (centre box)

-- the length from minimum to maximum; 0 of an empty box
unfoldable pub diagonal : Aabb → Float
diagonal box = cond (is_empty box) zero64 (length_v (sub_v box.max box.min))
