-- Boxes and a vertex written down for a claim. Assumes nothing.
use Rattle.std.specs.Prelude.{List, [], ◌∷◌, ℕ, Float}
use Rattle.float_steps.specs.Floats.{f32, f64}
use Rattle.patch_geometry.specs.declared.Vec3.{Vec3}
use Rattle.patch_geometry.specs.declared.Aabb.{Aabb}

-- a point by its f64 bits
abbrev pub vec : ℕ → ℕ → ℕ → Vec3
vec x y z = record { x = f64 x; y = f64 y; z = f64 z }

-- K9: the box (0,0,0) to (6,8,0)
unfoldable pub box68 : Aabb
box68 = record { min = vec 0 0 0; max = vec 0x4018000000000000 0x4020000000000000 0 }

-- K10: a box of one point
unfoldable pub one_point : Aabb
one_point = record { min = vec 0 0 0; max = vec 0 0 0 }

-- the one vertex x, 4, 0, x by its f32 bits
unfoldable pub vertex : ℕ → List Float
vertex x = f32 x ∷ f32 0x40800000 ∷ f32 0 ∷ []
