-- A patch's volume: each triangle's determinant, summed in order and divided by 6 once. Assumes nothing.
use Rattle.std.specs.Prelude.{Bool, true, false, List, [], ◌∷◌, ℕ, ◌+◌, ◌*◌, ◌<◌, length, get_or, Float}
use Rattle.body_rows.specs.Body.{Triangle, triangles_of}
use Rattle.patch_geometry.specs.declared.Vec3.{Vec3}
use Rattle.patch_geometry.specs.Geometry.{add, sub, mul, div, zero64, six64, point_at}

-- a0(b1c2 − b2c1) − a1(b0c2 − b2c0) + a2(b0c1 − b1c0), left to right
abbrev pub det : Vec3 → Vec3 → Vec3 → Float
det a b c =
    add
    (sub (mul a.x (sub (mul b.y c.z) (mul b.z c.y))) (mul a.y (sub (mul b.x c.z) (mul b.z c.x))))
    (mul a.z (sub (mul b.x c.y) (mul b.y c.x)))

-- corners 1 and 2 swapped
abbrev pub reversed : Triangle → Triangle
reversed t = record { a = t.a; b = t.c; c = t.b }

-- the value of one triangle, reversed where `flip` says so
abbrev pub triangle_volume : List Float → Bool → Triangle → Float
triangle_volume ps true t = det (point_at ps t.a) (point_at ps t.c) (point_at ps t.b)
triangle_volume ps false t = det (point_at ps t.a) (point_at ps t.b) (point_at ps t.c)

-- a running sum, and the triangles' values added to it in order
unfoldable pub sum_volumes : List Float → Bool → Float → List Triangle → Float
sum_volumes ps flip v [] = v
sum_volumes ps flip v (t ∷ ts) = sum_volumes ps flip (add v (triangle_volume ps flip t)) ts

-- A patch volume sums the triangles' values and divides by 6 at the end.
unfoldable pub patch_volume : List Float → List ℕ → Bool → Float
patch_volume ps is flip = div (sum_volumes ps flip zero64 (triangles_of is)) six64

-- each index is of a vertex
abbrev pub CornersInside : List Float → List ℕ → Type 0
CornersInside ps is = (k : ℕ) → k < length is → 3 * get_or is k 0 + 2 < length ps

-- three vertices of a patch
pub record Corners (ps : List Float) (a b c : ℕ) : Type 0 where
  pub in_a : 3 * a + 2 < length ps
  pub in_b : 3 * b + 2 < length ps
  pub in_c : 3 * c + 2 < length ps
