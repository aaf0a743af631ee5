-- The mixed normal, as the code makes it. Assumes nothing.
use mathlib.Core.Path.{◌≡◌, ap, ◌∙◌}
use mathlib.Core.List.{List, [], ◌∷◌}
use lib.Ieee.{Float}
use Rattle.float_narrow.specs.Narrow.{narrow}
use Rattle.float_steps.specs.Floats.{larger}
use Rattle.patch_geometry.specs.declared.Vec3.{Vec3}
use Rattle.patch_geometry.specs.Geometry.{sub, div, add_v, scale, length_v, one64}
use Rattle.stitch_projection.specs.Projection.{least_length, mixed}

-- m divided by k and narrowed
abbrev narrowed : Vec3 → Float → List Float
narrowed m k = narrow (div m.x k) ∷ narrow (div m.y k) ∷ narrow (div m.z k) ∷ []

-- the normal from its sum, its length and its divisor
pub mixed_is : (na nb : Vec3) (t : Float) {a b m : Vec3} {l k x y z : Float} → a ≡ scale na (sub one64 t) → b ≡ scale nb t → m ≡ add_v a b → l ≡ length_v m → k ≡ larger l least_length
    → x ≡ narrow (div m.x k) → y ≡ narrow (div m.y k) → z ≡ narrow (div m.z k) → x ∷ y ∷ z ∷ [] ≡ mixed na nb t
unfolding mixed
mixed_is na nb t {a} {b} {m} {l} {k} ea eb em el ek ex ey ez =
    (cc)
    ∙ ap (narrowed m) (ek ∙ ap (λ (l : Float). larger l least_length) el)
    ∙ ap whole (em ∙ ap (λ (a : Vec3). add_v a b) ea ∙ ap (add_v (scale na (sub one64 t))) eb)
  where
    whole : Vec3 → List Float
    whole m = narrowed m (larger (length_v m) least_length)
