-- Lengths and the box, as the code makes them. Assumes nothing.
use mathlib.Core.Path.{◌≡◌, refl, sym, ap, ◌∙◌}
use mathlib.Core.Bool.{Bool, true, false, cond}
use lib.Ieee as Ieee
use lib.Ieee.{Float}
use Rattle.float_sqrt.specs.Roots.{sqrt}
use Rattle.patch_geometry.specs.declared.Vec3.{Vec3}
use Rattle.patch_geometry.specs.declared.Aabb.{Aabb}
use Rattle.patch_geometry.specs.Geometry.{half64, zero64, zero_v, pick_v, add_v, sub_v, scale, dot, length_v, is_empty, size, centre_of, diagonal}

-- the root of a dot product
pub length_is : (p : Vec3) {d r : Float} → d ≡ dot p p → r ≡ sqrt d → r ≡ length_v p
unfolding length_v
length_is p e f = f ∙ ap sqrt e

-- the zero vector has length 0
length_zero : length_v zero_v ≡ zero64
unfolding length_v sqrt Ieee.add Ieee.mul Ieee.of_bits Ieee.round
length_zero = refl

module _ (box : Aabb) {e : Bool} (test : e ≡ is_empty box) where
  -- the size of an empty box
  pub size_empty : {r : Vec3} → e ≡ true → r ≡ zero_v → r ≡ size box
  size_empty t q = q ∙ ap (λ (b : Bool). pick_v b zero_v (sub_v box.max box.min)) (sym t ∙ test)

  -- the size of another
  pub size_is : {r : Vec3} → e ≡ false → r ≡ sub_v box.max box.min → r ≡ size box
  size_is t q = q ∙ ap (λ (b : Bool). pick_v b zero_v (sub_v box.max box.min)) (sym t ∙ test)

  -- the centre of an empty box
  pub centre_empty : {r : Vec3} → e ≡ true → r ≡ zero_v → r ≡ centre_of box
  centre_empty t q = q ∙ ap (λ (b : Bool). pick_v b zero_v (scale (add_v box.min box.max) half64)) (sym t ∙ test)

  -- the centre of another
  pub centre_is : {s r : Vec3} → e ≡ false → s ≡ add_v box.min box.max → r ≡ scale s half64 → r ≡ centre_of box
  centre_is t p q = q ∙ ap (λ (v : Vec3). scale v half64) p ∙ ap (λ (b : Bool). pick_v b zero_v (scale (add_v box.min box.max) half64)) (sym t ∙ test)

-- the length of the size
pub diagonal_is : (box : Aabb) {s : Vec3} {r : Float} → s ≡ size box → r ≡ length_v s → r ≡ diagonal box
unfolding diagonal
diagonal_is box e f = f ∙ ap length_v e ∙ go (is_empty box)
  where
    go : (b : Bool) → length_v (pick_v b zero_v (sub_v box.max box.min)) ≡ cond b zero64 (length_v (sub_v box.max box.min))
    go true = length_zero
    go false = refl
