-- Laws of a triangle's edges by their number, and of points that an edge rules out. Assumes nothing.
use Rattle.std.specs.Prelude.{◌≡◌, refl, Bool, true, false, not, ◌&&◌, ℕ, zero, suc, ◌≤◌, Float}
use Rattle.std.proofs.Common.{sym}
use Rattle.std.proofs.Math.Path.{ap}
use native.Mathlib.Omega.{arith}
use Rattle.patch_geometry.specs.declared.Vec3.{Vec3}
use Rattle.stitch_projection.specs.Projection.{within_sag}
use Rattle.stitch_splits.specs.declared.sides.Sides.{Sides}
use Rattle.stitch_splits.specs.Found.{counts, side_of, counts_on, found_only}

-- what does not count for an edge is not found on it
not_found : (sag : Float) (s : Sides) (e name : ℕ) (r : Vec3) → counts sag (side_of s e) name r ≡ false → found_only sag s e name r ≡ false
unfolding side_of counts_on found_only
not_found sag s zero name r h = h
not_found sag s (suc zero) name r h = ap (λ (b : Bool). b && not (counts_on sag s 0 name r)) h
not_found sag s (suc (suc e)) name r h = ap (λ (b : Bool). b && not (counts_on sag s 0 name r) && not (counts_on sag s 1 name r)) h

-- an edge that is not open finds nothing
pub closed_finds_none : (sag : Float) (s : Sides) (e name : ℕ) (r : Vec3) → (side_of s e).is_open ≡ false → found_only sag s e name r ≡ false
closed_finds_none sag s e name r h = not_found sag s e name r (rw h)

-- nor does an edge find what is not within the sag of it
pub far_is_not_found : (sag : Float) (s : Sides) (e name : ℕ) (r : Vec3) → within_sag sag (side_of s e).edge r ≡ false → found_only sag s e name r ≡ false
far_is_not_found sag s e name r h = not_found sag s e name r (last (side_of s e).is_open _ _ _ h)
  where
    last : (a b c d : Bool) → d ≡ false → (a && b && c && d) ≡ false
    last true true true d h = h
    last true true false d h = refl
    last true false c d h = refl
    last false b c d h = refl
