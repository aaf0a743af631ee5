-- Laws of placing a point. Assumes nothing.
use mathlib.Core.Path.{◌≡◌, refl, sym, ap, ◌∙◌}
use mathlib.Core.Bool.{Bool, true, false, cond}
use mathlib.Core.Option as Math
use Rattle.std.specs.Prelude.{Option, Some, None}
use Prim.Native.Nat.{ℕ}
use native.Mathlib.Omega.{arith}
use lib.Ieee.{lt}
use Rattle.patch_geometry.specs.declared.Vec3.{Vec3}
use Rattle.stitch_projection.specs.declared.Edge.{Edge}
use Rattle.stitch_projection.specs.declared.Hit.{Hit}
use Rattle.stitch_feet.specs.Answers.{as_option, of_option}
use Rattle.stitch_projection.specs.Projection.{project}
use Rattle.stitch_splits.specs.declared.sides.Sides.{Sides}
use Rattle.stitch_splits.specs.declared.sides.Spot.{Spot}
use Rattle.stitch_splits.specs.Found.{nearer_spot, spot_of}

-- the place of a hit
abbrev here : ℕ → Hit → Option Spot
here e h = Some (record { e = e; t = h.t; distance = h.distance })

-- the place of an answer that was made of one
spot_back : (o : Math.Option Spot) → of_option (as_option o) ≡ o
spot_back Math.none = refl
spot_back (Math.some p) = refl

-- the nearest of the three
pub placed : (s : Sides) (r : Vec3) {x y z : Option Spot} → x ≡ as_option (nearer_spot (of_option None) 0 (project s.first.edge r)) → y ≡ as_option (nearer_spot (of_option x) 1 (project s.second.edge r))
    → z ≡ as_option (nearer_spot (of_option y) 2 (project s.third.edge r)) → z ≡ as_option (spot_of s r)
unfolding spot_of
placed s r {x} {y} {z} f g h =
    let fx : of_option x ≡ nearer_spot Math.none 0 (project s.first.edge r) = ap of_option f ∙ spot_back (nearer_spot Math.none 0 (project s.first.edge r)) in
    let gy : of_option y ≡ nearer_spot (nearer_spot Math.none 0 (project s.first.edge r)) 1 (project s.second.edge r) =
    ap of_option g ∙ spot_back (nearer_spot (of_option x) 1 (project s.second.edge r)) ∙ ap (λ (b : Math.Option Spot). nearer_spot b 1 (project s.second.edge r)) fx in
    h ∙ ap (λ (b : Math.Option Spot). as_option (nearer_spot b 2 (project s.third.edge r))) gy
