-- The footing and the hit of a point as the code makes them. Assumes nothing.
use mathlib.Core.Path.{◌≡◌, sym, ap, ◌∙◌}
use mathlib.Core.Bool.{true, false, cond}
use lib.Ieee.{Float, lt, eq}
use Rattle.std.specs.Prelude.{Option, Some, None}
use Rattle.patch_geometry.specs.declared.Vec3.{Vec3}
use Rattle.patch_geometry.specs.Geometry.{div, sub_v, scale, dot, length_v, zero64}
use Rattle.stitch_projection.specs.declared.Edge.{Edge}
use Rattle.stitch_feet.specs.declared.Foot.{Foot}
use Rattle.stitch_projection.specs.Projection.{near_end, far_end, project}
use Rattle.stitch_feet.specs.Answers.{footing, as_option}
use Rattle.stitch_feet.specs.Hits.{between, foot_to, hit_of, hit_foot}

-- the footing there
abbrev foot_at : Edge → Vec3 → Float → Option Foot
foot_at s w d = cond (between s (div d s.squared)) (Some (foot_to s w d)) None

module _ (s : Edge) (r : Vec3) where
  -- an edge without length has no footing
  pub foot_none : eq s.squared zero64 ≡ true → None ≡ footing s r
  unfolding footing
  foot_none h = rw h

  module _ (h : eq s.squared zero64 ≡ false) {w : Vec3} {d : Float} (e : w ≡ sub_v r s.start) (f : d ≡ dot w s.along) where
    -- the footing of the way and the product that the code makes
    foot_at_lem : foot_at s w d ≡ footing s r
    unfolding footing
    foot_at_lem = ap (foot_at s w) f ∙ ap (λ (w : Vec3). foot_at s w (dot w s.along)) e

    -- the parameter isn't above 1e-6
    pub foot_near : lt near_end (div d s.squared) ≡ false → None ≡ footing s r
    foot_near k = (rw (h, k)) ∙ foot_at_lem

    -- the parameter isn't below 1 − 1e-6
    pub foot_far : lt near_end (div d s.squared) ≡ true → lt (div d s.squared) far_end ≡ false → None ≡ footing s r
    foot_far k l = (rw (h, k, l)) ∙ foot_at_lem

    -- the parameter is between them
    pub foot_inside : {u o : Vec3} → lt near_end (div d s.squared) ≡ true → lt (div d s.squared) far_end ≡ true → u ≡ scale s.along (div d s.squared) → o ≡ sub_v w u
        → Some (record { t = div d s.squared; off = o }) ≡ footing s r
    foot_inside k l p q = ap (inside (div d s.squared)) (q ∙ ap (sub_v w) p) ∙ (rw (h, k, l)) ∙ foot_at_lem
      where
        inside : Float → Vec3 → Option Foot
        inside t o = Some (record { t = t; off = o })

-- ---- the hit at a footing

module _ (s : Edge) (r : Vec3) {o : Option Foot} (e : o ≡ footing s r) where
  -- the answer is that at the footing
  answer_foot : as_option (hit_of o) ≡ as_option (project s r)
  answer_foot = ap (λ (o : Option Foot). as_option (hit_of o)) e ∙ ap as_option (hit_foot s r)

  -- no footing has no hit
  pub project_outside : o ≡ None → None ≡ as_option (project s r)
  project_outside f = ap (λ (o : Option Foot). as_option (hit_of o)) (sym f) ∙ answer_foot

  -- a footing's hit has the length of the way from the projection
  pub project_inside : (f : Foot) {d : Float} → o ≡ Some f → d ≡ length_v f.off → Some (record { t = f.t; distance = d }) ≡ as_option (project s r)
  project_inside f g h = ap (λ (d : Float). Some (record { t = f.t; distance = d })) h ∙ ap (λ (o : Option Foot). as_option (hit_of o)) (sym g) ∙ answer_foot
