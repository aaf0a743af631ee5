-- The distance within the sag, with and without its root. Assumes nothing.
use mathlib.Core.Path.{◌≡◌, refl, sym, ap, ◌∙◌, subst}
use mathlib.Core.Bool.{Bool, true, false, not, ◌&&◌, ◌||◌, cond}
use mathlib.Core.Option as Math
use lib.Dec.{T}
use lib.Ieee as Ieee
use lib.Ieee.{Float, inf, binary64, fits, lt, eq}
use lib.Ieee.Fits.{add-fits, mul-fits}
use Rattle.std.specs.Prelude.{Option, Some, None}
use Rattle.float_sqrt.specs.Roots.{sqrt}
use Rattle.float_sqrt.specs.RootOrder.{not_above_infinity, below_root}
use Rattle.patch_geometry.specs.declared.Vec3.{Vec3}
use Rattle.patch_geometry.specs.Geometry.{sub, mul, div, sub_v, scale, dot, length_v, zero64, one64}
use Rattle.stitch_projection.specs.declared.Edge.{Edge}
use Rattle.stitch_projection.specs.declared.Hit.{Hit}
use Rattle.stitch_feet.specs.declared.Foot.{Foot}
use Rattle.stitch_projection.specs.Projection.{near_end, far_end, within_sag}
use Rattle.stitch_feet.specs.Answers.{footing}
use Rattle.stitch_sag.specs.Beyond.{Beyond, Ruled}
use Rattle.stitch_feet.specs.Hits.{hit_of, hit_foot}
use Rattle.stitch_sag.proofs.SignLaws.{between_plain}

-- a product whose root is above the sag
pub beyond_product : (sag p s : Float) {q : Float} → q ≡ sqrt (mul p s) → lt sag q ≡ true → Beyond sag (mul p s)
beyond_product sag p s e h = record { far = λ x f l. below_root sag (mul p s) x (mul-fits binary64 p s) f (subst (λ (q : Float). lt sag q ≡ true) e h) l }

-- 1 / 0 is the infinity
infinite : div one64 zero64 ≡ inf false
unfolding Ieee.div Ieee.of_bits
infinite = refl

-- nothing is above it
pub beyond_infinity : (sag : Float) → Beyond sag (div one64 zero64)
beyond_infinity sag = record { far = λ x f l. absurd (not_above_infinity x (subst (λ (b : Float). lt b x ≡ true) infinite l)) }

module _ (sag : Float) (s : Edge) (r : Vec3) where
  -- the verdict at a footing
  abbrev near_at : Option Foot → Bool
  near_at o = elim (hit_of o) [ Math.none ↦ false | Math.some h ↦ not (lt sag h.distance) ]

  module _ {o : Option Foot} (e : o ≡ footing s r) where
    -- the definition's verdict is that at the footing
    near_foot : near_at o ≡ within_sag sag s r
    unfolding within_sag
    near_foot = ap near_at e ∙ ap (λ (h : Math.Option Hit). elim h [ Math.none ↦ false | Math.some h ↦ not (lt sag h.distance) ]) (hit_foot s r)

    -- no footing isn't near
    pub within_outside : o ≡ None → false ≡ within_sag sag s r
    within_outside g = ap near_at (sym g) ∙ near_foot

    module _ (f : Foot) {d : Float} (g : o ≡ Some f) (h : d ≡ dot f.off f.off) where
      -- the root decides
      pub within_root : {q : Float} → q ≡ sqrt d → not (lt sag q) ≡ within_sag sag s r
      unfolding length_v
      within_root k = ap (λ (q : Float). not (lt sag q)) (k ∙ ap sqrt h) ∙ ap near_at (sym g) ∙ near_foot

      -- the square decides
      pub within_beyond : {b : Float} → Beyond sag b → lt b d ≡ true → false ≡ within_sag sag s r
      within_beyond b l = ap not (sym (b.far d (subst (λ (x : Float). T (fits binary64 x)) (sym h) (add-fits binary64 _ _)) l)) ∙ within_root refl

-- ---- what a point that is not within the sag is ruled out by

module _ (s : Edge) (r : Vec3) {w : Vec3} {k : Float} (e : w ≡ sub_v r s.start) (m : k ≡ dot w s.along) where
  -- the footing by the way and the product that the code makes
  there : cond (not (eq s.squared zero64) && lt near_end (div k s.squared) && lt (div k s.squared) far_end)
      (Some (record { t = div k s.squared; off = sub_v w (scale s.along (div k s.squared)) })) None ≡ footing s r
  unfolding footing
  there = ap (at w) m ∙ ap (λ (w : Vec3). at w (dot w s.along)) e
    where
      at : Vec3 → Float → Option Foot
      at w k =
          cond (not (eq s.squared zero64) && lt near_end (div k s.squared) && lt (div k s.squared) far_end)
          (Some (record { t = div k s.squared; off = sub_v w (scale s.along (div k s.squared)) })) None

  -- the sign of the product of both distances
  pub ruled_sign : (b : Float) → lt (mul (sub (div k s.squared) near_end) (sub far_end (div k s.squared))) zero64 ≡ true → Ruled b s r false
  unfolding Ieee.of_bits
  ruled_sign b h = record {
    out = λ sag y z. sym (within_outside sag s r refl
        (sym there ∙ outside (Some (record { t = div k s.squared; off = sub_v w (scale s.along (div k s.squared)) })) (not (eq s.squared zero64))
        (lt near_end (div k s.squared))
        (lt (div k s.squared) far_end) both));
  }
    where
      both : lt near_end (div k s.squared) ≡ true → lt (div k s.squared) far_end ≡ true → ⊥
      both p q = between_plain binary64 near_end (div k s.squared) far_end p q h

      outside : (f : Option Foot) (a c d : Bool) → (c ≡ true → d ≡ true → ⊥) → cond (a && c && d) f None ≡ None
      outside f true true true n = absurd (n refl refl)
      outside f true true false n = refl
      outside f true false d n = refl
      outside f false c d n = refl

  -- the square of the distance
  pub ruled_far : (b : Float) {u o : Vec3} {d : Float} → u ≡ scale s.along (div k s.squared) → o ≡ sub_v w u → d ≡ dot o o → Ruled b s r (not (lt b d))
  ruled_far b {u} {o} {d} eu eo ed = record { out = λ sag y z. go sag y (above (lt b d) z) (not (eq s.squared zero64) && lt near_end (div k s.squared) && lt (div k s.squared) far_end) there }
    where
      above : (x : Bool) → not x ≡ false → x ≡ true
      above true z = refl
      above false z = sym z

      off : Vec3
      off = sub_v w (scale s.along (div k s.squared))

      square : d ≡ dot off off
      square = ed ∙ ap (λ (o : Vec3). dot o o) (eo ∙ ap (sub_v w) eu)

      go : (sag : Float) → Beyond sag b → lt b d ≡ true → (c : Bool) → cond c (Some (record { t = div k s.squared; off = off })) None ≡ footing s r → within_sag sag s r ≡ false
      go sag y l true g = sym (within_beyond sag s r g (record { t = div k s.squared; off = off }) refl square y l)
      go sag y l false g = sym (within_outside sag s r g refl)

  -- either
  pub ruled_both : (b : Float) {u o : Vec3} {d : Float} → u ≡ scale s.along (div k s.squared) → o ≡ sub_v w u → d ≡ dot o o
      → Ruled b s r (not (lt (mul (sub (div k s.squared) near_end) (sub far_end (div k s.squared))) zero64 || lt b d))
  ruled_both b {u} {o} {d} eu eo ed = record { out = λ sag y z. go (lt (mul (sub (div k s.squared) near_end) (sub far_end (div k s.squared))) zero64) (lt b d) refl refl sag y z }
    where
      go : (x y : Bool) → lt (mul (sub (div k s.squared) near_end) (sub far_end (div k s.squared))) zero64 ≡ x → lt b d ≡ y → (sag : Float) → Beyond sag b
          → not (x || y) ≡ false → within_sag sag s r ≡ false
      go true y p q sag g z = (ruled_sign b p).out sag g refl
      go false true p q sag g z = (ruled_far b eu eo ed).out sag g (ap not q)
      go false false p q sag g z = absurd (subst T z tt)
