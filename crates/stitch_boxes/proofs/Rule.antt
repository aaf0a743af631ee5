-- The rule that passes a box over: no point of it is within the sag of the edge. Assumes nothing.
use Rattle.std.specs.Prelude.{◌≡◌, Bool, ◌&&◌, ◌||◌, cond, ℕ, ◌*◌, eqb, Float}
use Rattle.std.proofs.Math.Path.{refl, ap}
use Rattle.std.proofs.Common.{sym, subst, eq-zero-or-pos, arith, lt→ltb}
use Rattle.std.proofs.Math.Logic.{inl, inr}
use Rattle.std.proofs.Math.Bool.{true, false, not}
use Rattle.std.proofs.Math.Option.{Option, none, some}
use Rattle.std.proofs.Math.Dec.{T, eqb_refl}
use Rattle.std.specs.Float.Ieee as Ieee
use Rattle.std.specs.Float.{nan, inf, fin}
use Rattle.std.specs.Float.Ieee.{binary64, up, down, lt, eq}
use Rattle.std.specs.Float.Ieee.Bits.{is_true}
use Rattle.std.specs.Float.Ieee.Fits.{add-fits}
use Rattle.std.specs.Float.Ieee.Positive.{above}
use Rattle.std.specs.Float.Ieee.Scale.{finite}
use Rattle.float_steps.specs.Patterns.{test_holds}
use Rattle.float_spans.specs.Signs.{or_split}
use Rattle.float_spans.specs.Rounds.{number, upper}
use Rattle.float_spans.specs.Orders.{refuted, lt_of_lt_of_not}
use Rattle.float_spans.specs.Everywhere.{finite_number}
use Rattle.float_spans.specs.Spans.{Holds, Finite}
use Rattle.float_spans.specs.Clamps.{finite_inside}
use Rattle.patch_geometry.specs.declared.Vec3.{Vec3}
use Rattle.patch_geometry.specs.Geometry.{div, sub_v, scale, dot, length_v, zero64}
use Rattle.stitch_projection.specs.declared.Edge.{Edge}
use Rattle.stitch_projection.specs.declared.Hit.{Hit}
use Rattle.stitch_projection.specs.Projection.{near_end, far_end, project, within_sag}
use Rattle.stitch_sag.specs.Beyond.{Beyond}
use Rattle.stitch_boxes.specs.declared.Bounds.{Bounds}
use Rattle.stitch_boxes.specs.Boxes.{Within, FiniteBox, FiniteVec, less_v, counting, span_of, least_off, far}
use Rattle.stitch_boxes.specs.BoxLaws.{counting_finite, counting_holds, way_within, parameter_inside, parameter_finite, least_off_lem, dot_upper, off_number}

-- a value with the sign plus that is not level with zero is above it
above_of_upper : (x : Float) → T (upper x) → T (not (eq x zero64)) → T (above x)
unfolding eq Ieee.of_bits
above_of_upper nan p h = absurd p
above_of_upper (inf s) p h = p
above_of_upper (fin true m e) p h = absurd p
above_of_upper (fin false m e) p h = elim (eq-zero-or-pos m) [ inl z ↦ absurd (level (m * up e * 1) (0 * 1 * down e) (same m (up e) (down e) z) h) | inr k ↦ lt→ltb 0 m k ]
  where
    same : (m u d : ℕ) → m ≡ 0 → m * u * 1 ≡ 0 * 1 * d
    same m u d z = omega (arith, ap (λ (x : ℕ). x * u) z)

    level : (a b : ℕ) → a ≡ b → T (not (eqb a b && true)) → ⊥
    level a b e h = no (eqb a b) (subst (λ (x : ℕ). T (eqb a x)) e (eqb_refl a)) h
      where
        no : (t : Bool) → T t → T (not (t && true)) → ⊥
        no true p q = q
        no false p q = p

-- An edge of its squared length, finite ways along it and to r, and a box whose ways have finite ends: if the box is far from the edge, none of its points is within the sag.
module _ (s : Edge) (r : Vec3) (B : Bounds) (e : s.squared ≡ dot s.along s.along) (d : FiniteVec s.along)
    (v : FiniteVec (sub_v r s.start)) (g : FiniteBox (less_v B s.start)) (h : Within B r) where
  abbrev w : Vec3
  w = sub_v r s.start

  abbrev W : Bounds
  W = less_v B s.start

  abbrev t : Float
  t = div (dot w s.along) s.squared

  abbrev off : Vec3
  off = sub_v w (scale s.along t)

  module _ (z : T (not (eq s.squared zero64))) (p : T (lt near_end t)) (q : T (lt t far_end)) where
    squared_above : T (above s.squared)
    squared_above =
        above_of_upper s.squared
        (subst (λ (x : Float). T (upper x)) (sym e)
        (dot_upper s.along (finite_number s.along.x d.x) (finite_number s.along.y d.y) (finite_number s.along.z d.z)))
        z

    t_finite : T (finite t)
    t_finite = finite_inside near_end t far_end p q

    square_number : T (number (dot off off))
    square_number = off_number w s.along t v d t_finite

    -- each way of being far puts the square of the distance above b
    beyond : (b : Float) → T (far B s b) → T (lt b (dot off off))
    unfolding far
    beyond b f = elim (or_split (lt b (least_off W s.along counting) || lt (span_of W s).high (span_of W s).low) (lt b (least_off W s.along (span_of W s))) f) [
      | inl f ↦ elim (or_split (lt b (least_off W s.along counting)) (lt (span_of W s).high (span_of W s).low) f) [
        | inl l ↦ lt_of_lt_of_not b (least_off W s.along counting) (dot off off) square_number l (least_off_lem s.along counting_finite d (way_within s.start h) (counting_holds p q))
        | inr l ↦ absurd (refuted u_holds.most (lt_of_lt_of_not (span_of W s).high (span_of W s).low t (finite_number t t_finite) l u_holds.least))
      ]
      | inr l ↦ lt_of_lt_of_not b (least_off W s.along (span_of W s)) (dot off off) square_number l (least_off_lem s.along u_finite d (way_within s.start h) u_holds)
    ]
      where
        u_holds : Holds (span_of W s) t
        u_holds = parameter_inside s g d squared_above (way_within s.start h) p q

        u_finite : Finite (span_of W s)
        u_finite = parameter_finite s g d squared_above (way_within s.start h) p q

  -- no point of a far box is within the sag
  pub far_rule : (sag b : Float) → Beyond sag b → far B s b ≡ true → within_sag sag s r ≡ false
  unfolding within_sag project length_v
  far_rule sag b y f =
      go (not (eq s.squared zero64)) (lt near_end t) (lt t far_end)
      (λ z p q. y.far (dot off off) (add-fits binary64 _ _) (is_true (lt b (dot off off)) (beyond z p q b (test_holds (far B s b) f))))
    where
      go : (x y z : Bool) → (T x → T y → T z → lt sag (length_v off) ≡ true)
          → elim (cond {A = Option Hit} (x && y && z) (some (record { t = t; distance = length_v off })) none) [ none ↦ false | some h ↦ not (lt sag h.distance) ] ≡ false
      go true true true k = ap not (k tt tt tt)
      go true true false k = refl
      go true false z k = refl
      go false y z k = refl
