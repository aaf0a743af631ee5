-- A normal mixed of two f32 normals is finite: its parts are within 2 ^ 129, and one beyond 2 ^ 20 is divided by at least 2 ^ 19. Assumes nothing.
use Rattle.std.specs.Prelude.{◌≡◌, Bool, ℕ, zero, suc, ◌+◌, ◌*◌, ◌^◌, ◌≤◌, pos, negsuc, Float}
use Rattle.std.proofs.Math.Path.{refl, ap, subst}
use Rattle.std.proofs.Common.{sym, ◌∙◌, mul-le-mul_right, arith}
use Rattle.std.proofs.Math.Bool.{true, false, cond}
use Rattle.std.proofs.Math.Dec.{T}
use Rattle.std.specs.Float.Ieee.{nan, binary64, up, down, fits, round, lt, le, is_nan}
use Rattle.std.specs.Float.{inf, fin}
use Rattle.std.specs.Float.Ieee as Ieee
use Rattle.std.specs.Float.Ieee.Fits.{add-fits}
use Rattle.std.specs.Float.Ieee.Positive.{above, above_of_le}
use Rattle.std.specs.Float.Ieee.Scale as Scale
use Rattle.float_steps.specs.Floats.{finite, negative, larger}
use Rattle.float_narrow.specs.Narrow.{narrow}
use Rattle.float_sqrt.specs.Roots.{isqrt, root_of, sqrt}
use Rattle.float_spans.specs.Signs.{le→Le}
use Rattle.float_spans.specs.Rounds.{number, upper, number_upper, number_round}
use Rattle.float_spans.specs.Monotone.{nought, sub_left}
use Rattle.float_spans.specs.Orders.{NotBelow, below_of_le, le_of_below, lt_of_lt_of_not, number_le, le_trans, not_self, le_of_lt, above_of_lt}
use Rattle.float_spans.specs.Everywhere.{add_keeps, finite_number}
use Rattle.float_spans.specs.Squares.{finite_between, nought_le, upper_square, square_above, square_under}
use Rattle.float_spans.specs.Clamps.{finite_inside, upper_add}
use Rattle.float_spans.specs.Roots.{root_keeps}
use Rattle.float_spans.specs.Small.{Single}
use Rattle.lists.specs.Each.{Each}
use Rattle.patch_geometry.specs.declared.Vec3.{Vec3}
use Rattle.patch_geometry.specs.Geometry.{add, sub, mul, div, add_v, scale, dot, length_v, one64}
use Rattle.stitch_projection.specs.Projection.{near_end, far_end, least_length, mixed}
use Rattle.stitch_passing.specs.NewPoints.{OfPoint, Between}
use Rattle.stitch_passing.specs.Sizes.{end, Within, within_finite, single_within, Part, part_within, sum_within, quotient_within, narrow_finite}

-- ---- the parameter and what it leaves of 1

-- 1e-6 is not below 0
near_part : T (le nought near_end)
unfolding le near_end Ieee.of_bits
near_part = tt

-- 1 − 1e-6 is not above 1
far_part : T (le far_end one64)
unfolding le far_end Ieee.of_bits
far_part = tt

-- 1 less 1e-6 is not above 1
near_left : T (le (sub one64 near_end) one64)
unfolding le near_end Ieee.sub Ieee.of_bits
near_left = tt

-- 1 less 1 − 1e-6 is not below 0
far_left : T (le nought (sub one64 far_end))
unfolding le far_end Ieee.sub Ieee.of_bits
far_left = tt

-- the test holds
holds : (b : Bool) → b ≡ true → T b
holds b e = subst T (sym e) tt

module _ (t : Float) (h : Between t) where
  -- t is above 1e-6
  above_near : T (lt near_end t)
  above_near = holds (lt near_end t) h.above

  -- and below 1 − 1e-6
  below_far : T (lt t far_end)
  below_far = holds (lt t far_end) h.below

  -- so it is finite
  real : T (Scale.finite t)
  real = finite_inside near_end t far_end above_near below_far

  -- t is a part of 1
  part_of : Part t
  unfolding Ieee.of_bits
  part_of = record {
    real = real;
    low = le_trans nought near_end t near_part (le_of_lt near_end t above_near);
    high = le_trans t far_end one64 (le_of_lt t far_end below_far) far_part;
  }

  -- 1 − t is not below 0
  rest_low : T (le nought (sub one64 t))
  unfolding far_end Ieee.of_bits
  rest_low = le_trans nought (sub one64 far_end) (sub one64 t) far_left (sub_left binary64 t far_end one64 real tt tt (le_of_lt t far_end below_far))

  -- nor above 1
  rest_high : T (le (sub one64 t) one64)
  unfolding near_end Ieee.of_bits
  rest_high = le_trans (sub one64 t) (sub one64 near_end) one64 (sub_left binary64 near_end t one64 tt real tt (le_of_lt near_end t above_near)) near_left

  -- so is 1 − t
  rest_of : Part (sub one64 t)
  unfolding Ieee.of_bits
  rest_of = record {
    real =
        finite_between nought (sub one64 t) one64 tt tt (number_le nought (sub one64 t) rest_low).1 (below_of_le (sub one64 t) nought rest_low) (below_of_le one64 (sub one64 t) rest_high);
    low = rest_low;
    high = rest_high;
  }

  -- a mixed coordinate is within 2 ^ 129
  mix_within : (x y : Float) → Single x → Single y → Within 129 (add (mul x (sub one64 t)) (mul y t))
  mix_within x y p q =
      sum_within (mul x (sub one64 t)) (mul y t) (part_within x (sub one64 t) (single_within x p) rest_of) (part_within y t (single_within y q) part_of)

-- ---- the length

-- a root of a value with the sign plus is a number
root_number : (x : Float) → T (upper x) → T (number (sqrt x))
unfolding sqrt root_of
root_number nan h = absurd h
root_number (inf true) h = absurd h
root_number (inf false) h = tt
root_number (fin true m e) h = absurd h
root_number (fin false zero e) h = tt
root_number (fin false (suc m) e) h = number_round binary64 false _ (2 ^ 1074)

-- that of 2 ^ 38
root_38 : sqrt (end false 38) ≡ end false 19
unfolding sqrt root_of isqrt Ieee.size round
root_38 = refl

-- a coordinate beyond 2 ^ 20
data Big (x : Float) : Type 0 where
  above_it : NotBelow x (end false 20) → Big x
  below_it : NotBelow (end true 20) x → Big x

-- its square is at least 2 ^ 40
big_square : (x : Float) → T (number x) → Big x → NotBelow (mul x x) (end false 40)
unfolding Ieee.mul lt
big_square x n (above_it h) = below_of_le (mul x x) (end false 40) (square_above binary64 (end false 20) x tt n h)
big_square x n (below_it h) = below_of_le (mul x x) (end false 40) (square_under binary64 (end true 20) x tt n h)

-- any square is at least 0
any_square : (x : Float) → T (number x) → NotBelow (mul x x) nought
any_square x n = below_of_le (mul x x) nought (nought_le (mul x x) (upper_square binary64 x n))

module _ (m : Vec3) (w : OfPoint (Within 129) m) where
  -- each coordinate is a number: x
  number_x : T (number m.x)
  number_x = finite_number m.x (within_finite 129 m.x w.0)

  -- y
  number_y : T (number m.y)
  number_y = finite_number m.y (within_finite 129 m.y w.1)

  -- z
  number_z : T (number m.z)
  number_z = finite_number m.z (within_finite 129 m.z w.2)

  -- the square of the length has the sign plus
  upper_dot : T (upper (dot m m))
  upper_dot =
      upper_add binary64 (add (mul m.x m.x) (mul m.y m.y)) (mul m.z m.z)
      (upper_add binary64 (mul m.x m.x) (mul m.y m.y) (upper_square binary64 m.x number_x) (upper_square binary64 m.y number_y))
      (upper_square binary64 m.z number_z)

  -- the length is a number
  length_number : T (number (length_v m))
  unfolding length_v
  length_number = root_number (dot m m) upper_dot

  -- with a big coordinate its square is at least 2 ^ 40
  dot_x : Big m.x → NotBelow (dot m m) (end false 40)
  unfolding Ieee.add
  dot_x b = add_keeps binary64 (add_keeps binary64 (big_square m.x number_x b) (any_square m.y number_y)) (any_square m.z number_z)

  -- so with a big y
  dot_y : Big m.y → NotBelow (dot m m) (end false 40)
  unfolding Ieee.add
  dot_y b = add_keeps binary64 (add_keeps binary64 (any_square m.x number_x) (big_square m.y number_y b)) (any_square m.z number_z)

  -- or a big z
  dot_z : Big m.z → NotBelow (dot m m) (end false 40)
  unfolding Ieee.add
  dot_z b = add_keeps binary64 (add_keeps binary64 (any_square m.x number_x) (any_square m.y number_y)) (big_square m.z number_z b)

  -- and it is at least 2 ^ 19
  length_big : NotBelow (dot m m) (end false 40) → T (le (end false 19) (length_v m))
  unfolding length_v lt fits
  length_big b =
      let more = lt_of_lt_of_not (end false 38) (end false 40) (dot m m) (number_upper (dot m m) upper_dot) tt b in
      le_of_below (length_v m) (end false 19) length_number tt
      (subst (λ (z : Float). NotBelow (length_v m) z) root_38
      (root_keeps (end false 38) (dot m m) tt (add-fits binary64 (add (mul m.x m.x) (mul m.y m.y)) (mul m.z m.z)) more))

-- ---- the divisor

-- of two numbers neither is above the larger
module _ (x y : Float) (p : T (number x)) (q : T (number y)) where
  -- a number is no NaN
  not_nan : (z : Float) → T (number z) → is_nan z ≡ false
  unfolding is_nan
  not_nan nan h = absurd h
  not_nan (inf s) h = refl
  not_nan (fin s m e) h = refl

  -- which of them it is
  chosen : Bool → Bool → Bool → Float
  chosen a b c = cond a y (cond b x (cond c y x))

  -- the larger is so chosen
  larger_is : larger x y ≡ chosen (lt x y) (lt y x) (negative x)
  unfolding larger chosen
  larger_is = ap (λ (a : Bool). cond a y (cond (is_nan y) x (chosen (lt x y) (lt y x) (negative x)))) (not_nan x p)
      ∙ ap (λ (a : Bool). cond a x (chosen (lt x y) (lt y x) (negative x))) (not_nan y q)

  -- it is not below the first
  larger_first : T (le x (larger x y))
  unfolding chosen
  larger_first = subst (λ (z : Float). T (le x z)) (sym larger_is) (go (lt x y) (lt y x) (negative x) refl refl)
    where
      go : (a b c : Bool) → lt x y ≡ a → lt y x ≡ b → T (le x (chosen a b c))
      go true b c e f = le_of_lt x y (holds (lt x y) e)
      go false true c e f = le_of_below x x p p (not_self x)
      go false false true e f = le_of_below y x q p (record { is = f })
      go false false false e f = le_of_below x x p p (not_self x)

  -- nor below the second
  larger_second : T (le y (larger x y))
  unfolding chosen
  larger_second = subst (λ (z : Float). T (le y z)) (sym larger_is) (go (lt x y) (lt y x) (negative x) refl refl)
    where
      go : (a b c : Bool) → lt x y ≡ a → lt y x ≡ b → T (le y (chosen a b c))
      go true b c e f = le_of_below y y q q (not_self y)
      go false true c e f = le_of_lt y x (holds (lt y x) f)
      go false false true e f = le_of_below y y q q (not_self y)
      go false false false e f = le_of_below x y p q (record { is = e })

-- 2 ^ -100, below 1e-30
abbrev tiny : Float
tiny = fin false 1 (negsuc 99)

-- it is not above 1e-30
tiny_least : T (le tiny least_length)
unfolding le least_length Ieee.of_bits
tiny_least = tt

-- 1e-30 is a number
least_number : T (number least_length)
unfolding least_length Ieee.of_bits
least_number = tt

-- ---- the quotient

-- the kit's test of a finite value says the same
finite_same : (x : Float) → T (Scale.finite x) → finite x ≡ true
unfolding finite
finite_same nan h = absurd h
finite_same (inf s) h = absurd h
finite_same (fin s m e) h = refl

-- a zero narrows to one
zero_narrow : (s : Bool) → T (Scale.finite (narrow (fin s 0 (pos 0))))
unfolding narrow round
zero_narrow true = tt
zero_narrow false = tt

-- divided by infinity
by_infinity : (x : Float) → T (Scale.finite x) → T (Scale.finite (narrow (div x (inf false))))
unfolding Ieee.div
by_infinity nan h = absurd h
by_infinity (inf s) h = absurd h
by_infinity (fin s m e) h = zero_narrow (Ieee.unlike s false)

-- what is divided is small, or the divisor is large
data Divides (x l : Float) : Type 0 where
  small : Within 20 x → Divides x l
  large : T (le (end false 19) l) → Divides x l

-- an inequality times P, in variables, since 2 ^ 129 has more digits than `omega` takes
multiplied : (L P A K a d : ℕ) → L * P ≡ A → P ≤ K → L * d ≤ a → A * d ≤ K * a
multiplied L P A K a d e g h = omega (arith, ap (λ (z : ℕ). z * d) e, mul-le-mul_right P h, mul-le-mul_right a g)

-- A coordinate within 2 ^ 129, divided so, narrows to a finite value.
divided : (x l : Float) → Within 129 x → T (le tiny l) → Divides x l → T (Scale.finite (narrow (div x l)))
divided x nan w h d = absurd (number_le tiny nan h).1
divided x (inf true) w h d = absurd (above_of_le tiny (inf true) tt h)
divided x (inf false) w h d = by_infinity x (within_finite 129 x w)
divided x (fin true n e) w h d = absurd (above_of_le tiny (fin true n e) tt h)
divided x (fin false n e) w h (small v) =
    narrow_finite (div x (fin false n e)) (quotient_within 20 x (fin false n e) v (above_of_le tiny (fin false n e) tt h) (far (n * up e) (down e) (le→Le tiny (fin false n e) tt tt h)))
  where
    far : (a d : ℕ) → 1 * d + 0 * 2 ^ 100 ≤ a * 2 ^ 100 + 0 * d → 2 ^ 20 * d ≤ 2 ^ 120 * a
    far a d l = omega arith
divided x (fin false n e) w h (large v) =
    narrow_finite (div x (fin false n e)) (quotient_within 129 x (fin false n e) w (above_of_le tiny (fin false n e) tt h) (near (n * up e) (down e) (le→Le (end false 19) (fin false n e) tt tt v)))
  where
    near : (a d : ℕ) → 1 * 2 ^ 19 * d + 0 * 1 ≤ a * 1 + 0 * d → 2 ^ 129 * d ≤ 2 ^ 120 * a
    near a d l = multiplied (2 ^ 19) (2 ^ 110) (2 ^ 129) (2 ^ 120) a d refl (omega arith) (omega arith)

-- a coordinate is big, or within 2 ^ 20
sized : (x l : Float) → T (number x) → (Big x → T (le (end false 19) l)) → Divides x l
sized x l n f = go (lt (end false 20) x) (lt x (end true 20)) refl refl
  where
    go : (a b : Bool) → lt (end false 20) x ≡ a → lt x (end true 20) ≡ b → Divides x l
    go true b e g = large (f (above_it (above_of_lt (end false 20) x (holds (lt (end false 20) x) e))))
    go false true e g = large (f (below_it (above_of_lt x (end true 20) (holds (lt x (end true 20)) g))))
    go false false e g = small (record { least = le_of_below x (end true 20) n tt (record { is = g }); most = le_of_below (end false 20) x tt n (record { is = e }) })

-- Each coordinate of the mixed normal is finite.
pub mixed_finite : (na nb : Vec3) (t : Float) → OfPoint Single na → OfPoint Single nb → Between t → Each (λ x. finite x ≡ true) (mixed na nb t)
unfolding mixed
mixed_finite na nb t a b h = (each m.x w.0 (dot_x m w), (each m.y w.1 (dot_y m w), (each m.z w.2 (dot_z m w), tt)))
  where
    m : Vec3
    m = add_v (scale na (sub one64 t)) (scale nb t)

    w : OfPoint (Within 129) m
    w = (mix_within t h na.x nb.x a.0 b.0, mix_within t h na.y nb.y a.1 b.1, mix_within t h na.z nb.z a.2 b.2)

    l : Float
    l = larger (length_v m) least_length

    each : (x : Float) → Within 129 x → (Big x → NotBelow (dot m m) (end false 40)) → finite (narrow (div x l)) ≡ true
    each x v f =
        let r = length_number m w in
        finite_same (narrow (div x l))
        (divided x l v (le_trans tiny least_length l tiny_least (larger_second (length_v m) least_length r least_number))
        (sized x l (finite_number x (within_finite 129 x v))
        (λ big. le_trans (end false 19) (length_v m) l (length_big m w (f big)) (larger_first (length_v m) least_length r least_number))))
