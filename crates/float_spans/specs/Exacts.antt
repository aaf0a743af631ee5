-- Each operation on finite floats as one rounding of an exact signed fraction. Assumes nothing.
use Rattle.std.specs.Prelude.{◌≡◌, refl, Bool, true, false, not, cond, ℕ, zero, suc, ◌+◌, ◌-◌, ◌*◌, ◌≤◌, ◌<◌, T, ltb, eqb, Float}
use Rattle.std.proofs.Common.{ap, mul-pos, arith, ltb→lt, nltb→le}
use Rattle.std.proofs.Math.Dec.{eqb-suc-zero}
use Rattle.std.specs.Float.{nan, inf, fin, Format}
use Rattle.std.specs.Float.Ieee.{up, down, unlike, round, sum, neg, add, mul, div}
use Rattle.std.specs.Float.Ieee.Fits.{up_pos, down_pos}
use Rattle.std.specs.Float.Ieee.Positive.{num, den, positive}
use Rattle.std.specs.Float.Ieee.Scale.{finite}
use Rattle.float_rounding.specs.Near.{plus, less}
use Rattle.float_spans.specs.Signs.{over, under, plus_mul, less_mul}
use Rattle.float_spans.specs.Rounds.{Rounded}

-- ---- the sum
sum_rounded : (f : Format) (s : Bool) (a : ℕ) (t : Bool) (b c : ℕ) → 0 < c → Rounded f (sum f s a t b c) (plus s a + plus t b) (less s a + less t b) c
unfolding sum
sum_rounded f false a false b c C = record { sign = false; size = a + b; is = refl; above = C; value = omega arith }
sum_rounded f true a true b c C = record { sign = true; size = a + b; is = refl; above = C; value = omega arith }
sum_rounded f false a true b c C = go (ltb a b) (ltb→lt a b) (nltb→le a b)
  where
    go : (x : Bool) → (T x → a < b) → (T (not x) → b ≤ a) → Rounded f (cond x (round f true (b - a) c) (round f false (a - b) c)) (a + 0) (0 + b) c
    go true l g = let k = l tt in record { sign = true; size = b - a; is = refl; above = C; value = omega arith }
    go false l g = let k = g tt in record { sign = false; size = a - b; is = refl; above = C; value = omega arith }
sum_rounded f true a false b c C = go (ltb a b) (ltb b a) (ltb→lt a b) (nltb→le a b) (ltb→lt b a) (nltb→le b a)
  where
    go : (x y : Bool) → (T x → a < b) → (T (not x) → b ≤ a) → (T y → b < a) → (T (not y) → a ≤ b) → Rounded f (cond x (round f false (b - a) c) (round f y (a - b) c)) (0 + b) (a + 0) c
    go true y l g l' g' = let k = l tt in record { sign = false; size = b - a; is = refl; above = C; value = omega arith }
    go false true l g l' g' = let k = g tt in record { sign = true; size = a - b; is = refl; above = C; value = omega arith }
    go false false l g l' g' = let k = g tt in let k' = g' tt in record { sign = false; size = a - b; is = refl; above = C; value = omega arith }

-- the same with its parts written otherwise
restated : {f : Format} {z : Float} {p n c : ℕ} (p' n' : ℕ) → p ≡ p' → n ≡ n' → Rounded f z p n c → Rounded f z p' n' c
restated p' n' h k r = record { sign = r.sign; size = r.size; is = r.is; above = r.above; value = omega (arith, r.value, h, k) }

-- x + y
pub add_rounded : (f : Format) (x y : Float) → T (finite x) → T (finite y) → Rounded f (add f x y) (over x * den y + over y * den x) (under x * den y + under y * den x) (den x * den y)
unfolding add
add_rounded f nan y p q = absurd p
add_rounded f (inf s) y p q = absurd p
add_rounded f (fin s m e) nan p q = absurd q
add_rounded f (fin s m e) (inf t) p q = absurd q
add_rounded f (fin s m e) (fin t n d) p q =
    restated (plus s (m * up e) * down d + plus t (n * up d) * down e) (less s (m * up e) * down d + less t (n * up d) * down e)
    (omega (arith, plus_mul s (m * up e) (down d), plus_mul t (n * up d) (down e)))
    (omega (arith, less_mul s (m * up e) (down d), less_mul t (n * up d) (down e)))
    (sum_rounded f s (m * up e * down d) t (n * up d * down e) (down e * down d) (mul-pos (down_pos e) (down_pos d)))

-- ---- the product
mul_signs : (s t : Bool) (a b : ℕ) → plus (unlike s t) (a * b) + (plus s a * less t b + less s a * plus t b) ≡ less (unlike s t) (a * b) + (plus s a * plus t b + less s a * less t b)
mul_signs false false a b = omega arith
mul_signs false true a b = omega arith
mul_signs true false a b = omega arith
mul_signs true true a b = omega arith

-- x * y
pub mul_rounded : (f : Format) (x y : Float) → T (finite x) → T (finite y) → Rounded f (mul f x y) (over x * over y + under x * under y) (over x * under y + under x * over y) (den x * den y)
unfolding mul
mul_rounded f nan y p q = absurd p
mul_rounded f (inf s) y p q = absurd p
mul_rounded f (fin s m e) nan p q = absurd q
mul_rounded f (fin s m e) (inf t) p q = absurd q
mul_rounded f (fin s m e) (fin t n d) p q =
    record { sign = unlike s t; size = m * up e * (n * up d); is = refl; above = mul-pos (down_pos e) (down_pos d); value = mul_signs s t (m * up e) (n * up d) }

-- ---- the quotient by a positive float
div_signs : (s : Bool) (a d : ℕ) → plus (unlike s false) (a * d) + less s a * d ≡ less (unlike s false) (a * d) + plus s a * d
div_signs false a d = omega arith
div_signs true a d = omega arith

-- x / y
pub div_rounded : (f : Format) (x y : Float) → T (finite x) → T (positive y) → Rounded f (div f x y) (over x * den y) (under x * den y) (num y * den x)
unfolding div
div_rounded f nan y p q = absurd p
div_rounded f (inf s) y p q = absurd p
div_rounded f (fin s m e) nan p q = absurd q
div_rounded f (fin s m e) (inf t) p q = absurd q
div_rounded f (fin s m e) (fin true n d) p q = absurd q
div_rounded f (fin s m e) (fin false zero d) p q = absurd q
div_rounded f (fin s m e) (fin false (suc n) d) p q = record {
  sign = unlike s false;
  size = m * up e * down d;
  is = ap (λ (b : Bool). cond b (cond (eqb m 0) nan (inf (unlike s false))) (round f (unlike s false) (m * up e * down d) (suc n * up d * down e))) (eqb-suc-zero n);
  above = mul-pos (mul-pos (ltb→lt 0 (suc n) q) (up_pos d)) (down_pos e);
  value = div_signs s (m * up e) (down d);
}

-- ---- the opposite
pub neg_finite : (x : Float) → T (finite x) → T (finite (neg x))
unfolding neg
neg_finite nan h = h
neg_finite (inf s) h = h
neg_finite (fin s m e) h = tt

-- the opposite has above zero what x has below
pub neg_over : (x : Float) → over (neg x) ≡ under x
unfolding neg
neg_over nan = refl
neg_over (inf s) = refl
neg_over (fin true m e) = refl
neg_over (fin false m e) = refl

-- and below zero what x has above
pub neg_under : (x : Float) → under (neg x) ≡ over x
unfolding neg
neg_under nan = refl
neg_under (inf s) = refl
neg_under (fin true m e) = refl
neg_under (fin false m e) = refl

-- over the same denominator
pub neg_den : (x : Float) → den (neg x) ≡ den x
unfolding neg
neg_den nan = refl
neg_den (inf s) = refl
neg_den (fin s m e) = refl
