-- The same in `le`, for operands of any kind whose results are not NaN; and products of any floats by one of a known sign. Assumes nothing.
use Rattle.std.specs.Prelude.{◌≡◌, refl, Bool, true, false, not, cond, ℕ, zero, suc, ◌*◌, T, eqb, Float}
use Rattle.std.proofs.Common.{sym, ap, ◌∙◌, subst}
use Rattle.std.proofs.Math.Dec.{eqb-suc-zero}
use Rattle.std.specs.Float.{nan, inf, fin, Format}
use Rattle.std.specs.Float.Ieee.{up, down, unlike, round, neg, add, sub, mul, div, lt, le}
use Rattle.std.specs.Float.Ieee.Positive.{positive, above}
use Rattle.std.specs.Float.Ieee.Scale.{finite}
use Rattle.float_spans.specs.Rounds.{number, round_neg}
use Rattle.float_spans.specs.Monotone.{nought, mul_le}
use Rattle.float_spans.specs.Orders.{NotBelow, not_below, refuted, lt_le, le_of_not, below_of_le, le_of_below}
use Rattle.float_spans.specs.Everywhere.{top, bottom, tail, nan_mul, passes, add_keeps, sub_keeps}
use Rattle.float_spans.specs.Squares.{nought_le}

-- x ≤ x' and y ≤ y' give x + y ≤ x' + y'
pub add_any : (f : Format) (x x' y y' : Float) → T (number (add f x y)) → T (number (add f x' y')) → T (le x x') → T (le y y') → T (le (add f x y) (add f x' y'))
add_any f x x' y y' p q h k = le_of_below (add f x' y') (add f x y) q p (add_keeps f (below_of_le x' x h) (below_of_le y' y k))

-- x ≤ x' and y' ≤ y give x - y ≤ x' - y'
pub sub_any : (f : Format) (x x' y y' : Float) → T (number (sub f x y)) → T (number (sub f x' y')) → T (le x x') → T (le y' y) → T (le (sub f x y) (sub f x' y'))
sub_any f x x' y y' p q h k = le_of_below (sub f x' y') (sub f x y) q p (sub_keeps f (below_of_le x' x h) (below_of_le y y' k))

-- ---- products by a finite float that is not below zero
scaled : (f : Format) (s : Bool) (c : Float) → T (positive c) → mul f (inf s) c ≡ inf s
unfolding mul
scaled f s nan p = absurd p
scaled f s (inf t) p = absurd p
scaled f s (fin true n d) p = absurd p
scaled f s (fin false zero d) p = absurd p
scaled f s (fin false (suc n) d) p = ap (λ (b : Bool). cond b nan (inf (unlike s false))) (eqb-suc-zero n) ∙ ap inf (same s)
  where
    same : (s : Bool) → unlike s false ≡ s
    same true = refl
    same false = refl

nan_lt : (z : Float) → T (lt nan z) → ⊥
unfolding lt
nan_lt z h = h

-- by a positive one
mul_below : (f : Format) (x y c : Float) → T (positive c) → T (finite c) → T (le nought c) → T (lt (mul f x c) (mul f y c)) → T (lt x y)
mul_below f nan y c p q r h = absurd (nan_lt (mul f y c) (subst (λ (z : Float). T (lt z (mul f y c))) (nan_mul f c) h))
mul_below f (inf true) y c p q r h = go y (subst (λ (z : Float). T (lt z (mul f y c))) (scaled f true c p) h)
  where
    go : (y : Float) → T (lt (inf true) (mul f y c)) → T (lt (inf true) y)
    go nan h = absurd (tail (inf true) (subst (λ (z : Float). T (lt (inf true) z)) (nan_mul f c) h))
    go (inf true) h = absurd (bottom (inf true) (subst (λ (z : Float). T (lt (inf true) z)) (scaled f true c p) h))
    go (inf false) h = unfold lt in tt
    go (fin t n d) h = unfold lt in tt
mul_below f (inf false) y c p q r h = absurd (top (mul f y c) (subst (λ (z : Float). T (lt z (mul f y c))) (scaled f false c p) h))
mul_below f (fin s m e) nan c p q r h = absurd (tail (mul f (fin s m e) c) (subst (λ (z : Float). T (lt (mul f (fin s m e) c) z)) (nan_mul f c) h))
mul_below f (fin s m e) (inf true) c p q r h = absurd (bottom (mul f (fin s m e) c) (subst (λ (z : Float). T (lt (mul f (fin s m e) c) z)) (scaled f true c p) h))
mul_below f (fin s m e) (inf false) c p q r h = unfold lt in tt
mul_below f (fin s m e) (fin t n d) c p q r h =
    passes (lt (fin s m e) (fin t n d)) (λ u. lt_le (mul f (fin s m e) c) (mul f (fin t n d) c) h (mul_le f (fin t n d) (fin s m e) c tt tt q r (le_of_not (fin s m e) (fin t n d) tt tt u)))

positive_facts : (c : Float) → T (positive c) → T (finite c) × T (le nought c)
positive_facts nan p = absurd p
positive_facts (inf s) p = absurd p
positive_facts (fin true n d) p = absurd p
positive_facts (fin false n d) p = (tt, nought_le (fin false n d) tt)

-- a product by a positive float keeps it, whatever the other factor is
pub mul_keeps : (f : Format) {x y : Float} (c : Float) → T (positive c) → NotBelow x y → NotBelow (mul f x c) (mul f y c)
mul_keeps f {x} {y} c p h = not_below (mul f x c) (mul f y c) (λ l. refuted h (mul_below f x y c p (positive_facts c p).0 (positive_facts c p).1 l))

-- x ≤ y gives x * c ≤ y * c for a positive c
pub mul_any : (f : Format) (x y c : Float) → T (positive c) → T (number (mul f x c)) → T (number (mul f y c)) → T (le x y) → T (le (mul f x c) (mul f y c))
mul_any f x y c a p q h = le_of_below (mul f y c) (mul f x c) q p (mul_keeps f c a (below_of_le y x h))

-- ---- by its opposite
not_not : (s t : Bool) → unlike s (not t) ≡ not (unlike s t)
not_not true true = refl
not_not true false = refl
not_not false true = refl
not_not false false = refl

neg_neg : (x : Float) → neg (neg x) ≡ x
unfolding neg
neg_neg nan = refl
neg_neg (inf true) = refl
neg_neg (inf false) = refl
neg_neg (fin true m e) = refl
neg_neg (fin false m e) = refl

round_not : (f : Format) (s : Bool) (a c : ℕ) → round f (not s) a c ≡ neg (round f s a c)
round_not f false a c = round_neg f a c
round_not f true a c = sym (ap neg (round_neg f a c) ∙ neg_neg (round f false a c))

-- x * -c is -(x * c)
pub mul_neg : (f : Format) (x c : Float) → mul f x (neg c) ≡ neg (mul f x c)
unfolding mul neg
mul_neg f nan c = refl
mul_neg f (inf s) nan = refl
mul_neg f (inf s) (inf t) = ap inf (not_not s t)
mul_neg f (inf s) (fin t n d) = go (eqb n 0)
  where
    go : (b : Bool) → cond b nan (inf (unlike s (not t))) ≡ neg (cond b nan (inf (unlike s t)))
    go true = refl
    go false = ap inf (not_not s t)
mul_neg f (fin s m e) nan = refl
mul_neg f (fin s m e) (inf t) = go (eqb m 0)
  where
    go : (b : Bool) → cond b nan (inf (unlike s (not t))) ≡ neg (cond b nan (inf (unlike s t)))
    go true = refl
    go false = ap inf (not_not s t)
mul_neg f (fin s m e) (fin t n d) = ap (λ (b : Bool). round f b (m * up e * (n * up d)) (down e * down d)) (not_not s t) ∙ round_not f (unlike s t) (m * up e * (n * up d)) (down e * down d)
