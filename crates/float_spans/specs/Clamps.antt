-- A span cut to the floats between two others, and small laws on sums and products. Assumes nothing.
use Rattle.std.specs.Prelude.{◌≡◌, refl, Bool, true, false, not, cond, ℕ, ◌+◌, ◌*◌, T, eqb, Float}
use Rattle.std.proofs.Common.{ap, ◌∙◌, mul_comm}
use Rattle.std.specs.Float.{nan, inf, fin, Format}
use Rattle.std.specs.Float.Ieee.{up, down, unlike, round, sum, neg, add, sub, mul, lt}
use Rattle.std.specs.Float.Ieee.Scale.{finite}
use Rattle.float_spans.specs.Rounds.{number, upper, upper_round}
use Rattle.float_spans.specs.Monotone.{add_number}
use Rattle.float_spans.specs.Orders.{NotBelow, refuted, above_of_lt}
use Rattle.float_spans.specs.Everywhere.{top, bottom, tail}
use Rattle.float_spans.specs.declared.Span.{Span}
use Rattle.float_spans.specs.Spans.{Holds, Finite}

-- of X, what lies between n and m
abbrev pub clamp : Float → Float → Span → Span
clamp n m X = record { low = cond (lt n X.low) X.low n; high = cond (lt X.high m) X.high m }

-- what is between two finite floats is finite
pub finite_inside : (n t m : Float) → T (lt n t) → T (lt t m) → T (finite t)
finite_inside n nan m h k = tail n h
finite_inside n (inf true) m h k = bottom n h
finite_inside n (inf false) m h k = top m k
finite_inside n (fin s i g) m h k = tt

either : (b : Bool) (P : Bool → Type 0) → (T b → P true) → P false → P b
either true P h k = h tt
either false P h k = k

-- t is still in the span
pub clamp_holds : (n m : Float) {X : Span} {t : Float} → T (lt n t) → T (lt t m) → Holds X t → Holds (clamp n m X) t
clamp_holds n m {X} {t} p q h = record {
  least = either (lt n X.low) (λ b. NotBelow t (cond b X.low n)) (λ k. h.least) (above_of_lt n t p);
  most = either (lt X.high m) (λ b. NotBelow (cond b X.high m) t) (λ k. h.most) (above_of_lt t m q);
}

low_finite : (n l t : Float) → T (finite t) → T (lt n l) → NotBelow t l → T (finite l)
low_finite n l nan p h k = absurd p
low_finite n l (inf s) p h k = absurd p
low_finite n nan (fin s i g) p h k = tail n h
low_finite n (inf true) (fin s i g) p h k = bottom n h
low_finite n (inf false) (fin s i g) p h k = refuted k (unfold lt in tt)
low_finite n (fin u j d) (fin s i g) p h k = tt

high_finite : (u m t : Float) → T (finite t) → T (lt u m) → NotBelow u t → T (finite u)
high_finite u m nan p h k = absurd p
high_finite u m (inf s) p h k = absurd p
high_finite nan m (fin s i g) p h k = unfold lt in h
high_finite (inf true) m (fin s i g) p h k = refuted k (unfold lt in tt)
high_finite (inf false) m (fin s i g) p h k = top m h
high_finite (fin v j d) m (fin s i g) p h k = tt

-- and its ends are finite, whatever those of X are
pub clamp_finite : (n m : Float) {X : Span} {t : Float} → T (finite n) → T (finite m) → T (lt n t) → T (lt t m) → Holds X t → Finite (clamp n m X)
clamp_finite n m {X} {t} p q a b h = record {
  low = either (lt n X.low) (λ c. T (finite (cond c X.low n))) (λ k. low_finite n X.low t (finite_inside n t m a b) k h.least) p;
  high = either (lt X.high m) (λ c. T (finite (cond c X.high m))) (λ k. high_finite X.high m t (finite_inside n t m a b) k h.most) q;
}

-- ---- a product's factors change places
unlike_swap : (s t : Bool) → unlike s t ≡ unlike t s
unlike_swap true true = refl
unlike_swap true false = refl
unlike_swap false true = refl
unlike_swap false false = refl

-- x * y is y * x
pub mul_swap : (f : Format) (x y : Float) → mul f x y ≡ mul f y x
unfolding mul
mul_swap f nan nan = refl
mul_swap f nan (inf t) = refl
mul_swap f nan (fin t n d) = refl
mul_swap f (inf s) nan = refl
mul_swap f (inf s) (inf t) = ap inf (unlike_swap s t)
mul_swap f (inf s) (fin t n d) = ap (λ (b : Bool). cond (eqb n 0) nan (inf b)) (unlike_swap s t)
mul_swap f (fin s m e) nan = refl
mul_swap f (fin s m e) (inf t) = ap (λ (b : Bool). cond (eqb m 0) nan (inf b)) (unlike_swap s t)
mul_swap f (fin s m e) (fin t n d) =
    ap (λ (b : Bool). round f b (m * up e * (n * up d)) (down e * down d)) (unlike_swap s t)
    ∙ ap (λ (a : ℕ). round f (unlike t s) a (down e * down d)) (mul_comm (m * up e) (n * up d))
    ∙ ap (λ (a : ℕ). round f (unlike t s) (n * up d * (m * up e)) a) (mul_comm (down e) (down d))

-- ---- a sum of two values with the sign plus has it
pub upper_add : (f : Format) (x y : Float) → T (upper x) → T (upper y) → T (upper (add f x y))
unfolding add sum
upper_add f nan y p q = absurd p
upper_add f (inf true) y p q = absurd p
upper_add f (inf false) nan p q = absurd q
upper_add f (inf false) (inf true) p q = absurd q
upper_add f (inf false) (inf false) p q = tt
upper_add f (inf false) (fin t n d) p q = tt
upper_add f (fin true m e) y p q = absurd p
upper_add f (fin false m e) nan p q = absurd q
upper_add f (fin false m e) (inf t) p q = q
upper_add f (fin false m e) (fin true n d) p q = absurd q
upper_add f (fin false m e) (fin false n d) p q = upper_round f (m * up e * down d + n * up d * down e) (down e * down d)

-- a finite float less a number is a number
pub sub_any : (f : Format) (x y : Float) → T (finite x) → T (number y) → T (number (sub f x y))
unfolding sub add neg
sub_any f nan y p q = absurd p
sub_any f (inf s) y p q = absurd p
sub_any f (fin s m e) nan p q = absurd q
sub_any f (fin s m e) (inf t) p q = tt
sub_any f (fin s m e) (fin t n d) p q = add_number f (fin s m e) (fin (not t) n d) tt tt
