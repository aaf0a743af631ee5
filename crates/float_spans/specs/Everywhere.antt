-- Sum, difference and quotient keep `NotBelow` of all floats, infinities and NaN included: no premise on the operands or the results. Assumes nothing.
use Rattle.std.specs.Prelude.{◌≡◌, refl, ◌⊎◌, Bool, true, false, T, Float}
use Rattle.std.proofs.Common.{inl, inr}
use Rattle.std.specs.Float.{nan, inf, fin, Format}
use Rattle.std.specs.Float.Ieee.{neg, add, sub, mul, div, lt}
use Rattle.std.specs.Float.Ieee.Positive.{above}
use Rattle.std.specs.Float.Ieee.Scale.{finite}
use Rattle.float_spans.specs.Rounds.{number, neg_le}
use Rattle.float_spans.specs.Monotone.{add_le, div_le}
use Rattle.float_spans.specs.Orders.{NotBelow, not_below, refuted, lt_le, le_of_not}

-- ---- nothing is above the infinity, below the negative one, or below a NaN
pub top : (z : Float) → T (lt (inf false) z) → ⊥
unfolding lt
top nan h = h
top (inf t) h = h
top (fin t n d) h = h

-- nothing is below the negative infinity
pub bottom : (z : Float) → T (lt z (inf true)) → ⊥
unfolding lt
bottom nan h = h
bottom (inf true) h = h
bottom (inf false) h = h
bottom (fin t n d) h = h

-- nothing is below a NaN
pub tail : (z : Float) → T (lt z nan) → ⊥
unfolding lt
tail nan h = h
tail (inf t) h = h
tail (fin t n d) h = h

-- a product by a NaN is one
pub nan_mul : (f : Format) (c : Float) → mul f nan c ≡ nan
unfolding mul
nan_mul f c = refl

-- a finite float is a number
pub finite_number : (x : Float) → T (finite x) → T (number x)
finite_number nan h = h
finite_number (inf s) h = tt
finite_number (fin s m e) h = tt

-- one of two tests passes, if not both fail
either : (p q : Bool) → ((T p → ⊥) → (T q → ⊥) → ⊥) → T p ⊎ T q
either true q h = inl tt
either false true h = inr tt
either false false h = absurd (h (λ x. x) (λ x. x))

-- a test that cannot fail passes
pub passes : (p : Bool) → ((T p → ⊥) → ⊥) → T p
passes true h = tt
passes false h = h (λ x. x)

-- ---- the sum
finite_add : (f : Format) (a c b d : Float) → T (finite a) → T (finite c) → T (finite b) → T (finite d) → T (lt (add f a c) (add f b d)) → T (lt a b) ⊎ T (lt c d)
finite_add f a c b d p q r s h = either (lt a b) (lt c d) (λ u v.
    lt_le (add f a c) (add f b d) h
    (add_le f b a d c r p s q (le_of_not a b (finite_number a p) (finite_number b r) u) (le_of_not c d (finite_number c q) (finite_number d s) v)))

-- a sum above the negative infinity has both its parts above it
least : (f : Format) (b d : Float) → T (lt (inf true) (add f b d)) → T (lt (inf true) b) × T (lt (inf true) d)
unfolding add lt
least f nan d h = absurd h
least f (inf s) nan h = absurd h
least f (inf true) (inf true) h = absurd h
least f (inf true) (inf false) h = absurd h
least f (inf true) (fin t n g) h = absurd h
least f (inf false) (inf true) h = absurd h
least f (inf false) (inf false) h = (tt, tt)
least f (inf false) (fin t n g) h = (tt, tt)
least f (fin s m e) nan h = absurd h
least f (fin s m e) (inf true) h = absurd h
least f (fin s m e) (inf false) h = (tt, tt)
least f (fin s m e) (fin t n g) h = (tt, tt)

add_below : (f : Format) (a c b d : Float) → T (lt (add f a c) (add f b d)) → T (lt a b) ⊎ T (lt c d)
unfolding add lt
add_below f nan c b d h = absurd h
add_below f (inf s) nan b d h = absurd h
add_below f (inf true) (inf true) b d h = inl (least f b d h).0
add_below f (inf true) (inf false) b d h = absurd h
add_below f (inf true) (fin t n g) b d h = inl (least f b d h).0
add_below f (inf false) (inf true) b d h = absurd h
add_below f (inf false) (inf false) b d h = absurd (top (add f b d) h)
add_below f (inf false) (fin t n g) b d h = absurd (top (add f b d) h)
add_below f (fin s m e) nan b d h = absurd h
add_below f (fin s m e) (inf true) b d h = inr (least f b d h).1
add_below f (fin s m e) (inf false) b d h = absurd (top (add f b d) h)
add_below f (fin s m e) (fin t n g) nan d h = absurd (tail (add f (fin s m e) (fin t n g)) h)
add_below f (fin s m e) (fin t n g) (inf true) nan h = absurd (tail (add f (fin s m e) (fin t n g)) h)
add_below f (fin s m e) (fin t n g) (inf true) (inf true) h = absurd (bottom (add f (fin s m e) (fin t n g)) h)
add_below f (fin s m e) (fin t n g) (inf true) (inf false) h = absurd (tail (add f (fin s m e) (fin t n g)) h)
add_below f (fin s m e) (fin t n g) (inf true) (fin v j l) h = absurd (bottom (add f (fin s m e) (fin t n g)) h)
add_below f (fin s m e) (fin t n g) (inf false) d h = inl tt
add_below f (fin s m e) (fin t n g) (fin u i k) nan h = absurd (tail (add f (fin s m e) (fin t n g)) h)
add_below f (fin s m e) (fin t n g) (fin u i k) (inf true) h = absurd (bottom (add f (fin s m e) (fin t n g)) h)
add_below f (fin s m e) (fin t n g) (fin u i k) (inf false) h = inr tt
add_below f (fin s m e) (fin t n g) (fin u i k) (fin v j l) h = finite_add f (fin s m e) (fin t n g) (fin u i k) (fin v j l) tt tt tt tt h

-- a sum is not below another whose parts its own are not below
pub add_keeps : (f : Format) {a b c d : Float} → NotBelow a b → NotBelow c d → NotBelow (add f a c) (add f b d)
add_keeps f {a} {b} {c} {d} h k = not_below (add f a c) (add f b d) (λ l. elim (add_below f a c b d l) [ inl x ↦ refuted h x | inr x ↦ refuted k x ])

-- ---- the difference
pub neg_below : (x y : Float) → T (lt (neg x) (neg y)) → T (lt y x)
unfolding neg lt
neg_below nan y h = absurd h
neg_below (inf s) nan h = absurd h
neg_below (inf true) (inf true) h = absurd h
neg_below (inf true) (inf false) h = absurd h
neg_below (inf false) (inf true) h = tt
neg_below (inf false) (inf false) h = absurd h
neg_below (inf true) (fin t n d) h = absurd h
neg_below (inf false) (fin t n d) h = tt
neg_below (fin s m e) nan h = absurd h
neg_below (fin s m e) (inf true) h = tt
neg_below (fin s m e) (inf false) h = absurd h
neg_below (fin s m e) (fin t n d) h =
    passes (lt (fin t n d) (fin s m e)) (λ u. lt_le (neg (fin s m e)) (neg (fin t n d)) h (neg_le (fin t n d) (fin s m e) (le_of_not (fin t n d) (fin s m e) tt tt u)))

-- opposites turn it
pub neg_turns : {x y : Float} → NotBelow x y → NotBelow (neg y) (neg x)
neg_turns {x} {y} h = not_below (neg y) (neg x) (λ l. refuted h (neg_below y x l))

-- a difference, by what it is taken from and what is taken
pub sub_keeps : (f : Format) {a b c d : Float} → NotBelow a b → NotBelow d c → NotBelow (sub f a c) (sub f b d)
unfolding sub
sub_keeps f h k = add_keeps f h (neg_turns k)

-- ---- the quotient by a float above zero
pub div_below : (f : Format) (x y c : Float) → T (above c) → T (lt (div f x c) (div f y c)) → T (lt x y)
unfolding div lt
div_below f x y nan p h = absurd p
div_below f x y (inf true) p h = absurd p
div_below f nan y (inf false) p h = absurd h
div_below f (inf s) y (inf false) p h = absurd h
div_below f (fin s m e) nan (inf false) p h = absurd h
div_below f (fin s m e) (inf t) (inf false) p h = absurd h
div_below f (fin true m e) (fin true n d) (inf false) p h = absurd h
div_below f (fin true m e) (fin false n d) (inf false) p h = absurd h
div_below f (fin false m e) (fin true n d) (inf false) p h = absurd h
div_below f (fin false m e) (fin false n d) (inf false) p h = absurd h
div_below f x y (fin true i g) p h = absurd p
div_below f nan y (fin false i g) p h = absurd h
div_below f (inf true) nan (fin false i g) p h = absurd h
div_below f (inf true) (inf true) (fin false i g) p h = absurd h
div_below f (inf true) (inf false) (fin false i g) p h = tt
div_below f (inf true) (fin t n d) (fin false i g) p h = tt
div_below f (inf false) y (fin false i g) p h = absurd (top (div f y (fin false i g)) h)
div_below f (fin s m e) nan (fin false i g) p h = absurd (tail (div f (fin s m e) (fin false i g)) h)
div_below f (fin s m e) (inf true) (fin false i g) p h = absurd (bottom (div f (fin s m e) (fin false i g)) h)
div_below f (fin s m e) (inf false) (fin false i g) p h = tt
div_below f (fin s m e) (fin t n d) (fin false i g) p h =
    passes (lt (fin s m e) (fin t n d)) (λ u.
    lt_le (div f (fin s m e) (fin false i g)) (div f (fin t n d) (fin false i g)) h (div_le f (fin t n d) (fin s m e) (fin false i g) tt tt p (le_of_not (fin s m e) (fin t n d) tt tt u)))
