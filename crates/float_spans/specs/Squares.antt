-- Squares, and what lies between finite floats. Assumes nothing.
use Rattle.std.specs.Prelude.{◌≡◌, refl, Bool, true, false, not, ◌*◌, T, Float}
use Rattle.std.proofs.Common.{subst, arith, lt→ltb}
use Rattle.std.specs.Float.{nan, inf, fin, Format}
use Rattle.std.specs.Float.Ieee.{up, down, neg, mul, lt, le}
use Rattle.std.specs.Float.Ieee.Positive.{above, above_of_le, mul_mono, first_pos}
use Rattle.std.specs.Float.Ieee.Scale.{finite}
use Rattle.float_spans.specs.Signs.{Le→le, lt→Lt, Lt→lt}
use Rattle.float_spans.specs.Rounds.{number, upper, upper_round}
use Rattle.float_spans.specs.Monotone.{nought, mul_number}
use Rattle.float_spans.specs.Orders.{NotBelow, refuted, le_of_not}
use Rattle.float_spans.specs.Everywhere.{neg_turns}

-- what has the sign plus is not below zero
pub nought_le : (x : Float) → T (upper x) → T (le nought x)
unfolding le
nought_le nan h = absurd h
nought_le (inf true) h = absurd h
nought_le (inf false) h = tt
nought_le (fin true m e) h = absurd h
nought_le (fin false m e) h = Le→le nought (fin false m e) tt tt (omega arith)

-- the square of a number has the sign plus
pub upper_square : (f : Format) (x : Float) → T (number x) → T (upper (mul f x x))
unfolding mul
upper_square f nan h = absurd h
upper_square f (inf true) h = tt
upper_square f (inf false) h = tt
upper_square f (fin true m e) h = upper_round f (m * up e * (m * up e)) (down e * down e)
upper_square f (fin false m e) h = upper_round f (m * up e * (m * up e)) (down e * down e)

-- the opposite has the same square
pub neg_square : (f : Format) (x : Float) → mul f (neg x) (neg x) ≡ mul f x x
unfolding mul neg
neg_square f nan = refl
neg_square f (inf true) = refl
neg_square f (inf false) = refl
neg_square f (fin true m e) = refl
neg_square f (fin false m e) = refl

-- what is above zero
pub above_nought : (x : Float) → T (lt nought x) → T (above x)
unfolding lt
above_nought nan h = absurd h
above_nought (inf t) h = h
above_nought (fin true m e) h = absurd h
above_nought (fin false m e) h = lt→ltb 0 m (first_pos m (up e) (omega (arith, lt→Lt nought (fin false m e) tt tt h)))

-- ---- what a number that is not below a value above zero is
not_below_above : (l x : Float) → T (above l) → T (number x) → NotBelow x l → T (le l x)
not_below_above nan x p q h = absurd p
not_below_above (inf s) x p q h = le_of_not x (inf s) q tt (refuted h)
not_below_above (fin s m e) x p q h = le_of_not x (fin s m e) q tt (refuted h)

le_infinity : (x : Float) → T (number x) → T (le x (inf false))
unfolding le
le_infinity nan h = absurd h
le_infinity (inf true) h = tt
le_infinity (inf false) h = tt
le_infinity (fin s m e) h = tt

-- a square grows above zero
rising : (f : Format) (l x : Float) → T (above l) → T (le l x) → T (le (mul f l l) (mul f x x))
unfolding mul
rising f nan x p h = absurd p
rising f (inf true) x p h = absurd p
rising f (inf false) nan p h = unfold le in absurd h
rising f (inf false) (inf true) p h = unfold le in absurd h
rising f (inf false) (inf false) p h = h
rising f (inf false) (fin t n d) p h = unfold le in absurd h
rising f (fin true m e) x p h = absurd p
rising f (fin false m e) nan p h = unfold le in absurd h
rising f (fin false m e) (inf true) p h = unfold le in absurd h
rising f (fin false m e) (inf false) p h = le_infinity (mul f (fin false m e) (fin false m e)) (mul_number f (fin false m e) (fin false m e) tt tt)
rising f (fin false m e) (fin true n d) p h = absurd (above_of_le (fin false m e) (fin true n d) p h)
rising f (fin false m e) (fin false n d) p h =
    let q = above_of_le (fin false m e) (fin false n d) p h in
    mul_mono f (fin false m e) (fin false n d) (fin false m e) (fin false n d) p q p q h h

-- of a number that is not below an l above zero the square is not below l's
pub square_above : (f : Format) (l x : Float) → T (lt nought l) → T (number x) → NotBelow x l → T (le (mul f l l) (mul f x x))
square_above f l x p q h = rising f l x (above_nought l p) (not_below_above l x (above_nought l p) q h)

neg_number : (x : Float) → T (number x) → T (number (neg x))
unfolding neg
neg_number nan h = h
neg_number (inf s) h = tt
neg_number (fin s m e) h = tt

neg_nought : (x : Float) → T (lt x nought) → T (lt nought (neg x))
unfolding lt neg
neg_nought nan h = absurd h
neg_nought (inf s) h = turn s h
  where
    turn : (s : Bool) → T s → T (not (not s))
    turn true h = tt
    turn false h = h
neg_nought (fin true m e) h = Lt→lt nought (fin false m e) tt tt (omega (arith, lt→Lt (fin true m e) nought tt tt h))
neg_nought (fin false m e) h = absurd (omega (arith, lt→Lt (fin false m e) nought tt tt h))

-- of a number that is not above an h below zero neither
pub square_under : (f : Format) (h x : Float) → T (lt h nought) → T (number x) → NotBelow h x → T (le (mul f h h) (mul f x x))
square_under f h x p q k =
    subst (λ (z : Float). T (le z (mul f x x))) (neg_square f h)
    (subst (λ (z : Float). T (le (mul f (neg h) (neg h)) z)) (neg_square f x)
    (square_above f (neg h) (neg x) (neg_nought h p) (neg_number x q) (neg_turns k)))

-- ---- between finite floats a number is finite
pub finite_between : (l x h : Float) → T (finite l) → T (finite h) → T (number x) → NotBelow x l → NotBelow h x → T (finite x)
finite_between l nan h p q r a b = absurd r
finite_between nan (inf s) h p q r a b = absurd p
finite_between (inf t) (inf s) h p q r a b = absurd p
finite_between (fin t n d) (inf s) nan p q r a b = absurd q
finite_between (fin t n d) (inf s) (inf u) p q r a b = absurd q
finite_between (fin t n d) (inf true) (fin u i k) p q r a b = absurd (refuted a (unfold lt in tt))
finite_between (fin t n d) (inf false) (fin u i k) p q r a b = absurd (refuted b (unfold lt in tt))
finite_between l (fin s m e) h p q r a b = tt
