-- The order of finite floats as one of signed fractions: ±a is `plus s a - less s a`. Assumes nothing.
use Rattle.std.specs.Prelude.{◌≡◌, refl, ◌⊎◌, Bool, true, false, ◌||◌, ℕ, ◌+◌, ◌*◌, ◌≤◌, ◌<◌, T, eqb, Float}
use Rattle.std.proofs.Common.{inl, inr, eq-or-lt_of_le, arith, eqb→eq, ltb→lt, lt→ltb}
use Rattle.std.specs.Float.{nan, inf, fin}
use Rattle.std.specs.Float.Ieee.{up, down, below, level, lt, le}
use Rattle.std.specs.Float.Ieee.Fits.{and_i, and_l, and_r, eq→eqb}
use Rattle.std.specs.Float.Ieee.Positive.{den}
use Rattle.std.specs.Float.Ieee.Scale.{finite}
use Rattle.float_rounding.specs.Near.{plus, less}

-- the first test passes
pub or_l : (a b : Bool) → T a → T (a || b)
or_l true b t = tt
or_l false b t = absurd t

-- the second test passes
pub or_r : (a b : Bool) → T b → T (a || b)
or_r true b t = tt
or_r false b t = t

-- one of two tests passes
pub or_split : (a b : Bool) → T (a || b) → T a ⊎ T b
or_split true b t = inl tt
or_split false b t = inr t

-- ---- ±a < ±b
below→ : (s t : Bool) (a b : ℕ) → T (below s a t b) → plus s a + less t b < plus t b + less s a
below→ false false a b h = omega (arith, ltb→lt a b h)
below→ false true a b h = absurd h
below→ true false a b h = omega (arith, ltb→lt 0 (a + b) h)
below→ true true a b h = omega (arith, ltb→lt b a h)

→below : (s t : Bool) (a b : ℕ) → plus s a + less t b < plus t b + less s a → T (below s a t b)
→below false false a b h = lt→ltb a b (omega arith)
→below false true a b h = absurd (omega arith)
→below true false a b h = lt→ltb 0 (a + b) (omega arith)
→below true true a b h = lt→ltb b a (omega arith)

-- ---- ±a = ±b
level→ : (s t : Bool) (a b : ℕ) → T (level s a t b) → plus s a + less t b ≡ plus t b + less s a
level→ false false a b h = omega (arith, eqb→eq a b (and_l (eqb a b) true h))
level→ false true a b h = omega (arith, eqb→eq a b (and_l (eqb a b) (eqb a 0) h), eqb→eq a 0 (and_r (eqb a b) (eqb a 0) h))
level→ true false a b h = omega (arith, eqb→eq a b (and_l (eqb a b) (eqb a 0) h), eqb→eq a 0 (and_r (eqb a b) (eqb a 0) h))
level→ true true a b h = omega (arith, eqb→eq a b (and_l (eqb a b) true h))

→level : (s t : Bool) (a b : ℕ) → plus s a + less t b ≡ plus t b + less s a → T (level s a t b)
→level false false a b h = and_i (eqb a b) true (eq→eqb {a = a} {b = b} (omega arith)) tt
→level false true a b h = and_i (eqb a b) (eqb a 0) (eq→eqb {a = a} {b = b} (omega arith)) (eq→eqb {a = a} {b = 0} (omega arith))
→level true false a b h = and_i (eqb a b) (eqb a 0) (eq→eqb {a = a} {b = b} (omega arith)) (eq→eqb {a = a} {b = 0} (omega arith))
→level true true a b h = and_i (eqb a b) true (eq→eqb {a = a} {b = b} (omega arith)) tt

-- ---- ±a ≤ ±b
order→ : (s t : Bool) (a b : ℕ) → T (below s a t b || level s a t b) → plus s a + less t b ≤ plus t b + less s a
order→ s t a b h = elim (or_split (below s a t b) (level s a t b) h) [ inl k ↦ omega (arith, below→ s t a b k) | inr k ↦ omega (arith, level→ s t a b k) ]

→order : (s t : Bool) (a b : ℕ) → plus s a + less t b ≤ plus t b + less s a → T (below s a t b || level s a t b)
→order s t a b h = elim (eq-or-lt_of_le h) [ inl k ↦ or_r (below s a t b) (level s a t b) (→level s t a b k) | inr k ↦ or_l (below s a t b) (level s a t b) (→below s t a b k) ]

-- ---- the parts of a finite float above and below zero, over `den`; 0 for a NaN and an infinity
abbrev pub over : Float → ℕ
over nan = 0
over (inf s) = 0
over (fin s m e) = plus s (m * up e)

-- the part below zero
abbrev pub under : Float → ℕ
under nan = 0
under (inf s) = 0
under (fin s m e) = less s (m * up e)

-- x ≤ y as fractions
abbrev pub Le : Float → Float → Type 0
Le x y = over x * den y + under y * den x ≤ over y * den x + under x * den y

-- x < y as fractions
abbrev pub Lt : Float → Float → Type 0
Lt x y = over x * den y + under y * den x < over y * den x + under x * den y

-- a part of a signed product
pub plus_mul : (s : Bool) (a k : ℕ) → plus s (a * k) ≡ plus s a * k
plus_mul false a k = refl
plus_mul true a k = omega arith

-- the same below zero
pub less_mul : (s : Bool) (a k : ℕ) → less s (a * k) ≡ less s a * k
less_mul false a k = omega arith
less_mul true a k = refl

-- of finite floats, lt is the order of the fractions
pub lt→Lt : (x y : Float) → T (finite x) → T (finite y) → T (lt x y) → Lt x y
unfolding lt
lt→Lt nan y p q h = absurd p
lt→Lt (inf s) y p q h = absurd p
lt→Lt (fin s m e) nan p q h = absurd q
lt→Lt (fin s m e) (inf t) p q h = absurd q
lt→Lt (fin s m e) (fin t n d) p q h =
    omega (arith, below→ s t (m * up e * down d) (n * up d * down e) h, plus_mul s (m * up e) (down d), less_mul s (m * up e) (down d), plus_mul t (n * up d) (down e), less_mul t (n * up d) (down e))

-- and back
pub Lt→lt : (x y : Float) → T (finite x) → T (finite y) → Lt x y → T (lt x y)
unfolding lt
Lt→lt nan y p q h = absurd p
Lt→lt (inf s) y p q h = absurd p
Lt→lt (fin s m e) nan p q h = absurd q
Lt→lt (fin s m e) (inf t) p q h = absurd q
Lt→lt (fin s m e) (fin t n d) p q h =
    →below s t (m * up e * down d) (n * up d * down e) (omega (arith, plus_mul s (m * up e) (down d), less_mul s (m * up e) (down d), plus_mul t (n * up d) (down e), less_mul t (n * up d) (down e)))

-- and le is theirs
pub le→Le : (x y : Float) → T (finite x) → T (finite y) → T (le x y) → Le x y
unfolding le
le→Le nan y p q h = absurd p
le→Le (inf s) y p q h = absurd p
le→Le (fin s m e) nan p q h = absurd q
le→Le (fin s m e) (inf t) p q h = absurd q
le→Le (fin s m e) (fin t n d) p q h =
    omega (arith, order→ s t (m * up e * down d) (n * up d * down e) h, plus_mul s (m * up e) (down d), less_mul s (m * up e) (down d), plus_mul t (n * up d) (down e), less_mul t (n * up d) (down e))

-- and back
pub Le→le : (x y : Float) → T (finite x) → T (finite y) → Le x y → T (le x y)
unfolding le
Le→le nan y p q h = absurd p
Le→le (inf s) y p q h = absurd p
Le→le (fin s m e) nan p q h = absurd q
Le→le (fin s m e) (inf t) p q h = absurd q
Le→le (fin s m e) (fin t n d) p q h =
    →order s t (m * up e * down d) (n * up d * down e)
    (omega (arith, plus_mul s (m * up e) (down d), less_mul s (m * up e) (down d), plus_mul t (n * up d) (down e), less_mul t (n * up d) (down e)))
