-- The order of all floats: `NotBelow x y` says that x is not below y, and so says nothing where one is a NaN. Assumes nothing.
use Rattle.std.specs.Prelude.{◌≡◌, refl, Bool, true, false, ℕ, ◌+◌, ◌*◌, ◌≤◌, ◌<◌, T, Float}
use Rattle.std.proofs.Common.{subst, le_of_suc-le-suc, mul-le-mul_right, mul-lt-mul_of_pos_right, lt_of_mul-lt-mul_right, lt_of_not-le, add-mul, mul_assoc, mul_comm, arith}
use Rattle.std.specs.Float.{nan, inf, fin}
use Rattle.std.specs.Float.Ieee.{down, lt, eq, le}
use Rattle.std.specs.Float.Ieee.Positive.{den_pos}
use Rattle.float_spans.specs.Signs.{or_l, over, under, Lt, le→Le, Le→le, lt→Lt, Lt→lt}
use Rattle.float_spans.specs.Rounds.{number}

-- x is not below y, which a NaN is not either way
pub record NotBelow (x y : Float) : Type 0 where
  pub is : lt x y ≡ false

-- from the test refuted, and back
pub not_below : (x y : Float) → (T (lt x y) → ⊥) → NotBelow x y
not_below x y h = record { is = go (lt x y) h }
  where
    go : (b : Bool) → (T b → ⊥) → b ≡ false
    go true h = absurd (h tt)
    go false h = refl

-- the test refuted, from it
pub refuted : {x y : Float} → NotBelow x y → T (lt x y) → ⊥
refuted {x} {y} h k = subst T h.is k

-- what is below is not above or level
pub lt_le : (x y : Float) → T (lt x y) → T (le y x) → ⊥
unfolding le
lt_le nan y h k = h
lt_le (inf s) nan h k = h
lt_le (inf true) (inf true) h k = h
lt_le (inf true) (inf false) h k = k
lt_le (inf false) (inf t) h k = h
lt_le (inf true) (fin t n d) h k = k
lt_le (inf false) (fin t n d) h k = h
lt_le (fin s m e) nan h k = h
lt_le (fin s m e) (inf true) h k = h
lt_le (fin s m e) (inf false) h k = k
lt_le (fin s m e) (fin t n d) h k = omega (arith, lt→Lt (fin s m e) (fin t n d) tt tt h, le→Le (fin t n d) (fin s m e) tt tt k)

not_lt : {a b : ℕ} → (a < b → ⊥) → b ≤ a
not_lt g = le_of_suc-le-suc (lt_of_not-le g)

-- of two numbers, what is not below is above or level
pub le_of_not : (x y : Float) → T (number x) → T (number y) → (T (lt x y) → ⊥) → T (le y x)
unfolding le
le_of_not nan y p q h = absurd p
le_of_not (inf s) nan p q h = absurd q
le_of_not (inf true) (inf true) p q h = tt
le_of_not (inf true) (inf false) p q h = absurd (h tt)
le_of_not (inf false) (inf true) p q h = tt
le_of_not (inf false) (inf false) p q h = tt
le_of_not (inf true) (fin t n d) p q h = absurd (h tt)
le_of_not (inf false) (fin t n d) p q h = tt
le_of_not (fin s m e) nan p q h = absurd q
le_of_not (fin s m e) (inf true) p q h = tt
le_of_not (fin s m e) (inf false) p q h = absurd (h tt)
le_of_not (fin s m e) (fin t n d) p q h =
    Le→le (fin t n d) (fin s m e) tt tt (not_lt (λ (l : Lt (fin s m e) (fin t n d)). h (Lt→lt (fin s m e) (fin t n d) tt tt l)))

-- le gives it
pub below_of_le : (x y : Float) → T (le y x) → NotBelow x y
below_of_le x y h = not_below x y (λ (l : T (lt x y)). lt_le x y l h)

-- and is given by it, of numbers
pub le_of_below : (x y : Float) → T (number x) → T (number y) → NotBelow x y → T (le y x)
le_of_below x y p q h = le_of_not x y p q (refuted h)

-- ---- transitive
through_lt : (a b c a' b' c' i j k : ℕ) → 0 < c' → 0 < k → a * c' + b' * c < a' * c + b * c' → a' * k + j * c' ≤ i * c' + b' * k → a * k + j * c < i * c + b * k
through_lt a b c a' b' c' i j k C K h g =
    lt_of_mul-lt-mul_right c'
    (simp (add-mul, mul_assoc, mul_comm) (omega (arith, simp (add-mul, mul_assoc, mul_comm) at (mul-lt-mul_of_pos_right h K), simp (add-mul, mul_assoc, mul_comm) at (mul-le-mul_right c g))))

-- what something is below is a number
pub number_right : (x y : Float) → T (lt x y) → T (number y)
unfolding lt
number_right nan y h = absurd h
number_right (inf s) nan h = absurd h
number_right (inf s) (inf t) h = tt
number_right (inf s) (fin t n d) h = tt
number_right (fin s m e) nan h = absurd h
number_right (fin s m e) (inf t) h = tt
number_right (fin s m e) (fin t n d) h = tt

-- x < y ≤ z
pub lt_of_lt_of_le : (x y z : Float) → T (lt x y) → T (le y z) → T (lt x z)
unfolding le
lt_of_lt_of_le nan y z h k = absurd h
lt_of_lt_of_le (inf s) nan z h k = absurd h
lt_of_lt_of_le (inf false) (inf t) z h k = absurd h
lt_of_lt_of_le (inf false) (fin t n d) z h k = absurd h
lt_of_lt_of_le (inf true) (inf true) z h k = absurd h
lt_of_lt_of_le (inf true) (inf false) nan h k = absurd k
lt_of_lt_of_le (inf true) (inf false) (inf true) h k = absurd k
lt_of_lt_of_le (inf true) (inf false) (inf false) h k = tt
lt_of_lt_of_le (inf true) (inf false) (fin u i g) h k = tt
lt_of_lt_of_le (inf true) (fin t n d) nan h k = absurd k
lt_of_lt_of_le (inf true) (fin t n d) (inf true) h k = absurd k
lt_of_lt_of_le (inf true) (fin t n d) (inf false) h k = tt
lt_of_lt_of_le (inf true) (fin t n d) (fin u i g) h k = tt
lt_of_lt_of_le (fin s m e) nan z h k = absurd h
lt_of_lt_of_le (fin s m e) (inf true) z h k = absurd h
lt_of_lt_of_le (fin s m e) (inf false) nan h k = absurd k
lt_of_lt_of_le (fin s m e) (inf false) (inf true) h k = absurd k
lt_of_lt_of_le (fin s m e) (inf false) (inf false) h k = tt
lt_of_lt_of_le (fin s m e) (inf false) (fin u i g) h k = absurd k
lt_of_lt_of_le (fin s m e) (fin t n d) nan h k = absurd k
lt_of_lt_of_le (fin s m e) (fin t n d) (inf true) h k = absurd k
lt_of_lt_of_le (fin s m e) (fin t n d) (inf false) h k = tt
lt_of_lt_of_le (fin s m e) (fin t n d) (fin u i g) h k =
    Lt→lt (fin s m e) (fin u i g) tt tt
    (through_lt (over (fin s m e)) (under (fin s m e)) (down e) (over (fin t n d)) (under (fin t n d)) (down d) (over (fin u i g)) (under (fin u i g)) (down g)
    (den_pos (fin t n d)) (den_pos (fin u i g))
    (lt→Lt (fin s m e) (fin t n d) tt tt h) (le→Le (fin t n d) (fin u i g) tt tt k))

-- what is below y is below a number that is not below y
pub lt_of_lt_of_not : (x y z : Float) → T (number z) → T (lt x y) → NotBelow z y → T (lt x z)
lt_of_lt_of_not x y z r h k = lt_of_lt_of_le x y z h (le_of_not z y r (number_right x y h) (refuted k))

-- what compares is a number
pub number_le : (x y : Float) → T (le x y) → T (number x) × T (number y)
unfolding le
number_le nan y h = absurd h
number_le (inf s) nan h = absurd h
number_le (inf s) (inf t) h = (tt, tt)
number_le (inf s) (fin t n d) h = (tt, tt)
number_le (fin s m e) nan h = absurd h
number_le (fin s m e) (inf t) h = (tt, tt)
number_le (fin s m e) (fin t n d) h = (tt, tt)

-- x ≤ y ≤ z
pub le_trans : (x y z : Float) → T (le x y) → T (le y z) → T (le x z)
le_trans x y z h k = le_of_not z x (number_le y z k).1 (number_le x y h).0 (λ (l : T (lt z x)). lt_le z y (lt_of_lt_of_le z x y l h) k)

-- nothing is below itself
pub not_self : (x : Float) → NotBelow x x
unfolding lt
not_self x = not_below x x (go x)
  where
    go : (x : Float) → T (lt x x) → ⊥
    go nan h = h
    go (inf true) h = h
    go (inf false) h = h
    go (fin s m e) h = omega (arith, lt→Lt (fin s m e) (fin s m e) tt tt h)

-- x < y gives x ≤ y
pub le_of_lt : (x y : Float) → T (lt x y) → T (le x y)
unfolding le
le_of_lt x y h = or_l (lt x y) (eq x y) h

-- x < y gives that y is not below x
pub above_of_lt : (x y : Float) → T (lt x y) → NotBelow y x
above_of_lt x y h = below_of_le y x (le_of_lt x y h)

-- a number is not above itself
pub le_self : (x : Float) → T (number x) → T (le x x)
le_self x p = le_of_below x x p p (not_self x)
