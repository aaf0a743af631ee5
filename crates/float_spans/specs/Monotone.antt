-- Sum, difference, product and quotient keep or turn the order of finite operands. The results may be infinite; they are no NaN. Assumes nothing.
use Rattle.std.specs.Prelude.{◌≡◌, false, ℕ, ◌+◌, ◌-◌, ◌*◌, ◌≤◌, T, pos, Float}
use Rattle.std.proofs.Common.{subst, mul-le-mul_right, mul-add, add-mul, mul_assoc, mul_comm, mul_left_comm, arith}
use Rattle.std.specs.Float.{fin, Format}
use Rattle.std.specs.Float.Ieee.{neg, add, sub, mul, div, le}
use Rattle.std.specs.Float.Ieee.Positive.{num, den, positive}
use Rattle.std.specs.Float.Ieee.Scale.{finite}
use Rattle.float_spans.specs.Signs.{over, under, le→Le, Le→le}
use Rattle.float_spans.specs.Rounds.{rounded_le, neg_le, number, rounded_number}
use Rattle.float_spans.specs.Exacts.{add_rounded, mul_rounded, div_rounded, neg_finite}

-- +0
abbrev pub nought : Float
nought = fin false 0 (pos 0)

-- ---- sums
-- a sum grows with each part
pub add_le : (f : Format) (x x' y y' : Float) → T (finite x) → T (finite x') → T (finite y) → T (finite y') → T (le x x') → T (le y y') → T (le (add f x y) (add f x' y'))
add_le f x x' y y' p p' q q' h k =
    rounded_le (add_rounded f x y p q) (add_rounded f x' y' p' q')
    (both (over x) (under x) (den x) (over x') (under x') (den x') (over y) (under y) (den y) (over y') (under y') (den y') (le→Le x x' p p' h) (le→Le y y' q q' k))
  where
    both : (a b c a' b' c' i j k i' j' k' : ℕ) → a * c' + b' * c ≤ a' * c + b * c' → i * k' + j' * k ≤ i' * k + j * k'
        → (a * k + i * c) * (c' * k') + (b' * k' + j' * c') * (c * k) ≤ (a' * k' + i' * c') * (c * k) + (b * k + j * c) * (c' * k')
    both a b c a' b' c' i j k i' j' k' u v =
        simp (add-mul, mul_assoc, mul_comm, mul_left_comm)
        (omega (arith, simp (add-mul, mul_assoc, mul_comm) at (mul-le-mul_right (k * k') u), simp (add-mul, mul_assoc, mul_comm) at (mul-le-mul_right (c * c') v)))

-- ---- differences
-- a difference grows with what it is taken from, and shrinks with what is taken
pub sub_le : (f : Format) (x x' y y' : Float) → T (finite x) → T (finite x') → T (finite y) → T (finite y') → T (le x x') → T (le y' y) → T (le (sub f x y) (sub f x' y'))
unfolding sub
sub_le f x x' y y' p p' q q' h k = add_le f x x' (neg y) (neg y') p p' (neg_finite y q) (neg_finite y' q') h (neg_le y y' k)

-- a number is not above itself
pub le_refl : (x : Float) → T (finite x) → T (le x x)
le_refl x p = Le→le x x p p (omega arith)

-- x ≤ y gives x + c ≤ y + c
pub add_right : (f : Format) (x y c : Float) → T (finite x) → T (finite y) → T (finite c) → T (le x y) → T (le (add f x c) (add f y c))
add_right f x y c p q r h = add_le f x y c c p q r r h (le_refl c r)

-- x ≤ y gives x - c ≤ y - c
pub sub_right : (f : Format) (x y c : Float) → T (finite x) → T (finite y) → T (finite c) → T (le x y) → T (le (sub f x c) (sub f y c))
sub_right f x y c p q r h = sub_le f x y c c p q r r h (le_refl c r)

-- x ≤ y gives c - y ≤ c - x
pub sub_left : (f : Format) (x y c : Float) → T (finite x) → T (finite y) → T (finite c) → T (le x y) → T (le (sub f c y) (sub f c x))
sub_left f x y c p q r h = sub_le f c c y x r r q p (le_refl c r) h

-- ---- products
-- not below zero: the part above it is no smaller
sign_up : (c : Float) → T (finite c) → T (le nought c) → under c ≤ over c
sign_up c r h = omega (arith, le→Le nought c tt r h)

sign_down : (c : Float) → T (finite c) → T (le c nought) → over c ≤ under c
sign_down c r h = omega (arith, le→Le c nought r tt h)

-- (a - b) / c ≤ (a' - b') / c', both times (i - j) / k for j ≤ i
grow : (a b c a' b' c' i j k : ℕ) → j ≤ i → a * c' + b' * c ≤ a' * c + b * c' → (a * i + b * j) * (c' * k) + (a' * j + b' * i) * (c * k) ≤ (a' * i + b' * j) * (c * k) + (a * j + b * i) * (c' * k)
grow a b c a' b' c' i j k s h =
    subst (λ (i : ℕ). (a * i + b * j) * (c' * k) + (a' * j + b' * i) * (c * k) ≤ (a' * i + b' * j) * (c * k) + (a * j + b * i) * (c' * k)) (part i j s) (go (i - j))
  where
    part : (i j : ℕ) → j ≤ i → j + (i - j) ≡ i
    part i j s = omega arith

    go : (w : ℕ) → (a * (j + w) + b * j) * (c' * k) + (a' * j + b' * (j + w)) * (c * k) ≤ (a' * (j + w) + b' * j) * (c * k) + (a * j + b * (j + w)) * (c' * k)
    go w = simp (mul-add, add-mul, mul_assoc, mul_comm, mul_left_comm) (omega (arith, simp (add-mul, mul_assoc, mul_comm) at (mul-le-mul_right (w * k) h)))

-- x ≤ y gives x * c ≤ y * c for a c that is not below zero
pub mul_le : (f : Format) (x y c : Float) → T (finite x) → T (finite y) → T (finite c) → T (le nought c) → T (le x y) → T (le (mul f x c) (mul f y c))
mul_le f x y c p q r s h =
    rounded_le (mul_rounded f x c p r) (mul_rounded f y c q r)
    (grow (over x) (under x) (den x) (over y) (under y) (den y) (over c) (under c) (den c) (sign_up c r s) (le→Le x y p q h))

-- x ≤ y gives y * c ≤ x * c for a c that is not above zero
pub mul_ge : (f : Format) (x y c : Float) → T (finite x) → T (finite y) → T (finite c) → T (le c nought) → T (le x y) → T (le (mul f y c) (mul f x c))
mul_ge f x y c p q r s h =
    rounded_le (mul_rounded f y c q r) (mul_rounded f x c p r)
    (turn (over x) (under x) (den x) (over y) (under y) (den y) (over c) (under c) (den c)
    (grow (over x) (under x) (den x) (over y) (under y) (den y) (under c) (over c) (den c) (sign_down c r s) (le→Le x y p q h)))
  where
    turn : (a b c a' b' c' i j k : ℕ) → (a * j + b * i) * (c' * k) + (a' * i + b' * j) * (c * k) ≤ (a' * j + b' * i) * (c * k) + (a * i + b * j) * (c' * k)
        → (a' * i + b' * j) * (c * k) + (a * j + b * i) * (c' * k) ≤ (a * i + b * j) * (c' * k) + (a' * j + b' * i) * (c * k)
    turn a b c a' b' c' i j k h = flip ((a * j + b * i) * (c' * k)) ((a' * i + b' * j) * (c * k)) ((a' * j + b' * i) * (c * k)) ((a * i + b * j) * (c' * k)) h
      where
        flip : (x y z w : ℕ) → x + y ≤ z + w → y + x ≤ w + z
        flip x y z w h = omega arith

-- ---- quotients
-- x ≤ y gives x / c ≤ y / c for a c above zero
pub div_le : (f : Format) (x y c : Float) → T (finite x) → T (finite y) → T (positive c) → T (le x y) → T (le (div f x c) (div f y c))
div_le f x y c p q r h =
    rounded_le (div_rounded f x c p r) (div_rounded f y c q r)
    (scale (over x) (under x) (den x) (over y) (under y) (den y) (num c) (den c) (le→Le x y p q h))
  where
    scale : (a b c a' b' c' i k : ℕ) → a * c' + b' * c ≤ a' * c + b * c' → a * k * (i * c') + b' * k * (i * c) ≤ a' * k * (i * c) + b * k * (i * c')
    scale a b c a' b' c' i k h = simp (mul_assoc, mul_comm, mul_left_comm) (omega (arith, simp (add-mul, mul_assoc, mul_comm) at (mul-le-mul_right (i * k) h)))

-- ---- the results are numbers
pub add_number : (f : Format) (x y : Float) → T (finite x) → T (finite y) → T (number (add f x y))
add_number f x y p q = rounded_number (add_rounded f x y p q)

-- a difference of finite floats is a number
pub sub_number : (f : Format) (x y : Float) → T (finite x) → T (finite y) → T (number (sub f x y))
unfolding sub
sub_number f x y p q = rounded_number (add_rounded f x (neg y) p (neg_finite y q))

-- so is a product
pub mul_number : (f : Format) (x y : Float) → T (finite x) → T (finite y) → T (number (mul f x y))
mul_number f x y p q = rounded_number (mul_rounded f x y p q)

-- and a quotient by a positive float
pub div_number : (f : Format) (x y : Float) → T (finite x) → T (positive y) → T (number (div f x y))
div_number f x y p q = rounded_number (div_rounded f x y p q)
