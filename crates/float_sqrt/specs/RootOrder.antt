-- The square root keeps the order of its operands. Assumes nothing.
use Rattle.std.specs.Prelude.{◌≡◌, refl, ◌⊎◌, Bool, true, false, ℕ, zero, suc, ◌+◌, ◌*◌, ◌/◌, ◌^◌, ◌≤◌, ◌<◌, T, ℤ, pos, Float}
use Rattle.std.proofs.Common.{sym, ap, inl, inr, true≢false, zero-le, le_of_suc-le-suc, le_of_mul-le-mul_right, lt_of_lt_of_le, lt_of_le_of_lt, lt_of_not-le, not-le_of_lt, eq-zero-or-pos, mul-le-mul_right, mul-pos, arith, ltb-true, lt-ltb, lt→ltb, pow_pos}
use Rattle.std.specs.Float.{nan, inf, fin, binary64}
use Rattle.std.specs.Float.Ieee.{up, down, fits, lt, le}
use Rattle.std.specs.Float.Ieee.Exact.{HasValue}
use Rattle.std.specs.Float.Ieee.Fits.{down_pos, round-fits}
use Rattle.std.specs.Float.Ieee.Order.{transfer}
use Rattle.std.specs.Float.Ieee.Positive.{positive, above, first_pos, values_of_le, through}
use Rattle.float_steps.specs.Plus.{not_below_nan}
use Rattle.float_sqrt.specs.Roots.{root_of, sqrt}
use Rattle.float_sqrt.specs.SquareRoot.{Nearest, sqrt_nearest}

-- a root is rounded, so that an f64 holds it
pub rounded_root : (n : ℕ) → T (fits binary64 (root_of n))
unfolding root_of
rounded_root n = round-fits binary64 false _ (2 ^ 1074)

-- the root of a value above zero is an f64
pub root_fits : (x : Float) → T (positive x) → T (fits binary64 (sqrt x))
unfolding sqrt
root_fits nan p = absurd p
root_fits (inf s) p = absurd p
root_fits (fin true m e) p = absurd p
root_fits (fin false zero e) p = absurd p
root_fits (fin false (suc m) e) p = rounded_root (suc m * up e * 4 ^ 1074 / down e)

-- The roots of two values above zero are in the values' order: were they not, the middle of the two roots would be below the one value and above the other.
pub roots_ordered : (x y : Float) → T (positive x) → T (positive y) → T (le x y) → (n : Nearest x (sqrt x)) (m : Nearest y (sqrt y)) → n.root ≤ m.root
roots_ordered x y p q h n m =
    le_of_suc-le-suc
    (lt_of_not-le
    (λ (g : suc m.root ≤ n.root).
    no m.root n.root n.square m.square
    (n.below (sqrt y) m.root (root_fits y q) m.is g)
    (m.above (sqrt x) n.root (root_fits x p) n.is g)
    (le_of_mul-le-mul_right (values_of_le x y n.square (4 ^ 1074) m.square (4 ^ 1074) p q n.of m.of h) units)))
  where
    no : (a b s t : ℕ) → (a + b) * (a + b) < 4 * s → 4 * t < (b + a) * (b + a) → s ≤ t → ⊥
    no a b s t k l g = omega arith

    units : 0 < 4 ^ 1074
    units = mul-pos (pow_pos 1074) (pow_pos 1074)

-- ---- what is below the root of a value is below the roots of those above it

-- what is below anything is below the infinity
below_infinity : (x r : Float) → lt x r ≡ true → lt x (inf false) ≡ true
unfolding lt
below_infinity nan r h = h
below_infinity (inf true) r h = refl
below_infinity (inf false) nan h = h
below_infinity (inf false) (inf t) h = h
below_infinity (inf false) (fin t m e) h = h
below_infinity (fin s m e) r h = refl

-- what is below a / c, r's value, is below b / c, z's, where a isn't above b
below_more : (x r z : Float) (a b c : ℕ) → 0 < c → HasValue r false a c → HasValue z false b c → a ≤ b → lt x r ≡ true → lt x z ≡ true
unfolding lt
below_more x nan z a b c C p q l h = absurd p
below_more x (inf s) z a b c C p q l h = absurd p
below_more x (fin true m e) z a b c C p q l h = absurd (true≢false p.0)
below_more x (fin false m e) nan a b c C p q l h = absurd q
below_more x (fin false m e) (inf s) a b c C p q l h = absurd q
below_more x (fin false m e) (fin true n d) a b c C p q l h = absurd (true≢false q.0)
below_more nan (fin false m e) (fin false n d) a b c C p q l h = h
below_more (inf s) (fin false m e) (fin false n d) a b c C p q l h = h
below_more (fin s k i) (fin false m e) (fin false n d) a b c C p q l h = at s h
  where
    order : m * up e * down d ≤ n * up d * down e
    order = transfer (m * up e) (n * up d) (down e) (down d) a b c c C C p.1 q.1 (mul-le-mul_right c l)

    -- a value not below zero
    plus : (K M N di de dd : ℕ) → 0 < dd → K * de < M * di → M * dd ≤ N * de → K * dd < N * di
    plus K M N di de dd D g o = lt_of_not-le (λ (f : N * di ≤ K * dd). not-le_of_lt g (through M N K de dd di D o f))

    -- a value below zero
    minus : (K M N di de dd : ℕ) → 0 < di → 0 < de → 0 < dd → 0 < K * de + M * di → M * dd ≤ N * de → 0 < K * dd + N * di
    minus K M N di de dd I E D g o = elim (eq-zero-or-pos K) [
      | inr k ↦ omega (arith, mul-pos k D)
      | inl z ↦ omega
          (arith, mul-pos (first_pos N de (lt_of_lt_of_le (mul-pos (first_pos M di (omega (arith, ap (λ (v : ℕ). v * de) z))) D) o)) I)
    ]

    at : (s : Bool) → lt (fin s k i) (fin false m e) ≡ true → lt (fin s k i) (fin false n d) ≡ true
    at false g = lt-ltb (k * up i * down d) (n * up d * down i) (plus (k * up i) (m * up e) (n * up d) (down i) (down e) (down d) (down_pos d)
        (ltb-true (k * up i * down e) (m * up e * down i) g) order)
    at true g = lt-ltb 0 (k * up i * down d + n * up d * down i) (minus (k * up i) (m * up e) (n * up d) (down i) (down e) (down d) (down_pos i) (down_pos e) (down_pos d)
        (ltb-true 0 (k * up i * down e + m * up e * down i) g) order)

-- what is below a zero of either sign is below +0
below_zero : (x : Float) (s : Bool) (e : ℤ) → lt x (fin s zero e) ≡ true → lt x (fin false zero (pos 0)) ≡ true
unfolding lt
below_zero nan s e h = h
below_zero (inf t) s e h = h
below_zero (fin t k i) false e h = below_more (fin t k i) (fin false zero e) (fin false zero (pos 0)) 0 0 1 (pow_pos 0) (refl, none (up e) (down e)) (refl, refl) zero-le h
  where
    none : (u d : ℕ) → 0 * u * 1 ≡ 0 * d
    none u d = omega arith
below_zero (fin false k i) true e h = absurd (true≢false (sym h))
below_zero (fin true k i) true e h = lt-ltb 0 (k * up i * 1 + 0 * 1 * down i) (more (k * up i) (down e) (0 * up e * down i) (ltb-true (0 * up e * down i) (k * up i * down e) h))
  where
    more : (K d z : ℕ) → z < K * d → 0 < K * 1 + 0 * 1 * down i
    more K d z g = omega (arith, first_pos K d (lt_of_le_of_lt zero-le g))

-- what is above a zero or a positive value is positive or the infinity
above_of_lt : (s : Bool) (m : ℕ) (e : ℤ) (y : Float) → (s ≡ false) ⊎ (m ≡ 0) → lt (fin s m e) y ≡ true → T (above y)
unfolding lt
above_of_lt s m e nan k h = absurd (true≢false (sym h))
above_of_lt s m e (inf true) k h = absurd (true≢false (sym h))
above_of_lt s m e (inf false) k h = tt
above_of_lt false m e (fin true n d) k h = absurd (true≢false (sym h))
above_of_lt true m e (fin true n d) (inl k) h = absurd (true≢false k)
above_of_lt true m e (fin true n d) (inr k) h = absurd (no (n * up d * down e) (ltb-true (n * up d * down e) (m * up e * down d) h) (ap (λ (v : ℕ). v * up e * down d) k))
  where
    no : (a : ℕ) → a < m * up e * down d → m * up e * down d ≡ 0 * up e * down d → ⊥
    no a l g = omega arith
above_of_lt false m e (fin false n d) k h = lt→ltb 0 n (first_pos n (up d) (first_pos (n * up d) (down e) (more (ltb-true (m * up e * down d) (n * up d * down e) h))))
  where
    more : m * up e * down d < n * up d * down e → 0 < n * up d * down e
    more l = omega arith
above_of_lt true m e (fin false n d) (inl k) h = absurd (true≢false k)
above_of_lt true m e (fin false n d) (inr k) h = lt→ltb 0 n (first_pos n (up d)
    (first_pos (n * up d) (down e) (more (ltb-true 0 (m * up e * down d + n * up d * down e) h) (ap (λ (v : ℕ). v * up e * down d) k))))
  where
    more : 0 < m * up e * down d + n * up d * down e → m * up e * down d ≡ 0 * up e * down d → 0 < n * up d * down e
    more l g = omega arith

-- y is above zero, and its root is not below r's value
below_rooted : (x r y : Float) (a : ℕ) → T (fits binary64 y) → T (above y) → HasValue r false a (2 ^ 1074) → ((n : Nearest y (sqrt y)) → T (positive y) → a ≤ n.root) → lt x r ≡ true
    → lt x (sqrt y) ≡ true
unfolding sqrt
below_rooted x r nan a g p v o h = absurd p
below_rooted x r (inf true) a g p v o h = absurd p
below_rooted x r (inf false) a g p v o h = below_infinity x r h
below_rooted x r (fin true n d) a g p v o h = absurd p
below_rooted x r (fin false n d) a g p v o h =
    let m = sqrt_nearest (fin false n d) g p in
    below_more x r (sqrt (fin false n d)) a m.root (2 ^ 1074) (pow_pos 1074) v m.is (o m p) h

-- nothing is above the infinity
pub not_above_infinity : (y : Float) → lt (inf false) y ≡ true → ⊥
unfolding lt
not_above_infinity nan h = true≢false (sym h)
not_above_infinity (inf t) h = true≢false (sym h)
not_above_infinity (fin t n d) h = true≢false (sym h)

-- what is below isn't above
pub below_le : (x y : Float) → lt x y ≡ true → T (le x y)
unfolding le
below_le x y h = rw h tt

-- What is below the root of b is below the root of each y above b.
pub below_root : (x b y : Float) → T (fits binary64 b) → T (fits binary64 y) → lt x (sqrt b) ≡ true → lt b y ≡ true → lt x (sqrt y) ≡ true
unfolding sqrt
below_root x nan y f g h l = absurd (not_below_nan x h)
below_root x (inf true) y f g h l = absurd (not_below_nan x h)
below_root x (inf false) y f g h l = absurd (not_above_infinity y l)
below_root x (fin s zero e) y f g h l = below_rooted x (fin false zero (pos 0)) y 0 g (above_of_lt s zero e y (inr refl) l) (refl, refl) (λ n p. zero-le) (below_zero x s e h)
below_root x (fin true (suc m) e) y f g h l = absurd (not_below_nan x h)
below_root x (fin false (suc m) e) y f g h l =
    let b = fin false (suc m) e in
    let n = sqrt_nearest b f some in
    below_rooted x (sqrt b) y n.root g (above_of_lt false (suc m) e y (inl refl) l) n.is (λ o p. roots_ordered b y some p (below_le b y l) n o) h
  where
    some : T (positive (fin false (suc m) e))
    some = lt→ltb 0 (suc m) (omega arith)
