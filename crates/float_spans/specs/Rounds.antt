-- Rounding keeps the order of signed values: the unsigned law of the library at both signs, and zeros. Assumes nothing.
use Rattle.std.specs.Prelude.{◌≡◌, refl, Bool, true, false, not, cond, ℕ, zero, suc, ◌+◌, ◌*◌, ◌^◌, ◌≤◌, ◌<◌, T, ltb, Float}
use Rattle.std.proofs.Common.{sym, ap, ◌∙◌, subst, arith, pow_pos}
use Rattle.std.proofs.Math.Nat.{eq_of_mul-eq-mul_right}
use Rattle.std.specs.Float.{nan, inf, fin, Format}
use Rattle.std.specs.Float.Ieee.{prec, emax, low, up, down, odd, units, round, neg, le}
use Rattle.std.specs.Float.Ieee.Fits.{round_is}
use Rattle.std.specs.Float.Ieee.Exact.{HasValue, round_exact}
use Rattle.std.specs.Float.Ieee.Order.{round_mono}
use Rattle.float_rounding.specs.Near.{plus, less}
use Rattle.float_spans.specs.Signs.{le→Le, Le→le}

-- ---- the other sign
odd_neg : (d q k l : ℕ) → odd d true q k l ≡ neg (odd d false q k l)
unfolding odd neg
odd_neg d zero k l = refl
odd_neg d (suc q) k l = refl

units_neg : (f : Format) (q k : ℕ) → units f true q k ≡ neg (units f false q k)
unfolding units neg
units_neg f q k = go (ltb (q * 2 ^ k) (2 ^ (low f + suc (emax f))))
  where
    go : (b : Bool) → cond b (odd (suc (prec f)) true q k (low f)) (inf true) ≡ neg (cond b (odd (suc (prec f)) false q k (low f)) (inf false))
    go true = odd_neg (suc (prec f)) q k (low f)
    go false = refl

-- a negative value rounds to the opposite
pub round_neg : (f : Format) (a c : ℕ) → round f true a c ≡ neg (round f false a c)
round_neg f a c = round_is f true a c ∙ units_neg f _ _ ∙ ap neg (sym (round_is f false a c))

turned : (s : Bool) (a : ℕ) → (plus (not s) a ≡ less s a) × (less (not s) a ≡ plus s a)
turned true a = (refl, refl)
turned false a = (refl, refl)

-- opposites are in the other order
pub neg_le : (x y : Float) → T (le y x) → T (le (neg x) (neg y))
unfolding le neg
neg_le nan nan h = h
neg_le nan (inf t) h = absurd (none t h)
  where
    none : (t : Bool) → T (le (inf t) nan) → ⊥
    none t h = h
neg_le nan (fin t n d) h = absurd h
neg_le (inf s) nan h = absurd h
neg_le (inf true) (inf true) h = tt
neg_le (inf true) (inf false) h = absurd h
neg_le (inf false) (inf true) h = tt
neg_le (inf false) (inf false) h = tt
neg_le (inf true) (fin t n d) h = absurd h
neg_le (inf false) (fin t n d) h = tt
neg_le (fin s m e) nan h = absurd h
neg_le (fin s m e) (inf true) h = tt
neg_le (fin s m e) (inf false) h = absurd h
neg_le (fin s m e) (fin t n d) h =
    let a = turned s (m * up e) in
    let b = turned t (n * up d) in
    Le→le (fin (not s) m e) (fin (not t) n d) tt tt (rw (a.0, a.1, b.0, b.1) (omega (arith, le→Le (fin t n d) (fin s m e) tt tt h)))

-- ---- a value with the sign plus, and one with the sign minus
abbrev pub upper : Float → Bool
upper nan = false
upper (inf s) = not s
upper (fin s m e) = not s

-- a value with the sign minus
abbrev pub lower : Float → Bool
lower nan = false
lower (inf s) = s
lower (fin s m e) = s

upper_odd : (d q k l : ℕ) → T (upper (odd d false q k l))
unfolding odd
upper_odd d zero k l = tt
upper_odd d (suc q) k l = tt

upper_units : (f : Format) (q k : ℕ) → T (upper (units f false q k))
unfolding units
upper_units f q k = go (ltb (q * 2 ^ k) (2 ^ (low f + suc (emax f))))
  where
    go : (b : Bool) → T (upper (cond b (odd (suc (prec f)) false q k (low f)) (inf false)))
    go true = upper_odd (suc (prec f)) q k (low f)
    go false = tt

-- a rounded value has the sign it was given
pub upper_round : (f : Format) (a c : ℕ) → T (upper (round f false a c))
upper_round f a c = subst (λ (z : Float). T (upper z)) (sym (round_is f false a c)) (upper_units f _ _)

lower_neg : (x : Float) → T (upper x) → T (lower (neg x))
unfolding neg
lower_neg nan h = absurd h
lower_neg (inf s) h = h
lower_neg (fin s m e) h = h

-- the same for the sign minus
pub lower_round : (f : Format) (a c : ℕ) → T (lower (round f true a c))
lower_round f a c = subst (λ (z : Float). T (lower z)) (sym (round_neg f a c)) (lower_neg (round f false a c) (upper_round f a c))

-- what has the sign minus is not above what has the sign plus
pub lower_upper : (x y : Float) → T (lower x) → T (upper y) → T (le x y)
unfolding le
lower_upper nan y p q = absurd p
lower_upper (inf false) y p q = absurd p
lower_upper (inf true) nan p q = absurd q
lower_upper (inf true) (inf true) p q = absurd q
lower_upper (inf true) (inf false) p q = tt
lower_upper (inf true) (fin t n d) p q = tt
lower_upper (fin false m e) y p q = absurd p
lower_upper (fin true m e) nan p q = absurd q
lower_upper (fin true m e) (inf true) p q = absurd q
lower_upper (fin true m e) (inf false) p q = tt
lower_upper (fin true m e) (fin true n d) p q = absurd q
lower_upper (fin true m e) (fin false n d) p q = Le→le (fin true m e) (fin false n d) tt tt (omega arith)

-- ---- zeros
zero_round : (f : Format) (s : Bool) (a c : ℕ) → 0 < c → a ≡ 0 → HasValue (round f s a c) s a c
zero_round f s a c C h = round_exact f s a c 0 0 C (pow_pos (prec f)) (pow_pos (low f + suc (emax f))) (omega (arith, ap (λ (z : ℕ). z * 2 ^ low f) h))

zeros_le : (x y : Float) (s t : Bool) (a c b d : ℕ) → 0 < c → 0 < d → a ≡ 0 → b ≡ 0 → HasValue x s a c → HasValue y t b d → T (le x y)
zeros_le nan y s t a c b d C D h k p q = absurd p
zeros_le (inf u) y s t a c b d C D h k p q = absurd p
zeros_le (fin u m e) nan s t a c b d C D h k p q = absurd q
zeros_le (fin u m e) (inf v) s t a c b d C D h k p q = absurd q
zeros_le (fin u m e) (fin v n g) s t a c b d C D h k p q =
    Le→le (fin u m e) (fin v n g) tt tt (small u v (m * up e) (n * up g) (down e) (down g) (nothing (m * up e) a c (down e) C h p.1) (nothing (n * up g) b d (down g) D k q.1))
  where
    nothing : (x a c d : ℕ) → 0 < c → a ≡ 0 → x * c ≡ a * d → x ≡ 0
    nothing x a c d C h p = eq_of_mul-eq-mul_right c C x 0 (omega (arith, ap (λ (z : ℕ). z * d) h))

    small : (u v : Bool) (x y d g : ℕ) → x ≡ 0 → y ≡ 0 → plus u x * g + less v y * d ≤ plus v y * d + less u x * g
    small true true x y d g h k = omega (arith, ap (λ (z : ℕ). z * d) k)
    small true false x y d g h k = omega arith
    small false true x y d g h k = omega (arith, ap (λ (z : ℕ). z * d) k, ap (λ (z : ℕ). z * g) h)
    small false false x y d g h k = omega (arith, ap (λ (z : ℕ). z * g) h)

-- ---- of two signed fractions ±a / b ≤ ±c / d the larger rounds to a value that is no smaller
pub round_le : (f : Format) (s t : Bool) (a b c d : ℕ) → 0 < b → 0 < d → plus s a * d + less t c * b ≤ plus t c * b + less s a * d → T (le (round f s a b) (round f t c d))
round_le f false false a b c d B D h = round_mono f a b c d B D (omega arith)
round_le f true true a b c d B D h = rw (round_neg f a b, round_neg f c d) (neg_le (round f false a b) (round f false c d) (round_mono f c d a b D B (omega arith)))
round_le f true false a b c d B D h = lower_upper (round f true a b) (round f false c d) (lower_round f a b) (upper_round f c d)
round_le f false true a b c d B D h =
    zeros_le (round f false a b) (round f true c d) false true a b c d B D (none a d D (omega arith)) (none c b B (omega arith))
    (zero_round f false a b B (none a d D (omega arith)))
    (zero_round f true c d D (none c b B (omega arith)))
  where
    none : (a d : ℕ) → 0 < d → a * d ≡ 0 → a ≡ 0
    none a d D h = eq_of_mul-eq-mul_right d D a 0 (omega arith)

-- ---- z is (p - n) / c rounded
pub record Rounded (f : Format) (z : Float) (p n c : ℕ) : Type 0 where
  pub sign : Bool
  pub size : ℕ
  pub is : z ≡ round f sign size c
  pub above : 0 < c
  pub value : plus sign size + n ≡ less sign size + p

-- of two values the larger is rounded to one that is no smaller
pub rounded_le : {f : Format} {x y : Float} {p n c q m d : ℕ} → Rounded f x p n c → Rounded f y q m d → p * d + m * c ≤ q * c + n * d → T (le x y)
rounded_le {f} {x} {y} {p} {n} {c} {q} {m} {d} r t h =
    subst (λ (z : Float). T (le z y)) (sym r.is)
    (subst (λ (z : Float). T (le (round f r.sign r.size c) z)) (sym t.is)
    (round_le f r.sign t.sign r.size c t.size d r.above t.above
    (both (plus r.sign r.size) (less r.sign r.size) (plus t.sign t.size) (less t.sign t.size) r.value t.value)))
  where
    both : (a a' b b' : ℕ) → a + n ≡ a' + p → b + m ≡ b' + q → a * d + b' * c ≤ b * c + a' * d
    both a a' b b' u v = omega (arith, ap (λ (z : ℕ). z * d) u, ap (λ (z : ℕ). z * c) v)

-- whether a float is a number: no NaN
abbrev pub number : Float → Bool
number nan = false
number (inf s) = true
number (fin s m e) = true

-- what has the sign plus is a number
pub number_upper : (x : Float) → T (upper x) → T (number x)
number_upper nan h = h
number_upper (inf s) h = tt
number_upper (fin s m e) h = tt

-- what has the sign minus is a number
pub number_lower : (x : Float) → T (lower x) → T (number x)
number_lower nan h = h
number_lower (inf s) h = tt
number_lower (fin s m e) h = tt

-- a rounded value is a number
pub number_round : (f : Format) (s : Bool) (a c : ℕ) → T (number (round f s a c))
number_round f true a c = number_lower (round f true a c) (lower_round f a c)
number_round f false a c = number_upper (round f false a c) (upper_round f a c)

-- so is a value that is some fraction rounded
pub rounded_number : {f : Format} {x : Float} {p n c : ℕ} → Rounded f x p n c → T (number x)
rounded_number {f} {x} {p} {n} {c} r = subst (λ (z : Float). T (number z)) (sym r.is) (number_round f r.sign r.size c)
