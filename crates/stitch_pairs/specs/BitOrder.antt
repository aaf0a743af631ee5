-- The bits of an f64 between 1e-6 and 1 − 1e-6 rise with it, and are below 2 ^ 62. Assumes nothing.
use Rattle.std.specs.Prelude.{◌≡◌, refl, Bool, not, cond, ℕ, zero, suc, ◌+◌, ◌-◌, ◌*◌, ◌^◌, ◌≤◌, ◌<◌, T, ltb, eqb, Float}
use Rattle.std.proofs.Common.{sym, ap, ◌∙◌, subst, true≢false, mul-le-mul_left, mul-le-mul_right, mul-lt-mul_of_pos_right, arith, lt-ltb, le-ltb, ltb→lt, pow_pos, pow_mono}
use Rattle.std.proofs.Math.Bool.{true, false}
use Rattle.std.proofs.Math.Nat.{le_of_mul-le-mul_right, pow-succ'}
use Rattle.std.proofs.Math.Decide.{dec_lt, ℕ_discrete}
use Rattle.std.proofs.Math.Dec.{nleb→lt}
use Rattle.std.specs.Float.Ieee.{nan, up, down, fits, lt, of_fields, of_bits}
use Rattle.std.specs.Float.{inf, fin, binary64}
use Rattle.std.specs.Float.Ieee.Bits.{of_bits-to_bits, of_bits-fits, to_bits-lt}
use Rattle.std.specs.Float.Ieee.Exact.{HasValue}
use Rattle.std.specs.Float.Ieee.Fits.{down_pos}
use Rattle.std.specs.Float.Ieee.Order.{transfer}
use Rattle.float_rounding.specs.Fields.{digits, bits_fields}
use Rattle.float_steps.specs.Floats.{bits64}
use Rattle.float_steps.specs.Patterns.{sign, field, tail, value, bits_again}
use Rattle.stitch_projection.specs.Projection.{near_end, far_end}

-- ---- the size that a pattern stands for rises with it

-- the size that an exponent's field and digits stand for, in units of the smallest value
abbrev size_of : ℕ → ℕ → ℕ
size_of f t = digits binary64 f t * 2 ^ (f - 1)

-- of a field above 0
size_normal : (x t : ℕ) → size_of (suc x) t ≡ (2 ^ 52 + t) * 2 ^ x
size_normal x t = ap (λ (k : ℕ). (2 ^ 52 + t) * 2 ^ k) (pred x)
  where
    pred : (x : ℕ) → suc x - 1 ≡ x
    pred x = omega arith

-- numbers that are equal to others have their order
less_same : (a b c d : ℕ) → a ≡ b → d ≡ c → b < c → a < d
less_same a b c d p q l = omega arith

-- a higher field has the higher size: P and Q stand for the powers of two
field_rises : (t u P Q : ℕ) → t < 2 ^ 52 → 0 < P → 2 * P ≤ Q → (2 ^ 52 + t) * P < (2 ^ 52 + u) * Q
field_rises t u P Q l p h =
    let a : (2 ^ 52 + t) * P < 2 ^ 53 * P = mul-lt-mul_of_pos_right (omega arith) p in
    let b : 2 ^ 52 * (2 * P) ≤ 2 ^ 52 * Q = mul-le-mul_left (2 ^ 52) h in
    let c : 2 ^ 52 * Q ≤ (2 ^ 52 + u) * Q = mul-le-mul_right Q (omega arith) in
    chain ((2 ^ 52 + t) * P) P Q ((2 ^ 52 + u) * Q) a b c
  where
    chain : (x P Q y : ℕ) → x < 2 ^ 53 * P → 2 ^ 52 * (2 * P) ≤ 2 ^ 52 * Q → 2 ^ 52 * Q ≤ y → x < y
    chain x P Q y a b c = omega arith

-- a field of 0 has the lower size
zero_rises : (t u Q : ℕ) → t < 2 ^ 52 → 0 < Q → t * 1 < (2 ^ 52 + u) * Q
zero_rises t u Q l q = chain t ((2 ^ 52 + u) * Q) u l (mul-le-mul_left (2 ^ 52 + u) q)
  where
    chain : (t y u : ℕ) → t < 2 ^ 52 → (2 ^ 52 + u) * 1 ≤ y → t * 1 < y
    chain t y u l h = omega arith

-- a higher pattern has the higher size
size_rises : (f t g u : ℕ) → t < 2 ^ 52 → u < 2 ^ 52 → 2 ^ 52 * f + t < 2 ^ 52 * g + u → size_of f t < size_of g u
size_rises zero t zero u ht hu l = omega arith
size_rises zero t (suc y) u ht hu l = less_same (size_of 0 t) (t * 1) ((2 ^ 52 + u) * 2 ^ y) (size_of (suc y) u) refl (size_normal y u) (zero_rises t u (2 ^ y) ht (pow_pos y))
size_rises (suc x) t zero u ht hu l = absurd (omega arith)
size_rises (suc x) t (suc y) u ht hu l =
    less_same (size_of (suc x) t) ((2 ^ 52 + t) * 2 ^ x) ((2 ^ 52 + u) * 2 ^ y) (size_of (suc y) u) (size_normal x t) (size_normal y u) (go (dec_lt x y))
  where
    go : Dec (x < y) → (2 ^ 52 + t) * 2 ^ x < (2 ^ 52 + u) * 2 ^ y
    go (yes h) = field_rises t u (2 ^ x) (2 ^ y) ht (pow_pos x) (subst (λ (z : ℕ). z ≤ 2 ^ y) (pow-succ' 2 x) (pow_mono h))
    go (no h) =
        let e : x ≡ y = omega arith in
        subst (λ (k : ℕ). (2 ^ 52 + t) * 2 ^ x < (2 ^ 52 + u) * 2 ^ k) e (mul-lt-mul_of_pos_right (omega arith) (pow_pos x))

-- the size of a pattern
abbrev size_bits : ℕ → ℕ
size_bits b = size_of (field b) (tail b)

-- which rises with it
bits_rise : (b c : ℕ) → b < 2 ^ 63 → c < 2 ^ 63 → b < c → size_bits b < size_bits c
bits_rise b c hb hc l = size_rises (field b) (tail b) (field c) (tail c) (omega arith) (omega arith) (omega arith)

-- patterns of plus sign are ordered as their sizes
size_order : (b c : ℕ) → b < 2 ^ 63 → c < 2 ^ 63 → ltb (size_bits b) (size_bits c) ≡ ltb b c
size_order b c hb hc = go (dec_lt b c)
  where
    least : Dec (b ≡ c) → c ≤ b → size_bits c ≤ size_bits b
    least (yes e) l = subst (λ (k : ℕ). size_bits c ≤ size_bits k) (sym e) (omega arith)
    least (no n) l = let k : size_bits c < size_bits b = bits_rise c b hc hb (omega arith) in below (size_bits c) (size_bits b) k
      where
        below : (x y : ℕ) → x < y → x ≤ y
        below x y h = omega arith

    go : Dec (b < c) → ltb (size_bits b) (size_bits c) ≡ ltb b c
    go (yes l) = lt-ltb (size_bits b) (size_bits c) (bits_rise b c hb hc l) ∙ sym (lt-ltb b c l)
    go (no n) = let l : c ≤ b = omega arith in le-ltb (size_bits b) (size_bits c) (least (ℕ_discrete b c) l) ∙ sym (le-ltb b c l)

-- ---- values of plus sign

-- values of plus sign over one divisor are ordered as their sizes
module _ (P : ℕ) (p : 0 < P) where
  values_order : (x y : Float) (a b : ℕ) → HasValue x false a P → HasValue y false b P → lt x y ≡ ltb a b
  unfolding lt
  values_order nan y a b h k = absurd h
  values_order (inf s) y a b h k = absurd h
  values_order (fin s m e) nan a b h k = absurd k
  values_order (fin s m e) (inf t) a b h k = absurd k
  values_order (fin true m e) (fin t n d) a b h k = absurd (true≢false h.0)
  values_order (fin false m e) (fin true n d) a b h k = absurd (true≢false k.0)
  values_order (fin false m e) (fin false n d) a b h k = go (dec_lt a b)
    where
      back : n * up d * down e ≤ m * up e * down d → b ≤ a
      back l = le_of_mul-le-mul_right (transfer b a P P (n * up d) (m * up e) (down d) (down e) (down_pos d) (down_pos e) (sym k.1) (sym h.1) l) p

      less : a < b → Dec (m * up e * down d < n * up d * down e) → m * up e * down d < n * up d * down e
      less l (yes z) = z
      less l (no z) = let g : b ≤ a = back (other (m * up e * down d) (n * up d * down e) z) in absurd (omega arith)
        where
          other : (x y : ℕ) → (x < y → ⊥) → y ≤ x
          other x y f = omega arith

      go : Dec (a < b) → ltb (m * up e * down d) (n * up d * down e) ≡ ltb a b
      go (yes l) = lt-ltb (m * up e * down d) (n * up d * down e) (less l (dec_lt (m * up e * down d) (n * up d * down e))) ∙ sym (lt-ltb a b l)
      go (no z) =
          let l : b ≤ a = omega arith in
          le-ltb (m * up e * down d) (n * up d * down e) (transfer (n * up d) (m * up e) (down d) (down e) b a P P p p k.1 h.1 (mul-le-mul_right P l)) ∙ sym (le-ltb a b l)

-- a number of plus sign
abbrev Plus : Float → Type 0
Plus nan = ⊥
Plus (inf s) = ⊥
Plus (fin true m e) = ⊥
Plus (fin false m e) = Unit {0}

-- the highest field is no number's
no_highest : (s : Bool) (t : ℕ) → Plus (of_fields binary64 s 2047 t) → ⊥
unfolding of_fields
no_highest s t h = go (eqb t 0) h
  where
    go : (b : Bool) → Plus (cond b (inf s) nan) → ⊥
    go true k = k
    go false k = k

-- the bits of a number of plus sign have its size, and the sign's bit is 0
record BitsOf (x : Float) : Type 0 where
  has : HasValue x false (size_bits (bits64 x)) (2 ^ 1074)
  low : bits64 x < 2 ^ 63

-- each has such bits
bits_of : (x : Float) → T (fits binary64 x) → Plus x → BitsOf x
bits_of x f s = record { has = subst (λ (c : Bool). HasValue x c (size_bits b) (2 ^ 1074)) is_plus signed; low = nleb→lt (2 ^ 63) b (subst (λ (c : Bool). T (not c)) (sym is_plus) tt) }
  where
    b : ℕ
    b = bits64 x

    again : of_bits binary64 b ≡ x
    again = of_bits-to_bits binary64 x f

    below : b < 2 ^ 64
    below = to_bits-lt binary64 x f

    not_top : field b ≡ 2047 → ⊥
    not_top e = no_highest (sign b) (tail b) (subst (λ (k : ℕ). Plus (of_fields binary64 (sign b) k (tail b))) e (subst Plus (sym again ∙ bits_fields binary64 b) s))

    field_low : field b < 2047
    field_low = omega (arith, not_top)

    signed : HasValue x (sign b) (size_bits b) (2 ^ 1074)
    signed = subst (λ (z : Float). HasValue z (sign b) (size_bits b) (2 ^ 1074)) again (value b field_low)

    plus_of : (y : Float) (c : Bool) (a P : ℕ) → Plus y → HasValue y c a P → c ≡ false
    plus_of nan c a P s h = absurd s
    plus_of (inf t) c a P s h = absurd s
    plus_of (fin true m e) c a P s h = absurd s
    plus_of (fin false m e) c a P s h = sym h.0

    is_plus : sign b ≡ false
    is_plus = plus_of x (sign b) (size_bits b) (2 ^ 1074) s signed

-- numbers of plus sign are ordered as their bits
plus_order : (x y : Float) → T (fits binary64 x) → T (fits binary64 y) → Plus x → Plus y → lt x y ≡ ltb (bits64 x) (bits64 y)
plus_order x y f g p q =
    let a = bits_of x f p in
    let b = bits_of y g q in
    values_order (2 ^ 1074) (pow_pos 1074) x y (size_bits (bits64 x)) (size_bits (bits64 y)) a.has b.has ∙ size_order (bits64 x) (bits64 y) a.low b.low

-- ---- parameters

-- an f64 between 1e-6 and 1 − 1e-6
pub record Inside (t : Float) : Type 0 where
  pub fit : T (fits binary64 t)
  pub low : T (lt near_end t)
  pub high : T (lt t far_end)

-- the two ends
near_plus : Plus near_end
unfolding near_end of_bits
near_plus = tt

far_plus : Plus far_end
unfolding far_end of_bits
far_plus = tt

far_fits : T (fits binary64 far_end)
unfolding far_end
far_fits = of_bits-fits binary64 0x3FEFFFFDE7210BE9

far_bits : bits64 far_end ≡ 0x3FEFFFFDE7210BE9
unfolding far_end
far_bits = bits_again 0x3FEFFFFDE7210BE9 (omega arith) (omega arith)

-- between two numbers of plus sign is a third
plus_between : (a x c : Float) → Plus a → Plus c → T (lt a x) → T (lt x c) → Plus x
unfolding lt
plus_between nan x c p q l h = absurd p
plus_between (inf s) x c p q l h = absurd p
plus_between (fin true m e) x c p q l h = absurd p
plus_between (fin false m e) nan c p q l h = absurd l
plus_between (fin false m e) (inf true) c p q l h = absurd l
plus_between (fin false m e) (inf false) nan p q l h = absurd h
plus_between (fin false m e) (inf false) (inf t) p q l h = absurd h
plus_between (fin false m e) (inf false) (fin t n d) p q l h = absurd h
plus_between (fin false m e) (fin true n d) c p q l h = absurd l
plus_between (fin false m e) (fin false n d) c p q l h = tt

-- so a parameter is one
inside_plus : {t : Float} → Inside t → Plus t
inside_plus {t} i = plus_between near_end t far_end near_plus far_plus i.low i.high

-- Parameters are ordered as their bits.
pub inside_order : (t u : Float) → Inside t → Inside u → lt t u ≡ ltb (bits64 t) (bits64 u)
inside_order t u i j = plus_order t u i.fit j.fit (inside_plus i) (inside_plus j)

-- Their bits are below 2 ^ 62.
pub inside_bits : (t : Float) → Inside t → bits64 t < 4611686018427387904
inside_bits t i =
    let l : bits64 t < bits64 far_end = ltb→lt (bits64 t) (bits64 far_end) (subst T (plus_order t far_end i.fit far_fits (inside_plus i) far_plus) i.high) in
    omega (arith, far_bits)
