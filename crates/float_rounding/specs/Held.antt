-- The values that a format holds, as digits of a weight; and the product of two f32 values, which an f64 holds exactly. Assumes nothing.
use Rattle.std.specs.Prelude.{◌≡◌, refl, ℕ, zero, suc, ◌+◌, ◌-◌, ◌*◌, ◌%◌, ◌^◌, ◌≤◌, ◌<◌, Bool, ◌&&◌, ℤ, pos, negsuc, T, leb, ltb, eqb, Float}
use Rattle.std.proofs.Common.{sym, ap, ◌∙◌, subst, lt_of_lt_of_le, mul_comm, mul_assoc, mul_left_comm, mul-one, one-mul, zero-mul, mul-le-mul, mul-lt-mul_of_pos_right, lt_of_mul-lt-mul_right, mul-pos, le_of_suc-le-suc, lt_of_not-le, lt_irrefl, arith, pow-add, pow_pos, ltb→lt, leb→le, lit≤}
use Rattle.std.proofs.Math.Nat.{mul-mul-mul_comm}
use Rattle.std.proofs.Math.Pow.{pow-lt}
use Rattle.std.specs.Float.{nan, inf, fin, Format, binary32, binary64}
use Rattle.std.specs.Float.Ieee.{prec, emax, low, unlike, up, down, round, mul, fits}
use Rattle.std.specs.Float.Ieee.Digits.{back}
use Rattle.std.specs.Float.Ieee.Fits.{down_pos, and_l, and_r}
use Rattle.std.specs.Float.Ieee.Exact.{HasValue, round_exact}
use Rattle.std.specs.Float.Ieee.Scale.{round_same, overflow, finite}

pub record Held (f : Format) (x : Float) : Type 0 where
  pub sign : Bool
  pub digits : ℕ
  pub shift : ℕ
  pub is : HasValue x sign (digits * 2 ^ shift) (2 ^ low f)
  pub small : digits < 2 ^ prec f
  pub under : digits * 2 ^ shift < overflow f

-- a value of w / c is one of w * k / (k * c)
pub rescaled : (x : Float) (s : Bool) (w c k l : ℕ) → k * c ≡ l → HasValue x s w c → HasValue x s (w * k) l
rescaled nan s w c k l h v = v
rescaled (inf t) s w c k l h v = v
rescaled (fin t m e) s w c k l h v = (v.0, subst (λ (z : ℕ). m * up e * z ≡ w * k * down e) h (omega (arith, ap (λ (z : ℕ). z * k) v.1)))

-- ---- 2 ^ e is 2 ^ j units
pub pow_le_back : (a l : ℕ) → 2 ^ a ≤ 2 ^ l → a ≤ l
pow_le_back a l h = le_of_suc-le-suc (lt_of_not-le (λ (g : suc l ≤ a). lt_irrefl (2 ^ l) (lt_of_lt_of_le (pow-lt g) h)))

pub place : (l : ℕ) (e : ℤ) → down e ≤ 2 ^ l → (j : ℕ) × (up e * 2 ^ l ≡ 2 ^ j * down e)
place l (pos a) h = (a + l, sym (pow-add 2 a l) ∙ sym (mul-one (2 ^ (a + l))))
place l (negsuc a) h = let k = pow_le_back (suc a) l h in (l - suc a, one-mul (2 ^ l) ∙ sym (sym (pow-add 2 (l - suc a) (suc a)) ∙ ap (λ (x : ℕ). 2 ^ x) (back l (suc a) k)))

at : (f : Format) (s : Bool) (m : ℕ) (e : ℤ) → m < 2 ^ prec f → down e ≤ 2 ^ low f → m * up e < 2 ^ suc (emax f) * down e → Held f (fin s m e)
at f s m e a b c =
    let j = place (low f) e b in
    let v : m * up e * 2 ^ low f ≡ m * 2 ^ j.0 * down e = mul_assoc m (up e) (2 ^ low f) ∙ ap (λ (x : ℕ). m * x) j.1 ∙ sym (mul_assoc m (2 ^ j.0) (down e)) in
    record {
      sign = s;
      digits = m;
      shift = j.0;
      is = (refl, v);
      small = a;
      under = lt_of_mul-lt-mul_right (down e)
          (subst (λ (x : ℕ). x < overflow f * down e) v
          (subst (λ (x : ℕ). m * up e * 2 ^ low f < x * down e) (sym (pow-add 2 (low f) (suc (emax f))))
          (subst (λ (x : ℕ). m * up e * 2 ^ low f < x) (simp (mul_assoc, mul_comm, mul_left_comm)) (mul-lt-mul_of_pos_right c (pow_pos (low f))))));
    }

pub held : (f : Format) (x : Float) → T (fits f x) → T (finite x) → Held f x
unfolding fits
held f nan h k = absurd k
held f (inf s) h k = absurd k
held f (fin s zero e) h k = record {
  sign = s;
  digits = 0;
  shift = 0;
  is = (refl, ap (λ (x : ℕ). x * 2 ^ low f) (zero-mul (up e)) ∙ zero-mul (2 ^ low f) ∙ sym (zero-mul (down e)));
  small = pow_pos (prec f);
  under = pow_pos (low f + suc (emax f));
}
held f (fin s (suc m) e) h k =
    let A = eqb (suc m % 2) 1 in
    let B = ltb (suc m) (2 ^ prec f) in
    let C = leb (down e) (2 ^ low f) in
    let D = ltb (suc m * up e) (2 ^ suc (emax f) * down e) in
    at f s (suc m) e
    (ltb→lt (suc m) (2 ^ prec f) (and_r A B (and_l (A && B) C (and_l (A && B && C) D h))))
    (leb→le (down e) (2 ^ low f) (and_r (A && B) C (and_l (A && B && C) D h)))
    (ltb→lt (suc m * up e) (2 ^ suc (emax f) * down e) (and_r (A && B && C) D h))

-- ---- the product by the factors' fractions
pub mul_same : (f : Format) (x y : Float) (s : Bool) (a c : ℕ) (t : Bool) (b d : ℕ) → 0 < c → 0 < d → HasValue x s a c → HasValue y t b d → mul f x y ≡ round f (unlike s t) (a * b) (c * d)
unfolding mul
mul_same f nan y s a c t b d C D p q = absurd p
mul_same f (inf u) y s a c t b d C D p q = absurd p
mul_same f (fin u m e) nan s a c t b d C D p q = absurd q
mul_same f (fin u m e) (inf v) s a c t b d C D p q = absurd q
mul_same f (fin u m e) (fin v n g) s a c t b d C D p q =
    ap (λ (z : Bool). round f (unlike z v) (m * up e * (n * up g)) (down e * down g)) p.0
    ∙ ap (λ (z : Bool). round f (unlike s z) (m * up e * (n * up g)) (down e * down g)) q.0
    ∙ round_same f (unlike s t) (m * up e * (n * up g)) (down e * down g) (a * b) (c * d) (mul-pos (down_pos e) (down_pos g)) (mul-pos C D)
    (mul-mul-mul_comm (m * up e) (n * up g) c d ∙ ap (λ (z : ℕ). z * (n * up g * d)) p.1 ∙ ap (λ (z : ℕ). a * down e * z) q.1 ∙ mul-mul-mul_comm a (down e) b (down g))

-- ---- two f32, as f64
-- the product of two numbers below N, where N * N is no more than K
product_below : (a b N K : ℕ) → N * N ≤ K → a < N → b < N → a * b < K
product_below a b N K l h k = omega (arith, mul-le-mul h k)

pub mul_exact : (x y : Float) (hx : Held binary32 x) (hy : Held binary32 y)
    → HasValue (mul binary64 x y) (unlike hx.sign hy.sign) (hx.digits * 2 ^ hx.shift * (hy.digits * 2 ^ hy.shift)) (2 ^ 149 * 2 ^ 149)
mul_exact x y hx hy =
    let m = hx.digits in
    let n = hy.digits in
    let j = hx.shift in
    let k = hy.shift in
    let r = unlike hx.sign hy.sign in
    let a = m * 2 ^ j in
    let b = n * 2 ^ k in
    let e : a * b ≡ m * n * 2 ^ (j + k) = mul-mul-mul_comm m (2 ^ j) n (2 ^ k) ∙ ap (λ (z : ℕ). m * n * z) (sym (pow-add 2 j k)) in
    let g : a * b * 2 ^ 776 ≡ m * n * 2 ^ (j + k + 776) = ap (λ (z : ℕ). z * 2 ^ 776) e ∙ mul_assoc (m * n) (2 ^ (j + k)) (2 ^ 776) ∙ ap (λ (z : ℕ). m * n * z) (sym (pow-add 2 (j + k) 776)) in
    subst (λ (z : Float). HasValue z r (a * b) (2 ^ 149 * 2 ^ 149)) (sym (mul_same binary64 x y hx.sign a (2 ^ 149) hy.sign b (2 ^ 149) (pow_pos 149) (pow_pos 149) hx.is hy.is))
    (round_exact binary64 r (a * b) (2 ^ 149 * 2 ^ 149) (m * n) (j + k + 776) (mul-pos (pow_pos 149) (pow_pos 149)) (product_below m n (2 ^ 24) (2 ^ 53) (lit≤ tt) hx.small hy.small)
    (subst (λ (z : ℕ). z < 2 ^ 2098) g (lt_of_lt_of_le (mul-lt-mul_of_pos_right (product_below a b (2 ^ 277) (2 ^ 554) (lit≤ tt) hx.under hy.under) (pow_pos 776)) (lit≤ tt)))
    (sym (mul_assoc (a * b) (2 ^ 776) (2 ^ 298)) ∙ ap (λ (z : ℕ). z * 2 ^ 298) g))
