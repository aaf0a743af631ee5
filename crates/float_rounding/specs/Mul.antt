-- The error of one product, and of a quotient by a whole number, over either format. Assumes nothing.
use Rattle.std.specs.Prelude.{◌≡◌, refl, ◌⊎◌, ℕ, zero, suc, ◌+◌, ◌*◌, ◌^◌, ◌≤◌, ◌<◌, Bool, true, false, cond, eqb, Float}
use Rattle.std.proofs.Common.{sym, ap, ◌∙◌, subst, inl, inr, lt_of_le_of_lt, mul-le-mul_right, mul-le-mul_left, le_of_mul-le-mul_right, lt_of_mul-lt-mul_right, mul-pos, zero-mul, zero-lt-suc, lt_irrefl, arith, pow_pos, pow_mono}
use Rattle.std.proofs.Math.Dec.{eqb-suc-zero}
use Rattle.std.specs.Float.{nan, inf, fin, Format}
use Rattle.std.specs.Float.Ieee.{prec, low, unlike, up, down, round, mul, div}
use Rattle.std.specs.Float.Ieee.Fits.{up_pos, down_pos, two, two-le_pos}
use Rattle.std.specs.Float.Ieee.Exact.{HasValue}
use Rattle.std.specs.Float.Ieee.Scale.{round_same, grid, overflow}
use Rattle.float_rounding.specs.Near.{Within, plus, less, Off, grid_near, round_val}
use Rattle.float_rounding.specs.Held.{mul_same}

-- x, of the format f, is a whole number of units near (A - B) / c: the error is a part in 2 ^ prec of any e that bounds the size of A - B, and c * 2 ^ (prec - 1) too unless A - B is 0.
pub record Scaled (f : Format) (x : Float) (c A B : ℕ) : Type 0 where
  pub sign : Bool
  pub size : ℕ
  pub is : HasValue x sign size (2 ^ low f)
  pub off : (e : ℕ) → Within A B e → (A ≡ B) ⊎ (c * 2 ^ prec f ≤ e * 2) → Off (2 ^ prec f) (plus sign size * c) (less sign size * c) A B e

-- the units, 1 / L, taken out
cancel : (P L q c w : ℕ) → 0 < L → Within (q * (c * L) * P) (w * L * P) (w * L) ⊎ Within (q * (c * L) * 2) (w * L * 2) (c * L) → Within (q * c * P) (w * P) w ⊎ Within (q * c * 2) (w * 2) c
cancel P L q c w Z (inl h) = inl (record { hi = le_of_mul-le-mul_right (omega (arith, h.hi)) Z; lo = le_of_mul-le-mul_right (omega (arith, h.lo)) Z })
cancel P L q c w Z (inr h) = inr (record { hi = le_of_mul-le-mul_right (omega (arith, h.hi)) Z; lo = le_of_mul-le-mul_right (omega (arith, h.lo)) Z })

module _ (f : Format) (w c : ℕ) (C : 0 < c) where
  abbrev q : ℕ
  q = grid f w (c * 2 ^ low f)

  near : Within (q * c * 2 ^ prec f) (w * 2 ^ prec f) w ⊎ Within (q * c * 2) (w * 2) c
  near = cancel (2 ^ prec f) (2 ^ low f) q c w (pow_pos (low f)) (grid_near f w (c * 2 ^ low f) (mul-pos C (pow_pos (low f))))

  -- below twice, and one more
  bound : (P q : ℕ) → 2 ≤ P → Within (q * c * P) (w * P) w ⊎ Within (q * c * 2) (w * 2) c → q * c ≤ w * 2 + c
  bound P r t (inl h) =
      let k : r * c ≤ w * 2 = le_of_mul-le-mul_right (omega (arith, h.hi, mul-le-mul_left w t)) pos_P in
      omega arith
    where
      pos_P : 0 < P
      pos_P = omega arith
  bound P r t (inr h) = omega (arith, h.hi)

  under : w * 2 + c < overflow f * c → q < overflow f
  under h = lt_of_mul-lt-mul_right c (lt_of_le_of_lt (bound (2 ^ prec f) q (pow_mono {i = 1} (two-le_pos (prec f) (two f))) near) h)

  -- the error by e
  within : (P q e : ℕ) → w ≤ e → (w ≡ 0) ⊎ (c * P ≤ e * 2) → Within (q * c * P) (w * P) w ⊎ Within (q * c * 2) (w * 2) c → Within (q * c * P) (w * P) e
  within P q e l z (inl h) = record { hi = omega (arith, h.hi); lo = omega (arith, h.lo) }
  within P q e l (inr z) (inr h) =
      let a : q * c * 2 * P ≤ (w * 2 + c) * P = mul-le-mul_right P h.hi in
      let b : w * 2 * P ≤ (q * c * 2 + c) * P = mul-le-mul_right P h.lo in
      record { hi = omega arith; lo = omega arith }
  within P q e l (inl z) (inr h) = none q (le_of_mul-le-mul_right {m = q * 2} {n = 1} (omega (arith, h.hi)) C)
    where
      none : (q : ℕ) → q * 2 ≤ 1 → Within (q * c * P) (w * P) e
      none zero k = record { hi = omega arith; lo = omega (arith, ap (λ (x : ℕ). x * P) z) }
      none (suc q) k = omega arith

  pub round_scaled : (s : Bool) → w * 2 + c < overflow f * c → Scaled f (round f s w (c * 2 ^ low f)) c (plus s w) (less s w)
  round_scaled false h = record {
    sign = false;
    size = q;
    is = round_val f false w (c * 2 ^ low f) (under h);
    off = λ e z k. let n = within (2 ^ prec f) q e (omega (arith, z.hi)) k near in record { hi = omega (arith, n.hi); lo = omega (arith, n.lo) };
  }
  round_scaled true h = record {
    sign = true;
    size = q;
    is = round_val f true w (c * 2 ^ low f) (under h);
    off = λ e z k. let n = within (2 ^ prec f) q e (omega (arith, z.lo)) (flip k) near in record { hi = omega (arith, n.lo); lo = omega (arith, n.hi) };
  }
    where
      flip : {X : Type 0} → (0 ≡ w) ⊎ X → (w ≡ 0) ⊎ X
      flip (inl e) = inl (sym e)
      flip (inr x) = inr x

-- ---- the product: x is a / c, and y is b units
pub mul_scaled : (f : Format) (x y : Float) (s : Bool) (a c : ℕ) (t : Bool) (b : ℕ) → 0 < c → HasValue x s a c → HasValue y t b (2 ^ low f) → a * b * 2 + c < overflow f * c
    → Scaled f (mul f x y) c (plus (unlike s t) (a * b)) (less (unlike s t) (a * b))
mul_scaled f x y s a c t b C p q h =
    subst (λ (z : Float). Scaled f z c (plus (unlike s t) (a * b)) (less (unlike s t) (a * b))) (sym (mul_same f x y s a c t b (2 ^ low f) C (pow_pos (low f)) p q))
    (round_scaled f (a * b) c C (unlike s t) h)

-- ---- the quotient by a whole number c above 0: x is a units
cond_zero : {X : Type 0} (n : ℕ) (x y : X) → 0 < n → cond (eqb n 0) x y ≡ y
cond_zero zero x y h = absurd (lt_irrefl 0 h)
cond_zero (suc n) x y h = ap (λ (b : Bool). cond b x y) (eqb-suc-zero n)

left_pos : (n u c d : ℕ) → 0 < c → 0 < d → n * u * 1 ≡ c * d → 0 < n
left_pos zero u c d C D e = absurd (lt_irrefl 0 (subst (λ (x : ℕ). 0 < x) (sym e ∙ ap (λ (x : ℕ). x * 1) (zero-mul u) ∙ zero-mul 1) (mul-pos C D)))
left_pos (suc n) u c d C D e = zero-lt-suc n

pub div_scaled : (f : Format) (x y : Float) (s : Bool) (a c : ℕ) → 0 < c → HasValue x s a (2 ^ low f) → HasValue y false c 1 → a * 2 + c < overflow f * c
    → Scaled f (div f x y) c (plus s a) (less s a)
unfolding div
div_scaled f nan y s a c C p q h = absurd p
div_scaled f (inf u) y s a c C p q h = absurd p
div_scaled f (fin u m e) nan s a c C p q h = absurd q
div_scaled f (fin u m e) (inf v) s a c C p q h = absurd q
div_scaled f (fin u m e) (fin v n d) s a c C p q h =
    let L = 2 ^ low f in
    let N : 0 < n = left_pos n (up d) c (down d) C (down_pos d) q.1 in
    let x : m * up e * down d * (c * L) ≡ a * (n * up d * down e) =
    omega (arith, ap (λ (z : ℕ). z * (c * down d)) p.1, ap (λ (z : ℕ). a * down e * z) q.1) in
    let k : cond (eqb n 0) (cond (eqb m 0) nan (inf (unlike u v))) (round f (unlike u v) (m * up e * down d) (n * up d * down e)) ≡ round f s a (c * L) =
    cond_zero n (cond (eqb m 0) nan (inf (unlike u v))) (round f (unlike u v) (m * up e * down d) (n * up d * down e)) N
    ∙ ap (λ (z : Bool). round f (unlike z v) (m * up e * down d) (n * up d * down e)) p.0
    ∙ ap (λ (z : Bool). round f (unlike s z) (m * up e * down d) (n * up d * down e)) q.0
    ∙ ap (λ (z : Bool). round f z (m * up e * down d) (n * up d * down e)) (like s)
    ∙ round_same f s (m * up e * down d) (n * up d * down e) a (c * L) (mul-pos (mul-pos N (up_pos d)) (down_pos e)) (mul-pos C (pow_pos (low f))) x in
    subst (λ (z : Float). Scaled f z c (plus s a) (less s a)) (sym k) (round_scaled f a c C s h)
  where
    like : (s : Bool) → unlike s false ≡ s
    like true = refl
    like false = refl
