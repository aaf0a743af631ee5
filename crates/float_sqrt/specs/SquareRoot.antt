-- The square root is the nearest value: no other value of the format is as near. Assumes nothing.
use Rattle.std.specs.Prelude.{◌≡◌, refl, ◌⊎◌, Bool, true, not, ℕ, zero, suc, ◌+◌, ◌-◌, ◌*◌, ◌/◌, ◌%◌, ◌^◌, ◌≤◌, ◌<◌, T, leb, Float}
use Rattle.std.proofs.Common.{sym, ◌∙◌, subst, inl, inr, true≢false, le_trans, le_of_eq, lt_of_lt_of_le, lt_of_le_of_lt, mul_assoc, mul-le-mul, mul-le-mul_right, lt_of_mul-lt-mul_right, mul-lt-mul_of_pos_right, mul-div_cancel, mul-pos, zero-mul, lt_irrefl, lt-suc_self, eq-or-lt_of_le, arith, leb→le, pow_pos, pow_mono, pow-add, shl_lt}
use Rattle.std.proofs.Math.Path.{ap}
use Rattle.std.proofs.Math.Bool.{false}
use Rattle.std.proofs.Math.Nat.{pow-succ'}
use Rattle.std.proofs.Math.Dec.{nleb→lt}
use Rattle.std.specs.Float.{nan, inf, fin}
use Rattle.std.specs.Float.Ieee.{binary64, up, down, size, round, fits}
use Rattle.std.specs.Float.Ieee.Digits.{size-lt, size-le, size_reaches}
use Rattle.std.specs.Float.Ieee.Exact.{HasValue, round_exact}
use Rattle.std.specs.Float.Ieee.Fits.{down_pos}
use Rattle.std.specs.Float.Ieee.Positive.{positive, positive-finite, value_pos, first_pos}
use Rattle.std.specs.Float.Ieee.Scale.{finite}
use Rattle.float_rounding.specs.Held.{Held, held, rescaled}
use Rattle.float_rounding.specs.Pattern.{size_exact, pow_lt_back}
use Rattle.float_rounding.specs.Shift.{product, pows}
use Rattle.float_rounding.specs.Whole.{same_size}
use Rattle.float_sqrt.specs.Roots.{nearest_root, root_of, sqrt}
use Rattle.float_sqrt.specs.Root.{Near, nearest_near, near_from, near_below}

four : (k : ℕ) → 4 ^ k ≡ 2 ^ (2 * k)
four zero = refl
four (suc k) = pow-succ' 4 k ∙ ap (λ (z : ℕ). 4 * z) (four k) ∙ sym (ap (λ (z : ℕ). 2 ^ z) (twice k) ∙ pow-add 2 2 (2 * k))
  where
    twice : (k : ℕ) → 2 * suc k ≡ 2 + 2 * k
    twice k = omega arith

-- The root of n has 53 digits, q, of the weight 2 ^ k: n is N * 4 ^ k, and q is the whole number nearest to the root of N.
pub record Rooted (n k N q : ℕ) : Type 0 where
  pub split : n ≡ N * 4 ^ k
  pub least : 2 ^ 104 ≤ N
  pub near : Near N q
  pub from : 2 ^ 52 ≤ q
  pub below : q < 2 ^ 53
  pub is : HasValue (root_of n) false (q * 2 ^ k) (2 ^ 1074)

-- ---- the root of m * 2 ^ e, m having 53 digits: 2 * k of the e are dropped, and N is left
module _ (m e : ℕ) (lo : 2 ^ 52 ≤ m) (hi : m < 2 ^ 53) (few : 52 ≤ e) (most : e < 3120) where
  abbrev pub k : ℕ
  k = (e - 52) / 2

  size_is : size (m * 2 ^ e) ≡ suc (52 + e)
  size_is =
      size_exact (52 + e) (m * 2 ^ e)
      (subst (λ (z : ℕ). z ≤ m * 2 ^ e) (product 52 e (52 + e) refl) (mul-le-mul_right (2 ^ e) lo))
      (subst (λ (z : ℕ). m * 2 ^ e < 2 ^ z) (one_more e) (shl_lt 53 e hi))
    where
      one_more : (e : ℕ) → 53 + e ≡ suc (52 + e)
      one_more e = omega arith

  drop_is : (z : ℕ) → z ≡ suc (52 + e) → (z + 1) / 2 - 53 ≡ k
  drop_is z h = omega arith

  is : (N : ℕ) → m * 2 ^ e / 4 ^ k ≡ N → root_of (m * 2 ^ e) ≡ round binary64 false (nearest_root N * 2 ^ k) (2 ^ 1074)
  unfolding root_of
  is N left =
      ap (λ (z : ℕ). round binary64 false (nearest_root (m * 2 ^ e / 4 ^ z) * 2 ^ z) (2 ^ 1074)) (drop_is (size (m * 2 ^ e)) size_is)
      ∙ ap (λ (z : ℕ). round binary64 false (nearest_root z * 2 ^ k) (2 ^ 1074)) left

  -- the digits of the square that are kept
  kept : (p N : ℕ) → e ≡ 52 + p + 2 * k → N ≡ m * 2 ^ p * 2 ^ 52 → m * 2 ^ e ≡ N * 4 ^ k
  kept p N h n =
      ap (λ (z : ℕ). m * z) (sym (product (52 + p) (2 * k) e (sym h)) ∙ ap (λ (z : ℕ). z * 2 ^ (2 * k)) (pow-add 2 52 p))
      ∙ turn m (2 ^ 52) (2 ^ p) (2 ^ (2 * k))
      ∙ ap (λ (z : ℕ). z * 2 ^ (2 * k)) (sym n)
      ∙ ap (λ (z : ℕ). N * z) (sym (four k))
    where
      turn : (m a b c : ℕ) → m * (a * b * c) ≡ m * b * a * c
      turn m a b c = omega arith

  rooted : (N : ℕ) → m * 2 ^ e ≡ N * 4 ^ k → 2 ^ 104 ≤ N → N ≤ 2 ^ 106 - 2 ^ 53 → Rooted (m * 2 ^ e) k N (nearest_root N)
  rooted N h lo hi =
      let q = nearest_root N in
      let w : Near N q = nearest_near N (omega arith) (omega arith) in
      let b : q < 2 ^ 53 = near_below N q hi w in
      record {
        split = h;
        least = lo;
        near = w;
        from = near_from N q lo w;
        below = b;
        is = subst (λ (x : Float). HasValue x false (q * 2 ^ k) (2 ^ 1074)) (sym (is N (ap (λ (z : ℕ). z / 4 ^ k) h ∙ mul-div_cancel N (subst (λ (z : ℕ). 0 < z) (sym (four k)) (pow_pos (2 * k))))))
            (round_exact binary64 false (q * 2 ^ k) (2 ^ 1074) q k (pow_pos 1074) b (lt_of_lt_of_le (shl_lt 53 k b) (pow_mono {i = 53 + k} {j = 2098} (omega arith))) refl);
      }

  -- an even e leaves m * 2 ^ 52, and an odd one twice that
  pub root_left : Rooted (m * 2 ^ e) k (m * (1 + e % 2) * 2 ^ 52) (nearest_root (m * (1 + e % 2) * 2 ^ 52))
  root_left = go (e % 2) refl (bit e)
    where
      bit : (e : ℕ) → e % 2 < 2
      bit e = omega arith

      go : (p : ℕ) → p ≡ e % 2 → p < 2 → Rooted (m * 2 ^ e) k (m * (1 + p) * 2 ^ 52) (nearest_root (m * (1 + p) * 2 ^ 52))
      go zero h l = rooted (m * 1 * 2 ^ 52) (kept 0 (m * 1 * 2 ^ 52) (omega arith) refl) (omega arith) (omega arith)
      go (suc zero) h l = rooted (m * 2 * 2 ^ 52) (kept 1 (m * 2 * 2 ^ 52) (omega arith) refl) (omega arith) (omega arith)
      go (suc (suc p)) h l = absurd (no l)
        where
          no : suc (suc p) < 2 → ⊥
          no l = omega arith

-- ---- any positive value, a of the smallest ones
pub sqrt_value : (x : Float) (a : ℕ) → HasValue x false a (2 ^ 1074) → 0 < a → sqrt x ≡ root_of (a * 2 ^ 1074)
unfolding sqrt
sqrt_value nan a h p = absurd h
sqrt_value (inf s) a h p = absurd h
sqrt_value (fin true m e) a h p = absurd (true≢false h.0)
sqrt_value (fin false zero e) a h p = absurd (lt_irrefl 0 (subst (λ (z : ℕ). 0 < z) (sym h.1 ∙ ap (λ (z : ℕ). z * 2 ^ 1074) (zero-mul (up e)) ∙ zero-mul (2 ^ 1074)) (mul-pos p (down_pos e))))
sqrt_value (fin false (suc m) e) a h p = ap root_of (ap (λ (z : ℕ). z / down e) (rescaled (fin false (suc m) e) false a (2 ^ 1074) (2 ^ 1074) (4 ^ 1074) refl h).1
    ∙ mul-div_cancel (a * 2 ^ 1074) (down_pos e))

-- ---- no other value is as near
-- x is `square` of the units 4 ^ -1074, and r is `root` of the units 2 ^ -1074, in which the root of x is the root of `square`. The middle of r and any
-- other value, which is half of their sum, lies beyond the root of x, seen from r: so r is the nearer one, and no two values are equally near.
pub record Nearest (x r : Float) : Type 0 where
  pub square : ℕ
  pub root : ℕ
  pub of : HasValue x false square (4 ^ 1074)
  pub is : HasValue r false root (2 ^ 1074)
  pub below : (y : Float) (a : ℕ) → T (fits binary64 y) → HasValue y false a (2 ^ 1074) → a < root → (a + root) * (a + root) < 4 * square
  pub above : (y : Float) (a : ℕ) → T (fits binary64 y) → HasValue y false a (2 ^ 1074) → root < a → 4 * square < (a + root) * (a + root)

-- in whole numbers: s is a sum of two values, K is 2 ^ k
under : (s c N K : ℕ) → s ≤ c * K → c * c < 4 * N → 0 < K → s * s < 4 * (N * (K * K))
under s c N K h l p = lt_of_le_of_lt (mul-le-mul h h) (turn (c * c) (4 * N) (mul-lt-mul_of_pos_right l (mul-pos p p)))
  where
    turn : (a b : ℕ) → c * c * (K * K) < 4 * N * (K * K) → c * K * (c * K) < 4 * (N * (K * K))
    turn a b h = omega arith

under_twice : (s q N K : ℕ) → s < 2 * (q * K) → q * q ≤ N → s * s < 4 * (N * (K * K))
under_twice s q N K h l = lt_of_lt_of_le (strict s (2 * (q * K)) h (mul-le-mul h h)) (turn (mul-le-mul_right (K * K) l))
  where
    strict : (a b : ℕ) → a < b → suc a * suc a ≤ b * b → a * a < b * b
    strict a b h g = omega arith

    turn : q * q * (K * K) ≤ N * (K * K) → 2 * (q * K) * (2 * (q * K)) ≤ 4 * (N * (K * K))
    turn h = omega arith

over : (s c N K : ℕ) → c * K ≤ s → 4 * N < c * c → 0 < K → 4 * (N * (K * K)) < s * s
over s c N K h l p = lt_of_lt_of_le (turn (mul-lt-mul_of_pos_right l (mul-pos p p))) (mul-le-mul h h)
  where
    turn : 4 * N * (K * K) < c * c * (K * K) → 4 * (N * (K * K)) < c * K * (c * K)
    turn h = omega arith

-- q is the nearest whole number to the root of N, and the other value is d * 2 ^ i
module _ (N q k d i : ℕ) (w : Near N q) (least : 2 ^ 104 ≤ N) (from : 2 ^ 52 ≤ q) (small : d < 2 ^ 53) where
  abbrev K : ℕ
  K = 2 ^ k

  -- the other value is D * 2 ^ k
  module _ (D : ℕ) (e : d * 2 ^ i ≡ D * K) where
    same_below : d * 2 ^ i < q * K → (d * 2 ^ i + q * K) * (d * 2 ^ i + q * K) < 4 * (N * (K * K))
    same_below l = go q (lt_of_mul-lt-mul_right K (subst (λ (z : ℕ). z < q * K) e l)) w.lo
      where
        go : (q : ℕ) → D < q → q * q < N + q → (d * 2 ^ i + q * K) * (d * 2 ^ i + q * K) < 4 * (N * (K * K))
        go zero h n = omega arith
        go (suc p) h n = under (d * 2 ^ i + suc p * K) (2 * p + 1) N K (omega (arith, e, mul-le-mul_right K (le_of_suc h))) (omega arith) (pow_pos k)
          where
            le_of_suc : D < suc p → D ≤ p
            le_of_suc h = omega arith

    same_above : q * K < d * 2 ^ i → 4 * (N * (K * K)) < (d * 2 ^ i + q * K) * (d * 2 ^ i + q * K)
    same_above l =
        let h : q < D = lt_of_mul-lt-mul_right K (subst (λ (z : ℕ). q * K < z) e l) in
        over (d * 2 ^ i + q * K) (2 * q + 1) N K (omega (arith, e, mul-le-mul_right K h)) (omega (arith, w.hi)) (pow_pos k)

  finer : i < k → d * 2 ^ i < 2 ^ 52 * K
  finer l = lt_of_lt_of_le (shl_lt 53 i small) (le_trans (pow_mono {i = 53 + i} {j = 52 + k} (omega arith)) (le_of_eq (pow-add 2 52 k)))

  finer_below : i < k → (d * 2 ^ i + q * K) * (d * 2 ^ i + q * K) < 4 * (N * (K * K))
  finer_below l = go (eq-or-lt_of_le from)
    where
      go : (2 ^ 52 ≡ q) ⊎ (2 ^ 52 < q) → (d * 2 ^ i + q * K) * (d * 2 ^ i + q * K) < 4 * (N * (K * K))
      go (inl e) = under_twice (d * 2 ^ i + q * K) q N K (omega (arith, finer l, ap (λ (z : ℕ). z * K) e)) (le_trans (le_of_eq (ap (λ (z : ℕ). z * z) (sym e))) least)
      go (inr g) = at q g w.lo
        where
          at : (q : ℕ) → 2 ^ 52 < q → q * q < N + q → (d * 2 ^ i + q * K) * (d * 2 ^ i + q * K) < 4 * (N * (K * K))
          at zero h n = omega arith
          at (suc p) h n = under (d * 2 ^ i + suc p * K) (2 * p + 1) N K (omega (arith, finer l, mul-le-mul_right K (le_of_suc h))) (omega arith) (pow_pos k)
            where
              le_of_suc : 2 ^ 52 < suc p → 2 ^ 52 ≤ p
              le_of_suc h = omega arith

  coarse : k ≤ i → d * 2 ^ i ≡ d * 2 ^ (i - k) * K
  coarse l = ap (λ (z : ℕ). d * z) (sym (product (i - k) k i (omega arith))) ∙ sym (mul_assoc d (2 ^ (i - k)) K)

  middle_below : d * 2 ^ i < q * K → (d * 2 ^ i + q * K) * (d * 2 ^ i + q * K) < 4 * (N * (K * K))
  middle_below l = go (leb k i) (leb→le k i) (nleb→lt k i)
    where
      go : (b : Bool) → (T b → k ≤ i) → (T (not b) → i < k) → (d * 2 ^ i + q * K) * (d * 2 ^ i + q * K) < 4 * (N * (K * K))
      go true g h = same_below (d * 2 ^ (i - k)) (coarse (g tt)) l
      go false g h = finer_below (h tt)

  middle_above : q * K < d * 2 ^ i → 4 * (N * (K * K)) < (d * 2 ^ i + q * K) * (d * 2 ^ i + q * K)
  middle_above l = go (leb k i) (leb→le k i) (nleb→lt k i)
    where
      no : i < k → ⊥
      no h = omega (arith, finer h, mul-le-mul_right K from)

      go : (b : Bool) → (T b → k ≤ i) → (T (not b) → i < k) → 4 * (N * (K * K)) < (d * 2 ^ i + q * K) * (d * 2 ^ i + q * K)
      go true g h = same_above (d * 2 ^ (i - k)) (coarse (g tt)) l
      go false g h = absurd (no (h tt))

-- ---- the values that the format holds
value_finite : (x : Float) (s : Bool) (a c : ℕ) → HasValue x s a c → T (finite x)
value_finite nan s a c h = absurd h
value_finite (inf t) s a c h = absurd h
value_finite (fin t m e) s a c h = tt

positive_sign : (x : Float) (s : Bool) (a c : ℕ) → T (positive x) → HasValue x s a c → s ≡ false
positive_sign nan s a c p h = absurd p
positive_sign (inf t) s a c p h = absurd p
positive_sign (fin true m e) s a c p h = absurd p
positive_sign (fin false m e) s a c p h = sym h.0

-- a value's digits d, of the weight 2 ^ j, moved up until they are 53
record Moved (d j : ℕ) : Type 0 where
  m : ℕ
  e : ℕ
  lo : 2 ^ 52 ≤ m
  hi : m < 2 ^ 53
  few : 52 ≤ e
  most : e < 3120
  same : m * 2 ^ e ≡ d * 2 ^ j * 2 ^ 1074

move : (d j : ℕ) → 0 < d → d < 2 ^ 53 → d * 2 ^ j < 2 ^ 2098 → Moved d j
move d j p small under = go (size d) (size-lt d) (size-le d 53 small) (λ (i : ℕ) (l : i < size d). size_reaches d i l)
  where
    go : (z : ℕ) → d < 2 ^ z → z ≤ 53 → ((i : ℕ) → i < z → 2 ^ i ≤ d) → Moved d j
    go zero h l r = absurd (lt_irrefl 0 (lt_of_lt_of_le p (none d h)))
      where
        none : (d : ℕ) → d < 2 ^ 0 → d ≤ 0
        none d h = omega arith
    go (suc z) h l r = record {
      m = d * 2 ^ (52 - z);
      e = j + (1022 + z);
      lo = subst (λ (n : ℕ). n ≤ d * 2 ^ (52 - z)) (product z (52 - z) 52 (omega arith)) (mul-le-mul_right (2 ^ (52 - z)) lead);
      hi = subst (λ (n : ℕ). d * 2 ^ (52 - z) < 2 ^ n) top (shl_lt (suc z) (52 - z) h);
      few = omega arith;
      most = omega (arith, pow_lt_back (z + j) 2098 (lt_of_le_of_lt (subst (λ (n : ℕ). n ≤ d * 2 ^ j) (product z j (z + j) refl) (mul-le-mul_right (2 ^ j) lead)) under));
      same = mul_assoc d (2 ^ (52 - z)) (2 ^ (j + (1022 + z))) ∙ ap (λ (n : ℕ). d * n) (pows (52 - z) (j + (1022 + z)) j 1074 (omega arith)) ∙ sym (mul_assoc d (2 ^ j) (2 ^ 1074));
    }
      where
        lead : 2 ^ z ≤ d
        lead = r z (lt-suc_self z)

        top : suc z + (52 - z) ≡ 53
        top = omega arith

-- The square root of a value above zero is the nearest value.
pub sqrt_nearest : (x : Float) → T (fits binary64 x) → T (positive x) → Nearest x (sqrt x)
sqrt_nearest x f p = at h.sign (positive_sign x h.sign (h.digits * 2 ^ h.shift) (2 ^ 1074) p h.is) h.is
  where
    h : Held binary64 x
    h = held binary64 x f (positive-finite x p)

    at : (s : Bool) → s ≡ false → HasValue x s (h.digits * 2 ^ h.shift) (2 ^ 1074) → Nearest x (sqrt x)
    at true e v = absurd (true≢false e)
    at false e v = go (root_left w.m w.e w.lo w.hi w.few w.most)
      where
        a : ℕ
        a = h.digits * 2 ^ h.shift

        a_pos : 0 < a
        a_pos = value_pos x a (2 ^ 1074) p (pow_pos 1074) v

        w : Moved h.digits h.shift
        w = move h.digits h.shift (first_pos h.digits (2 ^ h.shift) a_pos) h.small h.under

        go : {k N q : ℕ} → Rooted (w.m * 2 ^ w.e) k N q → Nearest x (sqrt x)
        go {k} {N} {q} r = record {
          square = N * (2 ^ k * 2 ^ k);
          root = q * 2 ^ k;
          of = subst (λ (n : ℕ). HasValue x false n (4 ^ 1074)) (sym w.same ∙ r.split ∙ ap (λ (n : ℕ). N * n) (four k ∙ sym (product k k (2 * k) (double k))))
              (rescaled x false a (2 ^ 1074) (2 ^ 1074) (4 ^ 1074) refl v);
          is = subst (λ (y : Float). HasValue y false (q * 2 ^ k) (2 ^ 1074)) (ap root_of w.same ∙ sym (sqrt_value x a v a_pos)) r.is;
          below = λ y b g u l. let o = other y b g u in subst (λ (n : ℕ). (n + q * 2 ^ k) * (n + q * 2 ^ k) < 4 * (N * (2 ^ k * 2 ^ k))) (sym o.1)
              (middle_below N q k o.0.digits o.0.shift r.near r.least r.from o.0.small (subst (λ (n : ℕ). n < q * 2 ^ k) o.1 l));
          above = λ y b g u l. let o = other y b g u in subst (λ (n : ℕ). 4 * (N * (2 ^ k * 2 ^ k)) < (n + q * 2 ^ k) * (n + q * 2 ^ k)) (sym o.1)
              (middle_above N q k o.0.digits o.0.shift r.near r.least r.from o.0.small (subst (λ (n : ℕ). q * 2 ^ k < n) o.1 l));
        }
          where
            double : (k : ℕ) → k + k ≡ 2 * k
            double k = omega arith

            other : (y : Float) (b : ℕ) → T (fits binary64 y) → HasValue y false b (2 ^ 1074) → (o : Held binary64 y) × (b ≡ o.digits * 2 ^ o.shift)
            other y b g u =
                let o = held binary64 y g (value_finite y false b (2 ^ 1074) u) in
                (o, same_size y false o.sign b (o.digits * 2 ^ o.shift) (2 ^ 1074) u o.is)
