-- The bit pattern of a rounded value: the digits that it keeps, added to the exponent's field, with subnormal values, a carry into the next exponent and the
-- infinities by one formula. Over either format. Assumes nothing.
use Rattle.std.specs.Prelude.{◌≡◌, refl, ◌⊎◌, Bool, not, T, leb, ltb, Float}
use Rattle.std.proofs.Common.{sym, ◌∙◌, inl, inr, le_trans, le_of_eq, lt_of_lt_of_le, mul-one, add_assoc, mul-le-mul_right, mul-pos, mul-div_cancel, eq-or-lt_of_le, lt_irrefl, le-div_iff_mul-le, le_antisymm, lt_of_not-le, lt-suc_self, lt_of_mul-lt-mul_right, le_of_mul-le-mul_right, arith, pow-add, pow_pos, pow_mono, shl_lt, ltb→lt, nltb→le, leb→le, lit<}
use Rattle.std.proofs.Math.Path.{ap, subst}
use Prim.Native.Nat.{ℕ, suc, ◌+◌, ◌-◌, ◌*◌, ◌/◌, ◌%◌, ◌^◌, ◌≤◌, ◌<◌, min, compare}
use Rattle.std.proofs.Math.Nat.{pow-succ', div-div-eq-div-mul}
use Rattle.std.proofs.Math.Bool.{true, false, cond}
use Rattle.std.proofs.Math.Pow.{pow-lt}
use Rattle.std.proofs.Math.Dec.{nleb→lt}
use Rattle.std.specs.Float.{nan, inf, fin, Format, binary32, binary64}
use Rattle.std.specs.Float.Ieee.{prec, emax, low, up, down, size, odd, units, round, hid, ones, top, to_bits}
use Rattle.std.specs.Float.Ieee.Digits.{size-lt, size-le}
use Rattle.std.specs.Float.Ieee.Fits.{down_pos, two, two-le_pos, round_is, kept-lt, nearest-le}
use Rattle.std.specs.Float.Ieee.Exact.{HasValue, odd_sign}
use Rattle.std.specs.Float.Ieee.Nearest.{closest, nearest-ge}
use Rattle.std.specs.Float.Ieee.Order.{drop, kept}
use Rattle.std.specs.Float.Ieee.Scale.{overflow}
use Rattle.float_rounding.specs.Near.{twice, drop_small}
use Rattle.float_rounding.specs.Held.{pow_le_back}

-- ---- how many digits a number has
pub size_exact : (a n : ℕ) → 2 ^ a ≤ n → n < 2 ^ suc a → size n ≡ suc a
size_exact a n lo hi = le_antisymm (size-le n (suc a) hi) (reach (size n) (size-lt n))
  where
    reach : (z : ℕ) → n < 2 ^ z → a < z
    reach z h = lt_of_not-le (λ (g : z ≤ a). lt_irrefl n (lt_of_lt_of_le h (le_trans (pow_mono g) lo)))

-- ---- the pattern of a finite value, which is n of the smallest values
pub value_bits : (f : Format) (x : Float) (s : Bool) (n : ℕ) → HasValue x s n (2 ^ low f) → to_bits f x ≡ cond s (top f) 0 + ((size n - prec f) * hid f + n / 2 ^ (size n - prec f))
unfolding to_bits
value_bits f nan s n h = absurd h
value_bits f (inf t) s n h = absurd h
value_bits f (fin t m e) s n h =
    ap (λ (b : Bool). cond b (top f) 0 + (size (m * up e * 2 ^ low f / down e) - prec f) * hid f + m * up e * 2 ^ low f / down e / 2 ^ (size (m * up e * 2 ^ low f / down e) - prec f)) h.0
    ∙ ap (λ (x : ℕ). cond s (top f) 0 + (size x - prec f) * hid f + x / 2 ^ (size x - prec f)) (ap (λ (x : ℕ). x / down e) h.1 ∙ mul-div_cancel n (down_pos e))
    ∙ add_assoc (cond s (top f) 0) ((size n - prec f) * hid f) (n / 2 ^ (size n - prec f))

-- q has the leading digit, or nothing is dropped; and rounding up may have made it 2 ^ p
module _ (p q k : ℕ) (P : 0 < p) (lead : (k ≡ 0) ⊎ (2 ^ (p - 1) ≤ q)) (most : q ≤ 2 ^ p) where
  abbrev D : ℕ
  D = size (q * 2 ^ k) - p

  one_more : (p k : ℕ) → 0 < p → p + k ≡ suc (p - 1 + k)
  one_more p k h = omega arith

  drop_is : (z p k : ℕ) → 0 < p → z ≡ suc (p - 1 + k) → z - p ≡ k
  drop_is z p k h e = omega arith

  drop_more : (z p k : ℕ) → 0 < p → z ≡ suc (p + k) → z - p ≡ suc k
  drop_more z p k h e = omega arith

  none : (z p : ℕ) → z ≤ p → z - p ≡ 0
  none z p h = omega arith

  fields : D * 2 ^ (p - 1) + q * 2 ^ k / 2 ^ D ≡ k * 2 ^ (p - 1) + q
  fields = go (eq-or-lt_of_le most) lead
    where
      at : (d : ℕ) → D ≡ d → (r : ℕ) → q * 2 ^ k ≡ r * 2 ^ d → D * 2 ^ (p - 1) + q * 2 ^ k / 2 ^ D ≡ d * 2 ^ (p - 1) + r
      at d e r h = ap (λ (x : ℕ). x * 2 ^ (p - 1) + q * 2 ^ k / 2 ^ x) e ∙ ap (λ (x : ℕ). d * 2 ^ (p - 1) + x / 2 ^ d) h ∙ ap (λ (x : ℕ). d * 2 ^ (p - 1) + x) (mul-div_cancel r (pow_pos d))

      go : (q ≡ 2 ^ p) ⊎ (q < 2 ^ p) → (k ≡ 0) ⊎ (2 ^ (p - 1) ≤ q) → D * 2 ^ (p - 1) + q * 2 ^ k / 2 ^ D ≡ k * 2 ^ (p - 1) + q
      go (inl e) l =
          let v : q * 2 ^ k ≡ 2 ^ (p + k) = ap (λ (x : ℕ). x * 2 ^ k) e ∙ sym (pow-add 2 p k) in
          let z : size (q * 2 ^ k) ≡ suc (p + k) = ap size v ∙ size_exact (p + k) (2 ^ (p + k)) (le_of_eq refl) (pow-lt (lt-suc_self (p + k))) in
          let d : D ≡ suc k = drop_more (size (q * 2 ^ k)) p k P z in
          at (suc k) d (2 ^ (p - 1)) (ap (λ (x : ℕ). x * 2 ^ k) (e ∙ twice p P) ∙ carry (2 ^ (p - 1)) (2 ^ k) ∙ ap (λ (x : ℕ). 2 ^ (p - 1) * x) (sym (pow-succ' 2 k)))
          ∙ last k (2 ^ (p - 1)) q (e ∙ twice p P)
        where
          carry : (a b : ℕ) → 2 * a * b ≡ a * (2 * b)
          carry a b = omega arith

          last : (k h q : ℕ) → q ≡ 2 * h → suc k * h + h ≡ k * h + q
          last k h q e = omega arith
      go (inr h) (inl z) =
          at 0 (none (size (q * 2 ^ k)) p (size-le (q * 2 ^ k) p (subst (λ (x : ℕ). q * 2 ^ x < 2 ^ p) (sym z) (subst (λ (x : ℕ). x < 2 ^ p) (sym (mul-one q)) h)))) q (ap (λ (x : ℕ). q * 2 ^ x) z)
          ∙ ap (λ (x : ℕ). x * 2 ^ (p - 1) + q) (sym z)
      go (inr h) (inr l) =
          at k (drop_is (size (q * 2 ^ k)) p k P (size_exact (p - 1 + k) (q * 2 ^ k)
          (subst (λ (x : ℕ). x ≤ q * 2 ^ k) (sym (pow-add 2 (p - 1) k)) (mul-le-mul_right (2 ^ k) l))
          (subst (λ (x : ℕ). q * 2 ^ k < 2 ^ x) (one_more p k P) (shl_lt p k h)))) q refl

-- ---- q * 2 ^ k is below h * 2 ^ E just where k * h + q is below (E + 1) * h
pub pow_lt_back : (i j : ℕ) → 2 ^ i < 2 ^ j → i < j
pow_lt_back i j h = lt_of_not-le (λ (g : j ≤ i). lt_irrefl (2 ^ i) (lt_of_lt_of_le h (pow_mono g)))

module _ (h E q k : ℕ) (H : 0 < h) (one : 1 < E) (lead : (k ≡ 0) ⊎ (h ≤ q)) (most : q ≤ 2 * h) where
  stays : q * 2 ^ k < h * 2 ^ E → k * h + q ≤ suc E * h
  stays l = go lead
    where
      go : (k ≡ 0) ⊎ (h ≤ q) → k * h + q ≤ suc E * h
      go (inl z) = le_trans (le_of_eq (ap (λ (x : ℕ). x * h + q) z)) (omega (arith, mul-le-mul_right h one))
      go (inr g) =
          let a : 2 ^ k * h < 2 ^ E * h = omega (arith, mul-le-mul_right (2 ^ k) g) in
          let b : k < E = pow_lt_back k E (lt_of_mul-lt-mul_right h a) in
          omega (arith, mul-le-mul_right h b)

  leaves : h * 2 ^ E ≤ q * 2 ^ k → suc E * h ≤ k * h + q
  leaves l = go (leb E k) (leb→le E k) (nleb→lt E k) lead
    where
      a : 2 ^ E ≤ 2 ^ suc k
      a = subst (λ (x : ℕ). 2 ^ E ≤ x) (sym (pow-succ' 2 k)) (le_of_mul-le-mul_right (omega (arith, l, mul-le-mul_right (2 ^ k) most)) H)

      b : E ≤ suc k
      b = pow_le_back E (suc k) a

      go : (x : Bool) → (T x → E ≤ k) → (T (not x) → k < E) → (k ≡ 0) ⊎ (h ≤ q) → suc E * h ≤ k * h + q
      go x y z (inl k0) = absurd (no k0)
        where
          no : k ≡ 0 → ⊥
          no e = omega (arith, b)
      go true y z (inr g) = omega (arith, mul-le-mul_right h (y tt))
      go false y z (inr g) =
          let e : E ≡ suc k = le_antisymm b (z tt) in
          let w : h * (2 * 2 ^ k) ≤ q * 2 ^ k = subst (λ (x : ℕ). h * x ≤ q * 2 ^ k) (ap (λ (x : ℕ). 2 ^ x) e ∙ pow-succ' 2 k) l in
          let v : 2 * h ≤ q = le_of_mul-le-mul_right (omega (arith, w)) (pow_pos k) in
          subst (λ (x : ℕ). suc x * h ≤ k * h + q) (sym e) (omega (arith, v))

-- ---- the pattern of q * 2 ^ k of the smallest values, q having the format's digits, or one more by a carry
pub exact_bits : (f : Format) (x : Float) (s : Bool) (q k : ℕ) → HasValue x s (q * 2 ^ k) (2 ^ low f) → (k ≡ 0) ⊎ (hid f ≤ q) → q ≤ 2 ^ prec f
    → to_bits f x ≡ cond s (top f) 0 + (k * hid f + q)
exact_bits f x s q k v lead most =
    value_bits f x s (q * 2 ^ k) v ∙ ap (λ (z : ℕ). cond s (top f) 0 + z) (fields (prec f) q k (two-le_pos (prec f) (two f)) lead most)

inf_bits : (f : Format) (s : Bool) → to_bits f (inf s) ≡ cond s (top f) 0 + ones f * hid f
unfolding to_bits
inf_bits f s = refl

module _ (f : Format) (s : Bool) (q k : ℕ) (lead : (k ≡ 0) ⊎ (hid f ≤ q)) (most : q ≤ 2 ^ prec f) where
  over_is : (f : Format) → overflow f ≡ hid f * 2 ^ (2 * emax f)
  over_is binary32 = refl
  over_is binary64 = refl

  one_lt : (f : Format) → 1 < 2 * emax f
  one_lt binary32 = lit< tt
  one_lt binary64 = lit< tt

  ones_is : (e : ℕ) → suc (2 * e) ≡ 2 * e + 1
  ones_is e = omega arith

  most' : q ≤ 2 * hid f
  most' = subst (λ (x : ℕ). q ≤ x) (twice (prec f) (two-le_pos (prec f) (two f))) most

  min_l : (a b : ℕ) → a ≤ b → a ≡ min a b
  min_l a b h = omega arith

  min_r : (a b : ℕ) → b ≤ a → b ≡ min a b
  min_r a b h = omega arith

  pub units_bits : to_bits f (units f s q k) ≡ cond s (top f) 0 + min (k * hid f + q) (ones f * hid f)
  unfolding units
  units_bits = go (ltb (q * 2 ^ k) (overflow f)) (ltb→lt (q * 2 ^ k) (overflow f)) (nltb→le (q * 2 ^ k) (overflow f))
    where
      go : (b : Bool) → (T b → q * 2 ^ k < overflow f) → (T (not b) → overflow f ≤ q * 2 ^ k)
          → to_bits f (cond b (odd (suc (prec f)) s q k (low f)) (inf s)) ≡ cond s (top f) 0 + min (k * hid f + q) (ones f * hid f)
      go true l g =
          let le : k * hid f + q ≤ ones f * hid f = subst (λ (z : ℕ). k * hid f + q ≤ z * hid f) (ones_is (emax f))
          (stays (hid f) (2 * emax f) q k (pow_pos (prec f - 1)) (one_lt f) lead most' (subst (λ (z : ℕ). q * 2 ^ k < z) (over_is f) (l tt))) in
          exact_bits f (odd (suc (prec f)) s q k (low f)) s q k (odd_sign (suc (prec f)) s q k (low f)) lead most
          ∙ ap (λ (z : ℕ). cond s (top f) 0 + z) (min_l (k * hid f + q) (ones f * hid f) le)
      go false l g =
          let ge : ones f * hid f ≤ k * hid f + q = subst (λ (z : ℕ). z * hid f ≤ k * hid f + q) (ones_is (emax f))
          (leaves (hid f) (2 * emax f) q k (pow_pos (prec f - 1)) (one_lt f) lead most' (subst (λ (z : ℕ). z ≤ q * 2 ^ k) (over_is f) (g tt))) in
          inf_bits f s ∙ ap (λ (z : ℕ). cond s (top f) 0 + z) (min_r (k * hid f + q) (ones f * hid f) ge)

-- ---- the pattern of a rounded fraction: K digits dropped and Q kept
kept_le : (p n den : ℕ) → kept p n den ≤ 2 ^ p
kept_le p n den =
    let k = drop p n den in
    let u = den * 2 ^ k in
    le_trans (nearest-le (n / u) (compare (n % u * 2) u)) (subst (λ (x : ℕ). x < 2 ^ p) (div-div-eq-div-mul n den (2 ^ k)) (kept-lt p (n / den)))

kept_lead : (p n den : ℕ) → 0 < p → 0 < den → (drop p n den ≡ 0) ⊎ (2 ^ (p - 1) ≤ kept p n den)
kept_lead p n den P D = go (drop_small p n den P D)
  where
    go : (drop p n den ≡ 0) ⊎ (2 ^ (p - 1) * (den * 2 ^ drop p n den) ≤ n) → (drop p n den ≡ 0) ⊎ (2 ^ (p - 1) ≤ kept p n den)
    go (inl z) = inl z
    go (inr l) =
        let u = den * 2 ^ drop p n den in
        inr (le_trans ((le-div_iff_mul-le (mul-pos D (pow_pos (drop p n den)))).1 l) (nearest-ge (n / u) (compare (n % u * 2) u)))

pub round_bits : (f : Format) (s : Bool) (a c K Q : ℕ) → 0 < c → drop (prec f) (a * 2 ^ low f) c ≡ K → closest (a * 2 ^ low f) (c * 2 ^ K) ≡ Q
    → to_bits f (round f s a c) ≡ cond s (top f) 0 + min (K * hid f + Q) (ones f * hid f)
round_bits f s a c K Q C k q =
    let n = a * 2 ^ low f in
    ap (to_bits f) (round_is f s a c)
    ∙ units_bits f s (kept (prec f) n c) (drop (prec f) n c) (kept_lead (prec f) n c (two-le_pos (prec f) (two f)) C) (kept_le (prec f) n c)
    ∙ ap (λ (z : ℕ). cond s (top f) 0 + min (z * hid f + closest n (c * 2 ^ z)) (ones f * hid f)) k
    ∙ ap (λ (z : ℕ). cond s (top f) 0 + min (K * hid f + z) (ones f * hid f)) q
