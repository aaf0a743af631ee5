-- How far a rounded value lies from the exact one, over any precision: at most half of the last place kept, and a part in 2 ^ prec of the value. Assumes nothing.
use Rattle.std.specs.Prelude.{◌≡◌, refl, ◌⊎◌, Bool, true, false, not, cond, T, eqb, Float}
use Rattle.std.proofs.Common.{sym, ap, ◌∙◌, subst, inl, inr, le_trans, le_of_eq, mul_comm, mul_assoc, mul_left_comm, mul-le-mul_right, mul-le-mul_left, mul-pos, div-add-mod', mod-lt, eq-zero-or-pos, mul-one, le-div_iff_mul-le, le_of_mul-le-mul_right, lt_of_le_of_lt, arith, leb→le, eqb→eq, pow-add, pow_pos, pow_mono}
use Prim.Native.Nat.{ℕ, zero, suc, ◌+◌, ◌-◌, ◌*◌, ◌/◌, ◌%◌, ◌^◌, ◌≤◌, ◌<◌, compare, Ordering}
use Rattle.std.proofs.Math.Dec.{is_le, compare_is_eq, nleb→lt, eqb_refl}
use Rattle.std.proofs.Math.Arith.{lt_of_le-ne}
use Rattle.std.specs.Float.{Format}
use Rattle.std.specs.Float.Ieee.{prec, low, size, nearest, round}
use Rattle.std.specs.Float.Ieee.Digits.{size_reaches}
use Rattle.std.specs.Float.Ieee.Fits.{round_is, two, two-le_pos}
use Rattle.std.specs.Float.Ieee.Exact.{HasValue, units_val}
use Rattle.std.specs.Float.Ieee.Nearest.{closest}
use Rattle.std.specs.Float.Ieee.Order.{drop, kept}
use Rattle.std.specs.Float.Ieee.Scale.{grid, overflow}

-- ---- what `compare` says
abbrev pub Cmp : Ordering → ℕ → ℕ → Type 0
Cmp Ordering.lt a b = a < b
Cmp Ordering.eq a b = a ≡ b
Cmp Ordering.gt a b = b < a

pub cmp : (a b : ℕ) → Cmp (compare a b) a b
cmp a b = go (compare a b) (leb→le a b) (nleb→lt a b) (eqb→eq a b) (λ (e : a ≡ b). subst (λ (x : ℕ). T (eqb a x)) e (eqb_refl a))
  where
    go : (o : Ordering) → (T (is_le o) → a ≤ b) → (T (not (is_le o)) → b < a) → (T (compare_is_eq o) → a ≡ b) → (a ≡ b → T (compare_is_eq o)) → Cmp o a b
    go Ordering.lt h k e n = lt_of_le-ne (h tt) n
    go Ordering.eq h k e n = e tt
    go Ordering.gt h k e n = k tt

-- ---- |x - y| ≤ e of natural numbers
pub record Within (x y e : ℕ) : Type 0 where
  pub hi : x ≤ y + e
  pub lo : y ≤ x + e

-- ---- the nearest whole number is off by half at most
tie_half : (q b r : ℕ) → r * 2 ≡ b → Within ((q + q % 2) * b * 2) ((q * b + r) * 2) b
tie_half q b r e = go (q % 2) (le_one q)
  where
    le_one : (q : ℕ) → q % 2 < 2
    le_one q = omega arith

    go : (t : ℕ) → t < 2 → Within ((q + t) * b * 2) ((q * b + r) * 2) b
    go zero h = omega arith
    go (suc zero) h = omega arith
    go (suc (suc t)) h = omega arith

near_half : (q b r : ℕ) (o : Ordering) → r < b → Cmp o (r * 2) b → Within (nearest q o * b * 2) ((q * b + r) * 2) b
near_half q b r Ordering.lt h c = omega arith
near_half q b r Ordering.eq h c = tie_half q b r c
near_half q b r Ordering.gt h c = omega arith

pub closest_half : (a b : ℕ) → 0 < b → Within (closest a b * b * 2) (a * 2) b
closest_half a b B =
    subst (λ (x : ℕ). Within (closest a b * b * 2) (x * 2) b) (div-add-mod' a b)
    (near_half (a / b) b (a % b) (compare (a % b * 2) b) (mod-lt a B) (cmp (a % b * 2) b))

-- ---- n / den in units, for a format of p digits: `grid` is off by half of 2 ^ drop, and 2 ^ drop is 1 or at most a part in 2 ^ (p - 1) of the whole
all_in_use : (z p : ℕ) → 0 < p → 0 < z - p → p - 1 + (z - p) < z
all_in_use z p P h = omega arith

pub drop_small : (p n den : ℕ) → 0 < p → 0 < den → (drop p n den ≡ 0) ⊎ (2 ^ (p - 1) * (den * 2 ^ drop p n den) ≤ n)
drop_small p n den P D = go (eq-zero-or-pos (drop p n den))
  where
    go : (drop p n den ≡ 0) ⊎ (0 < drop p n den) → (drop p n den ≡ 0) ⊎ (2 ^ (p - 1) * (den * 2 ^ drop p n den) ≤ n)
    go (inl z) = inl z
    go (inr K) =
        let k = drop p n den in
        let w = n / den in
        let a : 2 ^ (p - 1) * 2 ^ k ≤ w = le_trans (le_of_eq (sym (pow-add 2 (p - 1) k))) (size_reaches w (p - 1 + k) (all_in_use (size w) p P K)) in
        inr (le_trans (le_of_eq (simp (mul_assoc, mul_comm, mul_left_comm))) ((le-div_iff_mul-le D).0 a))

pub at_drop : (p n den : ℕ) → 0 < den → Within (kept p n den * 2 ^ drop p n den * den * 2) (n * 2) (den * 2 ^ drop p n den)
at_drop p n den D =
    let k = drop p n den in
    subst (λ (x : ℕ). Within (x * 2) (n * 2) (den * 2 ^ k)) (simp (mul_assoc, mul_comm, mul_left_comm))
    (closest_half n (den * 2 ^ k) (mul-pos D (pow_pos k)))

-- a power of two is twice the one before
pub twice : (p : ℕ) → 0 < p → 2 ^ p ≡ 2 * 2 ^ (p - 1)
twice p h = ap (λ (x : ℕ). 2 ^ x) (sym (pred p h)) ∙ two_pow (p - 1)
  where
    pred : (p : ℕ) → 0 < p → suc (p - 1) ≡ p
    pred p h = omega arith

    two_pow : (k : ℕ) → 2 ^ suc k ≡ 2 * 2 ^ k
    two_pow k = omega arith

-- The error of the rounding, times 2 ^ p: at most the fraction itself, or half of the smallest value (both have 2 ^ p in them), and so at most their sum.
pub kept_near : (p n den : ℕ) → 0 < p → 0 < den
    → Within (kept p n den * 2 ^ drop p n den * den * 2 ^ p) (n * 2 ^ p) n ⊎ Within (kept p n den * 2 ^ drop p n den * den * 2) (n * 2) den
kept_near p n den P D = go (drop_small p n den P D)
  where
    half : (h : ℕ) → 2 ^ p ≡ 2 * h → (x u : ℕ) → Within (x * 2) (n * 2) u → h * u ≤ n → Within (x * 2 ^ p) (n * 2 ^ p) n
    half h e x u w l = subst (λ (z : ℕ). Within (x * z) (n * z) n) (sym e) (record { hi = omega (arith, mul-le-mul_right h w.hi); lo = omega (arith, mul-le-mul_right h w.lo) })

    go : (drop p n den ≡ 0) ⊎ (2 ^ (p - 1) * (den * 2 ^ drop p n den) ≤ n)
        → Within (kept p n den * 2 ^ drop p n den * den * 2 ^ p) (n * 2 ^ p) n ⊎ Within (kept p n den * 2 ^ drop p n den * den * 2) (n * 2) den
    go (inl z) = inr (subst (λ (x : ℕ). Within (kept p n den * 2 ^ drop p n den * den * 2) (n * 2) x) (ap (λ (k : ℕ). den * 2 ^ k) z ∙ mul-one den) (at_drop p n den D))
    go (inr l) = inl (half (2 ^ (p - 1)) (twice p P) (kept p n den * 2 ^ drop p n den * den) (den * 2 ^ drop p n den) (at_drop p n den D) l)

-- ---- `round`, at either sign
pub round_val : (f : Format) (s : Bool) (a c : ℕ) → grid f a c < overflow f → HasValue (round f s a c) s (grid f a c) (2 ^ low f)
round_val f s a c h = subst (λ (z : Float). HasValue z s (grid f a c) (2 ^ low f)) (sym (round_is f s a c)) (units_val f s (kept (prec f) (a * 2 ^ low f) c) (drop (prec f) (a * 2 ^ low f) c) h)

-- |q * den - n| * 2 ^ p ≤ max n (2 ^ (p - 1) * den), in one line: B is any bound of n, and of half the smallest value where n is not 0
pub grid_near : (f : Format) (a c : ℕ) → 0 < c
    → Within (grid f a c * c * 2 ^ prec f) (a * 2 ^ low f * 2 ^ prec f) (a * 2 ^ low f) ⊎ Within (grid f a c * c * 2) (a * 2 ^ low f * 2) c
grid_near f a c C = kept_near (prec f) (a * 2 ^ low f) c (two-le_pos (prec f) (two f)) C

-- ---- a whole number of units: the error is relative, whatever the number's size
whole_near : (P L q w : ℕ) → 0 < L → Within (q * L * P) (w * L * P) (w * L) ⊎ Within (q * L * 2) (w * L * 2) L → Within (q * P) (w * P) w
whole_near P L q w Z (inl h) = record {
  hi = le_of_mul-le-mul_right (omega (arith, h.hi)) Z;
  lo = le_of_mul-le-mul_right (omega (arith, h.lo)) Z;
}
whole_near P L q w Z (inr h) =
    let a : q * 2 ≤ w * 2 + 1 = le_of_mul-le-mul_right (omega (arith, h.hi)) Z in
    let b : w * 2 ≤ q * 2 + 1 = le_of_mul-le-mul_right (omega (arith, h.lo)) Z in
    let e : q ≡ w = omega arith in
    subst (λ (x : ℕ). Within (x * P) (w * P) w) (sym e) (omega arith)

pub units_near : (f : Format) (w : ℕ) → Within (grid f w (2 ^ low f) * 2 ^ prec f) (w * 2 ^ prec f) w
units_near f w = whole_near (2 ^ prec f) (2 ^ low f) (grid f w (2 ^ low f)) w (pow_pos (low f)) (grid_near f w (2 ^ low f) (pow_pos (low f)))

-- at most twice
two_pow_pos : (p : ℕ) → 0 < p → 2 ≤ 2 ^ p
two_pow_pos p h = pow_mono {i = 1} h

pub units_le : (f : Format) (w : ℕ) → grid f w (2 ^ low f) ≤ w * 2
units_le f w =
    let P = 2 ^ prec f in
    let q = grid f w (2 ^ low f) in
    let h = (units_near f w).hi in
    let t : w * 2 ≤ w * P = mul-le-mul_left w (two_pow_pos (prec f) (two-le_pos (prec f) (two f))) in
    le_of_mul-le-mul_right (omega (arith, h, t)) (pow_pos (prec f))

-- ---- what a sign and a size come to: a value is the difference of two numbers, one of them 0
abbrev pub plus : Bool → ℕ → ℕ
plus s a = cond s 0 a

abbrev pub less : Bool → ℕ → ℕ
less s a = cond s a 0

-- |(a - b) - (c - d)| * P ≤ e
abbrev pub Off : ℕ → ℕ → ℕ → ℕ → ℕ → ℕ → Type 0
Off P a b c d e = Within ((a + d) * P) ((c + b) * P) e

-- x, of the format f, is a whole number of units away from c - d with an error of a part in 2 ^ prec of any e that bounds the size of c - d
pub record Rounded (f : Format) (x : Float) (c d : ℕ) : Type 0 where
  pub sign : Bool
  pub size : ℕ
  pub is : HasValue x sign size (2 ^ low f)
  pub off : (e : ℕ) → Within c d e → Off (2 ^ prec f) (plus sign size) (less sign size) c d e

pub round_rounded : (f : Format) (s : Bool) (w : ℕ) → w * 2 < overflow f → Rounded f (round f s w (2 ^ low f)) (plus s w) (less s w)
round_rounded f s w h = go s
  where
    n : Within (grid f w (2 ^ low f) * 2 ^ prec f) (w * 2 ^ prec f) w
    n = units_near f w

    go : (s : Bool) → Rounded f (round f s w (2 ^ low f)) (plus s w) (less s w)
    go false = record {
      sign = false;
      size = grid f w (2 ^ low f);
      is = round_val f false w (2 ^ low f)
          (lt_of_le_of_lt (units_le f w) h);
      off = λ e z. record { hi = omega (arith, n.hi, z.hi); lo = omega (arith, n.lo, z.hi) };
    }
    go true = record {
      sign = true;
      size = grid f w (2 ^ low f);
      is = round_val f true w (2 ^ low f)
          (lt_of_le_of_lt (units_le f w) h);
      off = λ e z. record { hi = omega (arith, n.lo, z.lo); lo = omega (arith, n.hi, z.lo) };
    }

-- ---- `closest` by the three cases
pub closest_below : (a b : ℕ) → a % b * 2 < b → closest a b ≡ a / b
closest_below a b h = go (compare (a % b * 2) b) (cmp (a % b * 2) b)
  where
    go : (o : Ordering) → Cmp o (a % b * 2) b → nearest (a / b) o ≡ a / b
    go Ordering.lt c = refl
    go Ordering.eq c = omega arith
    go Ordering.gt c = omega arith

pub closest_tie : (a b : ℕ) → a % b * 2 ≡ b → closest a b ≡ a / b + a / b % 2
closest_tie a b h = go (compare (a % b * 2) b) (cmp (a % b * 2) b)
  where
    go : (o : Ordering) → Cmp o (a % b * 2) b → nearest (a / b) o ≡ a / b + a / b % 2
    go Ordering.lt c = omega arith
    go Ordering.eq c = refl
    go Ordering.gt c = omega arith

pub closest_above : (a b : ℕ) → b < a % b * 2 → closest a b ≡ a / b + 1
closest_above a b h = go (compare (a % b * 2) b) (cmp (a % b * 2) b)
  where
    go : (o : Ordering) → Cmp o (a % b * 2) b → nearest (a / b) o ≡ a / b + 1
    go Ordering.lt c = omega arith
    go Ordering.eq c = omega arith
    go Ordering.gt c = omega arith
