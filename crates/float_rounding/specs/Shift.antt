-- Which digits rounding drops from M * 2 ^ x of the smallest values of one format, counted in those of another. Assumes nothing.
use Rattle.std.specs.Prelude.{◌≡◌, ℕ, suc, ◌+◌, ◌-◌, ◌*◌, ◌/◌, ◌^◌, ◌≤◌, ◌<◌}
use Rattle.std.proofs.Common.{sym, ap, ◌∙◌, subst, le_trans, le_of_eq, lt_of_lt_of_le, mul_assoc, mul-le-mul_right, lt_of_mul-lt-mul_right, le-div_iff_mul-le, div-lt_iff_lt-mul, arith, pow-add, pow_pos, pow_mono, shl_lt}
use Rattle.std.specs.Float.Ieee.{size}
use Rattle.std.specs.Float.Ieee.Digits.{size-le}
use Rattle.std.specs.Float.Ieee.Nearest.{closest}
use Rattle.std.specs.Float.Ieee.Order.{drop}
use Rattle.float_rounding.specs.Near.{closest_half}
use Rattle.float_rounding.specs.Pattern.{size_exact}

-- ---- less than a half rounds to 0
pub closest_zero : (a b : ℕ) → a * 2 < b → closest a b ≡ 0
closest_zero a b h = none (closest a b) (lt_of_mul-lt-mul_right b (few (closest a b) (closest_half a b (omega arith)).hi))
  where
    few : (c : ℕ) → c * b * 2 ≤ a * 2 + b → c * b < 1 * b
    few c l = omega arith

    none : (c : ℕ) → c < 1 → c ≡ 0
    none c l = omega arith

-- ---- powers of two
pub product : (i j k : ℕ) → i + j ≡ k → 2 ^ i * 2 ^ j ≡ 2 ^ k
product i j k e = sym (pow-add 2 i j) ∙ ap (λ (z : ℕ). 2 ^ z) e

pub pows : (a b c d : ℕ) → a + b ≡ c + d → 2 ^ a * 2 ^ b ≡ 2 ^ c * 2 ^ d
pows a b c d e = sym (pow-add 2 a b) ∙ ap (λ (x : ℕ). 2 ^ x) e ∙ pow-add 2 c d

-- M * 2 ^ x units of 2 ^ -l, in units of 2 ^ -g
module _ (M x g l : ℕ) where
  abbrev pub n : ℕ
  n = M * 2 ^ x * 2 ^ g

  pub moved : (sh k : ℕ) → x + g + sh ≡ l + k → n * 2 ^ sh ≡ M * (2 ^ l * 2 ^ k)
  moved sh k e =
      ap (λ (z : ℕ). z * 2 ^ sh) (mul_assoc M (2 ^ x) (2 ^ g) ∙ ap (λ (z : ℕ). M * z) (sym (pow-add 2 x g)))
      ∙ mul_assoc M (2 ^ (x + g)) (2 ^ sh)
      ∙ ap (λ (z : ℕ). M * z) (pows (x + g) sh l k e)

  pub n_lt : (p z : ℕ) → M < 2 ^ p → p + (x + g) ≤ z + l → n < 2 ^ z * 2 ^ l
  n_lt p z h e =
      subst (λ (y : ℕ). y < 2 ^ z * 2 ^ l) (sym (mul_assoc M (2 ^ x) (2 ^ g) ∙ ap (λ (y : ℕ). M * y) (sym (pow-add 2 x g))))
      (lt_of_lt_of_le (shl_lt p (x + g) h) (le_trans (pow_mono e) (le_of_eq (pow-add 2 z l))))

  n_ge : (p z : ℕ) → 2 ^ p ≤ M → z + l ≤ p + (x + g) → 2 ^ z * 2 ^ l ≤ n
  n_ge p z h e =
      subst (λ (y : ℕ). 2 ^ z * 2 ^ l ≤ y) (sym (mul_assoc M (2 ^ x) (2 ^ g) ∙ ap (λ (y : ℕ). M * y) (sym (pow-add 2 x g))))
      (le_trans (le_of_eq (sym (pow-add 2 z l))) (le_trans (pow_mono e) (le_trans (le_of_eq (pow-add 2 p (x + g))) (mul-le-mul_right (2 ^ (x + g)) h))))

  pub drop_many : (p q k : ℕ) → 0 < q → 2 ^ p ≤ M → M < 2 ^ suc p → q - 1 + k + l ≡ p + (x + g) → drop q n (2 ^ l) ≡ k
  drop_many p q k Q lo hi e =
      many (size (n / 2 ^ l)) (size_exact (q - 1 + k) (n / 2 ^ l) ((le-div_iff_mul-le (pow_pos l)).1 (n_ge p (q - 1 + k) lo (le_of_eq e)))
      ((div-lt_iff_lt-mul (pow_pos l)).1 (n_lt (suc p) (suc (q - 1 + k)) hi (omega arith))))
    where
      many : (z : ℕ) → z ≡ suc (q - 1 + k) → z - q ≡ k
      many z h = omega arith

  pub drop_none : (p q : ℕ) → M < 2 ^ p → p + (x + g) ≤ q + l → drop q n (2 ^ l) ≡ 0
  drop_none p q h e = none (size (n / 2 ^ l)) (size-le (n / 2 ^ l) q ((div-lt_iff_lt-mul (pow_pos l)).1 (n_lt p q h e)))
    where
      none : (z : ℕ) → z ≤ q → z - q ≡ 0
      none z h = omega arith
