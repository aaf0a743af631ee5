-- Laws of a fraction rounded to a whole number, halves up: equal fractions, and M * 2 ^ x / 2 ^ p by its digits behind the point. Assumes nothing.
use Rattle.std.specs.Prelude.{◌≡◌, ℕ, ◌+◌, ◌*◌, ◌^◌, ◌<◌}
use Rattle.std.proofs.Common.{sym, ap, ◌∙◌, le_trans, le_of_eq, lt_of_lt_of_le, mul_comm, mul_assoc, mul-one, mul-lt-mul_of_pos_right, arith, lit<, pow_pos, pow_mono, pow-add, shl_lt}
use Rattle.std.proofs.Math.Nat.{div-eq_of_lt}
use Rattle.std.specs.Float.Ieee.Nearest.{div_same}
use Rattle.float_round.specs.Integral.{half_up}

-- equal fractions round alike
pub same_fraction : (a c b d : ℕ) → 0 < c → 0 < d → a * d ≡ b * c → half_up a c ≡ half_up b d
same_fraction a c b d C D e = div_same (a * 2 + c) (c * 2) (b * 2 + d) (d * 2) (omega arith) (omega arith) (omega (arith, e))

module _ (M x p : ℕ) where
  -- below a half
  pub below_half : (n : ℕ) → M < 2 ^ n → n + x < p → half_up (M * 2 ^ x) (2 ^ p) ≡ 0
  below_half n h l =
      div-eq_of_lt (less (M * 2 ^ x) (2 ^ p) (lt_of_lt_of_le (mul-lt-mul_of_pos_right (shl_lt n x h) (lit< tt))
      (le_trans (le_of_eq (mul_comm (2 ^ (n + x)) 2 ∙ sym (pow-add 2 1 (n + x)))) (pow_mono {i = 1 + (n + x)} {j = p} (omega arith)))))
    where
      less : (a c : ℕ) → a * 2 < c → a * 2 + c < c * 2
      less a c h = omega arith

  -- k digits behind the point
  pub some_digits : (k : ℕ) → x + k ≡ p → half_up (M * 2 ^ x) (2 ^ p) ≡ half_up M (2 ^ k)
  some_digits k e = same_fraction (M * 2 ^ x) (2 ^ p) M (2 ^ k) (pow_pos p) (pow_pos k) (mul_assoc M (2 ^ x) (2 ^ k) ∙ ap (λ (z : ℕ). M * z) (sym (pow-add 2 x k) ∙ ap (λ (z : ℕ). 2 ^ z) e))

  -- none: a whole number stays
  pub no_digits : (k : ℕ) → x ≡ p + k → half_up (M * 2 ^ x) (2 ^ p) ≡ M * 2 ^ k
  no_digits k e =
      same_fraction (M * 2 ^ x) (2 ^ p) (M * 2 ^ k) 1 (pow_pos p) (lit< tt)
      (mul-one (M * 2 ^ x) ∙ ap (λ (z : ℕ). M * z) (ap (λ (z : ℕ). 2 ^ z) e ∙ pow-add 2 p k ∙ mul_comm (2 ^ p) (2 ^ k)) ∙ sym (mul_assoc M (2 ^ k) (2 ^ p))) ∙ stays (M * 2 ^ k)
    where
      stays : (n : ℕ) → half_up n 1 ≡ n
      stays n = omega arith
