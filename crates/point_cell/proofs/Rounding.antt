-- A fraction of powers of two rounded by a shift to the right. Assumes nothing.
use mathlib.Core.Path.{◌≡◌, refl, sym, ap, ◌∙◌}
use Prim.Native.Nat.{ℕ, suc, ◌+◌, ◌*◌, ◌/◌, ◌^◌}
use native.Mathlib.Nat.{add_assoc, add_comm, add_left_comm, mul-add, add-mul, mul_left_comm, mul_comm, mul_assoc, add-div_right, div-div-eq-div-mul}
use native.Mathlib.Numerals.{add-one}
use native.Mathlib.Omega.{arith}
use lib.Pow.{pow-add, pow_pos}
use lib.Ieee.Nearest.{div_same}
use Rattle.float_round.specs.Integral.{half_up}
use Rattle.float_round.specs.Fractions.{same_fraction, some_digits}

-- A * 2 ^ x / 2 ^ 149 with k digits behind the point and one more
pub mid_case : (A x k : ℕ) → x + suc k ≡ 149 → half_up (A * 2 ^ x) (2 ^ 149) ≡ (A / 2 ^ k + 1) / 2
mid_case A x k e =
    some_digits A x 149 (suc k) e
    ∙ same_fraction A (2 ^ suc k) A (2 * 2 ^ k) (pow_pos (suc k)) (omega (arith, pow_pos k)) (ap (λ (z : ℕ). A * z) (sym (pow-add 2 1 k) ∙ ap (λ (z : ℕ). 2 ^ z) (add_comm 1 k ∙ add-one k)))
    ∙ div_same (A * 2 + 2 * 2 ^ k) (2 * 2 ^ k * 2) (A + 2 ^ k) (2 ^ k * 2) (omega (arith, pow_pos k)) (omega (arith, pow_pos k)) (cross A (2 ^ k))
    ∙ sym (div-div-eq-div-mul (A + 2 ^ k) (2 ^ k) 2)
    ∙ ap (λ (z : ℕ). z / 2) (add-div_right A (pow_pos k))
  where
    cross : (a u : ℕ) → (a * 2 + 2 * u) * (u * 2) ≡ (a + u) * (2 * u * 2)
    cross a u = simp (mul-add, add-mul, mul_assoc, mul_comm, mul_left_comm, add_assoc, add_comm, add_left_comm) refl
