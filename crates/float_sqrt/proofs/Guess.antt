-- The laws of the test of a guess at a root: the exact square in parts of 27 binary digits. Assumes nothing.
use mathlib.Core.Path.{◌≡◌, sym, ap, ◌∙◌}
use mathlib.Core.Bool.{true, false, true≢false}
use Prim.Native.Nat.{ℕ, zero, suc, ◌+◌, ◌-◌, ◌*◌, ◌/◌, ◌%◌, ◌^◌, ◌≤◌, ◌<◌}
use native.Mathlib.Nat.{mul-le-mul}
use native.Mathlib.Omega.{arith}
use borrow.Author.Tests.{leb-true}
use lib.Dec.{leb}
use lib.Ieee.{binary64, to_bits}
use Rattle.float_sqrt.specs.Roots.{nearest_root, root_of}
use Rattle.float_sqrt.specs.Root.{Near, near_unique, nearest_near}
use Rattle.float_sqrt.specs.SquareRoot.{root_left}
use Rattle.float_sqrt.proofs.SqrtBits.{root_pattern}

-- a root's high and low part
abbrev pub high : ℕ → ℕ
high q = q / 2 ^ 27

abbrev pub rest : ℕ → ℕ
rest q = q % 2 ^ 27

module _ (q : ℕ) (h : q < 2 ^ 53) where
  high_lt : high q ≤ 2 ^ 26
  high_lt = omega arith

  rest_lt : rest q ≤ 2 ^ 27
  rest_lt = omega arith

  pub square_high : high q * high q ≤ 2 ^ 52
  square_high = mul-le-mul high_lt high_lt

  pub square_mixed : high q * rest q ≤ 2 ^ 53
  square_mixed = mul-le-mul high_lt rest_lt

  pub square_rest : rest q * rest q ≤ 2 ^ 54
  square_rest = mul-le-mul rest_lt rest_lt

-- n + 2 less 4 * h * h is c, and c * 2 ^ 24 less h * l is t: so t * 2 ^ 28 is n * 2 ^ 52 + 2 ^ 53 less all of the square but l * l
parts : (n q H D L c t : ℕ) → q * q ≡ H * 2 ^ 54 + D * 2 ^ 28 + L → c + 4 * H ≡ n + 2 → t + D ≡ c * 2 ^ 24 → L + 2 ^ 53 < t * 2 ^ 28 + q → t * 2 ^ 28 ≤ L + 2 ^ 53 + q → Near (n * 2 ^ 52) q
parts n q H D L c t s e f lo hi = record { lo = omega arith; hi = omega arith }

pub tested : (n q : ℕ) → 4 * (high q * high q) ≤ n + 2 → high q * rest q ≤ (n + 2 - 4 * (high q * high q)) * 2 ^ 24
    → rest q * rest q + 2 ^ 53 < ((n + 2 - 4 * (high q * high q)) * 2 ^ 24 - high q * rest q) * 2 ^ 28 + q
    → leb (((n + 2 - 4 * (high q * high q)) * 2 ^ 24 - high q * rest q) * 2 ^ 28) (rest q * rest q + 2 ^ 53 + q) ≡ true
    → Near (n * 2 ^ 52) q
tested n q a b lo hi =
    parts n q (high q * high q) (high q * rest q) (rest q * rest q) (n + 2 - 4 * (high q * high q)) ((n + 2 - 4 * (high q * high q)) * 2 ^ 24 - high q * rest q)
    (ap (λ (z : ℕ). z * z) whole ∙ square (high q) (rest q)) (omega arith) (omega arith) lo (leb-true _ _ hi)
  where
    whole : q ≡ high q * 2 ^ 27 + rest q
    whole = omega arith

    square : (h l : ℕ) → (h * 2 ^ 27 + l) * (h * 2 ^ 27 + l) ≡ h * h * 2 ^ 54 + h * l * 2 ^ 28 + l * l
    square h l = omega arith

pub refused : {X : Type 0} → false ≡ true → X
refused e = absurd (true≢false (sym e))

pub accepted : (n q : ℕ) → 2 ^ 52 ≤ n → n ≤ 2 ^ 54 - 2 → Near (n * 2 ^ 52) q → q ≡ nearest_root (n * 2 ^ 52)
accepted n q lo hi w = near_unique (n * 2 ^ 52) q (nearest_root (n * 2 ^ 52)) w (nearest_near (n * 2 ^ 52) (omega arith) (omega arith))

-- ---- the digits of the square that are kept, m or twice m
pub record Kept (n : ℕ) : Type 0 where
  pub lo : 2 ^ 52 ≤ n
  pub hi : n ≤ 2 ^ 54 - 2

pub kept : (m p : ℕ) → 2 ^ 52 ≤ m → m < 2 ^ 53 → p < 2 → Kept (m * (1 + p))
kept m zero lo hi h = record { lo = omega arith; hi = omega arith }
kept m (suc zero) lo hi h = record { lo = omega arith; hi = omega arith }
kept m (suc (suc p)) lo hi h = omega arith

-- the pattern of the root of m * 2 ^ e, m having 53 digits
pub pattern : (m e : ℕ) → 2 ^ 52 ≤ m → m < 2 ^ 53 → 52 ≤ e → e < 3120 → to_bits binary64 (root_of (m * 2 ^ e)) ≡ (e - 52) / 2 * 2 ^ 52 + nearest_root (m * (1 + e % 2) * 2 ^ 52)
pattern m e lo hi few most = root_pattern (root_left m e lo hi few most)
