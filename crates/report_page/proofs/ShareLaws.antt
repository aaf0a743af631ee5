-- Laws of the share: the divisor step by step, and the fraction. Assumes nothing.
use mathlib.Core.Path.{◌≡◌, refl, sym, ap, ◌∙◌, subst}
use mathlib.Core.Bool.{Bool, cond}
use Prim.Native.Nat.{ℕ, zero, suc, ◌/◌, ◌%◌, ◌<◌}
use native.Mathlib.Nat.{zero-mul, mod-lt}
use native.Mathlib.Omega.{arith}
use borrow.Author.Tests.{eq-eqb, ne_eqb}
use Rattle.report_definition.specs.Divisor.{gcd}
use Rattle.report_definition.specs.DivisorLaws.{Divides, gcd_last, gcd_step, gcd_divides}
use Rattle.report_definition.specs.Page.{share_of}

-- ---- the divisor

-- the two numbers so far have the divisor of the first two
pub record Dividing (a b x y : ℕ) : Type 0 where
  pub same : gcd x y ≡ gcd a b

-- the first two have it
pub dividing_none : (a b : ℕ) → Dividing a b a b
dividing_none a b = record { same = refl }

-- a step keeps it
pub dividing_more : {a b x y : ℕ} → Dividing a b x y → (y ≡ 0 → ⊥) → Dividing a b y (x % y)
dividing_more {a} {b} {x} {y} c n = record { same = sym (gcd_step x y (omega arith)) ∙ c.same }

-- and lowers the second number
pub dividing_less : (x y : ℕ) → (y ≡ 0 → ⊥) → x % y < y
dividing_less x y n = mod-lt x (omega arith)

-- with nothing left it is the first number
pub dividing_all : {a b x y : ℕ} → Dividing a b x y → y ≡ 0 → x ≡ gcd a b
dividing_all {a} {b} {x} {y} c z = sym (gcd_last x) ∙ ap (gcd x) (sym z) ∙ c.same

-- a divisor of a number above 0 is above 0
above : (d n : ℕ) → Divides d n → (n ≡ 0 → ⊥) → 0 < d
above zero n u h = absurd (h (sym u.is ∙ zero-mul u.times))
above (suc d) n u h = omega arith

-- that of some faces is above 0
pub gcd_above : (a b : ℕ) {d : ℕ} → d ≡ gcd a b → (b ≡ 0 → ⊥) → 0 < d
gcd_above a b {d} e h = subst (λ (n : ℕ). 0 < n) (sym e) (above (gcd a b) b (gcd_divides a b).second h)

-- ---- the share

-- no faces
pub share_none : (a n : ℕ) → n ≡ 0 → record { accepted = 1; faces = 1 } ≡ share_of a n
unfolding share_of
share_none a n h = sym (ap (λ (b : Bool). cond b (record { accepted = 1; faces = 1 }) (record { accepted = a / gcd a n; faces = n / gcd a n })) (eq-eqb n 0 h))

-- some faces
pub share_some : (a n : ℕ) {d : ℕ} → (n ≡ 0 → ⊥) → d ≡ gcd a n → record { accepted = a / d; faces = n / d } ≡ share_of a n
unfolding share_of
share_some a n {d} h e =
    (λ j. record { accepted = a / e j; faces = n / e j })
    ∙ sym (ap (λ (b : Bool). cond b (record { accepted = 1; faces = 1 }) (record { accepted = a / gcd a n; faces = n / gcd a n })) (ne_eqb n 0 h))
