-- Euclid's algorithm gives the greatest common divisor, step by step, and the share is reduced by it. Assumes nothing.
use Rattle.std.specs.Prelude.{◌≡◌, refl, Bool, cond, ℕ, zero, suc, ◌+◌, ◌-◌, ◌*◌, ◌/◌, ◌%◌, ◌≤◌, ◌<◌}
use Rattle.std.proofs.Common.{sym, ap, ◌∙◌, subst, zero-mul, mul-zero, mul-one, mul-add, mul_assoc, mul_comm, mul-le-mul, mod-lt, arith, ne_eqb}
use Rattle.std.proofs.Math.Nat.{mul-sub, div-add-mod, mod-eq-sub-mul-div, div-eq_of_eq-mul_right, eq_of_mul-eq-mul_left}
use Rattle.report_definition.specs.Divisor.{euclid, gcd}
use Rattle.report_definition.specs.Page.{Share, share_of}

-- what is left of a number is below the divisor
left_low : (a b : ℕ) → a % suc b ≤ b
left_low a b = let h : a % suc b < suc b = mod-lt a (omega arith) in omega arith

-- ---- step by step

-- as many steps as the second number are enough, and more change nothing
euclid_enough : (n m a b : ℕ) → b ≤ n → b ≤ m → euclid n a b ≡ euclid m a b
unfolding euclid
euclid_enough zero zero a b h k = refl
euclid_enough zero (suc m) a zero h k = refl
euclid_enough zero (suc m) a (suc b) h k = absurd (omega arith)
euclid_enough (suc n) zero a zero h k = refl
euclid_enough (suc n) zero a (suc b) h k = absurd (omega arith)
euclid_enough (suc n) (suc m) a zero h k = refl
euclid_enough (suc n) (suc m) a (suc b) h k = let l = left_low a b in euclid_enough n m (suc b) (a % suc b) (omega arith) (omega arith)

-- the last step
pub gcd_last : (a : ℕ) → gcd a 0 ≡ a
unfolding gcd euclid
gcd_last a = refl

-- each step before it
pub gcd_step : (a b : ℕ) → 0 < b → gcd a b ≡ gcd b (a % b)
unfolding gcd euclid
gcd_step a zero h = absurd (omega arith)
gcd_step a (suc b) h = euclid_enough b (a % suc b) (suc b) (a % suc b) (left_low a b) (omega arith)

-- ---- the greatest common divisor

-- d divides n
pub record Divides (d n : ℕ) : Type 0 where
  pub times : ℕ
  pub is : d * times ≡ n

-- d divides both numbers
pub record Common (d a b : ℕ) : Type 0 where
  pub first : Divides d a
  pub second : Divides d b

-- what divides b and what is left of a divides a
whole : (d a b : ℕ) → Divides d b → Divides d (a % b) → Divides d a
whole d a b u v =
    let q = a / b in
    record {
      times = u.times * q + v.times;
      is =
          mul-add d (u.times * q) v.times
          ∙ (λ j. sym (mul_assoc d u.times q) j + v.is j)
          ∙ ap (λ (n : ℕ). n * q + a % b) u.is
          ∙ div-add-mod a b;
    }

-- what divides a and b divides what is left of a
left : (d a b : ℕ) → Divides d a → Divides d b → Divides d (a % b)
left d a b u v =
    let q = a / b in
    record {
      times = u.times - v.times * q;
      is =
          mul-sub d u.times (v.times * q)
          ∙ (λ j. u.is j - sym (mul_assoc d v.times q) j)
          ∙ ap (λ (n : ℕ). a - n * q) v.is
          ∙ sym (mod-eq-sub-mul-div a b);
    }

-- a number divides itself and 0
self : (a : ℕ) → Common a a 0
self a = record { first = record { times = 1; is = mul-one a }; second = record { times = 0; is = mul-zero a } }

euclid_divides : (n a b : ℕ) → b ≤ n → Common (euclid n a b) a b
unfolding euclid
euclid_divides zero a zero h = self a
euclid_divides zero a (suc b) h = absurd (omega arith)
euclid_divides (suc n) a zero h = self a
euclid_divides (suc n) a (suc b) h =
    let l = left_low a b in
    let c = euclid_divides n (suc b) (a % suc b) (omega arith) in
    record { first = whole (euclid n (suc b) (a % suc b)) a (suc b) c.first c.second; second = c.first }

euclid_greatest : (d n a b : ℕ) → b ≤ n → Divides d a → Divides d b → Divides d (euclid n a b)
unfolding euclid
euclid_greatest d zero a b h u v = u
euclid_greatest d (suc n) a zero h u v = u
euclid_greatest d (suc n) a (suc b) h u v = let l = left_low a b in euclid_greatest d n (suc b) (a % suc b) (omega arith) v (left d a (suc b) u v)

-- It divides both.
pub gcd_divides : (a b : ℕ) → Common (gcd a b) a b
unfolding gcd
gcd_divides a b = euclid_divides b a b (omega arith)

-- Whatever divides both divides it.
pub gcd_greatest : (d a b : ℕ) → Divides d a → Divides d b → Divides d (gcd a b)
unfolding gcd
gcd_greatest d a b u v = euclid_greatest d b a b (omega arith) u v

-- ---- the share

-- a share is so many of so many faces, and reduced: it is the same fraction, and its numbers have no common divisor but 1
pub record Reduced (accepted faces : ℕ) (s : Share) : Type 0 where
  pub same : s.accepted * faces ≡ accepted * s.faces
  pub least : gcd s.accepted s.faces ≡ 1

-- a factor of 1
factor_one : (e t : ℕ) → e * t ≡ 1 → e ≡ 1
factor_one zero t h = absurd (omega (arith, zero-mul t, h))
factor_one (suc zero) t h = refl
factor_one (suc (suc e)) zero h = absurd (omega (arith, mul-zero (suc (suc e)), h))
factor_one (suc (suc e)) (suc t) h =
    let two : 2 ≤ suc (suc e) = omega arith in
    let one : 1 ≤ suc t = omega arith in
    let m : 2 * 1 ≤ suc (suc e) * suc t = mul-le-mul two one in
    absurd (omega (arith, m, h))

-- a divisor of a number above 0 is above 0
above : (d n : ℕ) → Divides d n → 0 < n → 0 < d
above zero n u h = let z = sym (zero-mul u.times) ∙ u.is in absurd (omega arith)
above (suc d) n u h = omega arith

-- the numbers of two over their greatest common divisor have none but 1
pub coprime : (a b x y : ℕ) → 0 < gcd a b → gcd a b * x ≡ a → gcd a b * y ≡ b → gcd x y ≡ 1
coprime a b x y pos p q =
    let g = gcd a b in
    let e = gcd x y in
    let c = gcd_divides x y in
    let u : Divides (g * e) a = record { times = c.first.times; is = mul_assoc g e c.first.times ∙ ap (λ (n : ℕ). g * n) c.first.is ∙ p } in
    let v : Divides (g * e) b = record { times = c.second.times; is = mul_assoc g e c.second.times ∙ ap (λ (n : ℕ). g * n) c.second.is ∙ q } in
    let w = gcd_greatest (g * e) a b u v in
    factor_one e w.times (eq_of_mul-eq-mul_left g pos (e * w.times) 1 (sym (mul_assoc g e w.times) ∙ w.is ∙ sym (mul-one g)))

-- The share of some faces is reduced.
pub share_reduced : (a n : ℕ) → 0 < n → Reduced a n (share_of a n)
unfolding share_of
share_reduced a n h =
    subst (Reduced a n)
    (sym (ap (λ (b : Bool). cond b (record { accepted = 1; faces = 1 }) (record { accepted = a / gcd a n; faces = n / gcd a n })) (ne_eqb n 0 (λ e. omega arith))))
    (record { same = same; least = least })
  where
    g : ℕ
    g = gcd a n

    c : Common g a n
    c = gcd_divides a n

    pos : 0 < g
    pos = above g n c.second h

    x : a / g ≡ c.first.times
    x = div-eq_of_eq-mul_right pos (sym c.first.is)

    y : n / g ≡ c.second.times
    y = div-eq_of_eq-mul_right pos (sym c.second.is)

    same : a / g * n ≡ a * (n / g)
    same =
        (λ j. x j * sym c.second.is j)
        ∙ sym (mul_assoc c.first.times g c.second.times)
        ∙ ap (λ (m : ℕ). m * c.second.times) (mul_comm c.first.times g ∙ c.first.is)
        ∙ ap (λ (m : ℕ). a * m) (sym y)

    least : gcd (a / g) (n / g) ≡ 1
    least = (λ j. gcd (x j) (y j)) ∙ coprime a n c.first.times c.second.times pos c.first.is c.second.is
