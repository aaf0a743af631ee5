-- The laws of the digit loop: the whole part of a square root, two binary digits of the square at a time. Assumes nothing.
use mathlib.Core.Path.{◌≡◌, sym, ap, ◌∙◌, subst}
use mathlib.Core.Bool.{Bool, cond}
use Prim.Native.Nat.{ℕ, ◌+◌, ◌-◌, ◌*◌, ◌/◌, ◌%◌, ◌^◌, ◌≤◌, ◌<◌}
use native.Mathlib.Nat.{pow-succ', lt_of_lt_of_le}
use native.Mathlib.Numerals.{add-one}
use native.Mathlib.Omega.{arith}
use borrow.Author.Tests.{lt-ltb, le-ltb}
use lib.Dec.{ltb}
use lib.Pow.{pow_mono}
use Rattle.float_sqrt.specs.Roots.{isqrt, nearest_root}
use Rattle.float_sqrt.specs.Root.{isqrt_whole, whole_unique}

-- s is the root, cut, of the 2 * i bits that were taken, and r what is left of them; `left` has the bits that were not, at its top
pub record Taken (n left s r i : ℕ) : Type 0 where
  pub some : i ≤ 53
  pub fits : left < 2 ^ 64
  pub root : s < 2 ^ i
  pub rest : r ≤ 2 * s
  pub taken : n * 1024 * 4 ^ i ≡ (s * s + r) * 2 ^ 64 + left

pub start : (n : ℕ) → n ≤ 2 ^ 54 - 2 → Taken n (n * 1024) 0 0 0
start n h = record { some = omega arith; fits = omega arith; root = omega arith; rest = omega arith; taken = omega arith }

pub root_lt : {n left s r i : ℕ} → Taken n left s r i → s < 2 ^ 53
root_lt v = lt_of_lt_of_le v.root (pow_mono v.some)

-- one digit more
digit_more : (b i : ℕ) → b ^ (i + 1) ≡ b * b ^ i
digit_more b i = ap (λ (x : ℕ). b ^ x) (add-one i) ∙ pow-succ' b i

-- two bits more, b, and the rest of them
module _ {n left s r i : ℕ} (v : Taken n left s r i) (l : i < 53) where
  next : n * 1024 * 4 ^ (i + 1) ≡ (4 * (s * s + r) + left / 2 ^ 62) * 2 ^ 64 + left % 2 ^ 62 * 4
  next = ap (λ (x : ℕ). n * 1024 * x) (digit_more 4 i) ∙ more (n * 1024 * 4 ^ i) (s * s + r) (n * 1024 * (4 * 4 ^ i)) (omega arith) v.taken
    where
      more : (a p z : ℕ) → z ≡ 4 * a → a ≡ p * 2 ^ 64 + left → z ≡ (4 * p + left / 2 ^ 62) * 2 ^ 64 + left % 2 ^ 62 * 4
      more a p z e h = omega arith

  pub step_yes : s * 4 + 1 ≤ r * 4 + left / 2 ^ 62 → Taken n (left % 2 ^ 62 * 4) (s * 2 + 1) (r * 4 + left / 2 ^ 62 - (s * 4 + 1)) (i + 1)
  step_yes h = record {
    some = omega arith;
    fits = omega arith;
    root = omega (arith, v.root, digit_more 2 i);
    rest = omega (arith, v.rest, v.fits);
    taken = next ∙ same (left / 2 ^ 62) h;
  }
    where
      same : (b : ℕ) → s * 4 + 1 ≤ r * 4 + b → (4 * (s * s + r) + b) * 2 ^ 64 + left % 2 ^ 62 * 4 ≡ ((s * 2 + 1) * (s * 2 + 1) + (r * 4 + b - (s * 4 + 1))) * 2 ^ 64 + left % 2 ^ 62 * 4
      same b g = ap (λ (x : ℕ). x * 2 ^ 64 + left % 2 ^ 62 * 4) (sq b (r * 4 + b - (s * 4 + 1)) (omega arith))
        where
          sq : (b x : ℕ) → x + (s * 4 + 1) ≡ r * 4 + b → 4 * (s * s + r) + b ≡ (s * 2 + 1) * (s * 2 + 1) + x
          sq b x e = omega arith

  pub step_no : r * 4 + left / 2 ^ 62 < s * 4 + 1 → Taken n (left % 2 ^ 62 * 4) (s * 2) (r * 4 + left / 2 ^ 62) (i + 1)
  step_no h = record {
    some = omega arith;
    fits = omega arith;
    root = omega (arith, v.root, digit_more 2 i);
    rest = omega (arith, v.rest, v.fits);
    taken = next ∙ ap (λ (x : ℕ). x * 2 ^ 64 + left % 2 ^ 62 * 4) (sq (left / 2 ^ 62));
  }
    where
      sq : (b : ℕ) → 4 * (s * s + r) + b ≡ s * 2 * (s * 2) + (r * 4 + b)
      sq b = omega arith

-- all bits are taken
pub done : {n left s r i : ℕ} → Taken n left s r i → 53 ≤ i → n * 2 ^ 52 ≡ s * s + r
done {n} {left} {s} {r} {i} v h = all (s * s + r) (subst (λ (x : ℕ). n * 1024 * 4 ^ x ≡ (s * s + r) * 2 ^ 64 + left) (last i v.some h) v.taken) v.fits
  where
    last : (i : ℕ) → i ≤ 53 → 53 ≤ i → i ≡ 53
    last i a b = omega arith

    all : (p : ℕ) → n * 1024 * 4 ^ 53 ≡ p * 2 ^ 64 + left → left < 2 ^ 64 → n * 2 ^ 52 ≡ p
    all p e l = omega arith

-- n is s * s + r, and the nearest root is s or the next number
root_is : (n s r : ℕ) → n < 4 ^ 53 → n ≡ s * s + r → r ≤ 2 * s → nearest_root n ≡ cond (ltb s r) (s + 1) s
root_is n s r h e l =
    ap (λ (t : ℕ). cond (ltb t (n - t * t)) (t + 1) t) (whole_unique n (isqrt 53 n) s (isqrt_whole 53 n h) (record { lo = omega arith; hi = omega arith }))
    ∙ ap (λ (t : ℕ). cond (ltb s t) (s + 1) s) (rest n s r e)
  where
    rest : (n s r : ℕ) → n ≡ s * s + r → n - s * s ≡ r
    rest n s r e = omega arith

pub root_up : (n s r : ℕ) → n < 4 ^ 53 → n ≡ s * s + r → r ≤ 2 * s → s < r → s + 1 ≡ nearest_root n
root_up n s r h e l g = sym (root_is n s r h e l ∙ ap (λ (b : Bool). cond b (s + 1) s) (lt-ltb s r g))

pub root_down : (n s r : ℕ) → n < 4 ^ 53 → n ≡ s * s + r → r ≤ 2 * s → r ≤ s → s ≡ nearest_root n
root_down n s r h e l g = sym (root_is n s r h e l ∙ ap (λ (b : Bool). cond b (s + 1) s) (le-ltb s r g))
