-- How many bytes a number takes. Assumes nothing.
use Rattle.std.specs.Prelude.{Bool, true, false, List, [], ◌∷◌, ◌≡◌, refl, ℕ, zero, suc, ◌+◌, ◌*◌, ◌^◌, ◌≤◌, ◌<◌, length, leb, ltb, eqb}
use Rattle.std.proofs.Math.Option.{none, some}
use Rattle.std.proofs.Common.{ap, mul_assoc, mul-le-mul_right, le_trans, arith, ltb-true, leb-true, leb-false}
use Rattle.std.proofs.Math.Nat.{pow-succ', pow-le-pow_right}
use Rattle.std.proofs.lemmas.Bool.{eqb-false}
use Rattle.sheet_digits.specs.Digits.{digit_of, Found, found, hex_from, decimal_from, below, decimal_below, read_decimal}

pub hex_length : (before k : ℕ) (xs : List ℕ) (f : Found) → hex_from before k xs ≡ some f → length xs ≡ k + length f.rest
unfolding hex_from
hex_length before zero xs f e = let q : found before xs ≡ f = cc in omega (arith, ap (λ g. length g.rest) q)
hex_length before (suc k) [] f e = let z : ◌≡◌ {A = ℕ} 0 1 = cc in omega arith
hex_length before (suc k) (x ∷ xs) f e = go (ltb (digit_of x) 16) refl (hex_length (before * 16 + digit_of x) k xs f)
  where
    go : (b : Bool) → ltb (digit_of x) 16 ≡ b → (hex_from (before * 16 + digit_of x) k xs ≡ some f → length xs ≡ k + length f.rest) → suc (length xs) ≡ suc k + length f.rest
    go true q back = omega (arith, back (rw (q, hex_from) at e))
    go false q back = let n : none ≡ some f = rw (q, hex_from) at e in let z : ◌≡◌ {A = ℕ} 0 1 = cc in omega arith

-- so many decimal digits were read, and the value has grown by them
pub record Grown (before : ℕ) (xs : List ℕ) (f : Found) : Type 0 where
  pub count : ℕ
  pub taken : length xs ≡ count + length f.rest
  pub large : before * 10 ^ count ≤ f.value

pub decimal_length : (before : ℕ) (xs : List ℕ) → Grown before xs (decimal_from before xs)
unfolding decimal_from
decimal_length before [] = record { count = 0; taken = refl; large = omega arith }
decimal_length before (x ∷ xs) = go (ltb (digit_of x) 10) refl (decimal_length (before * 10 + digit_of x) xs)
  where
    go : (b : Bool) → ltb (digit_of x) 10 ≡ b → Grown (before * 10 + digit_of x) xs (decimal_from (before * 10 + digit_of x) xs) → Grown before (x ∷ xs) (decimal_from before (x ∷ xs))
    go true q g =
        rw (q, decimal_from)
        (record {
          count = suc g.count;
          taken = omega (arith, g.taken);
          large = rw (pow-succ', ← mul_assoc) (le_trans (mul-le-mul_right (10 ^ g.count) (omega arith)) g.large);
        })
    go false q g = rw (q, decimal_from) (record { count = 0; taken = omega arith; large = omega arith })

pub below_value : (bound : ℕ) (f g : Found) → below bound f ≡ some g → (f.value < bound) × (f ≡ g)
unfolding below
below_value bound f g e = go (ltb f.value bound) refl
  where
    go : (b : Bool) → ltb f.value bound ≡ b → (f.value < bound) × (f ≡ g)
    go true q = let n : some f ≡ some g = rw q at e in (ltb-true f.value bound q, cc)
    go false q = let n : none ≡ some g = rw q at e in let z : ◌≡◌ {A = ℕ} 0 1 = cc in absurd (omega arith)

-- a value below 10 ^ suc k that has grown from 1 or more has taken k digits at the most
grown_few : (k before : ℕ) (xs : List ℕ) (f : Found) → Grown before xs f → 0 < before → f.value < 10 ^ suc k → length xs ≤ k + length f.rest
grown_few k before xs f g p h = go (leb (suc k) g.count) refl
  where
    go : (b : Bool) → leb (suc k) g.count ≡ b → length xs ≤ k + length f.rest
    go true q =
        let big : 10 ^ suc k ≤ 10 ^ g.count = pow-le-pow_right (omega arith) (leb-true (suc k) g.count q) in
        let more : 1 * 10 ^ g.count ≤ before * 10 ^ g.count = mul-le-mul_right (10 ^ g.count) p in
        omega (arith, g.large)
    go false q = omega (arith, g.taken, leb-false (suc k) g.count q)

-- A number below 10 ^ suc k has suc k digits at the most.
pub below_length : (bound k : ℕ) → bound ≤ 10 ^ suc k → (xs : List ℕ) (f : Found) → decimal_below bound xs ≡ some f → length xs ≤ suc k + length f.rest
unfolding decimal_below
below_length bound k small [] f e = let z : ◌≡◌ {A = ℕ} 0 1 = cc in omega arith
below_length bound k small (x ∷ xs) f e = go (ltb (digit_of x) 10) refl (eqb (digit_of x) 0) refl
  where
    go : (b : Bool) → ltb (digit_of x) 10 ≡ b → (c : Bool) → eqb (digit_of x) 0 ≡ c → suc (length xs) ≤ suc k + length f.rest
    go false q c r = let n : none ≡ some f = rw (q, decimal_below) at e in let z : ◌≡◌ {A = ℕ} 0 1 = cc in omega arith
    go true q true r = let n : some (found 0 xs) ≡ some f = rw (q, r, decimal_below) at e in let s : found 0 xs ≡ f = cc in omega (arith, ap (λ g. length g.rest) s)
    go true q false r =
        let n : below bound (decimal_from (digit_of x) xs) ≡ some f = rw (q, r, decimal_below) at e in
        let v = below_value bound (decimal_from (digit_of x) xs) f n in
        let d : ¬ (digit_of x ≡ 0) = eqb-false (digit_of x) 0 r in
        let few : length xs ≤ k + length (decimal_from (digit_of x) xs).rest =
        grown_few k (digit_of x) xs (decimal_from (digit_of x) xs) (decimal_length (digit_of x) xs) (omega arith) (omega (arith, v.0)) in
        omega (arith, ap (λ g. length g.rest) v.1)

pub number_length : (xs : List ℕ) (f : Found) → read_decimal xs ≡ some f → length xs ≤ 10 + length f.rest
number_length = below_length (2 ^ 32) 9 (omega arith)
