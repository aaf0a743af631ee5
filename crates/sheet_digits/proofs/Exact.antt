-- What is read is exactly what is printed: digits, hex, decimal. Assumes nothing.
use Rattle.sheet_digits.specs.Exact.{HexOf, DecimalOf}
use Rattle.std.specs.Prelude.{Bool, true, false, List, [], ◌∷◌, ◌++◌, ◌≡◌, refl, ℕ, zero, suc, ◌+◌, ◌-◌, ◌*◌, ◌/◌, ◌%◌, ◌^◌, ◌≤◌, ◌<◌, leb, ltb, eqb}
use Rattle.std.proofs.Math.Option.{none, some}
use Rattle.std.proofs.Common.{sym, ◌∙◌, ap, div-one, le-div_iff_mul-le, div-lt_iff_lt-mul, mul_comm, arith, lit<, lt-ltb, le-ltb, leb-true, leb-false, ltb-true, ltb-false, eqb-true}
use Rattle.std.proofs.Math.Nat.{pow-zero, pow-le-pow_right, one-le-pow, div-div-eq-div-mul, pow-succ'}
use Rattle.std.proofs.lemmas.Bool.{eqb-false}
use Rattle.sheet_digits.specs.Digits.{read_hex, digit_byte, digit_of, digits, decimal_to, decimal, Found, found, hex_from, decimal_from, below, decimal_below, read_decimal}
use Rattle.sheet_digits.specs.Lengths.{below_value}

-- a byte that stands for a digit is the digit's byte
pub byte_back : (c : ℕ) → digit_of c < 16 → digit_byte (digit_of c) ≡ c
unfolding digit_of digit_byte
byte_back c h = go (leb 48 c) refl (leb c 57) refl (leb 65 c) refl (leb c 70) refl
  where
    go : (a : Bool) → leb 48 c ≡ a → (b : Bool) → leb c 57 ≡ b → (d : Bool) → leb 65 c ≡ d → (e : Bool) → leb c 70 ≡ e → digit_byte (digit_of c) ≡ c
    go true p true q d r e s = rw (p, q, lt-ltb (c - 48) 10 (omega (arith, leb-true 48 c p, leb-true c 57 q))) (omega (arith, leb-true 48 c p))
    go true p false q true r true s = rw (p, q, r, s, le-ltb (c - 55) 10 (omega (arith, leb-true 65 c r))) (omega (arith, leb-true 65 c r))
    go true p false q true r false s = absurd (omega (arith, (rw (p, q, r, s) at h)))
    go true p false q false r e s = absurd (omega (arith, (rw (p, q, r) at h)))
    go false p b q true r e s = absurd (omega (arith, leb-false 48 c p, leb-true 65 c r))
    go false p b q false r e s = absurd (omega (arith, (rw (p, r) at h)))

-- the last digit by itself
pub digits_last : (b k n : ℕ) → digits b (suc k) n ≡ digits b k (n / b) ++ digit_byte (n % b) ∷ []
unfolding digits
digits_last b zero n = ap (λ p. digit_byte (n / p % b) ∷ []) (pow-zero b) ∙ ap (λ x. digit_byte (x % b) ∷ []) (div-one n)
digits_last b (suc k) n =
    let top : n / b ^ suc k ≡ n / b / b ^ k = ap (λ p. n / p) (pow-succ' b k) ∙ sym (div-div-eq-div-mul n b (b ^ k)) in
    ap (λ x. digit_byte (x % b) ∷ digits b (suc k) n) top ∙ ap (λ ds. digit_byte (n / b / b ^ k % b) ∷ ds) (digits_last b k n)

-- ---- hex

pub hex_exact : (before k : ℕ) (xs : List ℕ) (f : Found) → hex_from before k xs ≡ some f → HexOf before k xs f
unfolding hex_from digits
hex_exact before zero xs f e =
    let q : found before xs ≡ f = cc in
    record { text = ap (λ g. g.rest) (sym q); start = div-one f.value ∙ ap (λ g. g.value) (sym q) }
hex_exact before (suc k) [] f e = let z : ◌≡◌ {A = ℕ} 0 1 = cc in absurd (omega arith)
hex_exact before (suc k) (x ∷ xs) f e = go (ltb (digit_of x) 16) refl (hex_exact (before * 16 + digit_of x) k xs f)
  where
    go : (b : Bool) → ltb (digit_of x) 16 ≡ b → (hex_from (before * 16 + digit_of x) k xs ≡ some f → HexOf (before * 16 + digit_of x) k xs f) → HexOf before (suc k) (x ∷ xs) f
    go true q back =
        let r = back (rw (q, hex_from) at e) in
        let d : digit_of x < 16 = ltb-true (digit_of x) 16 q in
        let low : f.value / 16 ^ k % 16 ≡ digit_of x = ap (λ y. y % 16) r.start ∙ omega arith in
        let high : f.value / 16 ^ suc k ≡ f.value / 16 ^ k / 16 = ap (λ p. f.value / p) (pow-succ' 16 k ∙ mul_comm 16 (16 ^ k)) ∙ sym (div-div-eq-div-mul f.value (16 ^ k) 16) in
        record {
          text = ap (λ y. digit_byte y ∷ (digits 16 k f.value ++ f.rest)) low ∙ ap (λ y. y ∷ (digits 16 k f.value ++ f.rest)) (byte_back x d) ∙ ap (λ ys. x ∷ ys) r.text;
          start = high ∙ ap (λ y. y / 16) r.start ∙ omega arith;
        }
    go false q back = let n : none ≡ some f = rw (q, hex_from) at e in let z : ◌≡◌ {A = ℕ} 0 1 = cc in absurd (omega arith)

-- ---- decimal

pub decimal_exact : (before : ℕ) (xs : List ℕ) → DecimalOf before xs (decimal_from before xs)
unfolding decimal_from digits
decimal_exact before [] = record { count = 0; text = refl; start = div-one before }
decimal_exact before (x ∷ xs) = go (ltb (digit_of x) 10) refl (decimal_exact (before * 10 + digit_of x) xs)
  where
    go : (b : Bool) → ltb (digit_of x) 10 ≡ b → DecimalOf (before * 10 + digit_of x) xs (decimal_from (before * 10 + digit_of x) xs) → DecimalOf before (x ∷ xs) (decimal_from before (x ∷ xs))
    go true q r =
        let f : Found = decimal_from (before * 10 + digit_of x) xs in
        let k : ℕ = r.count in
        let d : digit_of x < 10 = ltb-true (digit_of x) 10 q in
        let low : f.value / 10 ^ k % 10 ≡ digit_of x = ap (λ y. y % 10) r.start ∙ omega arith in
        let high : f.value / 10 ^ suc k ≡ f.value / 10 ^ k / 10 = ap (λ p. f.value / p) (pow-succ' 10 k ∙ mul_comm 10 (10 ^ k)) ∙ sym (div-div-eq-div-mul f.value (10 ^ k) 10) in
        rw (q, decimal_from)
        (record {
          count = suc k;
          text = ap (λ y. digit_byte y ∷ (digits 10 k f.value ++ f.rest)) low ∙ ap (λ y. y ∷ (digits 10 k f.value ++ f.rest)) (byte_back x (omega arith)) ∙ ap (λ ys. x ∷ ys) r.text;
          start = high ∙ ap (λ y. y / 10) r.start ∙ omega arith;
        })
    go false q r = rw (q, decimal_from) (record { count = 0; text = refl; start = div-one before })

-- the fewest digits: a number from 10 ^ m to below 10 ^ suc m has suc m
pub decimal_to_at : (j m v : ℕ) → m ≤ j → 10 ^ m ≤ v → v < 10 ^ suc m → decimal_to j v ≡ digits 10 (suc m) v
unfolding decimal_to
decimal_to_at zero zero v h low high = refl
decimal_to_at zero (suc m) v h low high = absurd (omega arith)
decimal_to_at (suc j) m v h low high = go (ltb v (10 ^ suc j)) refl (λ l. decimal_to_at j m v l low high)
  where
    go : (b : Bool) → ltb v (10 ^ suc j) ≡ b → (m ≤ j → decimal_to j v ≡ digits 10 (suc m) v) → decimal_to (suc j) v ≡ digits 10 (suc m) v
    go true q back = rw (q, decimal_to) (back (case (leb m j) refl))
      where
        case : (b : Bool) → leb m j ≡ b → m ≤ j
        case true p = leb-true m j p
        case false p =
            let e : m ≡ suc j = omega (arith, leb-false m j p) in
            absurd (omega (arith, ltb-true v (10 ^ suc j) q, low, ap (λ n. 10 ^ n) e))
    go false q back = rw (q, decimal_to) (same (leb m j) refl)
      where
        same : (b : Bool) → leb m j ≡ b → digits 10 (suc (suc j)) v ≡ digits 10 (suc m) v
        same true p =
            let l : suc m ≤ suc j = omega (arith, leb-true m j p) in
            let big : 10 ^ suc m ≤ 10 ^ suc j = pow-le-pow_right (lit< tt) l in
            absurd (omega (arith, ltb-false v (10 ^ suc j) q))
        same false p = ap (λ n. digits 10 (suc n) v) (let e : suc j ≡ m = omega (arith, leb-false m j p) in e)

-- nineteen more digits at the most
few_digits : (m v : ℕ) → 10 ^ m ≤ v → v < 10 ^ 20 → m ≤ 19
few_digits m v low h = go (leb 20 m) refl
  where
    go : (b : Bool) → leb 20 m ≡ b → m ≤ 19
    go true q = let big : 10 ^ 20 ≤ 10 ^ m = pow-le-pow_right (lit< tt) (leb-true 20 m q) in absurd (omega arith)
    go false q = omega (arith, leb-false 20 m q)

nonzero_exact : (bound : ℕ) → bound ≤ 10 ^ 20 → (x : ℕ) (xs : List ℕ) (f : Found) → digit_of x < 10 → ¬ (digit_of x ≡ 0) → below bound (decimal_from (digit_of x) xs) ≡ some f
    → decimal f.value ++ f.rest ≡ x ∷ xs
unfolding digits
nonzero_exact bound few x xs f d nz e =
    let g : Found = decimal_from (digit_of x) xs in
    let r : DecimalOf (digit_of x) xs g = decimal_exact (digit_of x) xs in
    let b = below_value bound g f e in
    let m : ℕ = r.count in
    let v : ℕ = g.value in
    let p : 0 < 10 ^ m = one-le-pow m 10 (lit< tt) in
    let top : v / 10 ^ m ≡ digit_of x = r.start in
    let some_left : 1 ≤ v / 10 ^ m = omega arith in
    let under : v / 10 ^ m < 10 = omega arith in
    let one_times : 1 * 10 ^ m ≤ v = (le-div_iff_mul-le p).0 some_left in
    let low : 10 ^ m ≤ v = omega arith in
    let ten_times : v < 10 * 10 ^ m = (div-lt_iff_lt-mul p).0 under in
    let high : v < 10 ^ suc m = rw pow-succ' ten_times in
    let digit : v / 10 ^ m % 10 ≡ digit_of x = ap (λ y. y % 10) top ∙ omega arith in
    ap (λ h. decimal h.value ++ h.rest) (sym b.1)
    ∙ ap (λ ds. ds ++ g.rest) (decimal_to_at 19 m v (few_digits m v low (omega (arith, b.0))) low high)
    ∙ ap (λ y. digit_byte y ∷ (digits 10 m v ++ g.rest)) digit
    ∙ ap (λ y. y ∷ (digits 10 m v ++ g.rest)) (byte_back x (omega arith))
    ∙ ap (λ ys. x ∷ ys) r.text

-- A number that is read is the decimal text of its value.
pub below_exact : (bound : ℕ) → bound ≤ 10 ^ 20 → (xs : List ℕ) (f : Found) → decimal_below bound xs ≡ some f → decimal f.value ++ f.rest ≡ xs
unfolding decimal_below decimal_to digits digit_byte
below_exact bound few [] f e = let z : ◌≡◌ {A = ℕ} 0 1 = cc in absurd (omega arith)
below_exact bound few (x ∷ xs) f e = go (ltb (digit_of x) 10) refl (eqb (digit_of x) 0) refl
  where
    go : (b : Bool) → ltb (digit_of x) 10 ≡ b → (c : Bool) → eqb (digit_of x) 0 ≡ c → decimal f.value ++ f.rest ≡ x ∷ xs
    go false q c r = let n : none ≡ some f = rw (q, decimal_below) at e in let z : ◌≡◌ {A = ℕ} 0 1 = cc in absurd (omega arith)
    go true q true r =
        let n : some (found 0 xs) ≡ some f = rw (q, r, decimal_below) at e in
        let s : found 0 xs ≡ f = cc in
        let zero_byte : 48 ≡ x = ap digit_byte (sym (eqb-true (digit_of x) 0 r)) ∙ byte_back x (omega (arith, ltb-true (digit_of x) 10 q)) in
        ap (λ g. decimal g.value ++ g.rest) (sym s) ∙ ap (λ y. y ∷ xs) zero_byte
    go true q false r =
        let n : below bound (decimal_from (digit_of x) xs) ≡ some f = rw (q, r, decimal_below) at e in
        nonzero_exact bound few x xs f (ltb-true (digit_of x) 10 q) (eqb-false (digit_of x) 0 r) n

pub number_exact : (xs : List ℕ) (f : Found) → read_decimal xs ≡ some f → decimal f.value ++ f.rest ≡ xs
number_exact = below_exact (2 ^ 32) (omega arith)

-- ---- the bounds of what is read

pub hex_small : (k : ℕ) (xs : List ℕ) (f : Found) → read_hex k xs ≡ some f → f.value < 16 ^ k
hex_small k xs f e =
    let p : 0 < 16 ^ k = one-le-pow k 16 (lit< tt) in
    let q : f.value / 16 ^ k < 1 = omega (arith, (hex_exact 0 k xs f e).start) in
    let one : f.value < 1 * 16 ^ k = (div-lt_iff_lt-mul p).0 q in
    omega arith

pub below_small : (bound : ℕ) → 0 < bound → (xs : List ℕ) (f : Found) → decimal_below bound xs ≡ some f → f.value < bound
unfolding decimal_below
below_small bound p [] f e = let z : ◌≡◌ {A = ℕ} 0 1 = cc in absurd (omega arith)
below_small bound p (x ∷ xs) f e = go (ltb (digit_of x) 10) refl (eqb (digit_of x) 0) refl
  where
    go : (b : Bool) → ltb (digit_of x) 10 ≡ b → (c : Bool) → eqb (digit_of x) 0 ≡ c → f.value < bound
    go false q c r = let n : none ≡ some f = rw (q, decimal_below) at e in let z : ◌≡◌ {A = ℕ} 0 1 = cc in absurd (omega arith)
    go true q true r =
        let n : some (found 0 xs) ≡ some f = rw (q, r, decimal_below) at e in
        let s : found 0 xs ≡ f = cc in
        omega (arith, ap (λ g. g.value) s)
    go true q false r =
        let n : below bound (decimal_from (digit_of x) xs) ≡ some f = rw (q, r, decimal_below) at e in
        let v = below_value bound (decimal_from (digit_of x) xs) f n in
        omega (arith, v.0, ap (λ g. g.value) v.1)

pub read_decimal_small : (xs : List ℕ) (f : Found) → read_decimal xs ≡ some f → f.value < 2 ^ 32
read_decimal_small = below_small (2 ^ 32) (omega arith)
