-- What was printed reads back: digits, hex, decimal. Assumes nothing.
use Rattle.std.specs.Prelude.{Bool, true, false, ◌&&◌, List, [], ◌∷◌, ◌++◌, ◌≡◌, refl, ℕ, zero, suc, ◌+◌, ◌*◌, ◌/◌, ◌%◌, ◌^◌, ◌≤◌, ◌<◌, T, leb, ltb, eqb}
use Rattle.std.proofs.Math.Option.{some}
use Rattle.std.proofs.Common.{sym, ◌∙◌, ap, add-zero, mul-one, add-mul, mul_assoc, add_assoc, mod-lt, mod-eq_of_lt, div-add-mod', mul-le-mul_right, suc-mul, zero-mul, zero-add, div-lt_iff_lt-mul, le-div_iff_mul-le, arith, eqb→eq, leb→le, lt-ltb, le-ltb, ne_eqb, ltb-true, ltb-false}
use Rattle.std.proofs.Math.Nat.{mod-one, add-mul-mod_self_right, one-le-pow, pow-succ'}
use Rattle.std.specs.Float.Ieee.Fits.{and_l, and_r}
use Rattle.sheet_digits.specs.Digits.{digit_byte, digit_of, digits, hex, decimal_to, decimal, found, hex_from, read_hex, decimal_from, below, decimal_below, read_decimal}

-- ---- digits

-- a test that every number below n passes
abbrev every_below : (ℕ → Bool) → ℕ → Bool
every_below f zero = true
every_below f (suc n) = f 0 && every_below (λ d. f (suc d)) n

below_passes : (f : ℕ → Bool) (n : ℕ) → T (every_below f n) → (d : ℕ) → d < n → T (f d)
below_passes f zero t d h = absurd (omega arith)
below_passes f (suc n) t zero h = and_l (f 0) (every_below (λ d. f (suc d)) n) t
below_passes f (suc n) t (suc d) h = below_passes (λ d. f (suc d)) n (and_r (f 0) (every_below (λ d. f (suc d)) n) t) d (omega arith)

pub digit_back : (d : ℕ) → d < 16 → digit_of (digit_byte d) ≡ d
unfolding digit_of digit_byte
digit_back d h = eqb→eq _ _ (below_passes (λ d. eqb (digit_of (digit_byte d)) d) 16 tt d h)

-- ---- the value of digits

-- one digit more: n below b × p is its highest digit and the rest
pub mod_step : (b p n : ℕ) → 0 < b → 0 < p → n % (b * p) ≡ n / p % b * p + n % p
mod_step b p n hb hp =
    let q : ℕ = n / p in
    let r : ℕ = q % b * p + n % p in
    let high : q * p ≡ q / b * (b * p) + q % b * p = ap (λ x. x * p) (sym (div-add-mod' q b)) ∙ simp (add-mul, mul_assoc) in
    let whole : n ≡ r + q / b * (b * p) = omega (arith, div-add-mod' n p) in
    let small : r < b * p = omega (arith, mod-lt n hp, suc-mul (q % b) p, mul-le-mul_right p (mod-lt q hb)) in
    ap (λ x. x % (b * p)) whole ∙ add-mul-mod_self_right r (q / b) (b * p) ∙ mod-eq_of_lt small

pub join_digit : (b before k n : ℕ) → 0 < b → (before * b + n / b ^ k % b) * b ^ k + n % b ^ k ≡ before * b ^ suc k + n % b ^ suc k
join_digit b before k n hb = simp (pow-succ', mod_step b (b ^ k) n hb (one-le-pow k b hb), add-mul, mul_assoc, add_assoc)

-- a byte that was printed for a digit reads as the digit
pub top_digit : (b k n : ℕ) → 0 < b → b ≤ 16 → digit_of (digit_byte (n / b ^ k % b)) ≡ n / b ^ k % b
top_digit b k n hb h = digit_back (n / b ^ k % b) (omega (arith, mod-lt (n / b ^ k) hb))

-- reading one digit more
pub hex_more : (before k d x : ℕ) (xs : List ℕ) → digit_of x ≡ d → d < 16 → hex_from before (suc k) (x ∷ xs) ≡ hex_from (before * 16 + d) k xs
unfolding hex_from
hex_more before k d x xs e h =
    let t : ltb (digit_of x) 16 ≡ true = ap (λ y. ltb y 16) e ∙ lt-ltb d 16 h in
    rw (t, hex_from) (ap (λ y. hex_from (before * 16 + y) k xs) e)

pub decimal_more : (before d x : ℕ) (xs : List ℕ) → digit_of x ≡ d → d < 10 → decimal_from before (x ∷ xs) ≡ decimal_from (before * 10 + d) xs
unfolding decimal_from
decimal_more before d x xs e h =
    let t : ltb (digit_of x) 10 ≡ true = ap (λ y. ltb y 10) e ∙ lt-ltb d 10 h in
    rw (t, decimal_from) (ap (λ y. decimal_from (before * 10 + y) xs) e)

-- hex digits read back, whatever follows
pub hex_back : (before k n : ℕ) (rest : List ℕ) → hex_from before k (digits 16 k n ++ rest) ≡ some (found (before * 16 ^ k + n % 16 ^ k) rest)
unfolding hex_from digits
hex_back before zero n rest = simp (mul-one, mod-one, add-zero)
hex_back before (suc k) n rest =
    hex_more before k (n / 16 ^ k % 16) _ (digits 16 k n ++ rest) (top_digit 16 k n (omega arith) (omega arith)) (mod-lt (n / 16 ^ k) (omega arith))
    ∙ hex_back (before * 16 + n / 16 ^ k % 16) k n rest
    ∙ ap (λ v. some (found v rest)) (join_digit 16 before k n (omega arith))

-- Bits that were printed read back.
pub read_hex_hex : (k n : ℕ) (rest : List ℕ) → n < 16 ^ k → read_hex k (hex k n ++ rest) ≡ some (found n rest)
read_hex_hex k n rest h = hex_back 0 k n rest ∙ ap (λ v. some (found v rest)) (simp (zero-mul, zero-add) (mod-eq_of_lt h))

-- ---- decimal

-- a text that does not begin with a decimal digit
abbrev pub no_digit : List ℕ → Bool
no_digit [] = true
no_digit (x ∷ xs) = leb 10 (digit_of x)

pub decimal_end : (before : ℕ) (rest : List ℕ) → T (no_digit rest) → decimal_from before rest ≡ found before rest
unfolding decimal_from
decimal_end before [] t = refl
decimal_end before (x ∷ xs) t = let e : ltb (digit_of x) 10 ≡ false = le-ltb (digit_of x) 10 (leb→le 10 (digit_of x) t) in rw (e, decimal_from)

-- decimal digits read back, if no digit follows
pub decimal_back : (before k n : ℕ) (rest : List ℕ) → T (no_digit rest) → decimal_from before (digits 10 k n ++ rest) ≡ found (before * 10 ^ k + n % 10 ^ k) rest
unfolding digits
decimal_back before zero n rest t = decimal_end before rest t ∙ simp (mul-one, mod-one, add-zero)
decimal_back before (suc k) n rest t =
    decimal_more before (n / 10 ^ k % 10) _ (digits 10 k n ++ rest) (top_digit 10 k n (omega arith) (omega arith)) (mod-lt (n / 10 ^ k) (omega arith))
    ∙ decimal_back (before * 10 + n / 10 ^ k % 10) k n rest t
    ∙ ap (λ v. found v rest) (join_digit 10 before k n (omega arith))

pub below_back : (bound n : ℕ) (rest : List ℕ) → n < bound → below bound (found n rest) ≡ some (found n rest)
unfolding below
below_back bound n rest h = rw (lt-ltb n bound h)

-- a number from a digit that isn't 0
pub decimal_below_more : (bound d x : ℕ) (xs : List ℕ) → digit_of x ≡ d → d < 10 → 0 < d → decimal_below bound (x ∷ xs) ≡ below bound (decimal_from d xs)
unfolding decimal_below
decimal_below_more bound d x xs e h p =
    let t : ltb (digit_of x) 10 ≡ true = ap (λ y. ltb y 10) e ∙ lt-ltb d 10 h in
    let z : eqb (digit_of x) 0 ≡ false = ap (λ y. eqb y 0) e ∙ ne_eqb d 0 (λ q. omega arith) in
    rw (t, z, decimal_below) (ap (λ y. below bound (decimal_from y xs)) e)

-- a number of suc k digits whose first isn't 0
pub lead_back : (bound k n : ℕ) (rest : List ℕ) → 10 ^ k ≤ n → n < 10 * 10 ^ k → n < bound → T (no_digit rest) → decimal_below bound (digits 10 (suc k) n ++ rest) ≡ some (found n rest)
unfolding digits
lead_back bound k n rest low high h t =
    let p : 0 < 10 ^ k = one-le-pow k 10 (omega arith) in
    let small : n / 10 ^ k < 10 = (div-lt_iff_lt-mul p).1 high in
    let some_left : 0 < n / 10 ^ k = (le-div_iff_mul-le p).1 (omega arith) in
    let d : n / 10 ^ k % 10 ≡ n / 10 ^ k = mod-eq_of_lt small in
    decimal_below_more bound (n / 10 ^ k) _ (digits 10 k n ++ rest) (top_digit 10 k n (omega arith) (omega arith) ∙ d) small some_left
    ∙ ap (below bound) (decimal_back (n / 10 ^ k) k n rest t ∙ ap (λ v. found v rest) (div-add-mod' n (10 ^ k)))
    ∙ below_back bound n rest h

pub decimal_to_back : (bound k n : ℕ) (rest : List ℕ) → n < 10 ^ suc k → n < bound → T (no_digit rest) → decimal_below bound (decimal_to k n ++ rest) ≡ some (found n rest)
unfolding decimal_to digits decimal_below digit_of digit_byte
decimal_to_back bound zero zero rest b h t = refl
decimal_to_back bound zero (suc n) rest b h t = lead_back bound 0 (suc n) rest (omega arith) (omega arith) h t
decimal_to_back bound (suc k) n rest b h t = go (ltb n (10 ^ suc k)) refl (λ s. decimal_to_back bound k n rest s h t)
  where
    go : (f : Bool) → ltb n (10 ^ suc k) ≡ f → (n < 10 ^ suc k → decimal_below bound (decimal_to k n ++ rest) ≡ some (found n rest))
        → decimal_below bound (decimal_to (suc k) n ++ rest) ≡ some (found n rest)
    go true e back = rw (e, decimal_to) (back (ltb-true n (10 ^ suc k) e))
    go false e back = rw (e, decimal_to) (lead_back bound (suc k) n rest (ltb-false n (10 ^ suc k) e) (omega (arith, pow-succ' 10 (suc k))) h t)

-- A number that was printed reads back.
pub decimal_below_decimal : (bound n : ℕ) (rest : List ℕ) → bound ≤ 10 ^ 20 → n < bound → T (no_digit rest) → decimal_below bound (decimal n ++ rest) ≡ some (found n rest)
decimal_below_decimal bound n rest few h t = decimal_to_back bound 19 n rest (omega arith) h t

pub read_decimal_decimal : (n : ℕ) (rest : List ℕ) → n < 2 ^ 32 → T (no_digit rest) → read_decimal (decimal n ++ rest) ≡ some (found n rest)
read_decimal_decimal n rest h t = decimal_below_decimal (2 ^ 32) n rest (omega arith) h t
