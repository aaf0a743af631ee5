-- Values that no sign keeps from having a root: a NaN, or a value with the sign plus. Squares and their sums are such. Assumes nothing.
use Rattle.std.specs.Prelude.{◌≡◌, ℕ, zero, suc, ◌+◌, ◌*◌, ◌^◌, Bool, true, false, cond, T, ◌≢◌, nat_lt, refl, Float}
use Rattle.std.proofs.Common.{sym, ap, ◌∙◌, true≢false}
use Rattle.std.specs.Float.{Format, nan, inf, fin, binary64}
use Rattle.std.specs.Float.Ieee.{up, down, prec, emax, low, odd, units, round, sum, add, mul, lt, is_nan, fits}
use Rattle.std.specs.Float.Ieee.Fits.{round_is, mul-fits, add-fits}
use Rattle.float_steps.specs.Floats.{negative, larger}

-- an f64 that is a NaN or has the sign plus
pub record Plus (x : Float) : Type 0 where
  pub f64 : T (fits binary64 x)
  pub plus : negative x ≡ false

-- ---- a rounded value has the sign it was given

-- a value with its digits made odd has the sign it was given
pub negative_odd : (d : ℕ) (s : Bool) (q k l : ℕ) → negative (odd d s q k l) ≡ s
unfolding negative odd
negative_odd d s zero k l = refl
negative_odd d s (suc q) k l = refl

negative_units : (f : Format) (s : Bool) (q k : ℕ) → negative (units f s q k) ≡ s
unfolding negative units
negative_units f s q k = go (nat_lt (q * 2 ^ k) (2 ^ (low f + suc (emax f))))
  where
    go : (b : Bool) → negative (cond b (odd (suc (prec f)) s q k (low f)) (inf s)) ≡ s
    go true = negative_odd (suc (prec f)) s q k (low f)
    go false = refl

pub negative_round : (f : Format) (s : Bool) (n d : ℕ) → negative (round f s n d) ≡ s
negative_round f s n d = ap negative (round_is f s n d) ∙ negative_units f s _ _

-- ---- squares, sums, the larger

square_sign : (x : Float) → negative (mul binary64 x x) ≡ false
unfolding negative mul
square_sign nan = refl
square_sign (inf true) = refl
square_sign (inf false) = refl
square_sign (fin true m e) = negative_round binary64 false (m * up e * (m * up e)) (down e * down e)
square_sign (fin false m e) = negative_round binary64 false (m * up e * (m * up e)) (down e * down e)

-- a product with itself
pub plus_square : (x : Float) → Plus (mul binary64 x x)
plus_square x = record { f64 = mul-fits binary64 x x; plus = square_sign x }

sum_sign : (x y : Float) → negative x ≡ false → negative y ≡ false → negative (add binary64 x y) ≡ false
unfolding negative add sum
sum_sign nan y p q = refl
sum_sign (inf s) nan p q = refl
sum_sign (inf true) (inf t) p q = absurd (true≢false p)
sum_sign (inf false) (inf true) p q = refl
sum_sign (inf false) (inf false) p q = refl
sum_sign (inf s) (fin t n d) p q = p
sum_sign (fin s m e) nan p q = refl
sum_sign (fin s m e) (inf t) p q = q
sum_sign (fin true m e) (fin t n d) p q = absurd (true≢false p)
sum_sign (fin false m e) (fin true n d) p q = absurd (true≢false q)
sum_sign (fin false m e) (fin false n d) p q = negative_round binary64 false (m * up e * down d + n * up d * down e) (down e * down d)

-- a sum
pub plus_sum : (x y : Float) → Plus x → Plus y → Plus (add binary64 x y)
plus_sum x y p q = record { f64 = add-fits binary64 x y; plus = sum_sign x y p.plus q.plus }

-- nothing is below a NaN
pub not_below_nan : (x : Float) → lt x nan ≢ true
unfolding lt
not_below_nan nan h = true≢false (sym h)
not_below_nan (inf s) h = true≢false (sym h)
not_below_nan (fin s m e) h = true≢false (sym h)

-- of two, one below the other, the other is the larger
pub larger_above : (x y : Float) → lt x y ≡ true → larger x y ≡ y
unfolding larger is_nan
larger_above nan y h = refl
larger_above (inf s) nan h = absurd (not_below_nan (inf s) h)
larger_above (inf s) (inf t) h = simp h
larger_above (inf s) (fin t n d) h = simp h
larger_above (fin s m e) nan h = absurd (not_below_nan (fin s m e) h)
larger_above (fin s m e) (inf t) h = simp h
larger_above (fin s m e) (fin t n d) h = simp h

-- what holds of each of two holds of the larger
pub larger_either : (P : Float → Type 0) (x y : Float) → P x → P y → P (larger x y)
unfolding larger
larger_either P x y p q = pick (is_nan x) q (pick (is_nan y) p (pick (lt x y) q (pick (lt y x) p (pick (negative x) q p))))
  where
    pick : (b : Bool) {u v : Float} → P u → P v → P (cond b u v)
    pick true h k = h
    pick false h k = k

-- the larger of two
pub plus_larger : (x y : Float) → Plus x → Plus y → Plus (larger x y)
plus_larger x y p q = larger_either Plus x y p q
