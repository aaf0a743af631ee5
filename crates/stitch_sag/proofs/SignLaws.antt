-- Signs of differences and products: of what lies between two values, the product of its distances from both isn't below zero. Assumes nothing.
use mathlib.Core.Path.{◌≡◌, refl, sym, ◌∙◌}
use mathlib.Core.Bool.{Bool, true, false, not, ◌&&◌, cond, true≢false}
use Prim.Native.Nat.{ℕ, zero, suc, ◌+◌, ◌-◌, ◌*◌, ◌/◌, ◌%◌, ◌^◌, ◌<◌, ◌≤◌, compare}
use native.Mathlib.Omega.{arith}
use borrow.Author.Tests.{ltb-true, ltb-false}
use lib.Dec.{T, ltb, eqb}
use lib.IntN.{pos}
use lib.Ieee.{Float, nan, inf, fin, Format, prec, emax, low, up, down, size, nearest, lt, odd, units, round, sum, add, neg, sub, mul}

-- a value whose sign is plus, or no number
abbrev plain : Float → Bool
plain nan = true
plain (inf s) = not s
plain (fin s m e) = not s

plain_odd : (d q k l : ℕ) → T (plain (odd d false q k l))
unfolding odd
plain_odd d zero k l = tt
plain_odd d (suc q) k l = tt

plain_either : (b : Bool) (x y : Float) → T (plain x) → T (plain y) → T (plain (cond b x y))
plain_either true x y p q = p
plain_either false x y p q = q

plain_units : (f : Format) (q k : ℕ) → T (plain (units f false q k))
unfolding units
plain_units f q k = plain_either (ltb (q * 2 ^ k) (2 ^ (low f + suc (emax f)))) (odd (suc (prec f)) false q k (low f)) (inf false) (plain_odd (suc (prec f)) q k (low f)) tt

plain_round : (f : Format) (n d : ℕ) → T (plain (round f false n d))
unfolding round
plain_round f n d =
    let x = n * 2 ^ low f in
    let k = size (x / d) - prec f in
    let u = d * 2 ^ k in
    plain_units f (nearest (x / u) (compare (x % u * 2) u)) k

-- a larger number less a smaller
plain_less : (f : Format) (a b c : ℕ) → b < a → T (plain (sum f false a true b c))
unfolding sum
plain_less f a b c h = go (ltb a b) (ltb-true a b)
  where
    go : (t : Bool) → (t ≡ true → a < b) → T (plain (cond t (round f true (b - a) c) (round f false (a - b) c)))
    go true k = absurd (omega (arith, k refl))
    go false k = plain_round f (a - b) c

-- a smaller number taken from a larger
plain_from : (f : Format) (a b c : ℕ) → a < b → T (plain (sum f true a false b c))
unfolding sum
plain_from f a b c h = go (ltb a b) (ltb-false a b)
  where
    go : (t : Bool) → (t ≡ false → b ≤ a) → T (plain (cond t (round f false (b - a) c) (round f (true && ltb b a) (a - b) c)))
    go true k = plain_round f (b - a) c
    go false k = absurd (omega (arith, k refl))

plain_sum : (f : Format) (a b c : ℕ) → T (plain (sum f false a false b c))
unfolding sum
plain_sum f a b c = plain_round f (a + b) c

-- x - y for a y below x
plain_sub : (f : Format) (x y : Float) → lt y x ≡ true → T (plain (sub f x y))
unfolding sub add neg lt
plain_sub f x nan h = absurd (true≢false (sym h))
plain_sub f nan (inf s) h = absurd (true≢false (sym h))
plain_sub f (inf true) (inf s) h = absurd (true≢false (sym h ∙ no s))
  where
    no : (s : Bool) → (s && false) ≡ false
    no true = refl
    no false = refl
plain_sub f (inf false) (inf true) h = tt
plain_sub f (inf false) (inf false) h = absurd (true≢false (sym h))
plain_sub f (fin t m e) (inf true) h = tt
plain_sub f (fin t m e) (inf false) h = absurd (true≢false (sym h))
plain_sub f nan (fin s n d) h = absurd (true≢false (sym h))
plain_sub f (inf true) (fin s n d) h = absurd (true≢false (sym h))
plain_sub f (inf false) (fin s n d) h = tt
plain_sub f (fin false m e) (fin false n d) h = plain_less f (m * up e * down d) (n * up d * down e) (down e * down d) (ltb-true (n * up d * down e) (m * up e * down d) h)
plain_sub f (fin false m e) (fin true n d) h = plain_sum f (m * up e * down d) (n * up d * down e) (down e * down d)
plain_sub f (fin true m e) (fin false n d) h = absurd (true≢false (sym h))
plain_sub f (fin true m e) (fin true n d) h = plain_from f (m * up e * down d) (n * up d * down e) (down e * down d) (ltb-true (m * up e * down d) (n * up d * down e) h)

plain_mul : (f : Format) (x y : Float) → T (plain x) → T (plain y) → T (plain (mul f x y))
unfolding mul
plain_mul f nan y p q = tt
plain_mul f (inf true) y p q = absurd p
plain_mul f (inf false) nan p q = tt
plain_mul f (inf false) (inf true) p q = absurd q
plain_mul f (inf false) (inf false) p q = tt
plain_mul f (inf false) (fin true n d) p q = absurd q
plain_mul f (inf false) (fin false n d) p q = plain_either (eqb n 0) nan (inf false) tt tt
plain_mul f (fin true m e) y p q = absurd p
plain_mul f (fin false m e) nan p q = tt
plain_mul f (fin false m e) (inf true) p q = absurd q
plain_mul f (fin false m e) (inf false) p q = plain_either (eqb m 0) nan (inf false) tt tt
plain_mul f (fin false m e) (fin true n d) p q = absurd q
plain_mul f (fin false m e) (fin false n d) p q = plain_round f (m * up e * (n * up d)) (down e * down d)

-- it isn't below zero
plain_low : (x : Float) → T (plain x) → lt x (fin false 0 (pos 0)) ≡ true → ⊥
unfolding lt
plain_low nan p h = true≢false (sym h)
plain_low (inf true) p h = absurd p
plain_low (inf false) p h = true≢false (sym h)
plain_low (fin true m e) p h = absurd p
plain_low (fin false m e) p h = no (m * up e * 1) (0 * 1 * down e) (ltb-true (m * up e * 1) (0 * 1 * down e) h) (zeros (down e))
  where
    zeros : (d : ℕ) → 0 * 1 * d ≡ 0
    zeros d = omega arith

    no : (a z : ℕ) → a < z → z ≡ 0 → ⊥
    no a z l k = omega arith

-- between two values the product of the distances from both isn't below zero
pub between_plain : (f : Format) (a t b : Float) → lt a t ≡ true → lt t b ≡ true → lt (mul f (sub f t a) (sub f b t)) (fin false 0 (pos 0)) ≡ true → ⊥
between_plain f a t b h k l = plain_low (mul f (sub f t a) (sub f b t)) (plain_mul f (sub f t a) (sub f b t) (plain_sub f t a h) (plain_sub f b t k)) l
