-- The error of one sum, over either format, and the size of an opposite. Assumes nothing.
use Rattle.std.specs.Prelude.{◌≡◌, refl, ℕ, ◌+◌, ◌-◌, ◌*◌, ◌^◌, ◌≤◌, ◌<◌, Bool, true, false, not, ◌&&◌, cond, T, ltb, Float}
use Rattle.std.proofs.Common.{sym, ap, ◌∙◌, subst, mul_comm, mul-lt-mul_of_pos_right, lt_of_mul-lt-mul_right, mul-pos, arith, ltb→lt, lt→ltb, nltb→le, pow_pos}
use Rattle.std.proofs.Math.Nat.{mul-sub}
use Rattle.std.specs.Bool.{beq}
use Rattle.std.specs.Float.{nan, inf, fin, Format}
use Rattle.std.specs.Float.Ieee.{prec, low, up, down, round, sum, add, neg}
use Rattle.std.specs.Float.Ieee.Fits.{down_pos}
use Rattle.std.specs.Float.Ieee.Exact.{HasValue}
use Rattle.std.specs.Float.Ieee.Scale.{round_same, overflow}
use Rattle.float_rounding.specs.Near.{plus, less, Rounded, Off, round_rounded}

-- ---- `sum` sees only the values of its fractions
same_test : (a b : Bool) → (T a → T b) → (T b → T a) → a ≡ b
same_test true true p q = refl
same_test true false p q = absurd (p tt)
same_test false true p q = absurd (q tt)
same_test false false p q = refl

-- X / C is a / c, and Y / C is b / c
module _ (X Y C a b c : ℕ) (Z : 0 < C) (z : 0 < c) (p : X * c ≡ a * C) (q : Y * c ≡ b * C) where
  lt_there : X < Y → a < b
  lt_there h = lt_of_mul-lt-mul_right C (omega (arith, mul-lt-mul_of_pos_right h z))

  lt_back : a < b → X < Y
  lt_back h = lt_of_mul-lt-mul_right c (omega (arith, mul-lt-mul_of_pos_right h Z))

  ltb_same : ltb X Y ≡ ltb a b
  ltb_same = same_test (ltb X Y) (ltb a b) (λ t. lt→ltb a b (lt_there (ltb→lt X Y t))) (λ t. lt→ltb X Y (lt_back (ltb→lt a b t)))

  sum_add : (X + Y) * c ≡ (a + b) * C
  sum_add = omega arith

  sum_sub : (X - Y) * c ≡ (a - b) * C
  sum_sub = mul_comm (X - Y) c ∙ mul-sub c X Y ∙ ap (λ (t : ℕ). t - c * Y) (mul_comm c X ∙ p ∙ mul_comm a C) ∙ ap (λ (t : ℕ). C * a - t) (mul_comm c Y ∙ q ∙ mul_comm b C) ∙ sym (mul-sub C a b)
      ∙ mul_comm C (a - b)

-- c - d and c' - d' are the same
pub rounded_same : (f : Format) (x : Float) (c d c' d' : ℕ) → c + d' ≡ c' + d → Rounded f x c d → Rounded f x c' d'
rounded_same f x c d c' d' h r = record {
  sign = r.sign;
  size = r.size;
  is = r.is;
  off = λ e z. shift (2 ^ prec f) (plus r.sign r.size) (less r.sign r.size) e (r.off e (record { hi = omega (arith, z.hi, h); lo = omega (arith, z.lo, h) }));
}
  where
    shift : (P a b e : ℕ) → Off P a b c d e → Off P a b c' d' e
    shift P a b e o =
        let k : (c + d') * P ≡ (c' + d) * P = ap (λ (t : ℕ). t * P) h in
        record { hi = omega (arith, o.hi, k); lo = omega (arith, o.lo, k) }

-- ±a ± b, whole numbers of units
pub sum_rounded : (f : Format) (s : Bool) (a : ℕ) (t : Bool) (b : ℕ) → (a + b) * 2 < overflow f → Rounded f (sum f s a t b (2 ^ low f)) (plus s a + plus t b) (less s a + less t b)
unfolding sum
sum_rounded f false a false b h = round_rounded f false (a + b) h
sum_rounded f true a true b h = round_rounded f true (a + b) h
sum_rounded f false a true b h = go (ltb a b) (ltb→lt a b) (nltb→le a b)
  where
    go : (x : Bool) → (T x → a < b) → (T (not x) → b ≤ a) → Rounded f (cond x (round f true (b - a) (2 ^ low f)) (round f false (a - b) (2 ^ low f))) (a + 0) (0 + b)
    go true l g = let k = l tt in rounded_same f (round f true (b - a) (2 ^ low f)) 0 (b - a) (a + 0) (0 + b) (omega arith) (round_rounded f true (b - a) (omega arith))
    go false l g = let k = g tt in rounded_same f (round f false (a - b) (2 ^ low f)) (a - b) 0 (a + 0) (0 + b) (omega arith) (round_rounded f false (a - b) (omega arith))
sum_rounded f true a false b h = go (ltb a b) (ltb b a) (ltb→lt a b) (nltb→le a b) (ltb→lt b a) (nltb→le b a)
  where
    go : (x y : Bool) → (T x → a < b) → (T (not x) → b ≤ a) → (T y → b < a) → (T (not y) → a ≤ b)
        → Rounded f (cond x (round f false (b - a) (2 ^ low f)) (round f y (a - b) (2 ^ low f))) (0 + b) (a + 0)
    go true y l g l' g' = let k = l tt in rounded_same f (round f false (b - a) (2 ^ low f)) (b - a) 0 (0 + b) (a + 0) (omega arith) (round_rounded f false (b - a) (omega arith))
    go false true l g l' g' = let k = g tt in rounded_same f (round f true (a - b) (2 ^ low f)) 0 (a - b) (0 + b) (a + 0) (omega arith) (round_rounded f true (a - b) (omega arith))
    go false false l g l' g' = let k = g tt in let k' = g' tt in rounded_same f (round f false (a - b) (2 ^ low f)) (a - b) 0 (0 + b) (a + 0) (omega arith)
        (round_rounded f false (a - b) (omega arith))

-- ---- `sum` sees only the values of its fractions
pub sum_same : (f : Format) (s : Bool) (X : ℕ) (t : Bool) (Y C a b c : ℕ) → 0 < C → 0 < c → X * c ≡ a * C → Y * c ≡ b * C → sum f s X t Y C ≡ sum f s a t b c
unfolding sum
sum_same f s X t Y C a b c Z z p q =
    ap (λ (r : Float). cond (beq s t) r (cond (ltb X Y) (round f t (Y - X) C) (round f (s && ltb Y X) (X - Y) C))) (round_same f s (X + Y) C (a + b) c Z z (sum_add X Y C a b c Z z p q))
    ∙ ap (λ (r : Float). cond (beq s t) (round f s (a + b) c) (cond (ltb X Y) r (round f (s && ltb Y X) (X - Y) C))) (round_same f t (Y - X) C (b - a) c Z z (sum_sub Y X C b a c Z z q p))
    ∙ ap (λ (r : Float). cond (beq s t) (round f s (a + b) c) (cond (ltb X Y) (round f t (b - a) c) r)) (round_same f (s && ltb Y X) (X - Y) C (a - b) c Z z (sum_sub X Y C a b c Z z p q))
    ∙ ap (λ (r : Bool). cond (beq s t) (round f s (a + b) c) (cond r (round f t (b - a) c) (round f (s && ltb Y X) (a - b) c))) (ltb_same X Y C a b c Z z p q)
    ∙ ap (λ (r : Bool). cond (beq s t) (round f s (a + b) c) (cond (ltb a b) (round f t (b - a) c) (round f (s && r) (a - b) c))) (ltb_same Y X C b a c Z z q p)

-- ---- the sum of two values that are whole numbers of units
pub add_is : (f : Format) (x y : Float) (s : Bool) (a : ℕ) (t : Bool) (b : ℕ) → HasValue x s a (2 ^ low f) → HasValue y t b (2 ^ low f) → add f x y ≡ sum f s a t b (2 ^ low f)
unfolding add
add_is f nan y s a t b p q = absurd p
add_is f (inf u) y s a t b p q = absurd p
add_is f (fin u m e) nan s a t b p q = absurd q
add_is f (fin u m e) (inf v) s a t b p q = absurd q
add_is f (fin u m e) (fin v n d) s a t b p q =
    ap (λ (z : Bool). sum f z (m * up e * down d) v (n * up d * down e) (down e * down d)) p.0
    ∙ ap (λ (z : Bool). sum f s (m * up e * down d) z (n * up d * down e) (down e * down d)) q.0
    ∙ sum_same f s (m * up e * down d) t (n * up d * down e) (down e * down d) a b (2 ^ low f) (mul-pos (down_pos e) (down_pos d)) (pow_pos (low f))
    (omega (arith, ap (λ (z : ℕ). z * down d) p.1))
    (omega (arith, ap (λ (z : ℕ). z * down e) q.1))

pub add_rounded : (f : Format) (x y : Float) (s : Bool) (a : ℕ) (t : Bool) (b : ℕ) → HasValue x s a (2 ^ low f) → HasValue y t b (2 ^ low f) → (a + b) * 2 < overflow f
    → Rounded f (add f x y) (plus s a + plus t b) (less s a + less t b)
add_rounded f x y s a t b p q h = subst (λ (z : Float). Rounded f z (plus s a + plus t b) (less s a + less t b)) (sym (add_is f x y s a t b p q)) (sum_rounded f s a t b h)

-- the other sign has the same size
pub neg_value : (y : Float) (t : Bool) (b c : ℕ) → HasValue y t b c → HasValue (neg y) (not t) b c
unfolding neg
neg_value nan t b c q = absurd q
neg_value (inf v) t b c q = absurd q
neg_value (fin v n d) t b c q = (ap not q.0, q.1)
