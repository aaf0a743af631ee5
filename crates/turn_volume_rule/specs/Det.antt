-- The determinant of three corners as a whole number, and how near the f64 one is. Assumes nothing.
use Rattle.std.specs.Prelude.{◌≡◌, refl, List, ℕ, zero, suc, ◌+◌, ◌*◌, ◌/◌, ◌%◌, ◌^◌, ◌≤◌, Bool, true, false, cond, T, eqb, get_or, ℤ, pos, neg_ℤ, nat_abs, ◌-ℤ◌, ◌*ℤ◌, Float}
use Rattle.std.proofs.Common.{sym, ap, ◌∙◌, subst, mul-div_cancel, le_of_lt, arith}
use Rattle.std.proofs.Math.Nat.{mul-mod_left}
use Rattle.std.proofs.Math.Dec.{eqb_refl}
use Rattle.std.specs.Float.{nan, inf, fin, binary32}
use Rattle.std.specs.Float.Ieee.{up, down, fits}
use Rattle.std.specs.Float.Ieee.Fits.{down_pos}
use Rattle.std.specs.Float.Ieee.Exact.{HasValue}
use Rattle.std.specs.Float.Ieee.Scale.{finite}
use Rattle.float_rounding.specs.Near.{plus, less}
use Rattle.float_rounding.specs.Held.{held}
use Rattle.float_rounding.specs.Approx.{turn_p}
use Rattle.float_rounding.specs.Tri.{Coord, Diff, sg, sz, point, times, minus_d, plus_d, triple, det, det64, det_approx, det_size, Fine, sixteenth}
use Rattle.float_rounding.specs.Sum.{Determinant}
use Rattle.patch_geometry.specs.Geometry as G
use Rattle.patch_measures.specs.Volume as Volume
use Rattle.turn_volume_rule.specs.Exact.{whole_of, is_whole, whole_at, exact_det}
use Rattle.turn_volume_rule.specs.Ints.{Is, is_pos, is_neg, is_add, is_sub, is_mul}

-- ---- the words of the contract
-- a finite f32 is `size` of 2 ^ -149, with its sign
unfoldable pub size : Float → ℕ
size nan = 0
size (inf s) = 0
size (fin s m e) = m * up e * 2 ^ 149 / down e

unfoldable pub signed : Float → Diff
unfolding size
signed nan = record { p = 0; m = 0 }
signed (inf s) = record { p = 0; m = 0 }
signed (fin s m e) = record { p = plus s (size (fin s m e)); m = less s (size (fin s m e)) }

-- a product of differences
abbrev pub mul_d : Diff → Diff → Diff
mul_d y z = record { p = y.p * z.p + y.m * z.m; m = y.p * z.m + y.m * z.p }

abbrev pub cross_d : Float → Float → Float → Float → Diff
cross_d b c d e = minus_d (mul_d (signed b) (signed c)) (mul_d (signed d) (signed e))

abbrev pub det_d : Float → Float → Float → Float → Float → Float → Float → Float → Float → Diff
det_d a0 a1 a2 b0 b1 b2 c0 c1 c2 =
    plus_d (minus_d (mul_d (signed a0) (cross_d b1 c2 b2 c1)) (mul_d (signed a1) (cross_d b0 c2 b2 c0))) (mul_d (signed a2) (cross_d b0 c1 b1 c0))

-- ---- a coordinate, and its difference
size_of : (x : Float) (s : Bool) (a : ℕ) → HasValue x s a (2 ^ 149) → size x ≡ a
unfolding size
size_of nan s a h = absurd h
size_of (inf t) s a h = absurd h
size_of (fin t m e) s a h = ap (λ (z : ℕ). z / down e) h.1 ∙ mul-div_cancel a (down_pos e)

signed_of : (x : Float) (s : Bool) (a : ℕ) → HasValue x s a (2 ^ 149) → signed x ≡ record { p = plus s a; m = less s a }
unfolding signed
signed_of nan s a h = absurd h
signed_of (inf t) s a h = absurd h
signed_of (fin t m e) s a h = ap (λ (z : Bool). record { p = plus z (size (fin t m e)); m = less z (size (fin t m e)) }) h.0
    ∙ ap (λ (z : ℕ). record { p = plus s z; m = less s z }) (size_of (fin t m e) s a h)

pub coord : (M : ℕ) (x : Float) → T (fits binary32 x) → T (finite x) → size x ≤ M → Coord M x
coord M x f n l = let h = held binary32 x f n in record { held = h; most = subst (λ (z : ℕ). z ≤ M) (size_of x h.sign (h.digits * 2 ^ h.shift) h.is) l }

point_is : {M : ℕ} {x : Float} (a : Coord M x) → point a ≡ signed x
point_is {M} {x} a = sym (signed_of x (sg a) (sz a) a.held.is)

times_is : {M : ℕ} {x : Float} (a : Coord M x) (y z : Diff) → y ≡ z → times a y ≡ mul_d (signed x) z
times_is {M} {x} a y z e = ap (λ (w : Diff). times a w) e ∙ turn (sg a) (sz a) ∙ ap (λ (w : Diff). mul_d w z) (point_is a)
  where
    pair : (p p' m m' : ℕ) → p ≡ p' → m ≡ m' → ◌≡◌ {A = Diff} (record { p = p; m = m }) (record { p = p'; m = m' })
    pair p p' m m' h l = λ i. record { p = h i; m = l i }

    turn : (s : Bool) (A : ℕ) → ◌≡◌ {A = Diff} (record { p = turn_p s (A * z.p) (A * z.m); m = turn_p s (A * z.m) (A * z.p) }) (mul_d (record { p = plus s A; m = less s A }) z)
    turn true A = pair (A * z.m) (0 * z.p + A * z.m) (A * z.p) (0 * z.m + A * z.p) (omega arith) (omega arith)
    turn false A = pair (A * z.p) (A * z.p + 0 * z.m) (A * z.m) (A * z.m + 0 * z.p) (omega arith) (omega arith)

-- ---- the determinant of nine coordinates
module _ (M : ℕ) (fine : Fine M) {a0 a1 a2 b0 b1 b2 c0 c1 c2 : Float} (A0 : Coord M a0) (A1 : Coord M a1) (A2 : Coord M a2) (B0 : Coord M b0) (B1 : Coord M b1) (B2 : Coord M b2) (C0 : Coord M c0)
    (C1 : Coord M c1) (C2 : Coord M c2) where
  term_is : {xa xb xc xd xe : Float} (a : Coord M xa) (b : Coord M xb) (c : Coord M xc) (d : Coord M xd) (e : Coord M xe) → triple M fine a b c d e ≡ mul_d (signed xa) (cross_d xb xc xd xe)
  term_is a b c d e = times_is a _ _ (λ i. minus_d (times_is b _ _ (point_is c) i) (times_is d _ _ (point_is e) i))

  det_is : det M fine A0 A1 A2 B0 B1 B2 C0 C1 C2 ≡ det_d a0 a1 a2 b0 b1 b2 c0 c1 c2
  det_is = λ i. plus_d (minus_d (term_is A0 B1 C2 B2 C1 i) (term_is A1 B0 C2 B2 C0 i)) (term_is A2 B0 C1 B1 C0 i)

  abbrev v : ℕ
  v = M * M * M * sixteenth

  abbrev Z : Diff
  Z = det_d a0 a1 a2 b0 b1 b2 c0 c1 c2

  -- the determinant computed in f64 is near the exact one
  pub det_near : Determinant v (det64 M fine a0 a1 a2 b0 b1 b2 c0 c1 c2) (16 * sixteenth * Z.p) (16 * sixteenth * Z.m)
  det_near =
      subst (λ (z : Diff). Determinant v (det64 M fine a0 a1 a2 b0 b1 b2 c0 c1 c2) (16 * sixteenth * z.p) (16 * sixteenth * z.m)) det_is
      (record { near = det_approx M fine A0 A1 A2 B0 B1 B2 C0 C1 C2; exact = det_size M fine A0 A1 A2 B0 B1 B2 C0 C1 C2 })

-- ---- the whole numbers of the rule
-- a value that is a / 2 ^ k
pub whole_of_lem : (k : ℕ) (x : Float) (s : Bool) (a : ℕ) → HasValue x s a (2 ^ k) → Is (whole_of k x) (plus s a) (less s a)
unfolding whole_of
whole_of_lem k nan s a h = absurd h
whole_of_lem k (inf t) s a h = absurd h
whole_of_lem k (fin t m e) s a h =
    subst (λ (w : Bool). Is (cond t (neg_ℤ (pos n)) (pos n)) (plus w a) (less w a)) h.0
    (subst (λ (w : ℕ). Is (cond t (neg_ℤ (pos n)) (pos n)) (plus t w) (less t w)) (ap (λ (z : ℕ). z / down e) h.1 ∙ mul-div_cancel a (down_pos e)) (go t))
  where
    n : ℕ
    n = m * up e * 2 ^ k / down e

    go : (t : Bool) → Is (cond t (neg_ℤ (pos n)) (pos n)) (plus t n) (less t n)
    go true = is_neg (pos n) (is_pos n)
    go false = is_pos n

pub is_whole_lem : (k : ℕ) (x : Float) (s : Bool) (a : ℕ) → HasValue x s a (2 ^ k) → T (is_whole k x)
unfolding is_whole
is_whole_lem k nan s a h = absurd h
is_whole_lem k (inf t) s a h = absurd h
is_whole_lem k (fin t m e) s a h = subst (λ (n : ℕ). T (eqb n 0)) (sym (ap (λ (z : ℕ). z % down e) h.1 ∙ mul-mod_left a (down e))) (eqb_refl 0)

-- Every finite f32 is a whole number of 2 ^ -149, so `whole_of 149` drops nothing.
pub coordinate_whole : (x : Float) → T (fits binary32 x) → T (finite x) → T (is_whole 149 x)
coordinate_whole x f n = let h = held binary32 x f n in is_whole_lem 149 x h.sign (h.digits * 2 ^ h.shift) h.is

pub whole_signed : (x : Float) → Is (whole_of 149 x) (signed x).p (signed x).m
unfolding whole_of signed size
whole_signed nan = is_pos 0
whole_signed (inf s) = is_pos 0
whole_signed (fin true m e) = is_neg (pos (m * up e * 2 ^ 149 / down e)) (is_pos (m * up e * 2 ^ 149 / down e))
whole_signed (fin false m e) = is_pos (m * up e * 2 ^ 149 / down e)

abs_neg : (n : ℕ) → nat_abs (neg_ℤ (pos n)) ≡ n
abs_neg zero = refl
abs_neg (suc n) = refl

pub whole_size : (x : Float) → nat_abs (whole_of 149 x) ≡ size x
unfolding whole_of size
whole_size nan = refl
whole_size (inf s) = refl
whole_size (fin true m e) = abs_neg (m * up e * 2 ^ 149 / down e)
whole_size (fin false m e) = refl

-- a finite f32 is below 2 ^ 128
pub size_under : (x : Float) → T (fits binary32 x) → T (finite x) → size x ≤ 2 ^ 277
size_under x f n = let h = held binary32 x f n in subst (λ (z : ℕ). z ≤ 2 ^ 277) (sym (size_of x h.sign (h.digits * 2 ^ h.shift) h.is)) (le_of_lt h.under)

-- a corner with finite coordinates of sizes up to M
pub record Corner (M : ℕ) (ps : List Float) (i : ℕ) : Type 0 where
  pub x : Coord M (get_or ps (3 * i) nan)
  pub y : Coord M (get_or ps (3 * i + 1) nan)
  pub z : Coord M (get_or ps (3 * i + 2) nan)

-- the determinant of three corners
abbrev pub corners_d : List Float → ℕ → ℕ → ℕ → Diff
corners_d ps a b c =
    det_d (get_or ps (3 * a) nan) (get_or ps (3 * a + 1) nan) (get_or ps (3 * a + 2) nan) (get_or ps (3 * b) nan) (get_or ps (3 * b + 1) nan) (get_or ps (3 * b + 2) nan)
    (get_or ps (3 * c) nan) (get_or ps (3 * c + 1) nan) (get_or ps (3 * c + 2) nan)

pub whole_det : (ps : List Float) (a b c : ℕ) → Is (exact_det (whole_at ps a) (whole_at ps b) (whole_at ps c)) (corners_d ps a b c).p (corners_d ps a b c).m
unfolding exact_det whole_at
whole_det ps a b c =
    is_add _ _ (is_sub _ _ (triple3 (3 * a) (3 * b + 1) (3 * c + 2) (3 * b + 2) (3 * c + 1)) (triple3 (3 * a + 1) (3 * b) (3 * c + 2) (3 * b + 2) (3 * c)))
    (triple3 (3 * a + 2) (3 * b) (3 * c + 1) (3 * b + 1) (3 * c))
  where
    w : ℕ → ℤ
    w i = whole_of 149 (get_or ps i nan)

    s : (i : ℕ) → Is (whole_of 149 (get_or ps i nan)) (signed (get_or ps i nan)).p (signed (get_or ps i nan)).m
    s i = whole_signed (get_or ps i nan)

    triple3 : (i j k l n : ℕ) → Is (whole_of 149 (get_or ps i nan) *ℤ ((whole_of 149 (get_or ps j nan) *ℤ whole_of 149 (get_or ps k nan)) -ℤ (whole_of 149 (get_or ps l nan) *ℤ whole_of 149 (get_or ps n nan))))
        (mul_d (signed (get_or ps i nan)) (cross_d (get_or ps j nan) (get_or ps k nan) (get_or ps l nan) (get_or ps n nan))).p
        (mul_d (signed (get_or ps i nan)) (cross_d (get_or ps j nan) (get_or ps k nan) (get_or ps l nan) (get_or ps n nan))).m
    triple3 i j k l n = is_mul (whole_of 149 (get_or ps i nan)) _ (s i) (is_sub _ _ (is_mul _ _ (s j) (s k)) (is_mul _ _ (s l) (s n)))

-- and so is that of three corners
pub corners_near : (M : ℕ) (fine : Fine M) (ps : List Float) {a b c : ℕ} → Corner M ps a → Corner M ps b → Corner M ps c
    → Determinant (M * M * M * sixteenth) (Volume.det (G.point_at ps a) (G.point_at ps b) (G.point_at ps c)) (16 * sixteenth * (corners_d ps a b c).p) (16 * sixteenth * (corners_d ps a b c).m)
corners_near M fine ps A B C = det_near M fine A.x A.y A.z B.x B.y B.z C.x C.y C.z
