-- The determinant of three points with f32 coordinates, computed in f64, and its error. Assumes nothing.
use Rattle.std.specs.Prelude.{◌≡◌, refl, ◌⊎◌, ℕ, ◌+◌, ◌*◌, ◌^◌, ◌≤◌, ◌<◌, Bool, true, false, Float}
use Rattle.std.proofs.Common.{sym, ap, ◌∙◌, subst, inl, inr, le_trans, mul-le-mul, mul-le-mul_right, mul-le-mul_left, mul-pos, zero-mul, eq-zero-or-pos, arith, lit≤, lit<}
use Rattle.std.specs.Float.{binary32, binary64}
use Rattle.std.specs.Float.Ieee.{unlike, add, sub, mul}
use Rattle.std.specs.Float.Ieee.Exact.{HasValue}
use Rattle.float_rounding.specs.Near.{Within, plus, less}
use Rattle.float_rounding.specs.Held.{Held, rescaled, mul_exact}
use Rattle.float_rounding.specs.Approx.{Approx, top64, unit32, unit32_is, turn_p, size_le, recast, add_approx, sub_approx, mul_approx}

-- 2 ^ 623: 16 of it times the product of three coordinates' sizes is that product in units of 2 ^ -1074
unfoldable pub sixteenth : ℕ
sixteenth = 2 ^ 623

pub sixteenth_big : 2 ^ 53 ≤ sixteenth
unfolding sixteenth
sixteenth_big = lit≤ tt

four_units : unit32 * (16 * sixteenth) * (2 ^ 149 * 2 ^ 149) ≡ 2 ^ 1074
unfolding unit32 sixteenth
four_units = refl

-- ---- a coordinate of size at most M
pub record Coord (M : ℕ) (x : Float) : Type 0 where
  pub held : Held binary32 x
  pub most : held.digits * 2 ^ held.shift ≤ M

abbrev pub sg : {M : ℕ} {x : Float} → Coord M x → Bool
sg a = a.held.sign

abbrev pub sz : {M : ℕ} {x : Float} → Coord M x → ℕ
sz a = a.held.digits * 2 ^ a.held.shift

-- ---- an exact difference p - m, multiplied by a coordinate
pub record Diff : Type 0 where
  pub p : ℕ
  pub m : ℕ

abbrev pub point : {M : ℕ} {x : Float} → Coord M x → Diff
point a = record { p = plus (sg a) (sz a); m = less (sg a) (sz a) }

abbrev pub times : {M : ℕ} {x : Float} → Coord M x → Diff → Diff
times a z = record { p = turn_p (sg a) (sz a * z.p) (sz a * z.m); m = turn_p (sg a) (sz a * z.m) (sz a * z.p) }

abbrev pub minus_d : Diff → Diff → Diff
minus_d y z = record { p = y.p + z.m; m = y.m + z.p }

abbrev pub plus_d : Diff → Diff → Diff
plus_d y z = record { p = y.p + z.p; m = y.m + z.m }

-- sizes
pub turn_size : (s : Bool) (A M c d b : ℕ) → A ≤ M → Within c d b → Within (turn_p s (A * c) (A * d)) (turn_p s (A * d) (A * c)) (M * b)
turn_size s A M c d b l z = go s
  where
    hi : A * c ≤ A * d + M * b
    hi = omega (arith, mul-le-mul_left A z.hi, mul-le-mul_right b l)

    lo : A * d ≤ A * c + M * b
    lo = omega (arith, mul-le-mul_left A z.lo, mul-le-mul_right b l)

    go : (s : Bool) → Within (turn_p s (A * c) (A * d)) (turn_p s (A * d) (A * c)) (M * b)
    go true = record { hi = lo; lo = hi }
    go false = record { hi = hi; lo = lo }

pub point_size : (s : Bool) (A M : ℕ) → A ≤ M → Within (plus s A) (less s A) M
point_size true A M l = omega arith
point_size false A M l = omega arith

-- ---- the product of two coordinates, exact
pub prod : (M : ℕ) {x y : Float} (a : Coord M x) (b : Coord M y) → HasValue (mul binary64 x y) (unlike (sg a) (sg b)) (sz a * sz b * (unit32 * (16 * sixteenth))) (2 ^ 1074)
prod M {x} {y} a b = rescaled (mul binary64 x y) (unlike (sg a) (sg b)) (sz a * sz b) (2 ^ 149 * 2 ^ 149) (unit32 * (16 * sixteenth)) (2 ^ 1074) four_units (mul_exact x y a.held b.held)

-- as a difference, in units
prod_approx : (M k U : ℕ) {x : Float} (s t : Bool) (A B : ℕ) → HasValue x (unlike s t) (A * B * (U * (16 * k))) (2 ^ 1074)
    → Approx 1 x (U * (16 * k * turn_p s (A * plus t B) (A * less t B))) (U * (16 * k * turn_p s (A * less t B) (A * plus t B))) 0
prod_approx M k U s t A B h = record { sign = unlike s t; size = A * B * (U * (16 * k)); is = h; hi = omega (arith, eq s t); lo = omega (arith, eq s t) }
  where
    eq : (s t : Bool)
        → (plus (unlike s t) (A * B * (U * (16 * k))) + U * (16 * k * turn_p s (A * less t B) (A * plus t B))) * 2 ^ 53
        ≡ (U * (16 * k * turn_p s (A * plus t B) (A * less t B)) + less (unlike s t) (A * B * (U * (16 * k)))) * 2 ^ 53 + 0
    eq true true = omega arith
    eq true false = omega arith
    eq false true = omega arith
    eq false false = omega arith

-- a size times U
scale_size : (U : ℕ) {p m b : ℕ} → Within p m b → Within (U * p) (U * m) (U * b)
scale_size U z = record { hi = omega (arith, mul-le-mul_left U z.hi); lo = omega (arith, mul-le-mul_left U z.lo) }

-- nothing overflows
pub record Fine (M : ℕ) : Type 0 where
  pub two : unit32 * (M * M * sixteenth) * 2 ^ 60 + 2 ^ 60 < top64
  pub three : M * M * M * sixteenth * 2 ^ 60 + 2 ^ 60 < top64

module _ (M : ℕ) (fine : Fine M) where
  abbrev k : ℕ
  k = sixteenth

  -- M * M * M * k, of which an exact product of three coordinates is at most 16
  abbrev v : ℕ
  v = M * M * M * sixteenth

  -- b * c - d * e
  abbrev pub cross : {xb xc xd xe : Float} → Coord M xb → Coord M xc → Coord M xd → Coord M xe → Diff
  cross b c d e = minus_d (times b (point c)) (times d (point e))

  one_size : {xb xc : Float} (b : Coord M xb) (c : Coord M xc) → Within (times b (point c)).p (times b (point c)).m (M * M)
  one_size b c = turn_size (sg b) (sz b) M (point c).p (point c).m M b.most (point_size (sg c) (sz c) M c.most)

  cross_size : {xb xc xd xe : Float} (b : Coord M xb) (c : Coord M xc) (d : Coord M xd) (e : Coord M xe) → Within (cross b c d e).p (cross b c d e).m (2 * (M * M))
  cross_size b c d e =
      let y = one_size b c in
      let z = one_size d e in
      record { hi = omega (arith, y.hi, z.lo); lo = omega (arith, y.lo, z.hi) }

  -- the error is 32 * (U * (M * M * k)), and so is the size but for it
  cross_approx : {xb xc xd xe : Float} (b : Coord M xb) (c : Coord M xc) (d : Coord M xd) (e : Coord M xe)
      → Approx 1 (sub binary64 (mul binary64 xb xc) (mul binary64 xd xe)) (unit32 * (16 * k * (cross b c d e).p)) (unit32 * (16 * k * (cross b c d e).m)) (32 * (unit32 * (M * M * k)))
  cross_approx b c d e =
      let y = prod_approx M k unit32 (sg b) (sg c) (sz b) (sz c) (prod M b c) in
      let z = prod_approx M k unit32 (sg d) (sg e) (sz d) (sz e) (prod M d e) in
      let h = size_le (16 * (unit32 * (M * M * k))) (unit32 * (16 * k * (M * M))) y (scale_size unit32 (scale_size (16 * k) (one_size b c))) (omega arith) in
      let l = size_le (16 * (unit32 * (M * M * k))) (unit32 * (16 * k * (M * M))) z (scale_size unit32 (scale_size (16 * k) (one_size d e))) (omega arith) in
      recast (unit32 * (16 * k * (cross b c d e).p)) (unit32 * (16 * k * (cross b c d e).m)) (32 * (unit32 * (M * M * k))) (omega arith) (omega arith) (omega arith)
      (sub_approx (32 * (unit32 * (M * M * k))) (lit< tt) y z (omega arith) (omega (arith, fine.two)))

  -- a * (b * c - d * e), off by 65 of v
  abbrev pub triple : {xa xb xc xd xe : Float} → Coord M xa → Coord M xb → Coord M xc → Coord M xd → Coord M xe → Diff
  triple a b c d e = times a (cross b c d e)

  triple_size : {xa xb xc xd xe : Float} (a : Coord M xa) (b : Coord M xb) (c : Coord M xc) (d : Coord M xd) (e : Coord M xe)
      → Within (16 * k * (triple a b c d e).p) (16 * k * (triple a b c d e).m) (32 * v)
  triple_size a b c d e =
      let z = scale_size (16 * k) (turn_size (sg a) (sz a) M (cross b c d e).p (cross b c d e).m (2 * (M * M)) a.most (cross_size b c d e)) in
      record { hi = omega (arith, z.hi); lo = omega (arith, z.lo) }

  turn_scale : (s : Bool) (A K c d : ℕ) → turn_p s (A * (K * c)) (A * (K * d)) ≡ K * turn_p s (A * c) (A * d)
  turn_scale true A K c d = omega arith
  turn_scale false A K c d = omega arith

  -- where M is 0 every product is, and else v is large
  pub v_big : 0 < M → 2 ^ 53 ≤ v
  v_big h = le_trans sixteenth_big (omega (arith, mul-le-mul_right sixteenth (mul-pos (mul-pos h h) h)))

  none : (A D : ℕ) → A ≤ M → (A * D ≡ 0) ⊎ (2 ^ 53 ≤ 33 * v * 2)
  none A D l = go (eq-zero-or-pos M)
    where
      go : (M ≡ 0) ⊎ (0 < M) → (A * D ≡ 0) ⊎ (2 ^ 53 ≤ 33 * v * 2)
      go (inl z) = inl (ap (λ (x : ℕ). x * D) (zero' z) ∙ zero-mul D)
        where
          zero' : M ≡ 0 → A ≡ 0
          zero' e = omega arith
      go (inr h) = inr (omega (arith, v_big h))

  term : {xa xb xc xd xe : Float} (a : Coord M xa) (b : Coord M xb) (c : Coord M xc) (d : Coord M xd) (e : Coord M xe)
      → Approx 1 (mul binary64 xa (sub binary64 (mul binary64 xb xc) (mul binary64 xd xe))) (16 * k * (triple a b c d e).p) (16 * k * (triple a b c d e).m) (65 * v)
  term {xa} a b c d e =
      let r = cross_approx b c d e in
      let h = size_le (33 * (unit32 * (M * M * k))) (unit32 * (16 * k * (2 * (M * M)))) r (scale_size unit32 (scale_size (16 * k) (cross_size b c d e))) (omega arith) in
      let g = mul-le-mul a.most h in
      let g' : sz a * (32 * (unit32 * (M * M * k))) ≤ M * (32 * (unit32 * (M * M * k))) = mul-le-mul_right (32 * (unit32 * (M * M * k))) a.most in
      recast (16 * k * (triple a b c d e).p) (16 * k * (triple a b c d e).m) (65 * v)
      (turn_scale (sg a) (sz a) (16 * k) (cross b c d e).p (cross b c d e).m) (turn_scale (sg a) (sz a) (16 * k) (cross b c d e).m (cross b c d e).p) (omega arith)
      (mul_approx xa (sg a) (sz a) (16 * k * (cross b c d e).p) (16 * k * (cross b c d e).m) (33 * v) (32 * v)
      (subst (λ (z : ℕ). HasValue xa (sg a) (sz a) z) (sym unit32_is) a.held.is) r
      (omega (arith, g)) (omega (arith, g')) (none (sz a) r.size a.most) (omega (arith, fine.three)))

  -- the determinant, off by 359 of v, and 96 of v in size
  abbrev pub det : {xa xb xc : Float} {ya yb yc : Float} {za zb zc : Float} → Coord M xa → Coord M xb → Coord M xc → Coord M ya → Coord M yb → Coord M yc → Coord M za → Coord M zb → Coord M zc → Diff
  det a0 a1 a2 b0 b1 b2 c0 c1 c2 = plus_d (minus_d (triple a0 b1 c2 b2 c1) (triple a1 b0 c2 b2 c0)) (triple a2 b0 c1 b1 c0)

  abbrev pub det64 : Float → Float → Float → Float → Float → Float → Float → Float → Float → Float
  det64 a0 a1 a2 b0 b1 b2 c0 c1 c2 =
      add binary64
      (sub binary64
      (mul binary64 a0 (sub binary64 (mul binary64 b1 c2) (mul binary64 b2 c1)))
      (mul binary64 a1 (sub binary64 (mul binary64 b0 c2) (mul binary64 b2 c0))))
      (mul binary64 a2 (sub binary64 (mul binary64 b0 c1) (mul binary64 b1 c0)))

  module _ {xa0 xa1 xa2 xb0 xb1 xb2 xc0 xc1 xc2 : Float} (a0 : Coord M xa0) (a1 : Coord M xa1) (a2 : Coord M xa2) (b0 : Coord M xb0) (b1 : Coord M xb1) (b2 : Coord M xb2) (c0 : Coord M xc0)
      (c1 : Coord M xc1) (c2 : Coord M xc2) where
    abbrev D : Diff
    D = det a0 a1 a2 b0 b1 b2 c0 c1 c2

    pub det_size : Within (16 * k * D.p) (16 * k * D.m) (96 * v)
    det_size =
        let x = triple_size a0 b1 c2 b2 c1 in
        let y = triple_size a1 b0 c2 b2 c0 in
        let z = triple_size a2 b0 c1 b1 c0 in
        record { hi = omega (arith, x.hi, y.lo, z.hi); lo = omega (arith, x.lo, y.hi, z.lo) }

    pub det_approx : Approx 1 (det64 xa0 xa1 xa2 xb0 xb1 xb2 xc0 xc1 xc2) (16 * k * D.p) (16 * k * D.m) (359 * v)
    det_approx =
        let p = term a0 b1 c2 b2 c1 in
        let q = term a1 b0 c2 b2 c0 in
        let r = term a2 b0 c1 b1 c0 in
        let X = triple_size a0 b1 c2 b2 c1 in
        let Y = triple_size a1 b0 c2 b2 c0 in
        let p-le = size_le (33 * v) (32 * v) p X (omega arith) in
        let q-le = size_le (33 * v) (32 * v) q Y (omega arith) in
        let r-le = size_le (33 * v) (32 * v) r (triple_size a2 b0 c1 b1 c0) (omega arith) in
        let s = sub_approx (66 * v) (lit< tt) p q (omega arith) (omega (arith, fine.three)) in
        let s-le = size_le (65 * v) (64 * v) s (record { hi = omega (arith, X.hi, Y.lo); lo = omega (arith, X.lo, Y.hi) }) (omega arith) in
        recast (16 * k * D.p) (16 * k * D.m) (359 * v) (omega arith) (omega arith) (omega arith)
        (add_approx (98 * v) (lit< tt) s r (omega arith) (omega (arith, fine.three)))
