-- If E is further from zero than the bound, V has its sign, and the group as turn leaves it has E, sign dropped. Assumes nothing.
use Rattle.turn_volume_rule.specs.Outward.{Positive}
use Rattle.std.specs.Prelude.{◌≡◌, refl, ◌⊎◌, List, map, ℕ, suc, ◌+◌, ◌*◌, ◌/◌, ◌^◌, ◌≤◌, ◌<◌, Bool, true, false, not, ◌&&◌, ◌||◌, T, leb, ltb, get_or, ℤ, pos, negsuc, neg_ℤ, nat_abs, ◌-ℤ◌, ◌*ℤ◌, Float}
use Rattle.std.proofs.Common.{sym, ap, ◌∙◌, subst, inl, inr, eq-zero-or-pos, zero-mul, arith, leb→le, lt-ltb, le-ltb}
use Rattle.std.proofs.Math.Nat.{zero-div}
use Rattle.std.proofs.Math.Dec.{nleb→lt, eqb_refl}
use Rattle.std.specs.Float.{nan, inf, fin}
use Rattle.std.specs.Float.Ieee.{up, down, lt, of_bits}
use Rattle.std.specs.Float.Ieee.Fits.{and_r}
use Rattle.point_rules.specs.Points.{sameℤ}
use Rattle.body_rows.specs.Body.{Patch}
use Rattle.patch_geometry.specs.Geometry.{zero64}
use Rattle.turn_definition.specs.Groups.{Group}
use Rattle.turn_definition.specs.Inversion.{indices_on, inverts}
use Rattle.turn_definition.specs.Reversal.{turned_body}
use Rattle.turn_walk.specs.Walk.{coloured, plain, unvisited}
use Rattle.turn_volume_rule.specs.Exact.{whole_of, is_whole, exact_rows, exact_volume, bound, volume_of, within_bound, exact_left, volume_left, left_outward}
use Rattle.turn_volume_rule.specs.Ints.{Is, above, below, is_pos, is_neg, is_sub, is_mul, is_same}
use Rattle.turn_volume_rule.proofs.Bound.{times_unit}
use Rattle.turn_volume_rule.specs.Sign.{is_self, opposed, Settled, All, rows_left}

-- ---- the sign of a value
some_of : (a k d : ℕ) → 0 < a * k / d → 0 < a
some_of a k d h = go (eq-zero-or-pos a)
  where
    go : (a ≡ 0) ⊎ (0 < a) → 0 < a
    go (inr l) = l
    go (inl e) = absurd (no (ap (λ (x : ℕ). x * k / d) e ∙ ap (λ (x : ℕ). x / d) (zero-mul k) ∙ zero-div d))
      where
        no : a * k / d ≡ 0 → ⊥
        no e = omega arith

never : {n : ℕ} → n < n → ⊥
never h = omega arith

pub positive : (x : Float) → below (whole_of 1074 x) < above (whole_of 1074 x) → Positive x
unfolding whole_of lt of_bits
positive nan h = absurd (never h)
positive (inf s) h = absurd (never h)
positive (fin true m e) h = absurd (no (m * up e * 2 ^ 1074 / down e) h)
  where
    no : (q : ℕ) → below (neg_ℤ (pos q)) < above (neg_ℤ (pos q)) → ⊥
    no q h = omega (arith, (is_neg (pos q) (is_pos q)).eq)
positive (fin false m e) h =
    let l : 0 < m * up e = some_of (m * up e) (2 ^ 1074) (down e) h in
    record { no = le-ltb (m * up e * 1) (0 * 1 * down e) (omega arith); yes = lt-ltb (0 * 1 * down e) (m * up e * 1) (omega arith) }

pub negative : (x : Float) → above (whole_of 1074 x) < below (whole_of 1074 x) → lt x zero64 ≡ true
unfolding whole_of lt of_bits
negative nan h = absurd (never h)
negative (inf s) h = absurd (never h)
negative (fin true m e) h = lt-ltb _ _ (go (m * up e) (some_of (m * up e) (2 ^ 1074) (down e) (some (m * up e * 2 ^ 1074 / down e) h)))
  where
    some : (q : ℕ) → above (neg_ℤ (pos q)) < below (neg_ℤ (pos q)) → 0 < q
    some q h = omega (arith, (is_neg (pos q) (is_pos q)).eq)

    go : (a : ℕ) → 0 < a → 0 < a * 1 + 0 * 1 * down e
    go a h = omega arith
negative (fin false m e) h = absurd (no (m * up e * 2 ^ 1074 / down e) h)
  where
    no : (q : ℕ) → q < 0 → ⊥
    no q h = omega arith

-- ---- both parts of a number are within its size
abs_ge : (z : ℤ) {p m : ℕ} → Is z p m → (p ≤ m + nat_abs z) × (m ≤ p + nat_abs z)
abs_ge (pos a) h = (omega (arith, h.eq), omega (arith, h.eq))
abs_ge (negsuc a) h = (omega (arith, h.eq), omega (arith, h.eq))

six_sign : (y F : ℤ) (B : ℕ) → nat_abs (y *ℤ pos 6 -ℤ F) ≤ B → (below F + B < above F → below y < above y) × (above F + B < below F → above y < below y)
six_sign y F B h =
    let w = is_mul y (pos 6) (is_self y) (is_pos 6) in
    let d = abs_ge (y *ℤ pos 6 -ℤ F) (is_sub (y *ℤ pos 6) F w (is_self F)) in
    (λ l. omega (arith, d.0, d.1), λ l. omega (arith, d.0, d.1))

inverts_up : (x : Float) (rest : Bool) → Positive x → (lt x zero64 || (not (lt zero64 x) && rest)) ≡ false
inverts_up x rest p = (λ i. p.no i || (not (p.yes i) && rest))

inverts_down : (x : Float) (rest : Bool) → lt x zero64 ≡ true → (lt x zero64 || (not (lt zero64 x) && rest)) ≡ true
inverts_down x rest p = λ i. p i || (not (lt zero64 x) && rest)

-- F is E, in V's units
outward : (x : Float) (F : ℤ) (B : ℕ) (rest : Bool) → nat_abs (whole_of 1074 x *ℤ pos 6 -ℤ F) ≤ B
    → T (leb (nat_abs F) B || sameℤ (opposed (lt x zero64 || (not (lt zero64 x) && rest)) F) (pos (nat_abs F)))
outward x F B rest h = go F (six_sign (whole_of 1074 x) F B h) (leb (nat_abs F) B) (nleb→lt (nat_abs F) B)
  where
    go : (F : ℤ) → (below F + B < above F → below (whole_of 1074 x) < above (whole_of 1074 x)) × (above F + B < below F → above (whole_of 1074 x) < below (whole_of 1074 x))
        → (b : Bool) → (T (not b) → B < nat_abs F) → T (b || sameℤ (opposed (lt x zero64 || (not (lt zero64 x) && rest)) F) (pos (nat_abs F)))
    go F s true k = tt
    go (pos n) s false k = subst (λ (b : Bool). T (sameℤ (opposed b (pos n)) (pos n))) (sym (inverts_up x rest (positive x (s.0 (omega (arith, k tt)))))) (eqb_refl n)
    go (negsuc n) s false k = subst (λ (b : Bool). T (sameℤ (opposed b (negsuc n)) (pos (suc n)))) (sym (inverts_down x rest (negative x (s.1 (omega (arith, k tt)))))) (eqb_refl (suc n))

opposed_times : (f : Bool) (z : ℤ) (u : ℕ) → opposed f z *ℤ pos u ≡ opposed f (z *ℤ pos u)
opposed_times false z u = refl
opposed_times true z u = is_same (neg_ℤ z *ℤ pos u) (neg_ℤ (z *ℤ pos u)) (times_unit u (neg_ℤ z) (is_neg z (is_self z))) (is_neg (z *ℤ pos u) (times_unit u z (is_self z)))

-- ---- a group
pub left_outward_lem : (patches : List Patch) (cols final : List ℕ) (rows : List ℕ) (x : Float)
    → T (within_bound patches (record { rows = rows; colours = map (λ n. get_or cols n unvisited) rows; volume = x }))
    → All (Settled patches cols final (inverts patches cols rows x)) rows
    → T (left_outward patches (turned_body final patches) (record { rows = rows; colours = map (λ n. get_or cols n unvisited) rows; volume = x }))
unfolding within_bound volume_of exact_volume volume_left left_outward inverts
left_outward_lem patches cols final rows x h s =
    let E = exact_rows patches rows (map (λ n. get_or cols n unvisited) rows) in
    let g : Group = record { rows = rows; colours = map (λ n. get_or cols n unvisited) rows; volume = x } in
    let rest = ltb (indices_on patches cols plain rows) (indices_on patches cols coloured rows) in
    let flip = lt x zero64 || (not (lt zero64 x) && rest) in
    let e : exact_left (turned_body final patches) rows *ℤ pos (2 ^ 627) ≡ opposed flip (E *ℤ pos (2 ^ 627)) = ap (λ (z : ℤ). z *ℤ pos (2 ^ 627)) (rows_left patches cols final flip rows s)
    ∙ opposed_times flip E (2 ^ 627) in
    subst (λ (z : ℤ). T (leb (nat_abs (E *ℤ pos (2 ^ 627))) (bound patches g) || sameℤ z (pos (nat_abs (E *ℤ pos (2 ^ 627)))))) (sym e)
    (outward x (E *ℤ pos (2 ^ 627)) (bound patches g) rest (leb→le _ _ (and_r (is_whole 1074 x) _ h)))
