-- A walk finds each row once, and leaves the rows of earlier walks alone. Assumes nothing.
use Rattle.std.specs.Prelude.{◌≡◌, refl, ◌⊎◌, Bool, cond, T, eqb, ltb, length}
use Rattle.std.proofs.Common.{sym, ap, ◌∙◌, subst, inl, inr, not-suc-le-zero, le_of_suc-le-suc, eq-zero-or-pos, arith, ltb→lt, eqb→eq, length-set, length-append, get_or-set_same, get_or-set_other}
use mathlib.Core.List.{List, [], ◌∷◌, ◌++◌}
use Prim.Native.Nat.{ℕ, zero, suc, ◌+◌, ◌≤◌, ◌<◌}
use Rattle.std.proofs.Math.Bool.{true, false}
use Rattle.std.proofs.Math.ListN.{get_or, set}
use Rattle.turn_walk.specs.Walk.{Pair, Walk, Neighbour, unvisited, plain, opposite, meet, neighbours, visit, walk, inverted}
use Rattle.turn_walk.specs.Steps.{walk_stop}
use Rattle.turn_volume_rule.specs.Sign as Sign
use Rattle.turn_volume_rule.specs.Sign.{All}
use Rattle.turn_volume_rule.specs.Pairs.{all_append, all_at, all_map, Ends, neighbours_rows}

-- ---- colours
abbrev pub Two : ℕ → Type 0
Two c = (c ≡ 1) ⊎ (c ≡ 2)

pub two_opposite : (c : ℕ) → Two c → Two (opposite c)
two_opposite c (inl e) = inr (ap (λ (x : ℕ). opposite x) e)
two_opposite c (inr e) = inl (ap (λ (x : ℕ). opposite x) e)

pub two_pos : (c : ℕ) → Two c → 0 < c
two_pos c (inl e) = omega arith
two_pos c (inr e) = omega arith

-- how many have no colour yet
pub zeros : List ℕ → ℕ
zeros [] = 0
zeros (zero ∷ cs) = suc (zeros cs)
zeros (suc c ∷ cs) = zeros cs

zeros_le : (cs : List ℕ) → zeros cs ≤ length cs
unfolding zeros
zeros_le [] = omega arith
zeros_le (zero ∷ cs) = let h = zeros_le cs in omega arith
zeros_le (suc c ∷ cs) = let h = zeros_le cs in omega arith

zeros_set : (cs : List ℕ) (m c : ℕ) → m < length cs → get_or cs m 0 ≡ 0 → 0 < c → suc (zeros (set cs m c)) ≡ zeros cs
unfolding zeros
zeros_set [] m c l e h = absurd (not-suc-le-zero l)
zeros_set (zero ∷ cs) zero zero l e h = absurd (not-suc-le-zero h)
zeros_set (zero ∷ cs) zero (suc c) l e h = refl
zeros_set (suc x ∷ cs) zero c l e h = absurd (no e)
  where
    no : suc x ≡ 0 → ⊥
    no e = omega arith
zeros_set (zero ∷ cs) (suc m) c l e h = ap suc (zeros_set cs m c (le_of_suc-le-suc l) e h)
zeros_set (suc x ∷ cs) (suc m) c l e h = zeros_set cs m c (le_of_suc-le-suc l) e h

-- ---- distinct rows
pub data Distinct : List ℕ → Type 0 where
  none : Distinct []
  fresh : {n : ℕ} {ns : List ℕ} → All (λ k. k ≡ n → ⊥) ns → Distinct ns → Distinct (n ∷ ns)

append_fresh : (ns : List ℕ) (m : ℕ) → All (λ k. k ≡ m → ⊥) ns → Distinct ns → Distinct (ns ++ m ∷ [])
append_fresh [] m g d = fresh Sign.none none
append_fresh (n ∷ ns) m (Sign.more h g) (fresh f d) = fresh (all_append f (Sign.more (λ e. h (sym e)) Sign.none)) (append_fresh ns m g d)

module _ (P : ℕ → Type 0) (N : ℕ) (bounded : (n : ℕ) → P n → n < N) where
  -- a row found: it had no colour before, and has one
  pub record Found (before now : List ℕ) (n : ℕ) : Type 0 where
    pub is : P n
    pub new : get_or before n unvisited ≡ 0
    pub two : Two (get_or now n unvisited)

  pub record Walking (before : List ℕ) (w : Walk) : Type 0 where
    pub size : length w.colours ≡ N
    pub rows : All (Found before w.colours) w.rows
    pub distinct : Distinct w.rows
    pub others : (n : ℕ) → 0 < get_or before n unvisited → get_or w.colours n unvisited ≡ get_or before n unvisited
    pub count : length w.rows + zeros w.colours ≤ N

  apart : (before now : List ℕ) (m : ℕ) → get_or now m unvisited ≡ 0 → (n : ℕ) → Found before now n → n ≡ m → ⊥
  apart before now m e n f q = no (two_pos (get_or now n unvisited) f.two) (ap (λ (k : ℕ). get_or now k unvisited) q)
    where
      no : 0 < get_or now n unvisited → get_or now n unvisited ≡ get_or now m unvisited → ⊥
      no h k = omega arith

  still : (before now : List ℕ) (m c : ℕ) → get_or now m unvisited ≡ 0 → (n : ℕ) → Found before now n → Found before (set now m c) n
  still before now m c e n f = record { is = f.is; new = f.new; two = subst (λ (k : ℕ). Two k) (sym (get_or-set_other now m n c unvisited (apart before now m e n f))) f.two }

  meet_new : (before : List ℕ) (rows colours : List ℕ) (against against' m c : ℕ) → P m → Two c → Walking before (record { rows = rows; colours = colours; against = against })
      → get_or colours m unvisited ≡ 0
      → Walking before (record { rows = rows ++ m ∷ []; colours = set colours m c; against = against' })
  meet_new before rows colours against against' m c p t w e =
      let l : m < length colours = subst (λ (k : ℕ). m < k) (sym w.size) (bounded m p) in
      let b : get_or before m unvisited ≡ 0 = old (eq-zero-or-pos (get_or before m unvisited)) in
      record {
        size = length-set colours m c ∙ w.size;
        rows = all_append (all_map (still before colours m c e) w.rows)
            (Sign.more (record { is = p; new = b; two = subst (λ (k : ℕ). Two k) (sym (get_or-set_same colours m c unvisited l)) t }) Sign.none);
        distinct = append_fresh rows m (all_map (apart before colours m e) w.rows) w.distinct;
        others = λ n h. get_or-set_other colours m n c unvisited (λ q. differ n h b q) ∙ w.others n h;
        count = omega (arith, w.count, length-append rows (m ∷ []), zeros_set colours m c l e (two_pos c t));
      }
    where
      old : (get_or before m unvisited ≡ 0) ⊎ (0 < get_or before m unvisited) → get_or before m unvisited ≡ 0
      old (inl z) = z
      old (inr h) = sym (w.others m h) ∙ e

      differ : (n : ℕ) → 0 < get_or before n unvisited → get_or before m unvisited ≡ 0 → n ≡ m → ⊥
      differ n h b q = let k = ap (λ (j : ℕ). get_or before j unvisited) q in omega arith

  meet_walking : (before : List ℕ) (m c : ℕ) (w : Walk) → P m → Two c → Walking before w → Walking before (meet m c w)
  unfolding meet
  meet_walking before m c w p t g = go (eqb (get_or w.colours m unvisited) unvisited) (eqb→eq (get_or w.colours m unvisited) unvisited) (eqb (get_or w.colours m unvisited) c)
    where
      go : (a : Bool) → (T a → get_or w.colours m unvisited ≡ 0) → (b : Bool)
          → Walking before (cond a (record { rows = w.rows ++ m ∷ []; colours = set w.colours m c; against = w.against })
          (cond b w (record { rows = w.rows; colours = w.colours; against = w.against + 1 })))
      go true h b = meet_new before w.rows w.colours w.against w.against m c p t g (h tt)
      go false h true = g
      go false h false = record { size = g.size; rows = g.rows; distinct = g.distinct; others = g.others; count = g.count }

  pick_two : (b : Bool) (c : ℕ) → Two c → Two (cond b c (opposite c))
  pick_two true c t = t
  pick_two false c t = two_opposite c t

  visit_walking : (before : List ℕ) (c : ℕ) (ms : List Neighbour) (w : Walk) → All (λ (m : Neighbour). P m.row) ms → Two c → Walking before w → Walking before (visit c ms w)
  unfolding visit
  visit_walking before c [] w a t g = g
  visit_walking before c (m ∷ ms) w (Sign.more p a) t g =
      visit_walking before c ms (meet m.row (cond m.agreeing c (opposite c)) w) a t (meet_walking before m.row (cond m.agreeing c (opposite c)) w p (pick_two m.agreeing c t) g)

  pub walk_walking : (before : List ℕ) (pairs : List Pair) (fuel done : ℕ) (w : Walk) → All (Ends P) pairs → Walking before w → Walking before (walk pairs fuel done w)
  unfolding walk
  walk_walking before pairs zero done w e g = g
  walk_walking before pairs (suc fuel) done w e g =
      go (ltb done (length w.rows)) (ltb→lt done (length w.rows))
      (λ l. walk_walking before pairs fuel (done + 1) (visit (get_or w.colours (get_or w.rows done 0) unvisited) (neighbours (get_or w.rows done 0) pairs) w) e
      (visit_walking before (get_or w.colours (get_or w.rows done 0) unvisited) (neighbours (get_or w.rows done 0) pairs) w (neighbours_rows P (get_or w.rows done 0) pairs e)
      (all_at w.rows 0 g.rows done l).two g))
    where
      more : Walk
      more = let n = get_or w.rows done 0 in walk pairs fuel (done + 1) (visit (get_or w.colours n unvisited) (neighbours n pairs) w)

      pick : Bool → Walk
      pick b = elim b [ true ↦ more | false ↦ w ]

      go : (b : Bool) → (T b → done < length w.rows) → (done < length w.rows → Walking before more) → Walking before (pick b)
      go true h k = k (h tt)
      go false h k = g

  -- A walk with fuel for as many rows as there are ends for want of rows: more fuel changes nothing.
  pub fuel_enough : (before : List ℕ) (pairs : List Pair) (fuel more done : ℕ) (w : Walk) → All (Ends P) pairs → Walking before w → fuel ≤ more → N ≤ fuel + done
      → walk pairs more done w ≡ walk pairs fuel done w
  unfolding walk
  fuel_enough before pairs zero more done w e g l h = walk_stop pairs more done w (omega (arith, g.count))
  fuel_enough before pairs (suc fuel) zero done w e g l h = absurd (not-suc-le-zero l)
  fuel_enough before pairs (suc fuel) (suc more) done w e g l h =
      go (ltb done (length w.rows)) (ltb→lt done (length w.rows))
      (λ k. fuel_enough before pairs fuel more (done + 1) next e
      (visit_walking before (get_or w.colours (get_or w.rows done 0) unvisited) (neighbours (get_or w.rows done 0) pairs) w (neighbours_rows P (get_or w.rows done 0) pairs e)
      (all_at w.rows 0 g.rows done k).two g)
      (le_of_suc-le-suc l) (omega arith))
    where
      next : Walk
      next = visit (get_or w.colours (get_or w.rows done 0) unvisited) (neighbours (get_or w.rows done 0) pairs) w

      pick : ℕ → Bool → Walk
      pick k b = elim b [ true ↦ walk pairs k (done + 1) next | false ↦ w ]

      go : (b : Bool) → (T b → done < length w.rows) → (done < length w.rows → walk pairs more (done + 1) next ≡ walk pairs fuel (done + 1) next) → pick more b ≡ pick fuel b
      go true t k = k (t tt)
      go false t k = refl

  -- a walk begins at a row with no colour
  pub start_walking : (colours : List ℕ) (n against : ℕ) → length colours ≡ N → P n → get_or colours n unvisited ≡ 0
      → Walking colours (record { rows = n ∷ []; colours = set colours n plain; against = against })
  start_walking colours n against s p e =
      meet_new colours [] colours against against n plain p (inl refl) (record { size = s; rows = Sign.none; distinct = none; others = λ k h. refl; count = omega (arith, zeros_le colours, s) }) e

-- ---- inverting
pub length_inverted : (rows colours : List ℕ) → length (inverted rows colours) ≡ length colours
unfolding inverted
length_inverted [] colours = refl
length_inverted (n ∷ ns) colours = length_inverted ns (set colours n (opposite (get_or colours n unvisited))) ∙ length-set colours n (opposite (get_or colours n unvisited))

pub inverted_other : (rows colours : List ℕ) (n : ℕ) → All (λ k. k ≡ n → ⊥) rows → get_or (inverted rows colours) n unvisited ≡ get_or colours n unvisited
unfolding inverted
inverted_other [] colours n g = refl
inverted_other (k ∷ ks) colours n (Sign.more h g) =
    inverted_other ks (set colours k (opposite (get_or colours k unvisited))) n g ∙ get_or-set_other colours k n (opposite (get_or colours k unvisited)) unvisited (λ e. h (sym e))

pub inverted_rows : (rows colours : List ℕ) → Distinct rows → All (λ n. n < length colours) rows → All (λ n. get_or (inverted rows colours) n unvisited ≡ opposite (get_or colours n unvisited)) rows
unfolding inverted
inverted_rows [] colours d b = Sign.none
inverted_rows (n ∷ ns) colours (fresh f d) (Sign.more l b) =
    let c = opposite (get_or colours n unvisited) in
    let colours' = set colours n c in
    Sign.more (inverted_other ns colours' n f ∙ get_or-set_same colours n c unvisited l)
    (both ns (inverted ns colours') colours' f (inverted_rows ns colours' d (all_map (λ k h. subst (λ (j : ℕ). k < j) (sym (length-set colours n c)) h) b)))
  where
    both : (ks : List ℕ) (after colours' : List ℕ) → All (λ k. k ≡ n → ⊥) ks → All (λ k. get_or after k unvisited ≡ opposite (get_or (set colours n (opposite (get_or colours n unvisited))) k unvisited)) ks
        → All (λ k. get_or after k unvisited ≡ opposite (get_or colours k unvisited)) ks
    both [] after c' g h = Sign.none
    both (k ∷ ks) after c' (Sign.more q g) (Sign.more e h) =
        Sign.more (e ∙ ap (λ (x : ℕ). opposite x) (get_or-set_other colours n k (opposite (get_or colours n unvisited)) unvisited q)) (both ks after c' g h)
