-- How many rows are visited, as one more gets a colour. Assumes nothing.
use Rattle.std.specs.Prelude.{◌≡◌, List, [], ◌∷◌, Bool, true, false, cond, ℕ, zero, suc, ◌<◌, ◌≤◌, length, get_or, set, eqb}
use Rattle.std.proofs.Common.{ap, arith, not-suc-le-zero, le_of_suc-le-suc, eq-eqb, ne_eqb}
use Rattle.turn_walk.specs.Group.{visited_in}

-- what holds in both cases
pub cond_of : {A : Type 0} (P : A → Type 0) (b : Bool) {x y : A} → P x → P y → P (cond b x y)
cond_of P true p q = p
cond_of P false p q = q

-- at most all
pub visited_le : (l : List ℕ) → visited_in l ≤ length l
unfolding visited_in
visited_le [] = omega arith
visited_le (x ∷ l) = cond_of (λ z. z ≤ suc (length l)) (eqb x 0) (omega (arith, visited_le l)) (omega (arith, visited_le l))

-- not all, if one is unvisited
pub visited_lt : (l : List ℕ) (v : ℕ) → v < length l → get_or l v 0 ≡ 0 → visited_in l < length l
unfolding visited_in
visited_lt [] v h e = absurd (not-suc-le-zero h)
visited_lt (x ∷ l) zero h e = rw (eq-eqb x 0 e) (omega (arith, visited_le l))
visited_lt (x ∷ l) (suc v) h e =
    let ih = visited_lt l v (le_of_suc-le-suc h) e in
    cond_of (λ z. z < suc (length l)) (eqb x 0) (omega arith) (omega arith)

-- one more, if an unvisited row gets a colour
pub visited_set : (l : List ℕ) (v c : ℕ) → v < length l → get_or l v 0 ≡ 0 → 0 < c → visited_in (set l v c) ≡ suc (visited_in l)
unfolding visited_in
visited_set [] v c h e p = absurd (not-suc-le-zero h)
visited_set (x ∷ l) zero c h e p = rw (eq-eqb x 0 e, ne_eqb c 0 (omega arith))
visited_set (x ∷ l) (suc v) c h e p = go (eqb x 0) (visited_set l v c (le_of_suc-le-suc h) e p)
  where
    go : (b : Bool) → visited_in (set l v c) ≡ suc (visited_in l)
        → cond b (visited_in (set l v c)) (suc (visited_in (set l v c))) ≡ suc (cond b (visited_in l) (suc (visited_in l)))
    go true ih = ih
    go false ih = ap suc ih
