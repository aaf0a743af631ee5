-- The groups in the work area: what a walk finds there, and what inverting changes. Assumes nothing.
use Rattle.std.specs.Prelude.{◌≡◌, refl, List, [], ◌∷◌, Bool, true, false, cond, ℕ, zero, suc, ◌+◌, ◌<◌, ◌≤◌, length, get_or, set, eqb}
use Rattle.std.proofs.Common.{sym, ap, subst, ◌∙◌, arith, length-set, get_or-set_same, get_or-set_other, eq-eqb, ne_eqb}
use Rattle.std.proofs.Math.Option.{some}
use Rattle.std.proofs.Math.Decide.{ℕ_discrete, dec_lt}
use Rattle.std.proofs.Math.ListN.{get_or-eq_default}
use Rattle.lists.specs.Lists.{item_at}
use Rattle.turn_walk.specs.Walk.{Neighbour, opposite, inverted}
use Rattle.turn_walk.specs.Uses.{touches, across, across_from, pairs_by}
use Rattle.turn_walk.proofs.Uses.{neighbours_across}
use Rattle.turn_walk.specs.Area.{uses_of}
use Rattle.turn_walk.specs.Chains.{Paired}
use Rattle.turn_walk.specs.Group.{colours_of, Rooted, walk_from}
use Rattle.turn_walk.specs.Links.{across_in}
use Rattle.turn_walk.specs.Kept.{colour_at, colours_long}
use Rattle.turn_walk.proofs.Found.{group_found}
use Rattle.turn_walk.specs.Found.{times, Inside, Found}

-- ---- what a walk finds

-- where the pairs of the d uses from i on lead
across_inside : {n m : ℕ} {W : List ℕ} → Paired n m W → (x i d : ℕ) → i + d ≤ n → (j : ℕ) (b : Neighbour)
    → item_at (across_from (uses_of n W) x i d) j ≡ some b → b.row < m
unfolding across_from item_at
across_inside p x i zero l j b e = absurd (let z : ◌≡◌ {A = ℕ} 0 1 = cc in omega arith)
across_inside {n} {m} {W} p x i (suc d) l j b e =
    go (touches (uses_of n W) x i) j (λ k c. across_inside p x (i + 1) d (omega arith) k b c) e
  where
    go : (t : Bool) (j : ℕ) → ((k : ℕ) → item_at (across_from (uses_of n W) x (i + 1) d) k ≡ some b → b.row < m)
        → item_at (cond t (across (uses_of n W) x i ∷ across_from (uses_of n W) x (i + 1) d) (across_from (uses_of n W) x (i + 1) d)) j ≡ some b → b.row < m
    go false j ih e = ih j e
    go true zero ih e = let same : across (uses_of n W) x i ≡ b = cc in subst (λ (k : Neighbour). k.row < m) same (across_in p (omega arith) x)
    go true (suc j) ih e = ih j e

-- the pairs of the uses lead to rows
pub pairs_inside : {n m : ℕ} {W : List ℕ} → Paired n m W → Inside m (pairs_by (uses_of n W))
pairs_inside {n} {m} {W} p =
    record {
      rows = λ x j b e. across_inside p x 0 n (omega arith) j b (sym (ap (λ (l : List Neighbour). item_at l j) (neighbours_across (uses_of n W) x 0 n)) ∙ e);
    }

-- The walk from a root finds each row of its group once, and no pair leads from it to an unvisited row.
pub walked_found : {n m root a : ℕ} {W : List ℕ} → Rooted n m root a W → Found m (pairs_by (uses_of n W)) (colours_of n m W) (walk_from n m root a W)
walked_found {n} {m} {root} {a} {W} r =
    group_found (colours_of n m W) root a (pairs_inside r.at.paired) long (λ x. known x (dec_lt x m)) r.at.inside
    (colour_at n m W root r.at.inside ∙ r.at.fresh)
  where
    long : length (colours_of n m W) ≡ m
    long = colours_long n m W r.at.paired.room

    known : (x : ℕ) → Dec (x < m) → get_or (colours_of n m W) x 0 ≤ 2
    known x (yes l) = omega (arith, colour_at n m W x l, r.at.known.known x l)
    known x (no l) = omega (arith, get_or-eq_default (colours_of n m W) 0 {n = x} (omega (arith, long)))

-- ---- what inverting changes

-- a row outside keeps its colour
pub inverted_out : (rows C : List ℕ) (y : ℕ) → times y rows ≡ 0 → get_or (inverted rows C) y 0 ≡ get_or C y 0
unfolding inverted times
inverted_out [] C y e = refl
inverted_out (x ∷ xs) C y e = go (ℕ_discrete y x) (inverted_out xs (set C x (opposite (get_or C x 0))) y) e
  where
    go : Dec (y ≡ x) → (times y xs ≡ 0 → get_or (inverted xs (set C x (opposite (get_or C x 0)))) y 0 ≡ get_or (set C x (opposite (get_or C x 0))) y 0)
        → cond (eqb y x) (suc (times y xs)) (times y xs) ≡ 0 → get_or (inverted xs (set C x (opposite (get_or C x 0)))) y 0 ≡ get_or C y 0
    go (yes q) ih = rw (eq-eqb y x q) (λ z. absurd (omega arith))
    go (no q) ih = rw (ne_eqb y x q) (λ z. ih z ∙ get_or-set_other C x y (opposite (get_or C x 0)) 0 q)

-- a row that was found once has the other
pub inverted_in : (rows C : List ℕ) (y : ℕ) → y < length C → times y rows ≡ 1 → get_or (inverted rows C) y 0 ≡ opposite (get_or C y 0)
unfolding inverted times
inverted_in [] C y l e = absurd (omega arith)
inverted_in (x ∷ xs) C y l e =
    go (ℕ_discrete y x) (inverted_in xs (set C x (opposite (get_or C x 0))) y (simp length-set l)) (inverted_out xs (set C x (opposite (get_or C x 0))) y) e
  where
    go : Dec (y ≡ x) → (times y xs ≡ 1 → get_or (inverted xs (set C x (opposite (get_or C x 0)))) y 0 ≡ opposite (get_or (set C x (opposite (get_or C x 0))) y 0))
        → (times y xs ≡ 0 → get_or (inverted xs (set C x (opposite (get_or C x 0)))) y 0 ≡ get_or (set C x (opposite (get_or C x 0))) y 0)
        → cond (eqb y x) (suc (times y xs)) (times y xs) ≡ 1 → get_or (inverted xs (set C x (opposite (get_or C x 0)))) y 0 ≡ opposite (get_or C y 0)
    go (yes q) ih out =
        rw (eq-eqb y x q)
        (λ z.
        out (omega arith)
        ∙ ap (λ (k : ℕ). get_or (set C x (opposite (get_or C x 0))) k 0) q
        ∙ get_or-set_same C x (opposite (get_or C x 0)) 0 (subst (λ (k : ℕ). k < length C) q l)
        ∙ ap (λ (k : ℕ). opposite (get_or C k 0)) (sym q))
    go (no q) ih out = rw (ne_eqb y x q) (λ z. ih z ∙ ap opposite (get_or-set_other C x y (opposite (get_or C x 0)) 0 q))
