-- The uses in the work area and the links of the chains: how each is read, and that they are kept. Assumes nothing.
use Rattle.std.specs.Prelude.{◌≡◌, refl, List, [], ◌∷◌, Bool, true, false, cond, ℕ, zero, suc, ◌+◌, ◌-◌, ◌*◌, ◌<◌, ◌≤◌, length, get_or, take, drop}
use Rattle.std.proofs.Common.{sym, ap, subst, ◌∙◌, arith, get_or-take, get_or-drop, take-take}
use Rattle.std.proofs.Math.Decide.{ℕ_discrete}
use Rattle.turn_walk.specs.Walk.{Neighbour}
use Rattle.turn_walk.specs.Uses.{Uses, own, far, touches, across, across_from, touch_records, touch_not_own, across_own, across_far}
use Rattle.turn_walk.specs.Area.{uses_of, Sound}
use Rattle.turn_walk.specs.Chains.{link_from, across_on, Chains, Chainable, Chained, Paired, LinkAt}
use Rattle.lists.specs.Stretches.{stretch_front, front_at, front_less}

-- the uses stand in the first 3 * n words
pub uses_front : (n j : ℕ) (W : List ℕ) → 3 * n ≤ j → uses_of n (take j W) ≡ uses_of n W
uses_front n j W h =
    λ i. record {
      count = n;
      first = take-take n j W (omega arith) i;
      row = stretch_front n n j W (omega arith) i;
      run = stretch_front (2 * n) n j W (omega arith) i;
    }

-- and are kept with them
pub uses_kept : (n : ℕ) (W E : List ℕ) → take (3 * n) E ≡ take (3 * n) W → uses_of n E ≡ uses_of n W
uses_kept n W E e = sym (uses_front n (3 * n) E (omega arith)) ∙ ap (uses_of n) e ∙ uses_front n (3 * n) W (omega arith)

-- reading a use
module _ (n : ℕ) (W : List ℕ) (i : ℕ) (l : i < n) where
  -- its first use
  pub first_at : get_or (uses_of n W).first i 0 ≡ get_or W i 0
  first_at = get_or-take n W i 0 l

  -- its row
  pub own_at : own (uses_of n W) i ≡ get_or W (n + i) 0
  own_at = get_or-take n (drop n W) i 0 l ∙ get_or-drop n W i 0

  -- its run
  pub run_at : get_or (uses_of n W).run i 0 ≡ get_or W (2 * n + i) 0
  run_at = get_or-take n (drop (2 * n) W) i 0 l ∙ get_or-drop (2 * n) W i 0

-- a first use is a use
pub first_there : {n m i : ℕ} {W : List ℕ} → Sound n m W → i < n → get_or W i 0 < n
first_there {n} {m} {i} {W} s l = rw (first_at n W i l) at (s.firsts i l)

-- the row that the code reads is the first use's
pub far_is : {n m i : ℕ} {W : List ℕ} → Sound n m W → i < n → get_or W (n + get_or W i 0) 0 ≡ far (uses_of n W) i
far_is {n} {m} {i} {W} s l =
    sym (own_at n W (get_or W i 0) (first_there s l)) ∙ ap (own (uses_of n W)) (sym (first_at n W i l))

-- sound uses stay sound
pub sound_kept : {n m : ℕ} {W E : List ℕ} → Sound n m W → uses_of n E ≡ uses_of n W → Sound n m E
sound_kept {n} {m} {W} {E} s e =
    record {
      firsts = subst (λ (u : Uses). (i : ℕ) → i < n → get_or u.first i 0 < n) (sym e) s.firsts;
      rows = subst (λ (u : Uses). (i : ℕ) → i < n → own u i < m) (sym e) s.rows;
    }

-- the pairs stand in the first 5 * n + m words
pub pairs_uses : (n m : ℕ) (W E : List ℕ) → take (5 * n + m) E ≡ take (5 * n + m) W → uses_of n E ≡ uses_of n W
pairs_uses n m W E e = uses_kept n W E (front_less (3 * n) (5 * n + m) W E e (omega arith))

-- Chains are kept where queue, colours or anything behind them is written.
pub paired_kept : {n m : ℕ} {W E : List ℕ} → Paired n m W → take (5 * n + m) E ≡ take (5 * n + m) W → length E ≡ length W → Paired n m E
paired_kept {n} {m} {W} {E} p e l =
    record {
      room = omega (arith, p.room);
      sound = sound_kept p.sound (pairs_uses n m W E e);
      chains = subst (λ (u : Uses). Chains n m 0 u E) (sym (pairs_uses n m W E e)) moved;
    }
  where
    moved : Chains n m 0 (uses_of n W) E
    moved =
        record {
          heads = λ x l. front_at (5 * n + m) (5 * n + x) W E 0 e (omega arith) ∙ p.chains.heads x l;
          owns = λ k a b t. front_at (5 * n + m) (3 * n + k) W E 0 e (omega arith) ∙ p.chains.owns k a b t;
          fars = λ k a b t. front_at (5 * n + m) (4 * n + k) W E 0 e (omega arith) ∙ p.chains.fars k a b t;
        }

-- what chaining leaves
pub paired_of : {n m : ℕ} {W E : List ℕ} → Chainable n m W → Chained n m 0 W E → length E ≡ length W → Paired n m E
paired_of g c l = record { room = omega (arith, g.room); sound = sound_kept g.sound c.uses; chains = c.chains }

-- chains stand over uses that can be chained
pub paired_given : {n m : ℕ} {W : List ℕ} → Paired n m W → Chainable n m W
paired_given p = record { room = p.room; sound = p.sound }

-- the link p, above i, leads to the neighbours l of row x
pub record Link (u : Uses) (x i : ℕ) (l : List Neighbour) (p : ℕ) : Type 0 where
  pub low : p ≤ u.count
  pub above : (p ≡ 0 → ⊥) → i < p
  pub touch : (p ≡ 0 → ⊥) → touches u x (p - 1) ≡ true
  pub list : across_on u x p ≡ l

-- no link leads nowhere
pub on_none : (u : Uses) (x : ℕ) → across_on u x 0 ≡ []
unfolding across_on
on_none u x = refl

-- any other leads across its use, and on
pub on_cons : (u : Uses) (x p : ℕ) → (p ≡ 0 → ⊥) → across_on u x p ≡ across u x (p - 1) ∷ across_from u x p (u.count - p)
unfolding across_on
on_cons u x zero h = absurd (h refl)
on_cons u x (suc k) h = ap (λ (j : ℕ). across u x j ∷ across_from u x (suc k) (u.count - suc k)) back
  where
    back : k ≡ suc k - 1
    back = omega arith

-- what the first link of a row leads to
pub link_is : (u : Uses) (x i d : ℕ) → i + d ≡ u.count → Link u x i (across_from u x i d) (link_from u x i d)
unfolding link_from across_from
link_is u x i zero e =
    record { low = omega arith; above = λ z. absurd (z refl); touch = λ z. absurd (z refl); list = on_none u x }
link_is u x i (suc d) e = go (touches u x i) refl (link_is u x (i + 1) d (omega arith))
  where
    back : i ≡ i + 1 - 1
    back = omega arith

    left : u.count - (i + 1) ≡ d
    left = omega arith

    go : (b : Bool) → touches u x i ≡ b → Link u x (i + 1) (across_from u x (i + 1) d) (link_from u x (i + 1) d)
        → Link u x i (cond b (across u x i ∷ across_from u x (i + 1) d) (across_from u x (i + 1) d)) (cond b (i + 1) (link_from u x (i + 1) d))
    go true t ih =
        record {
          low = omega arith;
          above = λ _. omega arith;
          touch = λ _. ap (touches u x) (sym back) ∙ t;
          list =
              on_cons u x (i + 1) (λ z. omega arith)
              ∙ ap (λ (j : ℕ). across u x j ∷ across_from u x (i + 1) (u.count - (i + 1))) (sym back)
              ∙ ap (λ (k : ℕ). across u x i ∷ across_from u x (i + 1) k) left;
        }
    go false t ih =
        record { low = ih.low; above = λ z. omega (arith, ih.above z); touch = ih.touch; list = ih.list }

-- what walking the chain of row x lists
pub whole_chain : {n m : ℕ} {W : List ℕ} → Paired n m W → (x : ℕ) → x < m → Link (uses_of n W) x 0 (across_from (uses_of n W) x 0 n) (get_or W (5 * n + x) 0)
whole_chain {n} {m} {W} p x l =
    subst (Link (uses_of n W) x 0 (across_from (uses_of n W) x 0 n)) (ap (link_from (uses_of n W) x 0) less ∙ sym (p.chains.heads x l))
    (link_is (uses_of n W) x 0 n (omega arith))
  where
    less : n ≡ n - 0
    less = omega arith

-- the next link of a row's chain, by the test of the code
module _ {n m x p : ℕ} {W : List ℕ} (a : LinkAt n m x p W) where
  -- the use that the link names
  pub in_uses : p - 1 < n
  in_uses = omega (arith, a.on.low)

  to_p : (y : ℕ) → link_from (uses_of n W) y (p - 1 + 1) (n - (p - 1 + 1)) ≡ link_from (uses_of n W) y p (n - p)
  to_p y = ap (λ (k : ℕ). link_from (uses_of n W) y k (n - k)) same
    where
      same : p - 1 + 1 ≡ p
      same = omega arith

  -- at its own row
  pub next_own : get_or W (n + (p - 1)) 0 ≡ x → get_or W (3 * n + (p - 1)) 0 ≡ link_from (uses_of n W) x p (n - p)
  next_own e =
      a.paired.chains.owns (p - 1) (omega arith) in_uses (touch_records (uses_of n W) (p - 1) x (a.on.touch a.some)) ∙ to_p (own (uses_of n W) (p - 1))
      ∙ ap (λ (y : ℕ). link_from (uses_of n W) y p (n - p)) (own_at n W (p - 1) in_uses ∙ e)

  -- at the first use's row
  pub next_far : (get_or W (n + (p - 1)) 0 ≡ x → ⊥) → get_or W (4 * n + (p - 1)) 0 ≡ link_from (uses_of n W) x p (n - p)
  next_far e =
      a.paired.chains.fars (p - 1) (omega arith) in_uses (touch_records (uses_of n W) (p - 1) x (a.on.touch a.some)) ∙ to_p (far (uses_of n W) (p - 1))
      ∙ ap (λ (y : ℕ). link_from (uses_of n W) y p (n - p))
      (touch_not_own (uses_of n W) (p - 1) x (a.on.touch a.some) (λ z. e (sym (own_at n W (p - 1) in_uses) ∙ z)))

-- a pair leads to a row
pub across_in : {n m i : ℕ} {W : List ℕ} → Paired n m W → i < n → (x : ℕ) → (across (uses_of n W) x i).row < m
across_in {n} {m} {i} {W} p l x = go (ℕ_discrete (own (uses_of n W) i) x)
  where
    go : Dec (own (uses_of n W) i ≡ x) → (across (uses_of n W) x i).row < m
    go (yes e) = rw (across_own (uses_of n W) i x e) (p.sound.rows (get_or (uses_of n W).first i 0) (p.sound.firsts i l))
    go (no e) = rw (across_far (uses_of n W) i x e) (p.sound.rows i l)
