-- Laws of clearing the colours and of inverting a group, which the proofs of this crate cite. Assumes nothing.
use mathlib.Core.Path.{◌≡◌, refl, sym, ap, subst, ◌∙◌}
use mathlib.Core.List.{List}
use Prim.Native.Nat.{ℕ, ◌+◌, ◌-◌, ◌*◌, ◌<◌, ◌≤◌}
use native.Mathlib.Omega.{arith}
use native.Mathlib.Numerals.{add-one}
use native.Mathlib.Decide.{ℕ_discrete}
use lib.ListN.{length, get_or, take, drop, set, replicate, length-replicate, length-set, drop_of_length-le}
use lib.Seq.{sets, get_or-set_same, get_or-set_other, take-set-lt, drop-set-add, drop-cons}
use Rattle.turn_walk.specs.Walk.{opposite, inverted}
use Rattle.turn_walk.specs.Area.{WrittenBetween}
use Rattle.turn_walk.specs.Group.{queue_of, colours_of, Colours, Queue, Uncoloured, Invertible, GroupInverted}
use Rattle.lists.specs.Stretches.{front_at, stretch_sets}
use Rattle.turn_walk.specs.Frames.{within_none, within_set, within_sets, within_more}
use Rattle.turn_walk.specs.Kept.{colour_at, queue_at, queue_long, zeros}

-- ---- clearing

-- colours that are 0 are those of rows that no walk has met
pub uncoloured : {n m : ℕ} {W E : List ℕ} → 5 * n + 3 * m ≤ length W → E ≡ sets W (5 * n + 2 * m) (replicate (5 * n + 2 * m + m - (5 * n + 2 * m)) 0) → Uncoloured n m W E
uncoloured {n} {m} {W} {E} room e =
    record {
      colours = all;
      known = record { known = λ y l. omega (arith, sym (colour_at n m E y l) ∙ ap (λ (c : List ℕ). get_or c y 0) all ∙ zeros m y) };
      within = subst (λ (F : List ℕ). WrittenBetween (5 * n + 2 * m) (5 * n + 3 * m) W F) (sym filled) (within_sets (replicate m 0) W (omega arith) (omega (arith, long)));
    }
  where
    gap : 5 * n + 2 * m + m - (5 * n + 2 * m) ≡ m
    gap = omega arith

    filled : E ≡ sets W (5 * n + 2 * m) (replicate m 0)
    filled = e ∙ ap (λ (k : ℕ). sets W (5 * n + 2 * m) (replicate k 0)) gap

    long : length (replicate {A = ℕ} m 0) ≡ m
    long = length-replicate m 0

    all : take m (drop (5 * n + 2 * m) E) ≡ replicate m 0
    all = ap (λ (F : List ℕ). take m (drop (5 * n + 2 * m) F)) filled ∙ stretch_sets W (5 * n + 2 * m) (replicate m 0) m long (omega arith)

-- ---- inverting, with the first k rows of the queue done

-- the rest of the queue is to be inverted
pub record Inverting (n m t : ℕ) (W : List ℕ) (k : ℕ) (E : List ℕ) : Type 0 where
  pub low : k ≤ t
  pub goes_on : inverted (drop k (queue_of n m t W)) (colours_of n m E) ≡ inverted (queue_of n m t W) (colours_of n m W)
  pub queue : Queue n m t E
  pub known : Colours n m E
  pub within : WrittenBetween (5 * n + 2 * m) (5 * n + 3 * m) W E
  pub long : length E ≡ length W

-- none
pub inverting_none : {n m t : ℕ} {W : List ℕ} → Invertible n m t W → Inverting n m t W 0 W
inverting_none {n} {m} {t} {W} q =
    record {
      low = omega arith;
      goes_on = refl;
      queue = q.queue;
      known = q.known;
      within = within_none (5 * n + 2 * m) (5 * n + 3 * m) W;
      long = refl;
    }

module _ {n m t k : ℕ} {W E : List ℕ} (q : Invertible n m t W) (f : Inverting n m t W k E) (l : k < t) where
  -- the next row and its colour
  pub row_in : get_or E (5 * n + m + k) 0 < m
  row_in = f.queue.rows k l

  -- its word stands in the area
  pub row_index : 5 * n + 2 * m + get_or E (5 * n + m + k) 0 < length E
  row_index = omega (arith, row_in, q.room, f.long)

  -- its colour is one of the three
  pub row_known : get_or E (5 * n + 2 * m + get_or E (5 * n + m + k) 0) 0 ≤ 2
  row_known = f.known.known (get_or E (5 * n + m + k) 0) row_in

  row_some : 0 < get_or E (5 * n + 2 * m + get_or E (5 * n + m + k) 0) 0
  row_some = f.queue.visited k l

  item : get_or (queue_of n m t W) k 0 ≡ get_or E (5 * n + m + k) 0
  item = queue_at n m t W k l ∙ sym (front_at (5 * n + 2 * m) (5 * n + m + k) W E 0 f.within.front (omega (arith, q.queue.low)))

  -- get the other colour
  module _ (r : ℕ) (e : r ≡ opposite (get_or E (5 * n + 2 * m + get_or E (5 * n + m + k) 0) 0)) where
    abbrev New : List ℕ
    New = set E (5 * n + 2 * m + get_or E (5 * n + m + k) 0) r

    word : (j : ℕ) → j < t → get_or New (5 * n + m + j) 0 ≡ get_or E (5 * n + m + j) 0
    word j h = get_or-set_other E (5 * n + 2 * m + get_or E (5 * n + m + k) 0) (5 * n + m + j) r 0 (omega (arith, f.queue.low))

    here : get_or New (5 * n + 2 * m + get_or E (5 * n + m + k) 0) 0 ≡ r
    here = get_or-set_same E (5 * n + 2 * m + get_or E (5 * n + m + k) 0) r 0 row_index

    there : (y : ℕ) → (y ≡ get_or E (5 * n + m + k) 0 → ⊥) → get_or New (5 * n + 2 * m + y) 0 ≡ get_or E (5 * n + 2 * m + y) 0
    there y d = get_or-set_other E (5 * n + 2 * m + get_or E (5 * n + m + k) 0) (5 * n + 2 * m + y) r 0 (omega arith)

    visited : (y : ℕ) → Dec (y ≡ get_or E (5 * n + m + k) 0) → 0 < get_or E (5 * n + 2 * m + y) 0 → 0 < get_or New (5 * n + 2 * m + y) 0
    visited y (yes d) h = omega (arith, ap (λ (z : ℕ). get_or New (5 * n + 2 * m + z) 0) d ∙ here, row_known, e)
    visited y (no d) h = omega (arith, there y d)

    known : (y : ℕ) → y < m → Dec (y ≡ get_or E (5 * n + m + k) 0) → get_or New (5 * n + 2 * m + y) 0 ≤ 2
    known y h (yes d) = omega (arith, ap (λ (z : ℕ). get_or New (5 * n + 2 * m + z) 0) d ∙ here, row_some, e)
    known y h (no d) = omega (arith, there y d, f.known.known y h)

    colours_new : colours_of n m New ≡ set (colours_of n m E) (get_or E (5 * n + m + k) 0) (opposite (get_or (colours_of n m E) (get_or E (5 * n + m + k) 0) 0))
    colours_new =
        ap (take m) (drop-set-add (5 * n + 2 * m) E (get_or E (5 * n + m + k) 0) r)
        ∙ take-set-lt m (drop (5 * n + 2 * m) E) (get_or E (5 * n + m + k) 0) r row_in
        ∙ ap (set (colours_of n m E) (get_or E (5 * n + m + k) 0)) (e ∙ ap opposite (sym (colour_at n m E (get_or E (5 * n + m + k) 0) row_in)))

    turn : inverted (drop (k + 1) (queue_of n m t W)) (colours_of n m New) ≡ inverted (drop k (queue_of n m t W)) (colours_of n m E)
    unfolding inverted
    turn =
        ap (inverted (drop (k + 1) (queue_of n m t W))) colours_new
        ∙ ap (λ (y : ℕ). inverted (drop (k + 1) (queue_of n m t W)) (set (colours_of n m E) y (opposite (get_or (colours_of n m E) y 0)))) (sym item)
        ∙ ap (λ (j : ℕ). inverted (drop j (queue_of n m t W)) (set (colours_of n m E) (get_or (queue_of n m t W) k 0) (opposite (get_or (colours_of n m E) (get_or (queue_of n m t W) k 0) 0)))) (add-one k)
        ∙ sym (ap (λ (rows : List ℕ). inverted rows (colours_of n m E)) (drop-cons (queue_of n m t W) k 0 (omega (arith, queue_long n m t W q.room q.queue.low))))

    pub inverting_more : Inverting n m t W (k + 1) New
    inverting_more =
        record {
          low = omega arith;
          goes_on = turn ∙ f.goes_on;
          queue =
              record {
                low = f.queue.low;
                rows = λ j h. subst (λ (y : ℕ). y < m) (sym (word j h)) (f.queue.rows j h);
                visited = λ j h.
                    subst (λ (y : ℕ). 0 < get_or New (5 * n + 2 * m + y) 0) (sym (word j h))
                    (visited (get_or E (5 * n + m + j) 0) (ℕ_discrete (get_or E (5 * n + m + j) 0) (get_or E (5 * n + m + k) 0)) (f.queue.visited j h));
              };
          known = record { known = λ y h. known y h (ℕ_discrete y (get_or E (5 * n + m + k) 0)) };
          within = within_more f.within (within_set r E (omega arith) (omega (arith, row_in)));
          long = simp length-set f.long;
        }

-- all
pub inverting_all : {n m t k : ℕ} {W E : List ℕ} → Invertible n m t W → Inverting n m t W k E → t ≤ k → GroupInverted n m t W E
unfolding inverted
inverting_all {n} {m} {t} {k} {W} {E} q f l =
    record {
      colours =
          sym
          (ap (λ (rows : List ℕ). inverted rows (colours_of n m E))
          (drop_of_length-le (queue_of n m t W) {i = k} (omega (arith, queue_long n m t W q.room q.queue.low))))
          ∙ f.goes_on;
      queue = f.queue;
      known = f.known;
      within = f.within;
    }
