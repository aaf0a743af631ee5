-- Laws of meeting a row and of starting a group, which the proofs of this crate cite. Assumes nothing.
use mathlib.Core.Path.{◌≡◌, refl, sym, ap, subst, ◌∙◌}
use mathlib.Core.List.{List, [], ◌∷◌, ◌++◌}
use Prim.Native.Nat.{ℕ, ◌+◌, ◌*◌, ◌<◌, ◌≤◌}
use native.Mathlib.Omega.{arith}
use native.Mathlib.Nat.{not-suc-le-zero}
use native.Mathlib.Numerals.{add-one}
use native.Mathlib.Decide.{ℕ_discrete}
use lib.ListN.{length, get_or, take, drop, set, length-set, length-drop}
use lib.Seq.{get_or-set_same, get_or-set_other, take-set-le, take-set-lt, drop-set-lt, drop-set-add, take-suc-set}
use borrow.Author.Tests.{eq-eqb, ne_eqb}
use borrow.Author.Count.{below_more}
use Rattle.turn_walk.specs.Walk.{meet}
use Rattle.turn_walk.specs.Area.{WrittenBetween}
use Rattle.turn_walk.specs.Group.{queue_of, colours_of, walk_of, RootAt, visited_in, UnderWay, Stage, MeetAt, Started}
use Rattle.turn_walk.specs.Frames.{within_none, within_set, within_more}
use Rattle.turn_walk.specs.Links.{paired_kept}
use Rattle.turn_walk.specs.Kept.{colour_at, colours_long}
use Rattle.turn_walk.specs.Visited.{visited_lt, visited_set}

-- ---- an unvisited row x goes to the queue's end and gets the colour c

module _ {n m t x c : ℕ} {W : List ℕ} (s : UnderWay n m t W) (lx : x < m) (pos : 0 < c) (two : c ≤ 2) (e : get_or W (5 * n + 2 * m + x) 0 ≡ 0) where
  abbrev New : List ℕ
  New = set (set W (5 * n + m + t) x) (5 * n + 2 * m + x) c

  long : length (colours_of n m W) ≡ m
  long = colours_long n m W s.room

  -- there is room for it in the queue
  space : t < m
  space = omega (arith, s.fewer, long, visited_lt (colours_of n m W) x (omega (arith, long)) (colour_at n m W x lx ∙ e))

  place : 5 * n + 2 * m + x ≡ 5 * n + m + (m + x)
  place = omega arith

  queue_new : queue_of n m (t + 1) New ≡ queue_of n m t W ++ x ∷ []
  queue_new =
      ap (λ (k : ℕ). take (t + 1) (drop (5 * n + m) (set (set W (5 * n + m + t) x) k c))) place
      ∙ ap (take (t + 1)) (drop-set-add (5 * n + m) (set W (5 * n + m + t) x) (m + x) c)
      ∙ take-set-le (t + 1) (drop (5 * n + m) (set W (5 * n + m + t) x)) (m + x) c (omega (arith, space))
      ∙ ap (take (t + 1)) (drop-set-add (5 * n + m) W t x)
      ∙ rw add-one (take-suc-set (drop (5 * n + m) W) t x (simp length-drop (omega (arith, space, s.room))))

  colours_new : colours_of n m New ≡ set (colours_of n m W) x c
  colours_new =
      ap (take m)
      (drop-set-add (5 * n + 2 * m) (set W (5 * n + m + t) x) x c
      ∙ ap (λ (l : List ℕ). set l x c) (drop-set-lt (5 * n + 2 * m) W (5 * n + m + t) x (omega (arith, space))))
      ∙ take-set-lt m (drop (5 * n + 2 * m) W) x c lx

  item_old : (k : ℕ) → k < t → get_or New (5 * n + m + k) 0 ≡ get_or W (5 * n + m + k) 0
  item_old k l =
      get_or-set_other (set W (5 * n + m + t) x) (5 * n + 2 * m + x) (5 * n + m + k) c 0 (omega (arith, space))
      ∙ get_or-set_other W (5 * n + m + t) (5 * n + m + k) x 0 (omega arith)

  item_new : get_or New (5 * n + m + t) 0 ≡ x
  item_new =
      get_or-set_other (set W (5 * n + m + t) x) (5 * n + 2 * m + x) (5 * n + m + t) c 0 (omega (arith, space))
      ∙ get_or-set_same W (5 * n + m + t) x 0 (omega (arith, space, s.room))

  colour_new : get_or New (5 * n + 2 * m + x) 0 ≡ c
  colour_new = get_or-set_same (set W (5 * n + m + t) x) (5 * n + 2 * m + x) c 0 (simp length-set (omega (arith, s.room)))

  colour_old : (y : ℕ) → (y ≡ x → ⊥) → get_or New (5 * n + 2 * m + y) 0 ≡ get_or W (5 * n + 2 * m + y) 0
  colour_old y q =
      get_or-set_other (set W (5 * n + m + t) x) (5 * n + 2 * m + x) (5 * n + 2 * m + y) c 0 (omega arith)
      ∙ get_or-set_other W (5 * n + m + t) (5 * n + 2 * m + y) x 0 (omega (arith, space))

  visited : (y : ℕ) → Dec (y ≡ x) → 0 < get_or W (5 * n + 2 * m + y) 0 → 0 < get_or New (5 * n + 2 * m + y) 0
  visited y (yes q) h = omega (arith, ap (λ (k : ℕ). get_or New (5 * n + 2 * m + k) 0) q ∙ colour_new)
  visited y (no q) h = omega (arith, colour_old y q)

  known : (y : ℕ) → y < m → Dec (y ≡ x) → get_or New (5 * n + 2 * m + y) 0 ≤ 2
  known y l (yes q) = omega (arith, ap (λ (k : ℕ). get_or New (5 * n + 2 * m + k) 0) q ∙ colour_new)
  known y l (no q) = omega (arith, colour_old y q, s.known.known y l)

  new_under : UnderWay n m (t + 1) New
  new_under =
      record {
        room = simp length-set s.room;
        queue =
            record {
              low = omega (arith, space);
              rows =
                  below_more (λ k. get_or New (5 * n + m + k) 0 < m) t
                  (λ k l. subst (λ (y : ℕ). y < m) (sym (item_old k l)) (s.queue.rows k l))
                  (subst (λ (y : ℕ). y < m) (sym item_new) lx);
              visited =
                  below_more (λ k. 0 < get_or New (5 * n + 2 * m + get_or New (5 * n + m + k) 0) 0) t
                  (λ k l.
                  subst (λ (y : ℕ). 0 < get_or New (5 * n + 2 * m + y) 0) (sym (item_old k l))
                  (visited (get_or W (5 * n + m + k) 0) (ℕ_discrete (get_or W (5 * n + m + k) 0) x) (s.queue.visited k l)))
                  (subst (λ (y : ℕ). 0 < get_or New (5 * n + 2 * m + y) 0) (sym item_new) (omega (arith, colour_new)));
            };
        known = record { known = λ y l. known y l (ℕ_discrete y x) };
        fewer =
            omega (
              arith,
              s.fewer,
              ap visited_in colours_new ∙ visited_set (colours_of n m W) x c (omega (arith, long)) (colour_at n m W x lx ∙ e) pos,
            );
      }

  new_within : WrittenBetween (5 * n + m) (5 * n + 3 * m) W New
  new_within =
      within_more (within_set x W (omega arith) (omega (arith, space))) (within_set c (set W (5 * n + m + t) x) (omega arith) (omega arith))

-- ---- row x is met where colour c is wanted, by the tests of the code

module _ {n m t a x c : ℕ} {W : List ℕ} (q : MeetAt n m t a x c W) where
  -- it has no colour
  pub meet_new : get_or W (5 * n + 2 * m + x) 0 ≡ 0
      → Stage n m t (t + 1) a (a + 1) W (set (set W (5 * n + m + t) x) (5 * n + 2 * m + x) c) (meet x c (walk_of n m t a W))
  unfolding meet
  meet_new e =
      record {
        under = new_under q.under q.inside q.some q.known e;
        state =
            rw (eq-eqb (get_or (colours_of n m W) x 0) 0 (colour_at n m W x q.inside ∙ e))
            (λ i. record {
              rows = queue_new q.under q.inside q.some q.known e i;
              colours = colours_new q.under q.inside q.some q.known e i;
              against = a;
            });
        grew = omega arith;
        few = omega arith;
        within = new_within q.under q.inside q.some q.known e;
      }

  -- it has the wanted one
  pub meet_same : (get_or W (5 * n + 2 * m + x) 0 ≡ 0 → ⊥) → get_or W (5 * n + 2 * m + x) 0 ≡ c
      → Stage n m t t a (a + 1) W W (meet x c (walk_of n m t a W))
  unfolding meet
  meet_same h e =
      record {
        under = q.under;
        state =
            rw (ne_eqb (get_or (colours_of n m W) x 0) 0 (λ z. h (sym (colour_at n m W x q.inside) ∙ z)), eq-eqb (get_or (colours_of n m W) x 0) c (colour_at n m W x q.inside ∙ e));
        grew = omega arith;
        few = omega arith;
        within = within_none (5 * n + m) (5 * n + 3 * m) W;
      }

  -- it has another
  pub meet_against : (get_or W (5 * n + 2 * m + x) 0 ≡ 0 → ⊥) → (get_or W (5 * n + 2 * m + x) 0 ≡ c → ⊥)
      → Stage n m t t (a + 1) (a + 1) W W (meet x c (walk_of n m t a W))
  unfolding meet
  meet_against h e =
      record {
        under = q.under;
        state =
            rw (ne_eqb (get_or (colours_of n m W) x 0) 0 (λ z. h (sym (colour_at n m W x q.inside) ∙ z)), ne_eqb (get_or (colours_of n m W) x 0) c (λ z. e (sym (colour_at n m W x q.inside) ∙ z)));
        grew = omega arith;
        few = omega arith;
        within = within_none (5 * n + m) (5 * n + 3 * m) W;
      }

-- ---- a group is started

module _ {n m root : ℕ} {W : List ℕ} (r : RootAt n m root W) where
  none_yet : UnderWay n m 0 W
  none_yet =
      record {
        room = r.paired.room;
        queue = record { low = omega arith; rows = λ k l. absurd (not-suc-le-zero l); visited = λ k l. absurd (not-suc-le-zero l) };
        known = r.known;
        fewer = omega arith;
      }

  one : 0 < 1
  one = omega arith

  two : 1 ≤ 2
  two = omega arith

  at_zero : 5 * n + m + 0 ≡ 5 * n + m
  at_zero = omega arith

  same : set (set W (5 * n + m + 0) root) (5 * n + 2 * m + root) 1 ≡ set (set W (5 * n + m) root) (5 * n + 2 * m + root) 1
  same = ap (λ (k : ℕ). set (set W k root) (5 * n + 2 * m + root) 1) at_zero

  started_there : Started n m root W (set (set W (5 * n + m + 0) root) (5 * n + 2 * m + root) 1)
  started_there =
      record {
        under = new_under none_yet r.inside one two r.fresh;
        state = λ a i. record {
          rows = queue_new none_yet r.inside one two r.fresh i;
          colours = colours_new none_yet r.inside one two r.fresh i;
          against = a;
        };
        paired = paired_kept r.paired (new_within none_yet r.inside one two r.fresh).front (simp length-set refl);
        within = new_within none_yet r.inside one two r.fresh;
      }

  -- the stores of the code
  pub started : Started n m root W (set (set W (5 * n + m) root) (5 * n + 2 * m + root) 1)
  started = subst (Started n m root W) same started_there
