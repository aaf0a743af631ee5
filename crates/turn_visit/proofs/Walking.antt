-- Laws of walking a group, which the proofs of this crate cite: a turn of its loop is a turn of the definition. Assumes nothing.
use mathlib.Core.Path.{◌≡◌, refl, sym, ap, subst, ◌∙◌}
use mathlib.Core.List.{List}
use Prim.Native.Nat.{ℕ, suc, ◌+◌, ◌-◌, ◌*◌, ◌<◌, ◌≤◌}
use native.Mathlib.Omega.{arith}
use native.Mathlib.Nat.{mul-le-mul_right, add-mul, one-mul}
use lib.ListN.{length, get_or}
use Rattle.turn_walk.specs.Walk.{Walk, walk}
use Rattle.turn_walk.specs.Uses.{Uses, pairs_by}
use Rattle.turn_walk.specs.Area.{WrittenBetween, uses_of}
use Rattle.turn_walk.specs.Chains.{Paired}
use Rattle.turn_walk.specs.Group.{walk_of, Rooted, begun, walk_from, GroupWalked, UnderWay, Stage, VisitAt, visit_of, Started}
use Rattle.turn_walk.specs.Frames.{within_none, within_more}
use Rattle.turn_walk.specs.Links.{pairs_uses, paired_kept}
use Rattle.turn_walk.specs.Kept.{queue_at, queue_long}
use Rattle.turn_walk.specs.Steps.{walk_step, walk_stop}

once_more : (k n : ℕ) → (k + 1) * n ≡ k * n + n
once_more k n = simp (add-mul, one-mul)

at_most : (k m n : ℕ) → k < m → k * n + n ≤ m * n
at_most k m n l = subst (λ (j : ℕ). j ≤ m * n) (once_more k n) (mul-le-mul_right n (omega arith))

-- the loop with the first k rows of the queue visited
pub record Walking (n m a : ℕ) (W : List ℕ) (s : Walk) (found against k : ℕ) (E : List ℕ) : Type 0 where
  pub under : UnderWay n m found E
  pub paired : Paired n m E
  pub low : k ≤ found
  pub goes_on : walk (pairs_by (uses_of n E)) (m - k) k (walk_of n m found against E) ≡ s
  pub few : against ≤ a + k * n
  pub within : WrittenBetween (5 * n + m) (5 * n + 3 * m) W E
  pub long : length E ≡ length W

-- the group's root is found, and no row is visited
pub walking_none : {n m root a : ℕ} {W E : List ℕ} → Rooted n m root a W → Started n m root W E → Walking n m a E (walk (pairs_by (uses_of n E)) m 0 (walk_of n m 1 a E)) 1 a 0 E
walking_none {n} {m} {root} {a} {W} {E} r b =
    record {
      under = b.under;
      paired = b.paired;
      low = omega arith;
      goes_on = ap (λ (j : ℕ). walk (pairs_by (uses_of n E)) j 0 (walk_of n m 1 a E)) all;
      few = omega arith;
      within = within_none (5 * n + m) (5 * n + 3 * m) E;
      long = refl;
    }
  where
    all : m - 0 ≡ m
    all = omega arith

module _ {n m a found against k : ℕ} {W E : List ℕ} {s : Walk} (g : Walking n m a W s found against k E) (l : k < found) where
  -- the next row can be visited
  pub walking_next : {root : ℕ} {W₀ : List ℕ} → Rooted n m root a W₀ → VisitAt n m found against (get_or E (5 * n + m + k) 0) E
  walking_next r =
      record {
        paired = g.paired;
        under = g.under;
        inside = g.under.queue.rows k l;
        visited = g.under.queue.visited k l;
        few = omega (arith, g.few, r.few, at_most k m n (omega (arith, g.under.queue.low)));
      }

  -- and is
  pub walking_more : {r b : ℕ} {F : List ℕ} → Stage n m found r b (against + n) E F (visit_of n m found against (get_or E (5 * n + m + k) 0) E)
      → length F ≡ length E → Walking n m a W s r b (k + 1) F
  walking_more {r} {b} {F} d lf =
      record {
        under = d.under;
        paired = paired_kept g.paired d.within.front lf;
        low = omega (arith, d.grew);
        goes_on =
            ap (λ (u : Uses). walk (pairs_by u) (m - (k + 1)) (k + 1) (walk_of n m r b F)) (pairs_uses n m E F d.within.front)
            ∙ ap (walk (pairs_by (uses_of n E)) (m - (k + 1)) (k + 1)) d.state
            ∙ ap (λ (x : ℕ). walk (pairs_by (uses_of n E)) (m - (k + 1)) (k + 1) (visit_of n m found against x E)) (sym (queue_at n m found E k l))
            ∙ sym
            (walk_step (pairs_by (uses_of n E)) (m - (k + 1)) k (walk_of n m found against E)
            (omega (arith, queue_long n m found E g.under.room g.under.queue.low)))
            ∙ ap (λ (j : ℕ). walk (pairs_by (uses_of n E)) j k (walk_of n m found against E)) fuel
            ∙ g.goes_on;
        few = omega (arith, g.few, once_more k n, d.few);
        within = within_more g.within d.within;
        long = lf ∙ g.long;
      }
    where
      fuel : suc (m - (k + 1)) ≡ m - k
      fuel = omega (arith, g.under.queue.low)

-- all rows found are visited
module _ {n m root a found against k : ℕ} {W₀ W E : List ℕ} (b : Started n m root W₀ W) (g : Walking n m a W (walk (pairs_by (uses_of n W)) m 0 (walk_of n m 1 a W)) found against k E)
    (l : found ≤ k) where
  result : walk_of n m found against E ≡ walk_from n m root a W₀
  result =
      sym
      (walk_stop (pairs_by (uses_of n E)) (m - k) k (walk_of n m found against E)
      (omega (arith, queue_long n m found E g.under.room g.under.queue.low)))
      ∙ g.goes_on
      ∙ ap (walk (pairs_by (uses_of n W)) m 0) (b.state a)
      ∙ ap (λ (u : Uses). walk (pairs_by u) m 0 (begun n m root a W₀)) (pairs_uses n m W₀ W b.within.front)

  -- so it is the walk of the definition
  pub walking_all : GroupWalked n m root a found against W₀ E
  walking_all =
      record {
        count = sym (queue_long n m found E g.under.room g.under.queue.low) ∙ ap (λ (w : Walk). length w.rows) result;
        rows = ap (λ (w : Walk). w.rows) result;
        colours = ap (λ (w : Walk). w.colours) result;
        total = ap (λ (w : Walk). w.against) result;
        queue = g.under.queue;
        known = g.under.known;
        few = omega (arith, g.few, mul-le-mul_right n done);
        within = within_more b.within g.within;
      }
    where
      done : k ≤ m
      done = omega (arith, g.low, g.under.queue.low)
