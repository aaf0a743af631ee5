-- Laws of visiting a row, which the proofs of this crate cite: a turn of its loop is a turn of the definition. Assumes nothing.
use mathlib.Core.Path.{◌≡◌, refl, sym, ap, subst, ◌∙◌}
use mathlib.Core.List.{List}
use mathlib.Core.Bool.{Bool, true, cond}
use Prim.Native.Nat.{ℕ, zero, suc, ◌+◌, ◌-◌, ◌*◌, ◌<◌, ◌≤◌}
use native.Mathlib.Omega.{arith}
use native.Mathlib.Decide.{ℕ_discrete}
use lib.ListN.{length, get_or}
use Rattle.turn_walk.specs.Walk.{opposite, Neighbour, Walk, meet, neighbours, visit}
use Rattle.turn_walk.specs.Uses.{Uses, agrees, pairs_from, touches, across, across_from, across_agreeing}
use Rattle.turn_walk.proofs.Uses.{neighbours_across}
use Rattle.turn_walk.specs.Area.{WrittenBetween, uses_of}
use Rattle.turn_walk.specs.Chains.{link_from, across_on, UseAt, Paired, On, LinkAt}
use Rattle.turn_walk.specs.Group.{walk_of, UnderWay, Stage, MeetAt, WantAt, VisitAt, visit_of}
use Rattle.turn_walk.specs.Frames.{within_none, within_more}
use Rattle.turn_walk.specs.Links.{pairs_uses, paired_kept, paired_given, Link, on_none, on_cons, link_is, whole_chain, across_in}
use Rattle.turn_walk.specs.Steps.{want_some, want_known}
use Rattle.turn_walk.specs.Kept.{colour_at}

-- ---- the chain of row x

-- how many uses stand from the link p on, at most
pub to_go : ℕ → ℕ → ℕ
to_go n zero = 0
to_go n (suc k) = n - k

to_go_none : (n : ℕ) → to_go n 0 ≡ 0
unfolding to_go
to_go_none n = refl

to_go_lem : (n p : ℕ) → (p ≡ 0 → ⊥) → to_go n p ≡ n - (p - 1)
unfolding to_go
to_go_lem n zero h = absurd (h refl)
to_go_lem n (suc k) h = ap (λ (j : ℕ). n - j) back
  where
    back : k ≡ suc k - 1
    back = omega arith

-- the loop at the link p of the chain of row x, whose colour is c
pub record Visiting (n m x c t a : ℕ) (W : List ℕ) (s : Walk) (found against p : ℕ) (E : List ℕ) : Type 0 where
  pub under : UnderWay n m found E
  pub paired : Paired n m E
  pub on : On n x p E
  pub some : 0 < c
  pub known : c ≤ 2
  pub goes_on : visit c (across_on (uses_of n E) x p) (walk_of n m found against E) ≡ s
  pub grew : t ≤ found
  pub few : against ≤ a + n
  pub fewer : (p ≡ 0 → ⊥) → against < a + p
  pub within : WrittenBetween (5 * n + m) (5 * n + 3 * m) W E
  pub long : length E ≡ length W

-- at its head
pub visiting_none : {n m t a x : ℕ} {W : List ℕ} → VisitAt n m t a x W
    → Visiting n m x (get_or W (5 * n + 2 * m + x) 0) t a W (visit_of n m t a x W) t a (get_or W (5 * n + x) 0) W
visiting_none {n} {m} {t} {a} {x} {W} v =
    record {
      under = v.under;
      paired = v.paired;
      on = record { low = link.low; touch = link.touch };
      some = v.visited;
      known = v.under.known.known x v.inside;
      goes_on =
          ap (λ (l : List Neighbour). visit (get_or W (5 * n + 2 * m + x) 0) l (walk_of n m t a W))
          (link.list ∙ sym (neighbours_across (uses_of n W) x 0 n))
          ∙ ap (λ (c : ℕ). visit c (neighbours x (pairs_from (uses_of n W) 0 n)) (walk_of n m t a W)) (sym (colour_at n m W x v.inside));
      grew = omega arith;
      few = omega arith;
      fewer = λ z. omega (arith, link.above z);
      within = within_none (5 * n + m) (5 * n + 3 * m) W;
      long = refl;
    }
  where
    link : Link (uses_of n W) x 0 (across_from (uses_of n W) x 0 n) (get_or W (5 * n + x) 0)
    link = whole_chain v.paired x v.inside

module _ {n m x c t a found against p : ℕ} {W E : List ℕ} {s : Walk} (g : Visiting n m x c t a W s found against p E) (h : p ≡ 0 → ⊥) where
  use_in : p - 1 < n
  use_in = omega (arith, g.on.low)

  -- what the calls ask
  pub use_there : UseAt n m (p - 1) E
  use_there = record { given = paired_given g.paired; inside = use_in }

  -- the wanted colour
  pub want_there : WantAt n m (p - 1) c E
  want_there = record { use_at = use_there; known = g.known }

  -- the next link
  pub link_there : LinkAt n m x p E
  link_there = record { paired = g.paired; on = g.on; some = h }

  -- the row met
  pub meet_there : {y v : ℕ} → VisitAt n m t a x W → y ≡ (across (uses_of n E) x (p - 1)).row → v ≡ cond (agrees (uses_of n E) (p - 1)) c (opposite c)
      → MeetAt n m found against y v E
  meet_there {y} {v} q ey ev =
      record {
        under = g.under;
        inside = rw ey (across_in g.paired use_in x);
        some = rw ev (want_some c (agrees (uses_of n E) (p - 1)) g.some g.known);
        known = rw ev (want_known c (agrees (uses_of n E) (p - 1)) g.some g.known);
        few = omega (arith, g.few, q.few);
      }

  module _ {q : ℕ} (eq : q ≡ link_from (uses_of n E) x p (n - p)) where
    link : Link (uses_of n E) x p (across_from (uses_of n E) x p (n - p)) q
    link =
        subst (Link (uses_of n E) x p (across_from (uses_of n E) x p (n - p))) (sym eq)
        (link_is (uses_of n E) x p (n - p) (omega (arith, g.on.low)))

    -- the chain grows shorter
    pub visiting_less : to_go n q < to_go n p
    visiting_less = rw (to_go_lem n p h) (go (ℕ_discrete q 0))
      where
        go : Dec (q ≡ 0) → to_go n q < n - (p - 1)
        go (yes z) = rw (z, to_go_none n) (omega (arith, g.on.low))
        go (no z) = rw (to_go_lem n q z) (omega (arith, link.above z, link.low, g.on.low))

    -- one neighbour more is met
    pub visiting_more : {y v r b : ℕ} {F : List ℕ} → y ≡ (across (uses_of n E) x (p - 1)).row → v ≡ cond (agrees (uses_of n E) (p - 1)) c (opposite c)
        → Stage n m found r b (against + 1) E F (meet y v (walk_of n m found against E)) → length F ≡ length E
        → Visiting n m x c t a W s r b q F
    unfolding visit
    visiting_more {y} {v} {r} {b} {F} ey ev d lf =
        record {
          under = d.under;
          paired = paired_kept g.paired d.within.front lf;
          on = record { low = link.low; touch = subst (λ (u : Uses). (q ≡ 0 → ⊥) → touches u x (q - 1) ≡ true) (sym same) link.touch };
          some = g.some;
          known = g.known;
          goes_on =
              ap (λ (u : Uses). visit c (across_on u x q) (walk_of n m r b F)) same
              ∙ ap (visit c (across_on (uses_of n E) x q)) d.state
              ∙ ap (λ (l : List Neighbour). visit c l (meet y v (walk_of n m found against E))) link.list
              ∙ ap (λ (k : ℕ). visit c (across_from (uses_of n E) x p (n - p)) (meet k v (walk_of n m found against E))) ey
              ∙ ap (λ (k : ℕ). visit c (across_from (uses_of n E) x p (n - p)) (meet (across (uses_of n E) x (p - 1)).row k (walk_of n m found against E)))
              (ev ∙ ap (λ (b : Bool). cond b c (opposite c)) (sym (across_agreeing (uses_of n E) (p - 1) x)))
              ∙ ap (λ (l : List Neighbour). visit c l (walk_of n m found against E)) (sym (on_cons (uses_of n E) x p h))
              ∙ g.goes_on;
          grew = omega (arith, g.grew, d.grew);
          few = omega (arith, g.fewer h, g.on.low, d.few);
          fewer = λ z. omega (arith, g.fewer h, link.above z, d.few);
          within = within_more g.within d.within;
          long = lf ∙ g.long;
        }
      where
        same : uses_of n F ≡ uses_of n E
        same = pairs_uses n m E F d.within.front

-- at its end
pub visiting_all : {n m x c t a found against p : ℕ} {W E : List ℕ} {s : Walk} → Visiting n m x c t a W s found against p E → p ≡ 0
    → Stage n m t found against (a + n) W E s
unfolding visit
visiting_all {n} {m} {x} {c} {t} {a} {found} {against} {p} {W} {E} {s} g z =
    record {
      under = g.under;
      state =
          sym (ap (λ (l : List Neighbour). visit c l (walk_of n m found against E)) (ap (across_on (uses_of n E) x) z ∙ on_none (uses_of n E) x))
          ∙ g.goes_on;
      grew = g.grew;
      few = g.few;
      within = g.within;
    }
