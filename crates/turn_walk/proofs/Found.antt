-- Of the definition alone: a walk finds each row of its group once, keeps the colours of earlier walks, and leaves no pair to an unvisited row. Assumes nothing.
use Rattle.turn_walk.specs.Found.{times, mark, Inside, Found, Consistent, Next, Done}
use Rattle.std.proofs.Math.Path.{◌≡◌, subst}
use Rattle.std.specs.Prelude.{refl, Bool, true, false, cond, length, take, eqb}
use Rattle.std.proofs.Common.{sym, ap, ◌∙◌, arith, not-suc-le-zero, le_of_suc-le-suc, length-append, length-set, take-take, get_or-take, get_or-set_same, get_or-set_other, below_more}
use mathlib.Core.List.{List, [], ◌∷◌, ◌++◌}
use Rattle.std.proofs.Math.Option.{some}
use Prim.Native.Nat.{ℕ, zero, suc, ◌+◌, ◌<◌, ◌≤◌}
use Rattle.std.proofs.Math.Decide.{ℕ_discrete, dec_lt}
use Rattle.std.proofs.Math.ListN.{get_or, set, get_or-append}
use Rattle.std.proofs.Math.Seq.{take-append_seam, take-length, get_or-append_seam}
use borrow.Author.Tests.{eq-eqb, ne_eqb}
use Rattle.lists.specs.Lists.{item_at}
use Rattle.turn_walk.specs.Walk.{Pair, Neighbour, Walk, unvisited, plain, coloured, opposite, meet, neighbours, visit, walk}
use Rattle.turn_walk.specs.Group.{visited_in}
use Rattle.turn_walk.specs.Steps.{walk_step, walk_stop, want_some, want_known}
use Rattle.turn_walk.specs.Visited.{cond_of, visited_le, visited_set}

-- ---- counting

times_append : (x : ℕ) (q : List ℕ) (y : ℕ) → times x (q ++ y ∷ []) ≡ times x q + cond (eqb x y) 1 0
unfolding times
times_append x [] y = go (eqb x y)
  where
    go : (b : Bool) → cond b 1 0 ≡ 0 + cond b 1 0
    go true = refl
    go false = refl
times_append x (z ∷ q) y = go (eqb x z) (times_append x q y)
  where
    go : (b : Bool) → times x (q ++ y ∷ []) ≡ times x q + cond (eqb x y) 1 0
        → cond b (suc (times x (q ++ y ∷ []))) (times x (q ++ y ∷ [])) ≡ cond b (suc (times x q)) (times x q) + cond (eqb x y) 1 0
    go true ih = omega (arith, ih)
    go false ih = ih

times_here : (q : List ℕ) (k : ℕ) → k < length q → 0 < times (get_or q k 0) q
unfolding times
times_here [] k l = absurd (not-suc-le-zero l)
times_here (y ∷ q) zero l = rw (eq-eqb y y refl) (omega arith)
times_here (y ∷ q) (suc k) l = cond_of (λ z. 0 < z) (eqb (get_or q k 0) y) (omega arith) (times_here q k (le_of_suc-le-suc l))

-- a visited row counts 1
pub mark_some : (c : ℕ) → 0 < c → mark c ≡ 1
unfolding mark
mark_some c h = rw (ne_eqb c 0 (omega arith))

-- an unvisited one 0
pub mark_none : (c : ℕ) → c ≡ 0 → mark c ≡ 0
unfolding mark
mark_none c e = rw (eq-eqb c 0 e)

positive : {c : ℕ} → (c ≡ 0 → ⊥) → 0 < c
positive h = omega arith

-- ---- a walk under way

next_none : {m : ℕ} {C : List ℕ} {w : Walk} → Consistent m C w → Next m C w w
next_none {m} {C} {w} g = record { consistent = g; ahead = take-length w.rows; longer = omega arith; kept = λ x h. refl }

next_more : {m : ℕ} {C : List ℕ} {w r z : Walk} → Next m C w r → Next m C r z → Next m C w z
next_more {m} {C} {w} {r} {z} a b =
    record {
      consistent = b.consistent;
      ahead =
          sym (take-take (length w.rows) (length r.rows) z.rows a.longer) ∙ ap (take (length w.rows)) b.ahead ∙ a.ahead;
      longer = omega (arith, a.longer, b.longer);
      kept = λ x h. b.kept x (subst (λ (c : ℕ). 0 < c) (sym (a.kept x h)) h) ∙ a.kept x h;
    }

-- a row found has a colour
row_visited : {m : ℕ} {C : List ℕ} {w : Walk} → Consistent m C w → (k : ℕ) → k < length w.rows → 0 < get_or w.colours (get_or w.rows k 0) 0
row_visited {m} {C} {w} g k l = positive no
  where
    no : get_or w.colours (get_or w.rows k 0) 0 ≡ 0 → ⊥
    no z =
        omega (
          arith,
          times_here w.rows k l,
          g.once (get_or w.rows k 0) (g.rows k l),
          mark_none (get_or w.colours (get_or w.rows k 0) 0) z,
        )

-- an unvisited row is found
module _ {m y v : ℕ} {C : List ℕ} {w : Walk} (g : Consistent m C w) (l : y < m) (pos : 0 < v) (two : v ≤ 2) (e : get_or w.colours y 0 ≡ 0) where
  abbrev found : Walk
  found = record { rows = w.rows ++ y ∷ []; colours = set w.colours y v; against = w.against }

  there : y < length w.colours
  there = omega (arith, g.long)

  here : get_or (set w.colours y v) y 0 ≡ v
  here = get_or-set_same w.colours y v 0 there

  found_once : (x : ℕ) → x < m → Dec (x ≡ y) → times x (w.rows ++ y ∷ []) + mark (get_or C x 0) ≡ mark (get_or (set w.colours y v) x 0)
  found_once x h (yes q) =
      omega (
        arith,
        times_append x w.rows y,
        ap {B = ℕ} (λ (b : Bool). cond b 1 0) (eq-eqb x y q),
        g.once x h,
        mark_none (get_or w.colours x 0) (ap (λ (k : ℕ). get_or w.colours k 0) q ∙ e),
        mark_some (get_or (set w.colours y v) x 0) (omega (arith, ap (λ (k : ℕ). get_or (set w.colours y v) k 0) q ∙ here)),
      )
  found_once x h (no q) =
      omega (
        arith,
        times_append x w.rows y,
        ap {B = ℕ} (λ (b : Bool). cond b 1 0) (ne_eqb x y q),
        g.once x h,
        ap mark (get_or-set_other w.colours y x v 0 q),
      )

  found_known : (x : ℕ) → Dec (x ≡ y) → get_or (set w.colours y v) x 0 ≤ 2
  found_known x (yes q) = omega (arith, ap (λ (k : ℕ). get_or (set w.colours y v) k 0) q ∙ here)
  found_known x (no q) = omega (arith, get_or-set_other w.colours y x v 0 q, g.known x)

  found_next : Next m C w (record { rows = w.rows ++ y ∷ []; colours = set w.colours y v; against = w.against })
  found_next =
      record {
        consistent =
            record {
              long = simp length-set g.long;
              rows = λ k h.
                  below_more (λ (j : ℕ). get_or (w.rows ++ y ∷ []) j 0 < m) (length w.rows)
                  (λ j b. subst (λ (z : ℕ). z < m) (sym (get_or-append w.rows (y ∷ []) 0 j b)) (g.rows j b))
                  (subst (λ (z : ℕ). z < m) (sym (get_or-append_seam w.rows y [] 0)) l)
                  k (omega (arith, length-append w.rows (y ∷ [])));
              once = λ x h. found_once x h (ℕ_discrete x y);
              known = λ x. found_known x (ℕ_discrete x y);
              few = omega (arith, g.few, visited_set w.colours y v there e pos, length-append w.rows (y ∷ []));
            };
        ahead = take-append_seam w.rows (y ∷ []);
        longer = omega (arith, length-append w.rows (y ∷ []));
        kept = λ x h. get_or-set_other w.colours y x v 0 (λ q. omega (arith, ap (λ (k : ℕ). get_or w.colours k 0) q ∙ e));
      }

-- a row is met, and then has a colour
module _ {m y v : ℕ} {C : List ℕ} {w : Walk} (g : Consistent m C w) (l : y < m) (pos : 0 < v) (two : v ≤ 2) where
  abbrev Met : Walk → Type 0
  Met r = Next m C w r × (0 < get_or r.colours y 0)

  met : Next m C w (meet y v w) × (0 < get_or (meet y v w).colours y 0)
  unfolding meet
  met = go (ℕ_discrete (get_or w.colours y 0) 0) (ℕ_discrete (get_or w.colours y 0) v)
    where
      go : Dec (get_or w.colours y 0 ≡ 0) → Dec (get_or w.colours y 0 ≡ v)
          → Met (cond (eqb (get_or w.colours y 0) 0) (record { rows = w.rows ++ y ∷ []; colours = set w.colours y v; against = w.against })
          (cond (eqb (get_or w.colours y 0) v) w (record { rows = w.rows; colours = w.colours; against = w.against + 1 })))
      go (yes e) d =
          rw (eq-eqb (get_or w.colours y 0) 0 e)
          (found_next g l pos two e, subst (λ (c : ℕ). 0 < c) (sym (get_or-set_same w.colours y v 0 (omega (arith, g.long)))) pos)
      go (no h) (yes e) = rw (ne_eqb (get_or w.colours y 0) 0 h, eq-eqb (get_or w.colours y 0) v e) (next_none g, positive h)
      go (no h) (no e) =
          rw (ne_eqb (get_or w.colours y 0) 0 h, ne_eqb (get_or w.colours y 0) v e) (
            record {
              consistent = record { long = g.long; rows = g.rows; once = g.once; known = g.known; few = g.few };
              ahead = take-length w.rows;
              longer = omega arith;
              kept = λ x z. refl;
            },
            positive h,
          )

-- the neighbours in a list are met
module _ {m : ℕ} (C : List ℕ) (c : ℕ) (pos : 0 < c) (two : c ≤ 2) where
  visit_next : (l : List Neighbour) (w : Walk) → ((j : ℕ) (b : Neighbour) → item_at l j ≡ some b → b.row < m) → Consistent m C w → Next m C w (visit c l w)
  unfolding visit item_at
  visit_next [] w i g = next_none g
  visit_next (b ∷ l) w i g =
      next_more one (visit_next l (meet b.row (cond b.agreeing c (opposite c)) w) (λ j d e. i (suc j) d e) one.consistent)
    where
      one : Next m C w (meet b.row (cond b.agreeing c (opposite c)) w)
      one = (met g (i 0 b refl) (want_some c b.agreeing pos two) (want_known c b.agreeing pos two)).0

  visit_all : (l : List Neighbour) (w : Walk) → ((j : ℕ) (b : Neighbour) → item_at l j ≡ some b → b.row < m) → Consistent m C w
      → (j : ℕ) (b : Neighbour) → item_at l j ≡ some b → 0 < get_or (visit c l w).colours b.row 0
  unfolding visit item_at
  visit_all [] w i g j b e = absurd (let z : ◌≡◌ {A = ℕ} 0 1 = cc in omega arith)
  visit_all (d ∷ l) w i g zero b e =
      subst (λ (k : Neighbour). 0 < get_or (visit c l (meet d.row (cond d.agreeing c (opposite c)) w)).colours k.row 0) same
      (subst (λ (k : ℕ). 0 < k) (sym (rest.kept d.row one.1)) one.1)
    where
      one : Next m C w (meet d.row (cond d.agreeing c (opposite c)) w) × (0 < get_or (meet d.row (cond d.agreeing c (opposite c)) w).colours d.row 0)
      one = met g (i 0 d refl) (want_some c d.agreeing pos two) (want_known c d.agreeing pos two)

      rest : Next m C (meet d.row (cond d.agreeing c (opposite c)) w) (visit c l (meet d.row (cond d.agreeing c (opposite c)) w))
      rest = visit_next l (meet d.row (cond d.agreeing c (opposite c)) w) (λ j d e. i (suc j) d e) one.0.consistent

      same : d ≡ b
      same = cc
  visit_all (d ∷ l) w i g (suc j) b e =
      visit_all l (meet d.row (cond d.agreeing c (opposite c)) w) (λ j d e. i (suc j) d e)
      (met g (i 0 d refl) (want_some c d.agreeing pos two) (want_known c d.agreeing pos two)).0.consistent j b e

-- ---- the walk

done_kept : {m x : ℕ} {ps : List Pair} {C : List ℕ} {w r : Walk} → Next m C w r → Done ps x w → Done ps x r
done_kept n d = record { at = λ j b e. subst (λ (c : ℕ). 0 < c) (sym (n.kept b.row (d.at j b e))) (d.at j b e) }

walk_zero : (ps : List Pair) (h : ℕ) (w : Walk) → walk ps zero h w ≡ w
unfolding walk
walk_zero ps h w = refl

module _ {m : ℕ} {ps : List Pair} (C : List ℕ) (i : Inside m ps) where
  -- the walk visited all it found
  record Whole (w r : Walk) : Type 0 where
    next : Next m C w r
    done : (k : ℕ) → k < length r.rows → Done ps (get_or r.rows k 0) r

  few : {w : Walk} → Consistent m C w → length w.rows ≤ m
  few {w} g = omega (arith, g.few, g.long, visited_le w.colours)

  walk_whole : (fuel h : ℕ) (w : Walk) → Consistent m C w → m ≤ h + fuel → ((k : ℕ) → k < h → k < length w.rows → Done ps (get_or w.rows k 0) w)
      → Whole w (walk ps fuel h w)
  walk_whole zero h w g e d =
      subst (Whole w) (sym (walk_zero ps h w)) (record { next = next_none g; done = λ k b. d k (omega (arith, few g)) b })
  walk_whole (suc fuel) h w g e d =
      go (dec_lt h (length w.rows)) (λ r k f. walk_whole fuel (h + 1) r k (omega arith) f)
    where
      go : Dec (h < length w.rows)
          → ((r : Walk) → Consistent m C r → ((k : ℕ) → k < h + 1 → k < length r.rows → Done ps (get_or r.rows k 0) r) → Whole r (walk ps fuel (h + 1) r))
          → Whole w (walk ps (suc fuel) h w)
      go (no l) ih =
          subst (Whole w) (sym (walk_stop ps (suc fuel) h w (omega arith))) (record { next = next_none g; done = λ k b. d k (omega arith) b })
      go (yes l) ih =
          subst (Whole w) (sym (walk_step ps fuel h w l)) (record { next = next_more one whole.next; done = whole.done })
        where
          x : ℕ
          x = get_or w.rows h 0

          here : Walk
          here = visit (get_or w.colours x 0) (neighbours x ps) w

          one : Next m C w here
          one = visit_next C (get_or w.colours x 0) (row_visited g h l) (g.known x) (neighbours x ps) w (i.rows x) g

          same : (k : ℕ) → k < length w.rows → get_or w.rows k 0 ≡ get_or here.rows k 0
          same k b = ap (λ (q : List ℕ). get_or q k 0) (sym one.ahead) ∙ get_or-take (length w.rows) here.rows k 0 b

          last : Done ps x here
          last = record { at = visit_all C (get_or w.colours x 0) (row_visited g h l) (g.known x) (neighbours x ps) w (i.rows x) g }

          whole : Whole here (walk ps fuel (h + 1) here)
          whole =
              ih here one.consistent
              (below_more (λ (k : ℕ). k < length here.rows → Done ps (get_or here.rows k 0) here) h
              (λ k b c. subst (λ (y : ℕ). Done ps y here) (same k (omega arith)) (done_kept one (d k b (omega arith))))
              (λ c. subst (λ (y : ℕ). Done ps y here) (same h l) last))

-- The walk of a group finds each row of it once, and no pair leads from it to an unvisited row.
pub group_found : {m : ℕ} {ps : List Pair} (C : List ℕ) (root a : ℕ) → Inside m ps → length C ≡ m → ((x : ℕ) → get_or C x unvisited ≤ coloured) → root < m
    → get_or C root unvisited ≡ unvisited → Found m ps C (walk ps m 0 (record { rows = root ∷ []; colours = set C root plain; against = a }))
unfolding times
group_found {m} {ps} C root a i long known l e =
    record {
      once = whole.next.consistent.once;
      kept = λ x h. (next_more begin whole.next).kept x h;
      closed = λ k b. (whole.done k b).at;
    }
  where
    none_yet : Consistent m C (record { rows = []; colours = C; against = a })
    none_yet =
        record {
          long = long;
          rows = λ k h. absurd (not-suc-le-zero h);
          once = λ x h. omega arith;
          known = known;
          few = omega arith;
        }

    begin : Next m C (record { rows = []; colours = C; against = a }) (record { rows = root ∷ []; colours = set C root plain; against = a })
    begin = found_next none_yet l (omega arith) (omega arith) e

    whole : Whole C i (record { rows = root ∷ []; colours = set C root plain; against = a }) (walk ps m 0 (record { rows = root ∷ []; colours = set C root plain; against = a }))
    whole = walk_whole C i m 0 (record { rows = root ∷ []; colours = set C root plain; against = a }) begin.consistent (omega arith) (λ k b. absurd (not-suc-le-zero b))
