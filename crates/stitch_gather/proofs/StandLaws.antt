-- Laws of the vertices that stand for points: one more comes to stand, and the ones that do are listed. Assumes nothing.
use mathlib.Core.Path.{◌≡◌, refl, sym, ap, ◌∙◌, subst}
use mathlib.Core.Bool.{Bool, true, not}
use mathlib.Core.List.{List, [], ◌∷◌, ◌++◌, map, map-append}
use Prim.Native.Nat.{ℕ, zero, suc, ◌+◌, ◌-◌, ◌*◌, ◌<◌, ◌≤◌}
use native.Mathlib.Omega.{arith}
use native.Mathlib.Decide.{ℕ_discrete, dec_lt}
use lib.ListN.{length, get_or, take, drop, set, length-set, length-map, length-drop}
use lib.Seq.{ext_get_or, get_or-set_same, get_or-set_other, length-take-le, take-set-le, drop-set-lt}
use lib.Dec.{eqb}
use borrow.Author.Tests.{ne_eqb, eqb-false, not-true}
use Rattle.lists.specs.Lists.{count_if}
use Rattle.lists.specs.Members.{Has, has_place, has_item}
use Rattle.lists.specs.Rising.{Rising, rising_insert}
use Rattle.lists.specs.Stretches.{front_at, front_less, stretch_at, stretch_more, stretch_kept}
use Rattle.slice_pairs.specs.Rearranged.{one_if, count_cons, count_append, same_turned, same_each}
use Rattle.join_definition.specs.Join.{joined, first_index}
use Rattle.join_definition.specs.Representatives.{joined_at, joined_below, same_name_rep, same_rep_name}
use Rattle.stitch_loose_points.specs.Listed.{insert_vertex}
use Rattle.stitch_gather.specs.Standing.{mark_of, stands_for, standing_in, names_of, Standing, Pointed, Standable, Stood}
use Rattle.stitch_gather.proofs.InsertLaws.{same_has, count_put, names_insert, count_new, count_same}

-- ---- lists

-- what a function makes of the number at a place
pub map_at : (f : ℕ → ℕ) (xs : List ℕ) (j : ℕ) → j < length xs → get_or (map f xs) j 0 ≡ f (get_or xs j 0)
map_at f [] j l = absurd (omega arith)
map_at f (x ∷ xs) zero l = refl
map_at f (x ∷ xs) (suc j) l = map_at f xs j (omega arith)

-- a stretch has its length
pub stretch_long : (W : List ℕ) (at n : ℕ) → at + n ≤ length W → length (take n (drop at W)) ≡ n
stretch_long W at n h = length-take-le n (drop at W) (omega (arith, length-drop at W))

module _ (W : List ℕ) (v at n : ℕ) (room : at + n ≤ length W) where
  -- there is one for each point that is listed
  pub standing_long : length (standing_in W v at n) ≡ n
  standing_long = length-map (take n (drop at W)) (stands_for W v) ∙ stretch_long W at n room

  -- the one for the point at place j
  pub standing_at : (j : ℕ) → j < n → get_or (standing_in W v at n) j 0 ≡ stands_for W v (get_or W (at + j) 0)
  standing_at j l = map_at (stands_for W v) (take n (drop at W)) j (omega (arith, stretch_long W at n room)) ∙ ap (stands_for W v) (stretch_at at n W j 0 l)

-- ---- names and first vertices

-- they are as they were
pub pointed_kept : {v at : ℕ} {W E : List ℕ} → Pointed v at W → take (2 * v) E ≡ take (2 * v) W → Pointed v at E
pointed_kept {v} {at} {W} {E} p e =
    record {
      points = stretch_kept v v (2 * v) W E e (omega arith) ∙ p.points ∙ ap joined (sym (front_less v (2 * v) W E e (omega arith)));
      behind = p.behind;
    }

module _ {v at : ℕ} {W : List ℕ} (p : Pointed v at W) (room : at ≤ length W) where
  names_long : length (take v W) ≡ v
  names_long = length-take-le v W (omega (arith, p.behind))

  -- the first vertex of a vertex's point
  first_is : (g : ℕ) → g < v → get_or W (v + g) 0 ≡ first_index (take v W) g
  first_is g l = sym (stretch_at v v W g 0 l) ∙ ap (λ (x : List ℕ). get_or x g 0) p.points ∙ joined_at (take v W) g (omega (arith, names_long))

  -- it is one of the vertices
  pub first_low : (g : ℕ) → g < v → get_or W (v + g) 0 < v
  first_low g l =
      omega (arith, sym (stretch_at v v W g 0 l) ∙ ap (λ (x : List ℕ). get_or x g 0) p.points, joined_below (take v W) g (omega (arith, names_long)), names_long)

  -- vertices of one name have one
  first_same : (g h : ℕ) → g < v → h < v → get_or (take v W) g 0 ≡ get_or (take v W) h 0 → get_or W (v + g) 0 ≡ get_or W (v + h) 0
  first_same g h l m e = first_is g l ∙ same_name_rep (take v W) g h e ∙ sym (first_is h m)

  -- vertices of one first vertex have one name
  name_same : (g h : ℕ) → g < v → h < v → get_or W (v + g) 0 ≡ get_or W (v + h) 0 → get_or (take v W) g 0 ≡ get_or (take v W) h 0
  name_same g h l m e = same_rep_name (take v W) g h (omega (arith, names_long)) (omega (arith, names_long)) (sym (first_is g l) ∙ e ∙ first_is h m)

-- ---- one more vertex

-- the word of the point of vertex g is g + 1, the other points' words and the n listed ones are as they were: W became E
record Renewed (v at n g : ℕ) (W E : List ℕ) : Type 0 where
  pub front : take (2 * v) E ≡ take (2 * v) W
  pub here : mark_of E v (get_or W (v + g) 0) ≡ g + 1
  pub others : (f : ℕ) → f < v → (f ≡ get_or W (v + g) 0 → ⊥) → mark_of E v f ≡ mark_of W v f
  pub words : (j : ℕ) → j < n → get_or E (at + j) 0 ≡ get_or W (at + j) 0

module _ {v at n g : ℕ} {W E R : List ℕ} (r : Standable v at n g W) (s : Standing v at n W R) (q : Renewed v at n g W E) (long : length E ≡ length W) where
  -- the first vertex of the point of g
  abbrev f : ℕ
  f = get_or W (v + g) 0

  -- the names
  abbrev ns : List ℕ
  ns = take v W

  f_low : f < v
  f_low = first_low r.pointed (omega (arith, r.room)) g r.vertex

  names_kept : take v E ≡ ns
  names_kept = front_less v (2 * v) W E q.front (omega arith)

  firsts_kept : (x : ℕ) → x < v → get_or E (v + x) 0 ≡ get_or W (v + x) 0
  firsts_kept x l = front_at (2 * v) (v + x) W E 0 q.front (omega arith)

  -- by name they rise
  rises : Rising 0 (names_of (take v E) (insert_vertex ns g R))
  rises =
      subst (λ (l : List ℕ). Rising 0 (names_of l (insert_vertex ns g R))) (sym names_kept)
      (subst (λ (l : List ℕ). Rising 0 l) (sym (names_insert ns g R)) (rising_insert (get_or ns g 0) 0 (names_of ns R) (omega arith) s.rising))

  -- the words of the points
  new_vertex : (x : ℕ) → x < v → mark_of E v x ≤ v
  new_vertex x l = go (ℕ_discrete x f)
    where
      go : Dec (x ≡ f) → mark_of E v x ≤ v
      go (yes e) = subst (λ (y : ℕ). mark_of E v y ≤ v) (sym e) (omega (arith, q.here, r.vertex))
      go (no e) = omega (arith, q.others x l e, s.vertex x l)

  new_first : (x : ℕ) → x < v → 0 < mark_of E v x → get_or E (v + stands_for E v x) 0 ≡ x
  new_first x l m = go (ℕ_discrete x f)
    where
      go : Dec (x ≡ f) → get_or E (v + stands_for E v x) 0 ≡ x
      go (yes e) =
          let is : stands_for E v x ≡ g = ap (stands_for E v) e ∙ ap (λ (k : ℕ). k - 1) q.here ∙ (omega arith) in
          ap (λ (y : ℕ). get_or E (v + y) 0) is ∙ firsts_kept g r.vertex ∙ sym e
      go (no e) =
          let is : stands_for E v x ≡ stands_for W v x = ap (λ (k : ℕ). k - 1) (q.others x l e) in
          ap (λ (y : ℕ). get_or E (v + y) 0) is
          ∙ firsts_kept (stands_for W v x) (omega (arith, s.vertex x l, q.others x l e))
          ∙ s.first x l (omega (arith, q.others x l e))

  -- the word of a listed point
  new_set : (j : ℕ) → j < n → 0 < mark_of E v (get_or E (at + j) 0)
  new_set j l = subst (λ (x : ℕ). 0 < mark_of E v x) (sym (q.words j l)) (go (ℕ_discrete (get_or W (at + j) 0) f))
    where
      go : Dec (get_or W (at + j) 0 ≡ f) → 0 < mark_of E v (get_or W (at + j) 0)
      go (yes e) = subst (λ (y : ℕ). 0 < mark_of E v y) (sym e) (omega (arith, q.here))
      go (no e) = omega (arith, q.others (get_or W (at + j) 0) (s.low j l) e, s.set j l)

  -- the one that stands for another listed point
  stands_kept : (j : ℕ) → j < n → (get_or W (at + j) 0 ≡ f → ⊥) → stands_for E v (get_or E (at + j) 0) ≡ stands_for W v (get_or W (at + j) 0)
  stands_kept j l e = ap (stands_for E v) (q.words j l) ∙ ap (λ (k : ℕ). k - 1) (q.others (get_or W (at + j) 0) (s.low j l) e)

  -- ---- another stood for the point, which is listed at place i
  module _ (i : ℕ) (i-low : i < n) (i_is : get_or W (at + i) 0 ≡ f) where
    some_stood : 0 < mark_of W v f
    some_stood = subst (λ (x : ℕ). 0 < mark_of W v x) i_is (s.set i i-low)

    old_is : get_or (standing_in W v at n) i 0 ≡ stands_for W v f
    old_is = standing_at W v at n (omega (arith, r.room)) i i-low ∙ ap (stands_for W v) i_is

    old_low : stands_for W v f < v
    old_low = omega (arith, s.vertex f f_low, some_stood)

    -- it is in R
    old_there : Has (stands_for W v f) R
    old_there =
        same_has (stands_for W v f) (same_turned s.same)
        (subst (λ (x : ℕ). Has x (standing_in W v at n)) old_is (has_item (standing_in W v at n) i (omega (arith, standing_long W v at n (omega (arith, r.room)), i-low))))

    -- it has the name of g
    old_name : get_or ns (stands_for W v f) 0 ≡ get_or ns g 0
    old_name = name_same r.pointed (omega (arith, r.room)) (stands_for W v f) g old_low r.vertex (s.first f f_low some_stood)

    -- g stands in its place
    put_there : standing_in E v at n ≡ set (standing_in W v at n) i g
    put_there =
        ext_get_or 0 (standing_in E v at n) (set (standing_in W v at n) i g) (e_long ∙ sym w_long ∙ sym (length-set (standing_in W v at n) i g))
        (λ j l. let m : j < n = omega (arith, e_long) in standing_at E v at n (omega (arith, r.room)) j m ∙ go j m (ℕ_discrete j i))
      where
        e_long : length (standing_in E v at n) ≡ n
        e_long = standing_long E v at n (omega (arith, r.room))

        w_long : length (standing_in W v at n) ≡ n
        w_long = standing_long W v at n (omega (arith, r.room))

        other : (j : ℕ) → j < n → (j ≡ i → ⊥) → get_or W (at + j) 0 ≡ f → ⊥
        other j m e h = ordered (dec_lt j i)
          where
            ordered : Dec (j < i) → ⊥
            ordered (yes l) = s.apart j i l i-low (h ∙ sym i_is)
            ordered (no l) = s.apart i j (omega arith) m (i_is ∙ sym h)

        go : (j : ℕ) → j < n → Dec (j ≡ i) → stands_for E v (get_or E (at + j) 0) ≡ get_or (set (standing_in W v at n) i g) j 0
        go j m (yes e) =
            let word : get_or E (at + j) 0 ≡ f = q.words j m ∙ ap (λ (k : ℕ). get_or W (at + k) 0) e ∙ i_is in
            let is : stands_for E v f ≡ g = ap (λ (k : ℕ). k - 1) q.here ∙ (omega arith) in
            ap (stands_for E v) word
            ∙ is
            ∙ sym (get_or-set_same (standing_in W v at n) i g 0 (omega (arith, w_long, i-low)))
            ∙ ap (λ (k : ℕ). get_or (set (standing_in W v at n) i g) k 0) (sym e)
        go j m (no e) =
            stands_kept j m (other j m e)
            ∙ sym (standing_at W v at n (omega (arith, r.room)) j m)
            ∙ sym (get_or-set_other (standing_in W v at n) i j g 0 e)

    same_count : (p : ℕ → Bool) → count_if p (insert_vertex ns g R) ≡ count_if p (standing_in E v at n)
    same_count p =
        omega (
          arith,
          count_same ns g (stands_for W v f) old_name p 0 R s.rising old_there,
          s.same.same p,
          count_put p (standing_in W v at n) i g (omega (arith, standing_long W v at n (omega (arith, r.room)), i-low)),
          ap (λ (x : ℕ). one_if (p x)) old_is,
          ap (count_if p) put_there,
        )

    stood_again : Standing v at n E (insert_vertex ns g R)
    stood_again =
        record {
          same = record { same = same_count };
          rising = rises;
          low = λ j l. subst (λ (x : ℕ). x < v) (sym (q.words j l)) (s.low j l);
          set = new_set;
          apart = λ j k a b e. s.apart j k a b (sym (q.words j (omega arith)) ∙ e ∙ q.words k b);
          listed = λ x l m. go x l m (ℕ_discrete x f);
          vertex = new_vertex;
          first = new_first;
        }
      where
        go : (x : ℕ) → x < v → 0 < mark_of E v x → Dec (x ≡ f) → (j : ℕ) × ((j < n) × (get_or E (at + j) 0 ≡ x))
        go x l m (yes e) = (i, (i-low, q.words i i-low ∙ i_is ∙ sym e))
        go x l m (no e) =
            let h = s.listed x l (omega (arith, q.others x l e)) in
            (h.0, (h.1.0, q.words h.0 h.1.0 ∙ h.1.1))

  -- ---- none did
  module _ (none-stood : mark_of W v f ≡ 0) (here : get_or E (at + n) 0 ≡ f) where
    -- no listed point is that of g
    not_listed : (j : ℕ) → j < n → get_or W (at + j) 0 ≡ f → ⊥
    not_listed j l e = omega (arith, s.set j l, ap (mark_of W v) e)

    -- no vertex of R has the name of g
    other_name : (j : ℕ) → j < length (standing_in W v at n) → not (eqb (get_or ns (get_or (standing_in W v at n) j 0) 0) (get_or ns g 0)) ≡ true
    other_name j l =
        let m : j < n = omega (arith, standing_long W v at n (omega (arith, r.room))) in
        let x = get_or W (at + j) 0 in
        let is = standing_at W v at n (omega (arith, r.room)) j m in
        let low : stands_for W v x < v = omega (arith, s.vertex x (s.low j m), s.set j m) in
        ap not
        (ne_eqb (get_or ns (get_or (standing_in W v at n) j 0) 0) (get_or ns g 0)
        (λ e. not_listed j m
        (sym (s.first x (s.low j m) (s.set j m))
        ∙ first_same r.pointed (omega (arith, r.room)) (stands_for W v x) g low r.vertex (ap (λ (y : ℕ). get_or ns y 0) (sym is) ∙ e))))

    name_new : Has (get_or ns g 0) (names_of ns R) → ⊥
    name_new h =
        let p = has_place (get_or ns g 0) (names_of ns R) h in
        let l : p.0 < length R = omega (arith, p.1.0, length-map R (λ (x : ℕ). get_or ns x 0)) in
        let e : get_or ns (get_or R p.0 0) 0 ≡ get_or ns g 0 = sym (map_at (λ (x : ℕ). get_or ns x 0) R p.0 l) ∙ p.1.1 in
        eqb-false (get_or ns (get_or R p.0 0) 0) (get_or ns g 0)
        (not-true (eqb (get_or ns (get_or R p.0 0) 0) (get_or ns g 0)) (same_each (λ (x : ℕ). not (eqb (get_or ns x 0) (get_or ns g 0))) 0 s.same other_name p.0 l))
        e

    -- it is listed behind the others
    put_behind : standing_in E v at (n + 1) ≡ standing_in W v at n ++ g ∷ []
    put_behind =
        ap (map (stands_for E v)) (stretch_more E at n 0 (omega (arith, r.room)))
        ∙ map-append (stands_for E v) (take n (drop at E)) (get_or E (at + n) 0 ∷ [])
        ∙ (λ k. kept k ++ last k ∷ [])
      where
        e_long : length (standing_in E v at n) ≡ n
        e_long = standing_long E v at n (omega (arith, r.room))

        last : stands_for E v (get_or E (at + n) 0) ≡ g
        last = ap (stands_for E v) here ∙ ap (λ (k : ℕ). k - 1) q.here ∙ (omega arith)

        kept : standing_in E v at n ≡ standing_in W v at n
        kept =
            ext_get_or 0 (standing_in E v at n) (standing_in W v at n) (e_long ∙ sym (standing_long W v at n (omega (arith, r.room))))
            (λ j l.
            let m : j < n = omega (arith, e_long) in
            standing_at E v at n (omega (arith, r.room)) j m ∙ stands_kept j m (not_listed j m) ∙ sym (standing_at W v at n (omega (arith, r.room)) j m))

    new_count : (p : ℕ → Bool) → count_if p (insert_vertex ns g R) ≡ count_if p (standing_in E v at (n + 1))
    unfolding count_if
    new_count p =
        omega (
          arith,
          count_new ns g p R name_new,
          s.same.same p,
          count_append p (standing_in W v at n) (g ∷ []),
          count_cons p g [],
          ap (count_if p) put_behind,
        )

    stood_new : Standing v at (n + 1) E (insert_vertex ns g R)
    stood_new =
        record {
          same = record { same = new_count };
          rising = rises;
          low = λ j l. go_low j (ℕ_discrete j n) l;
          set = λ j l. go_set j (ℕ_discrete j n) l;
          apart = λ j k a b e. go_apart j k a b (ℕ_discrete k n) e;
          listed = λ x l m. go x l m (ℕ_discrete x f);
          vertex = new_vertex;
          first = new_first;
        }
      where
        behind : (j : ℕ) → j ≡ n → get_or E (at + j) 0 ≡ f
        behind j e = ap (λ (k : ℕ). get_or E (at + k) 0) e ∙ here

        go_low : (j : ℕ) → Dec (j ≡ n) → j < n + 1 → get_or E (at + j) 0 < v
        go_low j (yes e) l = subst (λ (x : ℕ). x < v) (sym (behind j e)) f_low
        go_low j (no e) l = subst (λ (x : ℕ). x < v) (sym (q.words j (omega arith))) (s.low j (omega arith))

        go_set : (j : ℕ) → Dec (j ≡ n) → j < n + 1 → 0 < mark_of E v (get_or E (at + j) 0)
        go_set j (yes e) l = subst (λ (x : ℕ). 0 < mark_of E v x) (sym (behind j e)) (omega (arith, q.here))
        go_set j (no e) l = new_set j (omega arith)

        go_apart : (j k : ℕ) → j < k → k < n + 1 → Dec (k ≡ n) → get_or E (at + j) 0 ≡ get_or E (at + k) 0 → ⊥
        go_apart j k a b (yes e) h = not_listed j (omega arith) (sym (q.words j (omega arith)) ∙ h ∙ behind k e)
        go_apart j k a b (no e) h = s.apart j k a (omega arith) (sym (q.words j (omega arith)) ∙ h ∙ q.words k (omega arith))

        go : (x : ℕ) → x < v → 0 < mark_of E v x → Dec (x ≡ f) → (j : ℕ) × ((j < n + 1) × (get_or E (at + j) 0 ≡ x))
        go x l m (yes e) = (n, (omega arith, here ∙ sym e))
        go x l m (no e) =
            let h = s.listed x l (omega (arith, q.others x l e)) in
            (h.0, (let b = h.1.0 in omega arith, q.words h.0 h.1.0 ∙ h.1.1))

-- ---- as the code does it

module _ {v at n g : ℕ} {W : List ℕ} (r : Standable v at n g W) where
  -- the first vertex of the point of g
  abbrev first : ℕ
  first = get_or W (v + g) 0

  low : first < v
  low = first_low r.pointed (omega (arith, r.room)) g r.vertex

  -- the word of its point is there
  pub mark_inside : 2 * v + first < length W
  mark_inside = omega (arith, low, r.room, r.pointed.behind)

  abbrev Marked : List ℕ
  Marked = set W (2 * v + first) (g + 1)

  renewed_same : Renewed v at n g W Marked
  renewed_same =
      record {
        front = take-set-le (2 * v) W (2 * v + first) (g + 1) (omega arith);
        here = get_or-set_same W (2 * v + first) (g + 1) 0 (omega (arith, r.room, r.pointed.behind, low));
        others = λ f l e. get_or-set_other W (2 * v + first) (2 * v + f) (g + 1) 0 (λ h. e (omega arith));
        words = λ j l. get_or-set_other W (2 * v + first) (at + j) (g + 1) 0 (λ h. omega (arith, r.pointed.behind, low));
      }

  -- another stood for the point
  pub stood_same : (mark_of W v first ≡ 0 → ⊥) → Stood v at n g W Marked n
  stood_same e =
      record {
        stands = λ R s.
            let h = s.listed first low (omega arith) in
            stood_again r s renewed_same (length-set W (2 * v + first) (g + 1)) h.0 h.1.0 h.1.1;
        few = omega arith;
        front = take-set-le (2 * v) W (2 * v + first) (g + 1) (omega arith);
        rest = drop-set-lt (at + n + 1) W (2 * v + first) (g + 1) (omega (arith, r.pointed.behind, low));
      }

  abbrev Longer : List ℕ
  Longer = set Marked (at + n) first

  longer_long : length Longer ≡ length W
  longer_long = length-set Marked (at + n) first ∙ length-set W (2 * v + first) (g + 1)

  renewed_new : Renewed v at n g W Longer
  renewed_new =
      record {
        front = take-set-le (2 * v) Marked (at + n) first (omega (arith, r.pointed.behind)) ∙ renewed_same.front;
        here = get_or-set_other Marked (at + n) (2 * v + first) first 0 (λ h. omega (arith, r.pointed.behind, low)) ∙ renewed_same.here;
        others = λ f l e. get_or-set_other Marked (at + n) (2 * v + f) first 0 (λ h. omega (arith, r.pointed.behind)) ∙ renewed_same.others f l e;
        words = λ j l. get_or-set_other Marked (at + n) (at + j) first 0 (λ h. omega arith) ∙ renewed_same.words j l;
      }

  -- none did
  pub stood_first : mark_of W v first ≡ 0 → Stood v at n g W Longer (n + 1)
  stood_first e =
      record {
        stands = λ R s. stood_new r s renewed_new longer_long e (get_or-set_same Marked (at + n) first 0 (omega (arith, r.room, length-set W (2 * v + first) (g + 1))));
        few = omega arith;
        front = renewed_new.front;
        rest =
            drop-set-lt (at + n + 1) Marked (at + n) first (omega arith)
            ∙ drop-set-lt (at + n + 1) W (2 * v + first) (g + 1) (omega (arith, r.pointed.behind, low));
      }
