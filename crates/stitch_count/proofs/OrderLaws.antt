-- Laws of putting the loose vertices in the order of the search. Assumes nothing.
use mathlib.Core.Path.{◌≡◌, refl, sym, ap, ◌∙◌, subst}
use mathlib.Core.List.{List, [], ◌∷◌, ◌++◌}
use Prim.Native.Nat.{ℕ, zero, suc, ◌+◌, ◌*◌, ◌%◌, ◌<◌, ◌≤◌}
use native.Mathlib.Omega.{arith}
use lib.ListN.{length, get_or, take, drop, set, length-drop, length-set}
use lib.Seq.{get_or-set_same, take-set-le, drop-set-lt, length-take-le}
use lib.Ieee.{Float}
use Rattle.lists.specs.Stretches.{stretch_more, stretch_at, stretch_kept, front_at, rest_at, rest_less}
use Rattle.slice_pairs.specs.Rearranged.{Rearranged, same_self}
use Rattle.stitch_pairs.specs.FoundPairs.{ranked_at, ranked_from}
use Rattle.stitch_tree.specs.Trees.{TreeReady, TreeMade}
use Rattle.stitch_count.specs.SearchOrder.{RankReady, Ranked, OrderReady, OrderMade}

-- one vertex more
ranked_more : (j : ℕ) (gs : List ℕ) (g : ℕ) → ranked_from j (gs ++ g ∷ []) ≡ ranked_from j gs ++ ranked_at (j + length gs) g ∷ []
unfolding ranked_from
ranked_more j [] g = ap (λ (k : ℕ). ranked_at k g ∷ []) (let e : j ≡ j + 0 = omega arith in e)
ranked_more j (x ∷ gs) g =
    let e : suc j + length gs ≡ j + suc (length gs) = omega arith in
    ap (λ (r : List ℕ). ranked_at j x ∷ r) (ranked_more (suc j) gs g ∙ ap (λ (k : ℕ). ranked_from (suc j) gs ++ ranked_at k g ∷ []) e)

-- the word at place i
ranked_at_lem : (j : ℕ) (gs : List ℕ) (i : ℕ) → i < length gs → get_or (ranked_from j gs) i 0 ≡ ranked_at (j + i) (get_or gs i 0)
unfolding ranked_from
ranked_at_lem j [] i h = absurd (omega arith)
ranked_at_lem j (g ∷ gs) zero h = ap (λ (k : ℕ). ranked_at k g) (let e : j ≡ j + 0 = omega arith in e)
ranked_at_lem j (g ∷ gs) (suc i) h =
    let e : suc j + i ≡ j + suc i = omega arith in
    ranked_at_lem (suc j) gs i (omega arith) ∙ ap (λ (k : ℕ). ranked_at k (get_or gs i 0)) e

-- the words of the first j vertices are written: W became E
pub record Ranking (list count order : ℕ) (W : List ℕ) (j : ℕ) (E : List ℕ) : Type 0 where
  pub high : j ≤ count
  pub ranked : take j (drop order E) ≡ ranked_from 0 (take j (drop list W))
  pub front : take order E ≡ take order W
  pub rest : drop (order + j) E ≡ drop (order + j) W
  pub long : length E ≡ length W

module _ {v list count order : ℕ} {W : List ℕ} (g : RankReady v list count order W) where
  -- none is written yet
  pub ranking_none : Ranking list count order W 0 W
  unfolding ranked_from
  ranking_none = record { high = omega arith; ranked = refl; front = refl; rest = refl; long = refl }

  module _ {j : ℕ} {E : List ℕ} (c : Ranking list count order W j E) (l : j < count) where
    vertex_is : get_or E (list + j) 0 ≡ get_or W (list + j) 0
    vertex_is = front_at order (list + j) W E 0 c.front (omega (arith, g.apart))

    -- it can be read
    pub vertex_inside : list + j < length E
    vertex_inside = omega (arith, g.listed.room, c.long)

    -- its word fits
    pub word_fits : j * 262144 + get_or E (list + j) 0 < 18446744073709551616
    word_fits = omega (arith, vertex_is, g.listed.below j l, g.few, g.small)

    -- and has room
    pub word_inside : order + j < length E
    word_inside = omega (arith, g.room, c.long)

    -- one word more is written
    pub ranking_more : Ranking list count order W (j + 1) (set E (order + j) (j * 262144 + get_or E (list + j) 0))
    ranking_more =
        let x = j * 262144 + get_or E (list + j) 0 in
        let F = set E (order + j) x in
        let lf : length F ≡ length E = length-set E (order + j) x in
        let so_far : take j (drop order F) ≡ ranked_from 0 (take j (drop list W)) =
        stretch_kept order j (order + j) E F (take-set-le (order + j) E (order + j) x (omega arith)) (omega arith) ∙ c.ranked in
        let many : length (take j (drop list W)) ≡ j = length-take-le j (drop list W) (omega (arith, length-drop list W, g.listed.room)) in
        let word : get_or F (order + j) 0 ≡ ranked_at (0 + length (take j (drop list W))) (get_or W (list + j) 0) =
        get_or-set_same E (order + j) x 0 word_inside ∙ (let e : x ≡ 262144 * (0 + length (take j (drop list W))) + get_or W (list + j) 0 = omega (arith, many, vertex_is) in e) in
        record {
          high = omega arith;
          ranked =
              stretch_more F order j 0 (omega (arith, word_inside))
              ∙ (λ i. so_far i ++ word i ∷ [])
              ∙ sym (ap (ranked_from 0) (stretch_more W list j 0 (omega (arith, g.listed.room))) ∙ ranked_more 0 (take j (drop list W)) (get_or W (list + j) 0));
          front = take-set-le order E (order + j) x (omega arith) ∙ c.front;
          rest = drop-set-lt (order + (j + 1)) E (order + j) x (omega arith) ∙ rest_less (order + j) (order + (j + 1)) W E c.rest (omega arith);
          long = lf ∙ c.long;
        }

  -- all are
  pub ranking_all : {j : ℕ} {E : List ℕ} → Ranking list count order W j E → count ≤ j → Ranked list count order W E
  ranking_all {j} {E} c l =
      let e : j ≡ count = omega (arith, c.high) in
      record {
        ranked = subst (λ (k : ℕ). take k (drop order E) ≡ ranked_from 0 (take k (drop list W))) e c.ranked;
        front = c.front;
        rest = subst (λ (k : ℕ). drop (order + k) E ≡ drop (order + k) W) e c.rest;
      }

module _ {ps : List Float} {v list count order boxes : ℕ} {W : List ℕ} (g : OrderReady ps v list count order boxes W) where
  -- there is no loose vertex
  pub order_none : count ≡ 0 → OrderMade ps list count order boxes W W 0
  unfolding ranked_from
  order_none z =
      record {
        ranked = subst (λ (k : ℕ). Rearranged (take k (drop order W)) (ranked_from 0 (take k (drop list W)))) (sym z) (same_self []);
        boxed = λ some. absurd (omega arith);
        low = omega arith;
        inside = λ some. absurd (omega arith);
        front = refl;
        between = λ k a b. refl;
        rest = λ b a c. refl;
      }

  -- the words can be written
  pub rank_ready : RankReady v list count order W
  rank_ready = record { listed = g.listed; few = g.few; small = g.small; apart = g.behind; room = omega (arith, g.apart, g.room) }

  module _ {X : List ℕ} (some : count ≡ 0 → ⊥) (r : Ranked list count order W X) (lx : length X ≡ length W) where
    vertex_at : (j : ℕ) → j < count → get_or X (order + j) 0 % 262144 < v
    vertex_at j l =
        let gs = take count (drop list W) in
        let many : length gs ≡ count = length-take-le count (drop list W) (omega (arith, length-drop list W, g.listed.room)) in
        let word : get_or X (order + j) 0 ≡ 262144 * (0 + j) + get_or gs j 0 =
        sym (stretch_at order count X j 0 l) ∙ ap (λ (os : List ℕ). get_or os j 0) r.ranked ∙ ranked_at_lem 0 gs j (omega arith) in
        let vertex : get_or gs j 0 ≡ get_or W (list + j) 0 = stretch_at list count W j 0 l in
        omega (arith, word, vertex, g.listed.below j l, g.few)

    -- their tree can be made
    pub tree_ready : TreeReady ps v order count boxes X
    tree_ready =
        record {
          all = g.all;
          points = g.points;
          few = g.small;
          below = vertex_at;
          apart = g.apart;
          room = omega (arith, g.room);
          least = let h = g.least (omega (arith, some)) in omega arith;
        }

    -- they are in order
    pub order_made : {E : List ℕ} {top : ℕ} → TreeMade ps v order count boxes X E top → OrderMade ps list count order boxes W E top
    order_made {E} {top} t =
        let front : take order E ≡ take order W = t.front ∙ r.front in
        let listed : take count (drop list E) ≡ take count (drop list W) = stretch_kept list count order W E front g.behind in
        record {
          ranked = subst (Rearranged (take count (drop order E))) (r.ranked ∙ ap (ranked_from 0) (sym listed)) t.same;
          boxed = λ h. t.boxed;
          low = t.low;
          inside = λ h. t.inside;
          front = front;
          between = λ k a b. t.between k a b ∙ rest_at (order + count) k W X 0 r.rest a;
          rest = λ b a c. t.rest b (a (omega (arith, some))) c ∙ rest_less (order + count) b W X r.rest (omega (arith, g.apart));
        }
