-- Laws of finding on an edge: words one after another, one vertex, a block, and all loose vertices. Assumes nothing.
use mathlib.Core.Path.{◌≡◌, refl, sym, ap, ◌∙◌, subst}
use mathlib.Core.Bool.{Bool, true, false, not, cond}
use mathlib.Core.List.{List, [], ◌∷◌, ◌++◌, append-nil, append_assoc}
use mathlib.Core.Option as Math
use mathlib.Core.Option.{none, some}
use Prim.Native.Nat.{ℕ, zero, suc, ◌+◌, ◌-◌, ◌*◌, ◌/◌, ◌%◌, ◌^◌, ◌<◌, ◌≤◌}
use native.Mathlib.Omega.{arith}
use native.Mathlib.Decide.{dec_lt}
use lib.ListN.{length, get_or, take, drop, length-append, length-drop}
use lib.Seq.{get_or-take, get_or-drop, take-suc, take-add, take_all, length-take-le}
use lib.Ieee.{Float}
use Rattle.std.specs.Prelude.{Option, Some, None}
use Rattle.lists.specs.Lists.{count_if, filter_map}
use Rattle.lists.specs.Stretches.{stretch_at, stretch_kept, front_at, front_less, rest_less}
use Rattle.slice_pairs.specs.Rearranged.{count_append}
use Rattle.slice_pairs.specs.Pairs.{pair_of, pairs_in}
use Rattle.patch_geometry.specs.declared.Vec3.{Vec3}
use Rattle.patch_geometry.specs.Geometry.{vertex_at, point_at}
use Rattle.stitch_projection.specs.declared.Edge.{Edge}
use Rattle.stitch_projection.specs.Projection.{within_sag}
use Rattle.stitch_sag.specs.Beyond.{Ruled}
use Rattle.stitch_splits.specs.declared.sides.TriangleEdge.{TriangleEdge}
use Rattle.stitch_splits.specs.declared.sides.Sides.{Sides}
use Rattle.stitch_splits.specs.Filters.{map_option, filter_map_append}
use Rattle.stitch_splits.specs.declared.sides.Spot.{Spot}
use Rattle.stitch_splits.specs.Found.{side_of, found_only, spot_of}
use Rattle.stitch_splits.specs.SideLaws.{closed_finds_none, far_is_not_found}
use Rattle.stitch_pairs.specs.FoundPairs.{place_key, found_word, found_pair, found_pairs}
use Rattle.stitch_pairs.specs.Spots.{spot_key}
use Rattle.stitch_pairs.specs.Words.{PairRoom, PairAppended}
use Rattle.stitch_feet.specs.Answers.{as_option}
use Rattle.stitch_triangle.specs.Triangle.{is_found, Ordered, PointReady, TryReady, FoundIn, block_of, BlockReady, BlockEnd}

-- ---- words one after another

module _ (ps : List Float) (sag : Float) (s : Sides) (e : ℕ) where
  no_pairs : (ns os : List ℕ) → ((j : ℕ) → j < length os → is_found sag ps ns s e (get_or os j 0) ≡ false) → found_pairs sag ps ns s e os ≡ []
  unfolding found_pairs found_pair filter_map
  no_pairs ns [] h = refl
  no_pairs ns (o ∷ os) h =
      let rest = filter_map (found_pair sag ps ns s e) os in
      ap
      (λ (b : Bool). elim (cond b (map_option (λ p. pair_of (place_key p.e p.t) (found_word e o)) (spot_of s (point_at ps (o % 262144)))) none) [ none ↦ rest | some y ↦ y ∷ rest ])
      (h 0 (omega arith))
      ∙ no_pairs ns os (λ j b. h (suc j) (omega arith))

  no_count : (ns os : List ℕ) → ((j : ℕ) → j < length os → is_found sag ps ns s e (get_or os j 0) ≡ false) → count_if (is_found sag ps ns s e) os ≡ 0
  unfolding count_if
  no_count ns [] h = refl
  no_count ns (o ∷ os) h = rw (h 0 (omega arith)) (no_count ns os (λ j b. h (suc j) (omega arith)))

module _ {ps : List Float} {sag : Float} {s : Sides} {v e at ts : ℕ} where
  -- words of which none is found leave all as it was
  pub found_no : {found placed : ℕ} {W : List ℕ} (os : List ℕ) → ((j : ℕ) → j < length os → is_found sag ps (take v W) s e (get_or os j 0) ≡ false)
      → FoundIn ps sag s v e at ts found placed os W W found placed
  found_no {found} {placed} {W} os h =
      record {
        pairs = sym (ap (λ (xs : List ℕ). pairs_in W at ts placed ++ xs) (no_pairs ps sag s e (take v W) os h) ∙ append-nil (pairs_in W at ts placed));
        more = (let z : found ≡ found + 0 = omega arith in z) ∙ ap (λ (n : ℕ). found + n) (sym (no_count ps sag s e (take v W) os h));
        bound = omega arith;
        few = omega arith;
        front = refl;
        rest = refl;
      }

  -- words behind others
  pub found_then : {found placed f p f' p' : ℕ} {xs ys W X E : List ℕ} → v ≤ at → FoundIn ps sag s v e at ts found placed xs W X f p
      → FoundIn ps sag s v e at ts f p ys X E f' p' → FoundIn ps sag s v e at ts found placed (xs ++ ys) W E f' p'
  unfolding found_pairs
  found_then {found} {placed} {f} {p} {f'} {p'} {xs} {ys} {W} {X} {E} l a b =
      let names : take v X ≡ take v W = front_less v at W X a.front l in
      let long : length (xs ++ ys) ≡ length xs + length ys = length-append xs ys in
      record {
        pairs =
            b.pairs
            ∙ (λ i. a.pairs i ++ found_pairs sag ps (names i) s e ys)
            ∙ append_assoc (pairs_in W at ts placed) (found_pairs sag ps (take v W) s e xs) (found_pairs sag ps (take v W) s e ys)
            ∙ ap (λ (zs : List ℕ). pairs_in W at ts placed ++ zs) (sym (filter_map_append (found_pair sag ps (take v W) s e) xs ys));
        more =
            b.more
            ∙ (λ i. a.more i + count_if (is_found sag ps (names i) s e) ys)
            ∙ sum (count_if (is_found sag ps (take v W) s e) xs) (count_if (is_found sag ps (take v W) s e) ys)
            ∙ ap (λ (n : ℕ). found + n) (sym (count_append (is_found sag ps (take v W) s e) xs ys));
        bound = omega (arith, a.bound, b.bound, long);
        few = omega (arith, a.few, b.few, long);
        front = b.front ∙ a.front;
        rest =
            rest_less (ts + p + length ys) (ts + placed + length (xs ++ ys)) X E b.rest (omega (arith, a.few, long))
            ∙ rest_less (ts + placed + length xs) (ts + placed + length (xs ++ ys)) W X a.rest (omega (arith, long));
      }
    where
      sum : (m n : ℕ) → found + m + n ≡ found + (m + n)
      sum m n = omega arith

-- ---- a look at one vertex

-- ---- one vertex tried

-- no answer is made of no place alone
no_spot : (o : Math.Option Spot) → None ≡ as_option o → o ≡ none
no_spot none z = refl
no_spot (some q) z = absurd (let n : ◌≡◌ {A = ℕ} 0 1 = cc in omega arith)

-- an answer is made of its place
some_spot : (o : Math.Option Spot) (p : Spot) → Some p ≡ as_option o → o ≡ some p
some_spot none p z = absurd (let n : ◌≡◌ {A = ℕ} 0 1 = cc in omega arith)
some_spot (some q) p z = let same : q ≡ p = cc in ap (λ (x : Spot). some x) same

-- the pairs of one word
unfoldable pairs_of_one : Math.Option ℕ → List ℕ
pairs_of_one none = []
pairs_of_one (some y) = y ∷ []

one_shape : (y : Math.Option ℕ) → elim y [ none ↦ [] | some y ↦ y ∷ [] ] ≡ pairs_of_one y
unfolding pairs_of_one
one_shape none = refl
one_shape (some y) = refl

module _ {ps : List Float} {sag beyond : Float} {v order count j e at ts found placed : ℕ} {W : List ℕ} (t : TryReady ps sag beyond v order count j e at ts found placed W) where
  -- the word of its pair fits
  pub word_fits : e * 274877906944 + get_or W (order + j) 0 < 18446744073709551616
  word_fits = omega (arith, t.edge, t.ordered.small j t.inside)

  module _ {g : ℕ} (eg : g ≡ get_or W (order + j) 0 % 262144) where
    -- the vertex is one of them
    pub vertex_low : g < v
    vertex_low = omega (arith, eg, t.ordered.below j t.inside)

    -- its coordinates are there
    pub point_inside : 3 * g + 2 < length ps
    point_inside = omega (arith, vertex_low, t.ordered.all)

    -- so is its name
    pub name_inside : g < length W
    name_inside = omega (arith, vertex_low, t.ordered.behind, t.ordered.room)

    -- the point is found or not as the definition says
    module _ (s : Sides) {b : Bool} {r : Vec3} (er : r ≡ vertex_at ps (3 * g)) (eb : b ≡ found_only sag s e (get_or W g 0) r) where
      abbrev word : ℕ
      word = get_or W (order + j) 0

      test : b ≡ is_found sag ps (take v W) s e word
      test =
          eb
          ∙ ap (λ (n : ℕ). found_only sag s e n r) (sym (get_or-take v W g 0 vertex_low))
          ∙ ap (found_only sag s e (get_or (take v W) g 0)) er
          ∙ ap (λ (k : ℕ). found_only sag s e (get_or (take v W) k 0) (point_at ps k)) eg

      spot_there : spot_of s r ≡ spot_of s (point_at ps (word % 262144))
      spot_there = ap (spot_of s) (er ∙ ap (point_at ps) eg)

      -- its pairs, if it is found and if not
      one_pair : (c : Bool) (q : Math.Option Spot) → c ≡ b → q ≡ spot_of s r
          → found_pairs sag ps (take v W) s e (word ∷ []) ≡ pairs_of_one (cond c (map_option (λ p. pair_of (place_key p.e p.t) (found_word e word)) q) none)
      unfolding found_pairs found_pair filter_map pairs_of_one
      one_pair c q ec eq = go (is_found sag ps (take v W) s e word) (spot_of s (point_at ps (word % 262144))) (sym (ec ∙ test)) (sym (eq ∙ spot_there))
        where
          go : (x : Bool) (y : Math.Option Spot) → x ≡ c → y ≡ q
              → elim (cond x (map_option (λ p. pair_of (place_key p.e p.t) (found_word e word)) y) none) [ none ↦ [] | some y ↦ y ∷ [] ]
              ≡ pairs_of_one (cond c (map_option (λ p. pair_of (place_key p.e p.t) (found_word e word)) q) none)
          go x y ex ey = one_shape (cond x (map_option (λ p. pair_of (place_key p.e p.t) (found_word e word)) y) none)
              ∙ (λ i. pairs_of_one (cond (ex i) (map_option (λ p. pair_of (place_key p.e p.t) (found_word e word)) (ey i)) none))

      one_count : (c : Bool) → c ≡ b → count_if (is_found sag ps (take v W) s e) (word ∷ []) ≡ cond c 1 0
      unfolding count_if
      one_count c ec = ap (λ (x : Bool). cond x 1 0) (sym (ec ∙ test))

      -- it is not found
      pub tried_not : b ≡ false → FoundIn ps sag s v e at ts found placed (word ∷ []) W W found placed
      tried_not f = found_no (word ∷ []) look
        where
          look : (k : ℕ) → k < 1 → is_found sag ps (take v W) s e (get_or (word ∷ []) k 0) ≡ false
          look zero l = sym test ∙ f
          look (suc k) l = absurd (omega arith)

      -- it is found, and projects into no edge
      pub tried_nowhere : {p : Option Spot} → b ≡ true → p ≡ as_option (spot_of s r) → p ≡ None → FoundIn ps sag s v e at ts found placed (word ∷ []) W W (found + 1) placed
      unfolding pairs_of_one
      tried_nowhere {p} f q n =
          record {
            pairs =
                sym
                (ap (λ (xs : List ℕ). pairs_in W at ts placed ++ xs) (one_pair true none (sym f) (sym (no_spot (spot_of s r) (sym n ∙ q))))
                ∙ append-nil (pairs_in W at ts placed));
            more = ap (λ (k : ℕ). found + k) (sym (one_count true (sym f)));
            bound = omega arith;
            few = omega arith;
            front = refl;
            rest = refl;
          }

      -- it is found and placed
      module _ {p : Option Spot} {k : Spot} (f : b ≡ true) (q : p ≡ as_option (spot_of s r)) (n : p ≡ Some k) where
        abbrev spot : Spot
        spot = k

        spot_is : spot_of s r ≡ some spot
        spot_is = some_spot (spot_of s r) k (sym n ∙ q)

        -- its pair can go behind the others
        pub pair_room : PairRoom at ts placed k.e k.t W
        pair_room = let key = spot_key s r spot spot_is in record { apart = t.apart; room = t.room; edge = key.edge; bits = key.bits }

        -- it does
        pub tried_placed : {E : List ℕ} → PairAppended at ts placed k.e k.t (e * 274877906944 + word) W E
            → FoundIn ps sag s v e at ts found placed (word ∷ []) W E (found + 1) (placed + 1)
        unfolding pairs_of_one
        tried_placed {E} i =
            let w : e * 274877906944 + word ≡ found_word e word = omega arith in
            record {
              pairs =
                  i.pairs
                  ∙ ap (λ (x : ℕ). pairs_in W at ts placed ++ pair_of (place_key k.e k.t) x ∷ []) w
                  ∙ ap (λ (xs : List ℕ). pairs_in W at ts placed ++ xs) (sym (one_pair true (some spot) (sym f) (sym spot_is)));
              more = ap (λ (k : ℕ). found + k) (sym (one_count true (sym f)));
              bound = omega arith;
              few = omega arith;
              front = i.front;
              rest = i.rest;
            }

-- ---- a block

-- the words of the block up to place j have been tried: W became E
pub record Trying (ps : List Float) (sag : Float) (s : Sides) (v order count from end e at ts found placed : ℕ) (W : List ℕ) (total entries j : ℕ) (E : List ℕ) : Type 0 where
  pub low : from ≤ j
  pub high : j ≤ end
  pub so_far : FoundIn ps sag s v e at ts found placed (take (j - from) (drop from (take count (drop order W)))) W E total entries
  pub long : length E ≡ length W

-- a stretch in front of what was written is kept, word by word
pub ordered_kept : {ps : List Float} {v order count at : ℕ} {W E : List ℕ} → Ordered ps v order count W → order + count ≤ at → take at E ≡ take at W → length E ≡ length W → Ordered ps v order count E
ordered_kept {ps} {v} {order} {count} {at} {W} {E} d l e long =
    record {
      few = d.few;
      all = d.all;
      behind = d.behind;
      room = omega (arith, d.room);
      below = λ j b. subst (λ (x : ℕ). x % 262144 < v) (sym (word j b)) (d.below j b);
      small = λ j b. subst (λ (x : ℕ). x < 274877906944) (sym (word j b)) (d.small j b);
    }
  where
    word : (j : ℕ) → j < count → get_or E (order + j) 0 ≡ get_or W (order + j) 0
    word j b = front_at at (order + j) W E 0 e (omega arith)

module _ {ps : List Float} {sag beyond : Float} {v order count from e at ts found placed : ℕ} {W : List ℕ}
    (g : BlockReady ps sag beyond v order count from e at ts found placed W) (s : Sides) {end : ℕ} (b : BlockEnd from count end) where
  abbrev os : List ℕ
  os = take count (drop order W)

  os_long : length os ≡ count
  os_long = length-take-le count (drop order W) (omega (arith, length-drop order W, g.ordered.room))

  rest_long : length (drop from os) ≡ count - from
  rest_long = length-drop from os ∙ ap (λ (n : ℕ). n - from) os_long

  -- nothing has been tried yet
  pub trying_none : Trying ps sag s v order count from end e at ts found placed W found placed from W
  trying_none =
      record {
        low = omega arith;
        high = b.inside;
        so_far = subst (λ (n : ℕ). FoundIn ps sag s v e at ts found placed (take n (drop from os)) W W found placed) none (found_no [] (λ j b. absurd (omega arith)));
        long = refl;
      }
    where
      none : 0 ≡ from - from
      none = omega arith

  module _ {total entries j : ℕ} {E : List ℕ} (f : Trying ps sag s v order count from end e at ts found placed W total entries j E) (m : j < end) where
    l : j < count
    l = omega (arith, b.low)

    done_long : length (take (j - from) (drop from os)) ≡ j - from
    done_long = length-take-le (j - from) (drop from os) (omega (arith, rest_long, f.low))

    -- the next can be tried
    pub next_ready : TryReady ps sag beyond v order count j e at ts total entries E
    next_ready =
        record {
          ordered = ordered_kept g.ordered g.behind f.so_far.front f.long;
          inside = l;
          behind = g.behind;
          apart = omega (arith, f.so_far.few, done_long, f.low, g.apart);
          room = omega (arith, f.so_far.few, done_long, f.low, f.long, g.room);
          edge = g.edge;
          countable = omega (arith, f.so_far.bound, done_long, f.low, g.countable);
          far = g.far;
        }

    -- and looked at
    pub point_ready : PointReady ps v order count j E
    point_ready = record { ordered = next_ready.ordered; inside = l }

    -- its word is the one that comes next
    word_is : get_or E (order + j) 0 ≡ get_or (drop from os) (j - from) 0
    word_is =
        front_at at (order + j) W E 0 f.so_far.front (omega (arith, g.behind))
        ∙ sym (get_or-drop from os (j - from) 0 ∙ ap (λ (k : ℕ). get_or os k 0) (let z : from + (j - from) ≡ j = omega (arith, f.low) in z) ∙ stretch_at order count W j 0 l)

    -- one word more
    pub trying_more : {total' entries' : ℕ} {F : List ℕ} → FoundIn ps sag s v e at ts total entries (get_or E (order + j) 0 ∷ []) E F total' entries' → length F ≡ length E
        → Trying ps sag s v order count from end e at ts found placed W total' entries' (j + 1) F
    trying_more {total'} {entries'} {F} d lf =
        record {
          low = omega (arith, f.low);
          high = omega arith;
          so_far =
              subst (λ (xs : List ℕ). FoundIn ps sag s v e at ts found placed xs W F total' entries')
              (ap (λ (x : ℕ). take (j - from) (drop from os) ++ x ∷ []) word_is
              ∙ sym (take-suc (drop from os) (j - from) 0 (omega (arith, rest_long, f.low)))
              ∙ ap (λ (n : ℕ). take n (drop from os)) (let z : suc (j - from) ≡ j + 1 - from = omega (arith, f.low) in z))
              (found_then (omega (arith, g.ordered.behind, g.behind)) f.so_far d);
          long = lf ∙ f.long;
        }

    -- one that the edge rules out need not be tried
    pub trying_ruled : {x : TriangleEdge} {o : Bool} → x ≡ side_of s e → Ruled beyond x.edge (point_at ps (get_or E (order + j) 0 % 262144)) o → o ≡ false
        → Trying ps sag s v order count from end e at ts found placed W total entries (j + 1) E
    trying_ruled {x} {o} ex d z = trying_more (found_no (get_or E (order + j) 0 ∷ []) look) refl
      where
        look : (k : ℕ) → k < 1 → is_found sag ps (take v E) s e (get_or (get_or E (order + j) 0 ∷ []) k 0) ≡ false
        look zero b =
            far_is_not_found sag s e _ _
            (subst (λ (x : TriangleEdge). within_sag sag x.edge (point_at ps (get_or E (order + j) 0 % 262144)) ≡ false) ex (d.out sag g.far z))
        look (suc k) b = absurd (omega arith)

  -- the whole block
  pub trying_all : {total entries j : ℕ} {E : List ℕ} → Trying ps sag s v order count from end e at ts found placed W total entries j E → end ≤ j
      → FoundIn ps sag s v e at ts found placed (block_of W order count from) W E total entries
  trying_all {total} {entries} {j} {E} f h =
      subst (λ (xs : List ℕ). FoundIn ps sag s v e at ts found placed xs W E total entries) (go (dec_lt end count)) f.so_far
    where
      go : Dec (end < count) → take (j - from) (drop from os) ≡ take 8 (drop from os)
      go (yes y) = ap (λ (n : ℕ). take n (drop from os)) (let z : j - from ≡ 8 = omega (arith, b.whole y, b.inside, f.high) in z)
      go (no n) =
          take_all (j - from) (drop from os) (omega (arith, rest_long, b.low, b.inside, f.high))
          ∙ sym (take_all 8 (drop from os) (omega (arith, rest_long, b.low, b.short, b.inside)))
