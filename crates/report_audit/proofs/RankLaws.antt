-- Laws of ranking the rows, of gathering the ranks with a count above 0, and of writing their entries. Assumes nothing.
use mathlib.Core.Path.{◌≡◌, refl, sym, ap, ◌∙◌, subst}
use mathlib.Core.Bool.{Bool, cond}
use mathlib.Core.List.{List}
use Prim.Native.Nat.{ℕ, ◌+◌, ◌-◌, ◌*◌, ◌/◌, ◌%◌, ◌≤◌, ◌<◌, min}
use native.Mathlib.Omega.{arith}
use native.Mathlib.Decide.{ℕ_discrete, dec_lt}
use borrow.Author.Count.{below_more}
use borrow.Author.Tests.{eq-eqb, ne_eqb}
use lib.ListN.{length, get_or, set, take, drop, length-set}
use lib.Seq.{get_or-set_same, get_or-set_other, take-set-le, drop-set-lt}
use lib.Dec.{eqb}
use Rattle.lists.specs.Stretches.{front_at, rest_less}
use Rattle.slice_sort.specs.Sorting.{Sortable, Stands, Sorted}
use Rattle.report_audit.specs.Ranks.{rank_word, order_word, row_of, count_at, entry_at, WordSmall, RanksReady, RanksListed, RowsRanked}
use Rattle.report_audit.specs.Ranks.{CountReady, GatherReady, GatheredRank, Gathered, EntryReady, EntriesReady, EntriesWritten}

-- ---- a word stored behind k others

-- of the words from `at` on the one at place k was stored: E became X
record Stored (E : List ℕ) (at k x : ℕ) (X : List ℕ) : Type 0 where
  list : X ≡ set E (at + k) x

module _ {E X : List ℕ} {at k x : ℕ} (s : Stored E at k x X) where
  stored_here : at + k < length E → get_or X (at + k) 0 ≡ x
  stored_here l = ap (λ (v : List ℕ). get_or v (at + k) 0) s.list ∙ get_or-set_same E (at + k) x 0 l

  stored_other : (q : ℕ) → q < k → get_or X (at + q) 0 ≡ get_or E (at + q) 0
  stored_other q h = ap (λ (v : List ℕ). get_or v (at + q) 0) s.list ∙ get_or-set_other E (at + k) (at + q) x 0 (λ z. absurd (omega arith))

  stored_front : take at X ≡ take at E
  stored_front = ap (take at) s.list ∙ take-set-le at E (at + k) x (omega arith)

  stored_rest : (end : ℕ) → at + k < end → drop end X ≡ drop end E
  stored_rest end l = ap (drop end) s.list ∙ drop-set-lt end E (at + k) x l

  stored_long : length X ≡ length E
  stored_long = ap length s.list ∙ length-set E (at + k) x

-- ---- rows ranked

-- the words of the first k rows are listed: W became E
pub record Listing (W : List ℕ) (at m k : ℕ) (E : List ℕ) : Type 0 where
  pub low : k ≤ m
  pub words : (q : ℕ) → q < k → get_or E (at + 5 * m + q) 0 ≡ rank_word W at q
  pub front : take (at + 5 * m) E ≡ take (at + 5 * m) W
  pub rest : drop (at + 6 * m) E ≡ drop (at + 6 * m) W
  pub long : length E ≡ length W

module _ {W : List ℕ} {at m : ℕ} (g : RanksReady W at m) where
  -- none is listed yet
  pub listing_none : Listing W at m 0 W
  listing_none = record { low = omega arith; words = λ q h. absurd (omega arith); front = refl; rest = refl; long = refl }

  module _ {k : ℕ} {E : List ℕ} (c : Listing W at m k E) (l : k < m) where
    -- the row's face number is as it was
    face_is : get_or E (at + k) 0 ≡ get_or W (at + k) 0
    face_is = front_at (at + 5 * m) (at + k) W E 0 c.front (omega arith)

    -- its word can be made
    pub word_small : WordSmall (get_or E (at + k) 0) k
    word_small = record { face_low = omega (arith, face_is, g.small k l); row_low = omega (arith, g.few) }

    -- one more is listed
    pub listing_more : {x : ℕ} {X : List ℕ} → x ≡ get_or E (at + k) 0 * 4096 + k → X ≡ set E (at + 5 * m + k) x → Listing W at m (k + 1) X
    listing_more {x} {X} p w =
        let e : Stored E (at + 5 * m) k x X = record { list = w } in
        record {
          low = omega arith;
          words = below_more (λ (q : ℕ). get_or X (at + 5 * m + q) 0 ≡ rank_word W at q) k
              (λ q h. stored_other e q h ∙ c.words q h)
              (stored_here e (omega (arith, g.room, c.long)) ∙ p ∙ ap (λ (f : ℕ). f * 4096 + k) face_is);
          front = stored_front e ∙ c.front;
          rest = stored_rest e (at + 6 * m) (omega arith) ∙ c.rest;
          long = stored_long e ∙ c.long;
        }

  -- all are
  pub listing_all : {k : ℕ} {E : List ℕ} → Listing W at m k E → m ≤ k → RanksListed W at m E
  listing_all c h = record { words = λ q l. c.words q (omega arith); front = c.front; rest = c.rest; long = c.long }

  module _ {E : List ℕ} (r : RanksListed W at m E) where
    -- their words can be sorted
    pub ranks_sortable : Sortable (at + 5 * m) m 12 E
    ranks_sortable =
        record {
          room = omega (arith, g.room, r.long);
          low_small = omega arith;
          small = λ k h. omega (arith, r.words k h, g.small k h, g.few);
          rising = λ i j l h. omega (arith, r.words i (omega arith), r.words j h, g.few);
        }

    -- they are
    pub rows_ranked : {X : List ℕ} → Sorted (at + 5 * m) m E X → RowsRanked W at m X
    rows_ranked {X} s =
        let six : at + 5 * m + m ≡ at + 6 * m = omega arith in
        let seven : at + 5 * m + m + m ≡ at + 7 * m = omega arith in
        record {
          rising = s.rising;
          stands = λ k h. subst (Stands X (at + 5 * m) m) (r.words k h) (s.kept k h);
          rows = λ i h. let p = s.same i h in record { row = p.place; low = p.low; is = sym p.is ∙ r.words p.place p.low };
          front = s.front ∙ r.front;
          rest = subst (λ (k : ℕ). drop k X ≡ drop k E) seven s.rest ∙ rest_less (at + 6 * m) (at + 7 * m) W E r.rest (omega arith);
          long = s.long ∙ r.long;
        }

-- ---- the count of a rank

module _ (W : List ℕ) (at m i : ℕ) where
  -- of the first row of a face number
  pub count_yes : get_or W (at + 1 * m + row_of W at m i) 0 ≡ row_of W at m i → get_or W (at + 4 * m + row_of W at m i) 0 ≡ count_at W at m i
  unfolding count_at
  count_yes e = sym (ap (λ (b : Bool). cond b (get_or W (at + 4 * m + row_of W at m i) 0) 0) (eq-eqb (get_or W (at + 1 * m + row_of W at m i) 0) (row_of W at m i) e))

  -- of another
  pub count_no : (get_or W (at + 1 * m + row_of W at m i) 0 ≡ row_of W at m i → ⊥) → 0 ≡ count_at W at m i
  unfolding count_at
  count_no n = sym (ap (λ (b : Bool). cond b (get_or W (at + 4 * m + row_of W at m i) 0) 0) (ne_eqb (get_or W (at + 1 * m + row_of W at m i) 0) (row_of W at m i) n))

  -- it is no higher than that of the row
  count_high : count_at W at m i ≤ get_or W (at + 4 * m + row_of W at m i) 0
  count_high = go (ℕ_discrete (get_or W (at + 1 * m + row_of W at m i) 0) (row_of W at m i))
    where
      go : Dec (get_or W (at + 1 * m + row_of W at m i) 0 ≡ row_of W at m i) → count_at W at m i ≤ get_or W (at + 4 * m + row_of W at m i) 0
      go (yes e) = omega (arith, count_yes e)
      go (no n) = omega (arith, count_no n)

  -- a count above 0 is of a first row
  pub count_first : 0 < count_at W at m i → get_or W (at + 1 * m + row_of W at m i) 0 ≡ row_of W at m i
  count_first l = go (ℕ_discrete (get_or W (at + 1 * m + row_of W at m i) 0) (row_of W at m i))
    where
      go : Dec (get_or W (at + 1 * m + row_of W at m i) 0 ≡ row_of W at m i) → get_or W (at + 1 * m + row_of W at m i) 0 ≡ row_of W at m i
      go (yes e) = e
      go (no n) = absurd (omega (arith, count_no n))

-- ---- ranks gathered

-- r of the first i ranks are gathered: W became E
pub record Gathering (W : List ℕ) (at m r i : ℕ) (E : List ℕ) : Type 0 where
  pub low : i ≤ m
  pub few : r ≤ i
  pub each : (q : ℕ) → q < r → GatheredRank W at m i E q
  pub rising : (p q : ℕ) → p < q → q < r → get_or E (at + 7 * m + p) 0 % 4096 < get_or E (at + 7 * m + q) 0 % 4096
  pub every : (j : ℕ) → j < i → 0 < count_at W at m j → Stands E (at + 7 * m) r (order_word (count_at W at m j) j)
  pub front : take (at + 7 * m) E ≡ take (at + 7 * m) W
  pub rest : drop (at + 8 * m) E ≡ drop (at + 8 * m) W
  pub long : length E ≡ length W

module _ {W : List ℕ} {at m : ℕ} (g : GatherReady W at m) where
  -- none is gathered yet
  pub gathering_none : Gathering W at m 0 0 W
  gathering_none =
      record {
        low = omega arith;
        few = omega arith;
        each = λ q h. absurd (omega arith);
        rising = λ p q l h. absurd (omega arith);
        every = λ j h. absurd (omega arith);
        front = refl;
        rest = refl;
        long = refl;
      }

  count_most : (i : ℕ) → i < m → count_at W at m i ≤ 1572864
  count_most i l = omega (arith, count_high W at m i, g.small (row_of W at m i) (g.low i l))

  module _ {r i : ℕ} {E : List ℕ} (c : Gathering W at m r i E) (l : i < m) where
    row_kept : row_of E at m i ≡ row_of W at m i
    row_kept = ap (λ (x : ℕ). x % 4096) (front_at (at + 7 * m) (at + 5 * m + i) W E 0 c.front (omega arith))

    -- the count of rank i can be looked up
    pub count_ready : CountReady E at m i
    count_ready = record { inside = l; low = omega (arith, row_kept, g.low i l); room = omega (arith, g.room, c.long) }

    -- and is as it was
    count_kept : count_at E at m i ≡ count_at W at m i
    unfolding count_at
    count_kept =
        let low = g.low i l in
        let head : get_or E (at + 1 * m + row_of E at m i) 0 ≡ get_or W (at + 1 * m + row_of W at m i) 0 =
        ap (λ (k : ℕ). get_or E (at + 1 * m + k) 0) row_kept ∙ front_at (at + 7 * m) (at + 1 * m + row_of W at m i) W E 0 c.front (omega arith) in
        let count : get_or E (at + 4 * m + row_of E at m i) 0 ≡ get_or W (at + 4 * m + row_of W at m i) 0 =
        ap (λ (k : ℕ). get_or E (at + 4 * m + k) 0) row_kept ∙ front_at (at + 7 * m) (at + 4 * m + row_of W at m i) W E 0 c.front (omega arith) in
        λ t. cond (eqb (head t) (row_kept t)) (count t) 0

    module _ {count : ℕ} (ec : count ≡ count_at E at m i) where
      pub count_low : count ≤ 1572864
      count_low = omega (arith, count_kept, count_most i l)

      here_is : count ≡ count_at W at m i
      here_is = ec ∙ count_kept

      module _ {x : ℕ} {X : List ℕ} (ex : x ≡ order_word count i) (w : X ≡ set E (at + 7 * m + r) x) where
        e : Stored E (at + 7 * m) r x X
        e = record { list = w }

        room_here : at + 7 * m + r < length E
        room_here = omega (arith, g.room, c.few, c.long)

        word_here : get_or X (at + 7 * m + r) 0 ≡ order_word (count_at W at m i) i
        word_here = stored_here e room_here ∙ ex ∙ ap (λ (k : ℕ). order_word k i) here_is

        -- the ranks gathered before
        each_kept : (q : ℕ) → q < r → GatheredRank W at m (i + 1) X q
        each_kept q h =
            let p = c.each q h in
            record { rank = p.rank; low = omega (arith, p.low); above = p.above; is = stored_other e q h ∙ p.is }

        rising_kept : (p q : ℕ) → p < q → q < r → get_or X (at + 7 * m + p) 0 % 4096 < get_or X (at + 7 * m + q) 0 % 4096
        rising_kept p q h k = omega (arith, stored_other e p (omega arith), stored_other e q k, c.rising p q h k)

        stands_kept : (b : ℕ) → r ≤ b → (j : ℕ) → j < i → 0 < count_at W at m j → Stands X (at + 7 * m) b (order_word (count_at W at m j) j)
        stands_kept b hb j h k =
            let p = c.every j h k in
            record { place = p.place; low = omega (arith, p.low); is = stored_other e p.place p.low ∙ p.is }

        -- rank i has a count above 0
        gathered_one : 0 < count → Gathering W at m (r + 1) (i + 1) X
        gathered_one h =
            record {
              low = omega arith;
              few = omega (arith, c.few);
              each = below_more (λ (q : ℕ). GatheredRank W at m (i + 1) X q) r each_kept
                  (record { rank = i; low = omega arith; above = omega (arith, here_is); is = word_here });
              rising = λ p q a b. go p q a b (ℕ_discrete q r);
              every = below_more (λ (j : ℕ). 0 < count_at W at m j → Stands X (at + 7 * m) (r + 1) (order_word (count_at W at m j) j)) i
                  (stands_kept (r + 1) (omega arith))
                  (λ k. record { place = r; low = omega arith; is = word_here });
              front = stored_front e ∙ c.front;
              rest = stored_rest e (at + 8 * m) (omega (arith, c.few)) ∙ c.rest;
              long = stored_long e ∙ c.long;
            }
          where
            go : (p q : ℕ) → p < q → q < r + 1 → Dec (q ≡ r) → get_or X (at + 7 * m + p) 0 % 4096 < get_or X (at + 7 * m + q) 0 % 4096
            go p q a b (yes z) =
                let f = c.each p (omega arith) in
                let last : get_or X (at + 7 * m + q) 0 ≡ order_word (count_at W at m i) i = ap (λ (k : ℕ). get_or X (at + 7 * m + k) 0) z ∙ word_here in
                omega (arith, stored_other e p (omega arith), f.is, f.low, last, g.few)
            go p q a b (no z) = rising_kept p q a (omega arith)

        -- it has none
        gathered_none : count ≡ 0 → Gathering W at m r (i + 1) X
        gathered_none h =
            record {
              low = omega arith;
              few = omega (arith, c.few);
              each = each_kept;
              rising = rising_kept;
              every = below_more (λ (j : ℕ). 0 < count_at W at m j → Stands X (at + 7 * m) r (order_word (count_at W at m j) j)) i
                  (stands_kept r (omega arith))
                  (λ k. absurd (omega (arith, here_is)));
              front = stored_front e ∙ c.front;
              rest = stored_rest e (at + 8 * m) (omega (arith, c.few)) ∙ c.rest;
              long = stored_long e ∙ c.long;
            }

        -- either way
        pub gathering_more : {b : ℕ} → b ≡ min count 1 → Gathering W at m (r + b) (i + 1) X
        gathering_more {b} eb = go (dec_lt 0 count)
          where
            go : Dec (0 < count) → Gathering W at m (r + b) (i + 1) X
            go (yes h) = let q : r + 1 ≡ r + b = omega arith in subst (λ (k : ℕ). Gathering W at m k (i + 1) X) q (gathered_one h)
            go (no h) = let q : r ≡ r + b = omega arith in subst (λ (k : ℕ). Gathering W at m k (i + 1) X) q (gathered_none (omega arith))

  -- all are gathered
  pub gathering_all : {r i : ℕ} {E : List ℕ} → Gathering W at m r i E → m ≤ i → Gathered W at m r E
  gathering_all {r} {i} {E} c h =
      let q : i ≡ m = omega (arith, c.low) in
      record {
        few = omega (arith, c.few);
        each = λ p l. subst (λ (k : ℕ). GatheredRank W at m k E p) q (c.each p l);
        rising = c.rising;
        every = λ j l. c.every j (omega arith);
        front = c.front;
        rest = c.rest;
        long = c.long;
      }

-- ---- entries written

-- the first k entries are written: W became E
pub record Writing (W : List ℕ) (at m r k : ℕ) (E : List ℕ) : Type 0 where
  pub low : k ≤ r
  pub words : (q : ℕ) → q < k → get_or E (at + 9 * m + q) 0 ≡ entry_at W at m q
  pub front : take (at + 9 * m) E ≡ take (at + 9 * m) W
  pub rest : drop (at + 10 * m) E ≡ drop (at + 10 * m) W
  pub long : length E ≡ length W

module _ {W : List ℕ} {at m r : ℕ} (g : EntriesReady W at m r) where
  -- none is written yet
  pub writing_none : Writing W at m r 0 W
  writing_none = record { low = omega arith; words = λ q h. absurd (omega arith); front = refl; rest = refl; long = refl }

  module _ {k : ℕ} {E : List ℕ} (c : Writing W at m r k E) (l : k < r) where
    order_kept : get_or E (at + 7 * m + k) 0 ≡ get_or W (at + 7 * m + k) 0
    order_kept = front_at (at + 9 * m) (at + 7 * m + k) W E 0 c.front (omega (arith, g.few))

    rank_kept : get_or E (at + 5 * m + get_or E (at + 7 * m + k) 0 % 4096) 0 ≡ get_or W (at + 5 * m + get_or W (at + 7 * m + k) 0 % 4096) 0
    rank_kept =
        ap (λ (x : ℕ). get_or E (at + 5 * m + x % 4096) 0) order_kept
        ∙ front_at (at + 9 * m) (at + 5 * m + get_or W (at + 7 * m + k) 0 % 4096) W E 0 c.front (omega (arith, (g.each k l).low))

    -- the entry at place k can be made
    pub entry_ready : EntryReady E at m k
    entry_ready =
        let p = g.each k l in
        record {
          inside = p.inside;
          low = subst (λ (x : ℕ). x % 4096 < m) (sym order_kept) p.low;
          count = subst (λ (x : ℕ). x / 4096 ≤ 1572864) (sym order_kept) p.count;
          face = subst (λ (x : ℕ). x / 4096 < 4294967296) (sym rank_kept) p.face;
          room = omega (arith, p.room, c.long);
        }

    -- one more is written
    pub writing_more : {x : ℕ} {X : List ℕ} → x ≡ entry_at E at m k → X ≡ set E (at + 9 * m + k) x → Writing W at m r (k + 1) X
    writing_more {x} {X} p w =
        let e : Stored E (at + 9 * m) k x X = record { list = w } in
        record {
          low = omega arith;
          words = below_more (λ (q : ℕ). get_or X (at + 9 * m + q) 0 ≡ entry_at W at m q) k
              (λ q h. stored_other e q h ∙ c.words q h)
              (stored_here e (omega (arith, g.room, g.few, c.long)) ∙ p ∙ (λ t. (1572864 - order_kept t / 4096) * 4294967296 + rank_kept t / 4096));
          front = stored_front e ∙ c.front;
          rest = stored_rest e (at + 10 * m) (omega (arith, g.few)) ∙ c.rest;
          long = stored_long e ∙ c.long;
        }

  -- all are
  pub writing_all : {k : ℕ} {E : List ℕ} → Writing W at m r k E → r ≤ k → EntriesWritten W at m r E
  writing_all c h = record { words = λ q l. c.words q (omega arith); rest = c.rest; long = c.long }
