-- Laws of the entries that ranking leaves: they are the definition's, where face numbers and counts of marks stood. Assumes nothing.
use mathlib.Core.Path.{◌≡◌, refl, sym, ap, ◌∙◌, subst}
use mathlib.Core.Logic.{◌⊎◌, inl, inr}
use mathlib.Core.List.{List, [], ◌∷◌, map}
use Prim.Native.Nat.{ℕ, zero, suc, ◌+◌, ◌-◌, ◌*◌, ◌/◌, ◌%◌, ◌≤◌, ◌<◌}
use native.Mathlib.Nat.{le_of_suc-le-suc, not-suc-le-zero}
use native.Mathlib.Omega.{arith}
use native.Mathlib.Decide.{ℕ_discrete, dec_lt}
use lib.ListN.{length, get_or, take, drop, length-map, length-drop}
use lib.Seq.{length-take-le}
use lib.Dec.{eqb}
use Rattle.lists.specs.Lists.{count_if}
use Rattle.lists.specs.Members.{has_place, has_item}
use Rattle.lists.specs.Stretches.{front_at, rest_less, stretch_at}
use Rattle.slice_sort.specs.Sorting.{Sortable, Sorted}
use Rattle.join_definition.specs.Join.{first_index}
use Rattle.join_definition.specs.Representatives.{rep_below, rep_name, same_name_rep, joined_at}
use Rattle.report_definition.specs.Audit.{Entry, entry_of}
use Rattle.report_definition.specs.AuditLaws.{Among, Before, Ahead, Ordered, Marked, Listed, listed_only}
use Rattle.report_audit.specs.Audited.{no_entry}
use Rattle.report_audit.specs.Ranks.{rank_word, order_word, entry_word, row_of, count_at, RowsRanked, GatherReady, Gathered, EntriesReady, EntriesWritten, RankReady, CountsStand, Ranked}
use Rattle.report_audit.proofs.RankLaws.{count_yes, count_first}

-- ---- entries by their places

-- the entry of a word
abbrev entry_from : ℕ → Entry
entry_from x = record { face = x % 4294967296; count = x / 4294967296 }

from_at : (xs : List ℕ) (k : ℕ) → k < length xs → get_or (map entry_from xs) k no_entry ≡ entry_from (get_or xs k 0)
from_at [] k h = absurd (not-suc-le-zero h)
from_at (x ∷ xs) zero h = refl
from_at (x ∷ xs) (suc k) h = from_at xs k (le_of_suc-le-suc h)

-- and its word
words_back : (xs : List ℕ) → map entry_word (map entry_from xs) ≡ xs
words_back [] = refl
words_back (x ∷ xs) = λ t. here t ∷ words_back xs t
  where
    here : x / 4294967296 * 4294967296 + x % 4294967296 ≡ x
    here = omega arith

-- the entry at a place is among them
pub among_item : (es : List Entry) (k : ℕ) → k < length es → Among (get_or es k no_entry) es
among_item [] k h = absurd (not-suc-le-zero h)
among_item (e ∷ es) zero h = inl refl
among_item (e ∷ es) (suc k) h = inr (among_item es k (le_of_suc-le-suc h))

-- the place of an entry that is
record Placed (e : Entry) (es : List Entry) : Type 0 where
  place : ℕ
  low : place < length es
  is : get_or es place no_entry ≡ e

among_place : (e : Entry) (es : List Entry) → Among e es → Placed e es
among_place e [] m = absurd m
among_place e (f ∷ fs) (inl p) = record { place = 0; low = omega arith; is = sym p }
among_place e (f ∷ fs) (inr m) = let p = among_place e fs m in record { place = suc p.place; low = omega (arith, p.low); is = p.is }

-- entries of which each goes before those at later places
ahead_at : (e : Entry) (es : List Entry) → ((k : ℕ) → k < length es → Before e (get_or es k no_entry)) → Ahead e es
ahead_at e [] h = tt
ahead_at e (f ∷ fs) h = (h 0 (omega arith), ahead_at e fs (λ k l. h (suc k) (omega arith)))

ordered_at : (es : List Entry) → ((i j : ℕ) → i < j → j < length es → Before (get_or es i no_entry) (get_or es j no_entry)) → Ordered es
ordered_at [] h = tt
ordered_at (e ∷ es) h = (ahead_at e es (λ k l. h 0 (suc k) (omega arith) (omega arith)), ordered_at es (λ i j l m. h (suc i) (suc j) (omega arith) (omega arith)))

-- ---- rows ranked: W became X

module _ {W : List ℕ} {at m : ℕ} (g : RankReady W at m) where
  module _ {X : List ℕ} (k : RowsRanked W at m X) where
    -- the row of a rank
    row_is : (i row : ℕ) → row < m → get_or X (at + 5 * m + i) 0 ≡ rank_word W at row → row_of X at m i ≡ row
    row_is i row l e = omega (arith, g.few)

    kept_x : (j : ℕ) → j < at + 5 * m → get_or X j 0 ≡ get_or W j 0
    kept_x j l = front_at (at + 5 * m) j W X 0 k.front l

    -- the ranks can be gathered
    pub gather_ready : GatherReady X at m
    gather_ready =
        record {
          few = g.few;
          low = λ i l. let p = k.rows i l in omega (arith, row_is i p.row p.low p.is, p.low);
          small = λ j l. omega (arith, kept_x (at + 4 * m + j) (omega arith), g.small j l);
          room = omega (arith, g.room, k.long);
        }

    -- ---- gathered: X became Y, and sorted: Y became Z

    module _ {r : ℕ} {Y : List ℕ} (y : Gathered X at m r Y) where
      -- they can be sorted
      pub order_sortable : Sortable (at + 7 * m) r 12 Y
      order_sortable =
          record {
            room = omega (arith, g.room, y.few, y.long, k.long);
            low_small = omega arith;
            small = λ q l. let p = y.each q l in omega (arith, p.is, p.low, g.few);
            rising = λ i j l h. omega (arith, y.rising i j l h);
          }

      module _ {Z : List ℕ} (s : Sorted (at + 7 * m) r Y Z) where
        -- the rank of the word at a place
        record Rank (q : ℕ) : Type 0 where
          rank : ℕ
          low : rank < m
          above : 0 < count_at X at m rank
          is : get_or Z (at + 7 * m + q) 0 ≡ order_word (count_at X at m rank) rank

        rank_at : (q : ℕ) → q < r → Rank q
        rank_at q l =
            let p = s.same q l in
            let f = y.each p.place p.low in
            record { rank = f.rank; low = f.low; above = f.above; is = sym p.is ∙ f.is }

        kept_z : (j : ℕ) → j < at + 7 * m → get_or Z j 0 ≡ get_or X j 0
        kept_z j l = front_at (at + 7 * m) j X Z 0 (s.front ∙ y.front) l

        -- what the entry at a place is made of
        record Made (q : ℕ) : Type 0 where
          row : ℕ
          low : row < m
          rank : ℕ
          rank_low : rank < m
          ranked : get_or X (at + 5 * m + rank) 0 ≡ rank_word W at row
          head : get_or W (at + m + row) 0 ≡ row
          above : 0 < get_or W (at + 4 * m + row) 0
          order : get_or Z (at + 7 * m + q) 0 ≡ order_word (get_or W (at + 4 * m + row) 0) rank

        made_at : (q : ℕ) → q < r → Made q
        made_at q l =
            let p = rank_at q l in
            let f = k.rows p.rank p.low in
            let n = f.row in
            let e : row_of X at m p.rank ≡ n = row_is p.rank n f.low f.is in
            let same : at + 1 * m + n ≡ at + m + n = omega arith in
            let first : get_or X (at + 1 * m + n) 0 ≡ n = subst (λ (j : ℕ). get_or X (at + 1 * m + j) 0 ≡ j) e (count_first X at m p.rank p.above) in
            let count : get_or X (at + 4 * m + n) 0 ≡ count_at X at m p.rank =
            subst (λ (j : ℕ). get_or X (at + 4 * m + j) 0 ≡ count_at X at m p.rank) e (count_yes X at m p.rank (count_first X at m p.rank p.above)) in
            let counted : count_at X at m p.rank ≡ get_or W (at + 4 * m + n) 0 = sym count ∙ kept_x (at + 4 * m + n) (omega (arith, f.low)) in
            record {
              row = n;
              low = f.low;
              rank = p.rank;
              rank_low = p.low;
              ranked = f.is;
              head = sym (kept_x (at + m + n) (omega (arith, f.low))) ∙ ap (λ (j : ℕ). get_or X j 0) (sym same) ∙ first;
              above = subst (λ (j : ℕ). 0 < j) counted p.above;
              order = p.is ∙ ap (λ (c : ℕ). order_word c p.rank) counted;
            }

        -- its rank and count are read off the word
        module _ (q : ℕ) (p : Made q) where
          count_fits : get_or W (at + 4 * m + p.row) 0 ≤ 1572864
          count_fits = g.small p.row p.low

          rank_is : get_or Z (at + 7 * m + q) 0 % 4096 ≡ p.rank
          rank_is = omega (arith, p.order, p.rank_low, g.few)

          count_is : 1572864 - get_or Z (at + 7 * m + q) 0 / 4096 ≡ get_or W (at + 4 * m + p.row) 0
          count_is = omega (arith, p.order, p.rank_low, g.few, count_fits)

          face_is : get_or Z (at + 5 * m + get_or Z (at + 7 * m + q) 0 % 4096) 0 / 4096 ≡ get_or W (at + p.row) 0
          face_is =
              ap (λ (j : ℕ). get_or Z (at + 5 * m + j) 0 / 4096) rank_is
              ∙ omega (arith, kept_z (at + 5 * m + p.rank) (omega (arith, p.rank_low)), p.ranked, p.low, g.few)

        -- the entries can be written
        pub entries_ready : EntriesReady Z at m r
        entries_ready =
            record {
              few = y.few;
              each = λ q l.
                  let p = made_at q l in
                  record {
                    inside = omega (arith, y.few);
                    low = omega (arith, rank_is q p, p.rank_low);
                    count = omega (arith, p.order, p.rank_low, g.few);
                    face = omega (arith, face_is q p, g.faces p.row p.low);
                    room = omega (arith, g.room, s.long, y.long, k.long);
                  };
              room = omega (arith, g.room, s.long, y.long, k.long);
            }

        -- ---- the entries: Z became E

        module _ {E : List ℕ} (e : EntriesWritten Z at m r E) where
          word_is : (q : ℕ) (l : q < r) (p : Made q) → get_or E (at + 9 * m + q) 0 ≡ get_or W (at + 4 * m + p.row) 0 * 4294967296 + get_or W (at + p.row) 0
          word_is q l p = e.words q l ∙ (λ t. count_is q p t * 4294967296 + face_is q p t)

          long : length E ≡ length W
          long = e.long ∙ s.long ∙ y.long ∙ k.long

          abbrev words : List ℕ
          words = take r (drop (at + 9 * m) E)

          words_long : length words ≡ r
          words_long = length-take-le r (drop (at + 9 * m) E) (omega (arith, length-drop (at + 9 * m) E, g.room, y.few, long))

          module _ (faces marks : List ℕ) (cs : CountsStand W at m faces marks) where
            face_at : (j : ℕ) → j < m → get_or W (at + j) 0 ≡ get_or faces j 0
            face_at j l = sym (stretch_at at m W j 0 l) ∙ ap (λ (v : List ℕ). get_or v j 0) cs.faces_are

            head_at : (j : ℕ) → j < m → get_or W (at + m + j) 0 ≡ first_index faces j
            head_at j l = sym (stretch_at (at + m) m W j 0 l) ∙ ap (λ (v : List ℕ). get_or v j 0) cs.heads_are ∙ joined_at faces j (omega (arith, cs.many))

            -- a row that is the first of its face number has the number's count
            count_at_lem : (j : ℕ) → j < m → first_index faces j ≡ j → get_or W (at + 4 * m + j) 0 ≡ count_if (eqb (get_or faces j 0)) marks
            count_at_lem j l h = ap (λ (n : ℕ). get_or W (at + 4 * m + n) 0) (sym h) ∙ cs.count j l

            abbrev entries : List Entry
            entries = map entry_from words

            entries_long : length entries ≡ r
            entries_long = length-map words entry_from ∙ words_long

            first_row : (q : ℕ) (p : Made q) → first_index faces p.row ≡ p.row
            first_row q p = sym (head_at p.row p.low) ∙ p.head

            -- the entry at a place is that of its row's face number
            entry_is : (q : ℕ) (l : q < r) (p : Made q) → get_or entries q no_entry ≡ entry_of marks (get_or faces p.row 0)
            unfolding entry_of
            entry_is q l p =
                from_at words q (omega (arith, words_long))
                ∙ ap entry_from (stretch_at (at + 9 * m) r E q 0 l ∙ word_is q l p)
                ∙ (λ t. record { face = face t; count = count t })
              where
                small : get_or W (at + p.row) 0 < 4294967296
                small = g.faces p.row p.low

                face : (get_or W (at + 4 * m + p.row) 0 * 4294967296 + get_or W (at + p.row) 0) % 4294967296 ≡ get_or faces p.row 0
                face = omega (arith, small, face_at p.row p.low)

                count : (get_or W (at + 4 * m + p.row) 0 * 4294967296 + get_or W (at + p.row) 0) / 4294967296 ≡ count_if (eqb (get_or faces p.row 0)) marks
                count = omega (arith, small, count_at_lem p.row p.low (first_row q p))

            -- of two entries the one at the earlier place goes before
            before_made : (i j : ℕ) (p : Made i) (n : Made j) → order_word (get_or W (at + 4 * m + p.row) 0) p.rank < order_word (get_or W (at + 4 * m + n.row) 0) n.rank
                → Before (entry_of marks (get_or faces p.row 0)) (entry_of marks (get_or faces n.row 0))
            unfolding entry_of
            before_made i j p n rises = go (dec_lt (get_or W (at + 4 * m + n.row) 0) (get_or W (at + 4 * m + p.row) 0))
              where
                count_p : get_or W (at + 4 * m + p.row) 0 ≡ count_if (eqb (get_or faces p.row 0)) marks
                count_p = count_at_lem p.row p.low (first_row i p)

                count_n : get_or W (at + 4 * m + n.row) 0 ≡ count_if (eqb (get_or faces n.row 0)) marks
                count_n = count_at_lem n.row n.low (first_row j n)

                later : p.rank < n.rank → Dec (get_or faces p.row 0 ≡ get_or faces n.row 0) → get_or faces p.row 0 < get_or faces n.row 0
                later l (yes q) =
                    absurd (omega (
                      arith,
                      k.rising p.rank n.rank l n.rank_low,
                      p.ranked,
                      n.ranked,
                      face_at p.row p.low,
                      face_at n.row n.low,
                      first_row i p,
                      first_row j n,
                      same_name_rep faces p.row n.row q,
                    ))
                later l (no q) =
                    omega (
                      arith,
                      k.rising p.rank n.rank l n.rank_low,
                      p.ranked,
                      n.ranked,
                      face_at p.row p.low,
                      face_at n.row n.low,
                      p.low,
                      n.low,
                      g.few,
                    )

                go : Dec (get_or W (at + 4 * m + n.row) 0 < get_or W (at + 4 * m + p.row) 0)
                    → (count_if (eqb (get_or faces n.row 0)) marks < count_if (eqb (get_or faces p.row 0)) marks)
                    ⊎ ((count_if (eqb (get_or faces p.row 0)) marks ≡ count_if (eqb (get_or faces n.row 0)) marks) × (get_or faces p.row 0 < get_or faces n.row 0))
                go (yes l) = inl (omega (arith, count_p, count_n))
                go (no l) =
                    let same : get_or W (at + 4 * m + p.row) 0 ≡ get_or W (at + 4 * m + n.row) 0 =
                    omega (arith, rises, count_fits i p, count_fits j n, p.rank_low, n.rank_low, g.few) in
                    inr
                    (sym count_p ∙ same ∙ count_n, later (omega (arith, rises, same)) (ℕ_discrete (get_or faces p.row 0) (get_or faces n.row 0)))

            in_order : (i j : ℕ) → i < j → j < r → Before (get_or entries i no_entry) (get_or entries j no_entry)
            in_order i j l h =
                let p = made_at i (omega arith) in
                let n = made_at j h in
                subst (λ (x : Entry). Before x (get_or entries j no_entry)) (sym (entry_is i (omega arith) p))
                (subst (λ (x : Entry). Before (entry_of marks (get_or faces p.row 0)) x) (sym (entry_is j h n))
                (before_made i j p n (omega (arith, p.order, n.order, s.rising i j l h))))

            -- the entry of a row that is the first of its face number and has a count above 0 is to be listed
            marked_row : (j : ℕ) → j < m → first_index faces j ≡ j → 0 < get_or W (at + 4 * m + j) 0 → Marked faces marks (entry_of marks (get_or faces j 0))
            unfolding entry_of
            marked_row j l h a = record { of_face = has_item faces j (omega (arith, cs.many)); counted = refl; above = omega (arith, count_at_lem j l h) }

            each_marked : (e : Entry) → Among e entries → Marked faces marks e
            each_marked e a =
                let q = among_place e entries a in
                let l : q.place < r = omega (arith, q.low, entries_long) in
                let p = made_at q.place l in
                subst (Marked faces marks) (sym (entry_is q.place l p) ∙ q.is) (marked_row p.row p.low (first_row q.place p) p.above)

            -- and it is
            row_listed : (i : ℕ) → i < m → 0 < count_if (eqb (get_or faces i 0)) marks → Among (entry_of marks (get_or faces i 0)) entries
            row_listed i l a =
                let il : i < length faces = omega (arith, cs.many) in
                let j = first_index faces i in
                let jl : first_index faces i < m = omega (arith, rep_below faces i il, cs.many) in
                let name = rep_name faces i il in
                let first : first_index faces j ≡ j = same_name_rep faces j i name in
                let p = k.stands j jl in
                let e : row_of X at m p.place ≡ j = row_is p.place j jl p.is in
                let same : at + 1 * m + j ≡ at + m + j = omega arith in
                let head : get_or X (at + 1 * m + j) 0 ≡ j = ap (λ (n : ℕ). get_or X n 0) same ∙ kept_x (at + m + j) (omega arith) ∙ head_at j jl ∙ first in
                let count : get_or W (at + 4 * m + j) 0 ≡ count_at X at m p.place =
                sym (kept_x (at + 4 * m + j) (omega arith))
                ∙ ap (λ (n : ℕ). get_or X (at + 4 * m + n) 0) (sym e)
                ∙ count_yes X at m p.place (subst (λ (n : ℕ). get_or X (at + 1 * m + n) 0 ≡ n) (sym e) head) in
                let above : 0 < get_or W (at + 4 * m + j) 0 = omega (arith, cs.count i l) in
                let f = y.every p.place p.low (subst (λ (n : ℕ). 0 < n) count above) in
                let z = s.kept f.place f.low in
                let made : Made z.place =
                record {
                  row = j;
                  low = jl;
                  rank = p.place;
                  rank_low = p.low;
                  ranked = p.is;
                  head = head_at j jl ∙ first;
                  above = above;
                  order = z.is ∙ f.is ∙ ap (λ (c : ℕ). order_word c p.place) (sym count);
                } in
                subst (λ (x : Entry). Among x entries) (entry_is z.place z.low made ∙ ap (entry_of marks) name)
                (among_item entries z.place (omega (arith, z.low, entries_long)))

            listed : Listed faces marks entries
            listed =
                record {
                  ordered = ordered_at entries (λ i j l h. in_order i j l (omega (arith, entries_long)));
                  each = each_marked;
                  every = λ n h a.
                      let p = has_place n faces h in
                      subst (λ (x : ℕ). Among (entry_of marks x) entries) p.1.1
                      (row_listed p.0 (let l = p.1.0 in omega (arith, cs.many)) (subst (λ (x : ℕ). 0 < count_if (eqb x) marks) (sym p.1.1) a));
                }

          -- ranked
          pub counts_ranked : Ranked W at m r E
          counts_ranked =
              record {
                words = λ faces marks cs. sym (words_back words) ∙ ap (map entry_word) (listed_only marks faces (map entry_from words) (listed faces marks cs));
                few = y.few;
                rest =
                    e.rest
                    ∙ rest_less (at + 7 * m + r + r) (at + 10 * m) Y Z s.rest (omega (arith, y.few))
                    ∙ rest_less (at + 8 * m) (at + 10 * m) X Y y.rest (omega arith)
                    ∙ rest_less (at + 7 * m) (at + 10 * m) W X k.rest (omega arith);
                long = long;
              }
