-- Close pairs dropped in place: the entries kept so far, with what the definition makes of the other pairs. Assumes nothing.
use mathlib.Core.Path.{◌≡◌, refl, sym, ap, ◌∙◌, subst}
use mathlib.Core.Bool.{Bool, true, false, true≢false}
use mathlib.Core.List.{List, [], ◌∷◌, ◌++◌, map, append_assoc, append-nil}
use Prim.Native.Nat.{ℕ, zero, suc, ◌+◌, ◌-◌, ◌*◌, ◌/◌, ◌%◌, ◌<◌, ◌≤◌}
use native.Mathlib.Numerals.{add-one}
use native.Mathlib.Omega.{arith}
use lib.ListN.{length, get_or, take, drop, set, length-set}
use lib.Seq.{drop-cons, get_or-set_same, get_or-set_other, take-set-le, drop-set-lt}
use Rattle.lists.specs.Stretches.{stretch_kept}
use Rattle.slice_pairs.specs.Pairs.{pairs_of, pairs_in, pair_at, PairsHeld}
use Rattle.stitch_splits.specs.Entries.{Entry, drop_after, entries_in, entries_of, entry_at, entry_of, kept_entries, entries_more}
use Rattle.stitch_pairs.specs.FoundPairs.{entry_of_pair}
use Rattle.stitch_pairs.specs.Words.{KeptOfPairs}
use Rattle.stitch_entries.specs.PairEntries.{entry_of_words, pair_entry_at, entry_written, close_to_last}
use Rattle.stitch_entries.proofs.EntryLaws.{words_pair, words_entry}

-- the entries of the pairs from place j up to `count`
abbrev entries_from : List ℕ → ℕ → ℕ → ℕ → ℕ → List Entry
entries_from W at ts j count = map entry_of_pair (pairs_of (take (count - j) (drop (ts + j) W)) (take (count - j) (drop (at + j) W)))

-- a stretch begins with its first word
words_cons : (W : List ℕ) (at j count : ℕ) → j < count → at + count ≤ length W → take (count - j) (drop (at + j) W) ≡ get_or W (at + j) 0 ∷ take (count - (j + 1)) (drop (at + (j + 1)) W)
words_cons W at j count l h =
    let e : count - j ≡ suc (count - (j + 1)) = omega arith in
    let f : suc (at + j) ≡ at + (j + 1) = omega arith in
    ap (λ (n : ℕ). take n (drop (at + j) W)) e
    ∙ ap (take (suc (count - (j + 1)))) (drop-cons W (at + j) 0 (omega arith))
    ∙ ap (λ (n : ℕ). get_or W (at + j) 0 ∷ take (count - (j + 1)) (drop n W)) f

module _ {at ts count : ℕ} {W : List ℕ} (h : PairsHeld at ts count W) where
  -- the entries from place j begin with that at j
  entries_cons : (j : ℕ) → j < count → entries_from W at ts j count ≡ entry_of_pair (pair_at W at ts j) ∷ entries_from W at ts (j + 1) count
  unfolding pairs_of
  entries_cons j l =
      ap (λ (v : List ℕ). map entry_of_pair (pairs_of v (take (count - j) (drop (at + j) W)))) (words_cons W ts j count l h.room)
      ∙ ap (λ (v : List ℕ). map entry_of_pair (pairs_of (get_or W (ts + j) 0 ∷ take (count - (j + 1)) (drop (ts + (j + 1)) W)) v)) (words_cons W at j count l (omega (arith, h.apart, h.room)))

  -- none are left from `count` on
  entries_none : (j : ℕ) → count ≤ j → entries_from W at ts j count ≡ []
  unfolding pairs_of
  entries_none j l =
      let e : count - j ≡ 0 = omega arith in
      ap (λ (n : ℕ). map entry_of_pair (pairs_of (take n (drop (ts + j) W)) (take n (drop (at + j) W)))) e

-- ---- the definition

-- what is kept of entries behind the `kept` kept before
unfoldable pub kept_behind : List ℕ → ℕ → ℕ → ℕ → List Entry → List Entry
kept_behind W at ts zero ys = kept_entries ys
kept_behind W at ts (suc k) ys = drop_after (entry_at W at ts k) ys

module _ (W : List ℕ) (at ts : ℕ) where
  -- a close entry is dropped
  behind_close : (kept : ℕ) (y : Entry) (ys : List Entry) → close_to_last W at ts kept y ≡ true → kept_behind W at ts kept (y ∷ ys) ≡ kept_behind W at ts kept ys
  unfolding kept_behind close_to_last drop_after
  behind_close zero y ys e = absurd (true≢false (sym e))
  behind_close (suc k) y ys e = rw (e, drop_after)

  -- another is the last kept
  behind_far : (kept : ℕ) (y : Entry) (ys : List Entry) → close_to_last W at ts kept y ≡ false → kept_behind W at ts kept (y ∷ ys) ≡ y ∷ drop_after y ys
  unfolding kept_behind close_to_last drop_after kept_entries
  behind_far zero y ys e = refl
  behind_far (suc k) y ys e = rw (e, drop_after)

  -- nothing is kept of nothing
  behind_none : (kept : ℕ) → kept_behind W at ts kept [] ≡ []
  unfolding kept_behind drop_after kept_entries
  behind_none zero = refl
  behind_none (suc k) = refl

-- ---- one entry more

-- the pairs from place j on are as they were, and so is what stands in front of and behind them all: W became E
pub record Unread (at ts count : ℕ) (W : List ℕ) (j : ℕ) (E : List ℕ) : Type 0 where
  pub lower : (i : ℕ) → j ≤ i → i < count → get_or E (at + i) 0 ≡ get_or W (at + i) 0
  pub higher : (i : ℕ) → j ≤ i → i < count → get_or E (ts + i) 0 ≡ get_or W (ts + i) 0
  pub front : take at E ≡ take at W
  pub rest : drop (ts + count) E ≡ drop (ts + count) W
  pub long : length E ≡ length W

-- one pair more is read
unread_less : {at ts count j : ℕ} {W E : List ℕ} → Unread at ts count W j E → Unread at ts count W (j + 1) E
unread_less u = record { lower = λ i a b. u.lower i (omega arith) b; higher = λ i a b. u.higher i (omega arith) b; front = u.front; rest = u.rest; long = u.long }

module _ {at ts count : ℕ} {W : List ℕ} (h : PairsHeld at ts count W) (g : (i : ℕ) → get_or W i 0 < 18446744073709551616) {kept j : ℕ} {E : List ℕ} (low : kept ≤ j) (l : j < count)
    (u : Unread at ts count W j E) where
  -- the entry of the pair at place j is that of its words
  pair_is : pair_entry_at E at ts j ≡ entry_of_pair (pair_at W at ts j)
  pair_is =
      ap (λ (a : ℕ). entry_of_words a (get_or E (at + j) 0)) (u.higher j (omega arith) l)
      ∙ ap (λ (a : ℕ). entry_of_words (get_or W (ts + j) 0) a) (u.lower j (omega arith) l)
      ∙ sym (words_pair (get_or W (ts + j) 0) (get_or W (at + j) 0) (g (at + j)))

  -- the work area after the two stores
  abbrev x : ℕ
  x = get_or E (ts + j) 0 / 4611686018427387904 * 262144 + get_or E (at + j) 0 % 262144

  abbrev y : ℕ
  y = get_or E (ts + j) 0 % 4611686018427387904

  abbrev A : List ℕ
  A = set E (at + kept) x

  abbrev F : List ℕ
  F = entry_written E at ts j kept

  a_long : length A ≡ length W
  a_long = length-set E (at + kept) x ∙ u.long

  f_long : length F ≡ length W
  f_long = length-set A (ts + kept) y ∙ a_long

  -- the entries kept before are as they were
  before : entries_in F at ts kept ≡ entries_in E at ts kept
  before =
      ap (λ (v : List ℕ). entries_of v (take kept (drop ts F)))
      (stretch_kept at kept (at + kept) E F (take-set-le (at + kept) A (ts + kept) y (omega (arith, h.apart)) ∙ take-set-le (at + kept) E (at + kept) x (omega arith)) (omega arith))
      ∙ ap (entries_of (take kept (drop at E)))
      (stretch_kept ts kept (ts + kept) A F (take-set-le (ts + kept) A (ts + kept) y (omega arith)) (omega arith) ∙ ap (take kept) (drop-set-lt ts E (at + kept) x (omega (arith, h.apart))))

  -- the new one is that of the pair at place j
  new : entry_at F at ts kept ≡ entry_of_pair (pair_at W at ts j)
  new =
      ap (λ (a : ℕ). entry_of a (get_or F (ts + kept) 0))
      (get_or-set_other A (ts + kept) (at + kept) y 0 (λ z. omega (arith, h.apart)) ∙ get_or-set_same E (at + kept) x 0 (omega (arith, h.apart, h.room, u.long)))
      ∙ ap (entry_of x) (get_or-set_same A (ts + kept) y 0 (omega (arith, h.room, a_long)))
      ∙ words_entry (get_or E (ts + j) 0) (get_or E (at + j) 0)
      ∙ pair_is

  pub written_more : entries_in F at ts (kept + 1) ≡ entries_in E at ts kept ++ entry_of_pair (pair_at W at ts j) ∷ []
  written_more =
      entries_more F at ts kept (omega (arith, h.apart, h.room, f_long)) (omega (arith, h.room, f_long))
      ∙ ap (λ (v : List Entry). v ++ entry_at F at ts kept ∷ []) before
      ∙ ap (λ (v : Entry). entries_in E at ts kept ++ v ∷ []) new

  -- so it is the last kept
  written_last : (ys : List Entry) → kept_behind F at ts (kept + 1) ys ≡ drop_after (entry_of_pair (pair_at W at ts j)) ys
  unfolding kept_behind
  written_last ys = ap (λ (k : ℕ). kept_behind F at ts k ys) (add-one kept) ∙ ap (λ (v : Entry). drop_after v ys) new

  pub written_unread : Unread at ts count W (j + 1) F
  written_unread =
      record {
        lower = λ i a b.
            get_or-set_other A (ts + kept) (at + i) y 0 (λ z. omega (arith, h.apart))
            ∙ get_or-set_other E (at + kept) (at + i) x 0 (λ z. omega arith)
            ∙ u.lower i (omega arith) b;
        higher = λ i a b.
            get_or-set_other A (ts + kept) (ts + i) y 0 (λ z. omega arith)
            ∙ get_or-set_other E (at + kept) (ts + i) x 0 (λ z. omega (arith, h.apart))
            ∙ u.higher i (omega arith) b;
        front = take-set-le at A (ts + kept) y (omega (arith, h.apart)) ∙ take-set-le at E (at + kept) x (omega arith) ∙ u.front;
        rest = drop-set-lt (ts + count) A (ts + kept) y (omega arith) ∙ drop-set-lt (ts + count) E (at + kept) x (omega (arith, h.apart)) ∙ u.rest;
        long = f_long;
      }

-- ---- the entries kept so far

-- `kept` of the first j pairs are kept, and the others are as they were: W became E
pub record Keeping (at ts count : ℕ) (W : List ℕ) (kept j : ℕ) (E : List ℕ) : Type 0 where
  pub low : kept ≤ j
  pub high : j ≤ count
  pub entries : entries_in E at ts kept ++ kept_behind E at ts kept (entries_from W at ts j count) ≡ kept_entries (map entry_of_pair (pairs_in W at ts count))
  pub unread : Unread at ts count W j E

-- none is read yet
pub keeping_none : (at ts count : ℕ) (W : List ℕ) → Keeping at ts count W 0 0 W
unfolding kept_behind entries_of
keeping_none at ts count W =
    record {
      low = omega arith;
      high = omega arith;
      entries = ap kept_entries all;
      unread = record { lower = λ i a b. refl; higher = λ i a b. refl; front = refl; rest = refl; long = refl };
    }
  where
    all : entries_from W at ts 0 count ≡ map entry_of_pair (pairs_in W at ts count)
    all =
        let a : at + 0 ≡ at = omega arith in
        let b : ts + 0 ≡ ts = omega arith in
        let c : count - 0 ≡ count = omega arith in
        λ i. map entry_of_pair (pairs_of (take (c i) (drop (b i) W)) (take (c i) (drop (a i) W)))

module _ {at ts count : ℕ} {W : List ℕ} (h : PairsHeld at ts count W) {kept j : ℕ} {E : List ℕ} (s : Keeping at ts count W kept j E) where
  -- all are read
  pub keeping_all : count ≤ j → KeptOfPairs at ts count W E kept
  keeping_all l =
      record {
        entries =
            sym (append-nil (entries_in E at ts kept))
            ∙ ap (λ (v : List Entry). entries_in E at ts kept ++ v) (sym (ap (kept_behind E at ts kept) (entries_none h j l) ∙ behind_none E at ts kept))
            ∙ s.entries;
        few = omega (arith, s.low, s.high);
        front = s.unread.front;
        rest = s.unread.rest;
      }

  module _ (g : (i : ℕ) → get_or W i 0 < 18446744073709551616) (l : j < count) {r : Bool} (k : r ≡ close_to_last E at ts kept (pair_entry_at E at ts j)) where
    -- the entry of the pair at place j, and those behind it
    abbrev next : Entry
    next = entry_of_pair (pair_at W at ts j)

    abbrev others : List Entry
    others = entries_from W at ts (j + 1) count

    close_is : close_to_last E at ts kept next ≡ r
    close_is = ap (close_to_last E at ts kept) (sym (pair_is h g s.low l s.unread)) ∙ sym k

    -- it is close to the last kept
    pub keeping_less : r ≡ true → Keeping at ts count W kept (j + 1) E
    keeping_less y =
        record {
          low = omega (arith, s.low);
          high = omega arith;
          entries =
              ap (λ (v : List Entry). entries_in E at ts kept ++ v) (sym (ap (kept_behind E at ts kept) (entries_cons h j l) ∙ behind_close E at ts kept next others (close_is ∙ y)))
              ∙ s.entries;
          unread = unread_less s.unread;
        }

    -- it is kept
    pub keeping_more : {F : List ℕ} → r ≡ false → F ≡ entry_written E at ts j kept → Keeping at ts count W (kept + 1) (j + 1) F
    keeping_more {F} n e =
        subst (Keeping at ts count W (kept + 1) (j + 1)) (sym e)
        (record {
          low = omega (arith, s.low);
          high = omega arith;
          entries =
              ap (λ (v : List Entry). v ++ kept_behind (entry_written E at ts j kept) at ts (kept + 1) others) (written_more h g s.low l s.unread)
              ∙ ap (λ (v : List Entry). (entries_in E at ts kept ++ next ∷ []) ++ v) (written_last h g s.low l s.unread others)
              ∙ append_assoc (entries_in E at ts kept) (next ∷ []) (drop_after next others)
              ∙ ap (λ (v : List Entry). entries_in E at ts kept ++ v) (sym (ap (kept_behind E at ts kept) (entries_cons h j l) ∙ behind_far E at ts kept next others (close_is ∙ n)))
              ∙ s.entries;
          unread = written_unread h g s.low l s.unread;
        })
