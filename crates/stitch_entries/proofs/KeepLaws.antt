-- Laws of keeping the entries of pairs in any order: the least pair, pairs that are all close to it, and pairs that are sorted. Assumes nothing.
use mathlib.Core.Path.{◌≡◌, refl, sym, ap, ◌∙◌, subst}
use mathlib.Core.Bool.{Bool, true, false, true≢false}
use mathlib.Core.List.{List, [], ◌∷◌, ◌++◌, map}
use Prim.Native.Nat.{ℕ, zero, suc, ◌+◌, ◌-◌, ◌<◌, ◌≤◌}
use native.Mathlib.Nat.{le_antisymm}
use native.Mathlib.Decide.{ℕ_discrete}
use native.Mathlib.Omega.{arith}
use borrow.Author.Tests.{le-leb, leb-true, ltb-true, ltb-false}
use lib.Dec.{leb, ltb}
use lib.ListN.{length, get_or, take, drop, length-drop}
use lib.Seq.{length-take-le}
use Rattle.std.specs.List.{list_all}
use Rattle.std.proofs.lemmas.List.Elements.{All-get_or}
use Rattle.std.proofs.lemmas.List.Sums.{AllPass-from_list_all}
use Rattle.lists.specs.Stretches.{stretch_at}
use Rattle.slice_pairs.specs.Rearranged.{Rearranged, same_then, same_turned, same_length, same_each}
use Rattle.slice_pairs.specs.Rising.{Rises, rises_least, rises_only}
use Rattle.slice_pairs.specs.Pairs.{pairs_of, pairs_in, pair_at, PairsHeld, PairsSorted, pairs_length, pairs_at}
use Rattle.stitch_splits.specs.Entries.{Entry, close_to, drop_after, entries_of, kept_entries}
use Rattle.stitch_pairs.specs.FoundPairs.{entry_of_pair}
use Rattle.stitch_pairs.specs.Inserted.{insert_numbers, inserted_rises, inserted_same}
use Rattle.stitch_pairs.specs.Words.{KeptOfPairs, KeptInOrder}
use Rattle.stitch_entries.specs.PairEntries.{entry_of_words, entry_written, close_keys}
use Rattle.stitch_entries.specs.LeastPairs.{SomePairs, LeastPair}
use Rattle.stitch_entries.proofs.EntryLaws.{words_pair}
use Rattle.stitch_entries.proofs.DropLaws.{Unread, written_more, written_unread}

-- ---- the least pair

-- of the first j pairs the one at place k is the least
pub record Lowest (at ts n : ℕ) (W : List ℕ) (k j : ℕ) : Type 0 where
  pub inside : k < n
  pub some : 0 < j
  pub least : (i : ℕ) → i < j → pair_at W at ts k ≤ pair_at W at ts i

-- ---- what is kept of pairs that are all close to the least

-- what holds of all words holds of the one at a place
at_all : (p : ℕ → Bool) (xs : List ℕ) (j : ℕ) → list_all p xs ≡ true → j < length xs → p (get_or xs j 0) ≡ true
at_all p xs j h l = All-get_or (λ z. p z ≡ true) xs j 0 l (AllPass-from_list_all p xs h)

-- of entries that are all close to the last kept none is
drop_all : (x : Entry) (ys : List ℕ) → ((j : ℕ) → j < length ys → close_to x (entry_of_pair (get_or ys j 0)) ≡ true) → drop_after x (map entry_of_pair ys) ≡ []
unfolding drop_after
drop_all x [] f = refl
drop_all x (y ∷ ys) f = dropped (entry_of_pair y) (map entry_of_pair ys) (f 0 (omega arith)) ∙ drop_all x ys (λ j l. f (suc j) (omega arith))
  where
    dropped : (z : Entry) (zs : List Entry) → close_to x z ≡ true → drop_after x (z ∷ zs) ≡ drop_after x zs
    dropped z zs e = rw (e, drop_after)

-- Of rising numbers that are those of a list, all close to the least of it, the least is kept alone.
least_only : (xs ys : List ℕ) (k : ℕ) → Rises xs → Rearranged xs ys → k < length ys → ((j : ℕ) → j < length ys → get_or ys k 0 ≤ get_or ys j 0)
    → ((j : ℕ) → j < length ys → close_to (entry_of_pair (get_or ys k 0)) (entry_of_pair (get_or ys j 0)) ≡ true)
    → kept_entries (map entry_of_pair xs) ≡ entry_of_pair (get_or ys k 0) ∷ []
unfolding kept_entries
least_only [] ys k u r l h f = absurd (omega (arith, same_length r))
least_only (x ∷ xs) ys k u r l h f = ap (λ (e : Entry). e ∷ drop_after e (map entry_of_pair xs)) (ap entry_of_pair first) ∙ ap (λ (v : List Entry). entry_of_pair m ∷ v) (drop_all (entry_of_pair m) xs others)
  where
    m : ℕ
    m = get_or ys k 0

    first : x ≡ m
    first =
        le_antisymm
        (leb-true x m (same_each (leb x) 0 (same_turned r) (λ j b. le-leb x (get_or (x ∷ xs) j 0) (rises_least x xs u j b)) k l))
        (leb-true m x (same_each (leb m) 0 r (λ j b. le-leb m (get_or ys j 0) (h j b)) 0 (omega arith)))

    others : (j : ℕ) → j < length xs → close_to (entry_of_pair m) (entry_of_pair (get_or xs j 0)) ≡ true
    others j b = same_each (λ z. close_to (entry_of_pair m) (entry_of_pair z)) 0 r f (suc j) (omega arith)

module _ {at ts n : ℕ} {W : List ℕ} (h : PairsHeld at ts n W) (g : (i : ℕ) → get_or W i 0 < 18446744073709551616) {k : ℕ} (l : LeastPair at ts n W k) {r : Bool} (c : r ≡ list_all (close_keys (get_or W (ts + k) 0)) (take (ts + n - ts) (drop ts W)))
    (y : r ≡ true) where
  abbrev ys : List ℕ
  ys = pairs_in W at ts n

  low : at + n ≤ length W
  low = omega (arith, h.apart, h.room)

  ys_long : length ys ≡ n
  ys_long = pairs_length W at ts n low h.room

  ys_at : (j : ℕ) → j < n → get_or ys j 0 ≡ pair_at W at ts j
  ys_at = pairs_at W at ts n low h.room

  -- a pair is an entry of its words
  words : (j : ℕ) → entry_of_pair (pair_at W at ts j) ≡ entry_of_words (get_or W (ts + j) 0) (get_or W (at + j) 0)
  words j = words_pair (get_or W (ts + j) 0) (get_or W (at + j) 0) (g (at + j))

  -- the higher word of each is close to that of the least
  key_close : (j : ℕ) → j < n → close_keys (get_or W (ts + k) 0) (get_or W (ts + j) 0) ≡ true
  key_close j b =
      let e : ts + n - ts ≡ n = omega arith in
      ap (close_keys (get_or W (ts + k) 0)) (sym (stretch_at ts n W j 0 b))
      ∙ at_all (close_keys (get_or W (ts + k) 0)) (take n (drop ts W)) j (ap (λ (m : ℕ). list_all (close_keys (get_or W (ts + k) 0)) (take m (drop ts W))) (sym e) ∙ sym c ∙ y)
      (omega (arith, length-take-le n (drop ts W) (omega (arith, h.room, length-drop ts W))))

  all_close : (j : ℕ) → j < n → close_to (entry_of_pair (pair_at W at ts k)) (entry_of_pair (pair_at W at ts j)) ≡ true
  all_close j b = (λ i. close_to (words k i) (words j i)) ∙ key_close j b

  kept_one : kept_entries (map entry_of_pair (insert_numbers [] ys)) ≡ entry_of_pair (pair_at W at ts k) ∷ []
  kept_one =
      least_only (insert_numbers [] ys) ys k (inserted_rises ys) (inserted_same ys) (omega (arith, ys_long, l.inside))
      (λ j b. subst (λ (a : ℕ). a ≤ get_or ys j 0) (sym (ys_at k l.inside))
      (subst (λ (a : ℕ). pair_at W at ts k ≤ a) (sym (ys_at j (omega (arith, ys_long)))) (l.least j (omega (arith, ys_long)))))
      (λ j b. (λ i. close_to (entry_of_pair (ys_at k l.inside i)) (entry_of_pair (ys_at j (omega (arith, ys_long)) i))) ∙ all_close j (omega (arith, ys_long)))
      ∙ ap (λ (a : ℕ). entry_of_pair a ∷ []) (ys_at k l.inside)

  none_read : Unread at ts n W k W
  none_read = record { lower = λ i a b. refl; higher = λ i a b. refl; front = refl; rest = refl; long = refl }

  -- The least alone is kept.
  pub kept_least : {E : List ℕ} → E ≡ entry_written W at ts k 0 → KeptInOrder at ts n W E 1
  unfolding entries_of
  kept_least {E} e =
      let first : 0 ≤ k = omega arith in
      let after : Unread at ts n W (k + 1) (entry_written W at ts k 0) = written_unread h g first l.inside none_read in
      subst (λ (X : List ℕ). KeptInOrder at ts n W X 1) (sym e)
      (record {
        entries = written_more h g first l.inside none_read ∙ sym kept_one;
        few = omega (arith, l.inside);
        front = after.front;
        rest = after.rest;
      })

-- ---- no pair, and pairs that are sorted

-- of no pair none is kept
pub kept_none : (at ts n : ℕ) (W : List ℕ) → n ≡ 0 → KeptInOrder at ts n W W 0
unfolding pairs_of insert_numbers kept_entries entries_of
kept_none at ts n W e =
    record {
      entries = sym (ap (λ (m : ℕ). kept_entries (map entry_of_pair (insert_numbers [] (pairs_in W at ts m)))) e);
      few = omega arith;
      front = refl;
      rest = refl;
    }

-- What is kept of the sorted pairs is kept of the pairs.
pub kept_sorted : {at ts n : ℕ} {W S E : List ℕ} {r : ℕ} → PairsSorted at ts n W S → KeptOfPairs at ts n S E r → KeptInOrder at ts n W E r
kept_sorted {at} {ts} {n} {W} {S} {E} {r} o d =
    record {
      entries = d.entries ∙ ap (λ (xs : List ℕ). kept_entries (map entry_of_pair xs)) same;
      few = d.few;
      front = d.front ∙ o.front;
      rest = d.rest ∙ o.rest;
    }
  where
    same : pairs_in S at ts n ≡ insert_numbers [] (pairs_in W at ts n)
    same =
        rises_only (pairs_in S at ts n) (insert_numbers [] (pairs_in W at ts n)) o.rises (inserted_rises (pairs_in W at ts n))
        (same_then o.same (same_turned (inserted_same (pairs_in W at ts n))))

-- the sorted pairs are held
pub sorted_held : {at ts n : ℕ} {W S : List ℕ} → PairsHeld at ts n W → length S ≡ length W → PairsHeld at ts n S
sorted_held h e = record { apart = h.apart; room = omega (arith, h.room) }
