-- Entries written to the list one after the other, and read back from their words. Assumes nothing.
use mathlib.Core.Path.{◌≡◌, refl, sym, ap, ◌∙◌, subst}
use mathlib.Core.List.{List, [], ◌∷◌, ◌++◌, map, flat_map}
use Prim.Native.Nat.{ℕ, zero, suc, ◌+◌, ◌*◌, ◌/◌, ◌%◌, ◌≤◌, ◌<◌}
use native.Mathlib.Numerals.{add-one}
use native.Mathlib.Omega.{arith}
use lib.ListN.{length, get_or, take, drop, length-drop}
use lib.Seq.{take-suc, get_or-take, get_or-drop, length-take-le}
use Rattle.lists.specs.Lists.{written}
use Rattle.slice_append.specs.Appended.{Appended, appended_none, appended_then, appended_long, appended_behind}
use Rattle.report_definition.specs.Audit.{Entry}
use Rattle.report_definition.specs.Report.{entry_width, entry_numbers, list_after}
use Rattle.report.specs.Listing.{word_numbers, ListReady}

-- two numbers a word
numbers_length : (xs : List ℕ) → length (flat_map word_numbers xs) ≡ 2 * length xs
unfolding flat_map
numbers_length [] = refl
numbers_length (x ∷ xs) = omega (arith, numbers_length xs)

-- and one word more
numbers_more : (xs : List ℕ) (x : ℕ) → flat_map word_numbers (xs ++ x ∷ []) ≡ flat_map word_numbers xs ++ word_numbers x
unfolding flat_map
numbers_more [] x = refl
numbers_more (y ∷ ys) x = ap (λ (l : List ℕ). y % 4294967296 ∷ y / 4294967296 ∷ l) (numbers_more ys x)

-- the numbers of the first k entries are written
pub record Writing (W : List ℕ) (at r listed : ℕ) (old : List ℕ) (k : ℕ) (new : List ℕ) : Type 0 where
  pub low : k ≤ r
  pub done : Appended (entry_width * listed) (flat_map word_numbers (take k (drop at W))) old new
  pub long : length new ≡ length old

-- none is written yet
pub writing_none : (W : List ℕ) (at r listed : ℕ) (old : List ℕ) → Writing W at r listed old 0 old
unfolding flat_map
writing_none W at r listed old = record { low = omega arith; done = appended_none (entry_width * listed) old; long = refl }

module _ {W : List ℕ} {at r listed : ℕ} {old new : List ℕ} {k : ℕ} (g : ListReady W at r old listed) (v : Writing W at r listed old k new) (h : k < r) where
  -- the words from `at` on
  words_many : k < length (drop at W)
  words_many = omega (arith, length-drop at W, g.there)

  -- there is room for the next
  pub writing_room : entry_width * (listed + k) + 2 ≤ length new
  writing_room = omega (arith, g.room, v.long)

  -- the next is written
  pub writing_more : {x : ℕ} {next : List ℕ} → x ≡ get_or W (at + k) 0 → Appended (entry_width * (listed + k)) (x % 4294967296 ∷ x / 4294967296 ∷ []) new next
      → Writing W at r listed old (k + 1) next
  writing_more {x} {next} e a =
      let s = drop at W in
      let n = numbers_length (take k s) in
      let m = length-take-le k s (omega (arith, words_many)) in
      let place : entry_width * (listed + k) ≡ entry_width * listed + length (flat_map word_numbers (take k s)) = omega arith in
      let is : flat_map word_numbers (take k s) ++ (x % 4294967296 ∷ x / 4294967296 ∷ []) ≡ flat_map word_numbers (take (k + 1) s) =
      sym (numbers_more (take k s) x)
      ∙ ap (λ (y : ℕ). flat_map word_numbers (take k s ++ y ∷ [])) (e ∙ sym (get_or-drop at W k 0))
      ∙ ap (flat_map word_numbers) (sym (ap (λ (j : ℕ). take j s) (add-one k) ∙ take-suc s k 0 words_many)) in
      record {
        low = omega arith;
        done = subst (λ (l : List ℕ). Appended (entry_width * listed) l old next) is (appended_then v.done place a);
        long = appended_long a writing_room ∙ v.long;
      }

-- all are written
pub writing_all : {W : List ℕ} {at r listed : ℕ} {old new : List ℕ} {k : ℕ} → Writing W at r listed old k new → r ≤ k
    → Appended (entry_width * listed) (flat_map word_numbers (take r (drop at W))) old new
writing_all {W} {at} {r} {listed} {old} {new} {k} v h =
    let same : k ≡ r = omega (arith, v.low) in
    subst (λ (n : ℕ). Appended (entry_width * listed) (flat_map word_numbers (take n (drop at W))) old new) same v.done

-- ---- entries from their words

-- words from which the entries are read back have their numbers
numbers_back : (d : Entry) (es : List Entry) (xs : List ℕ) → length xs ≡ length es → ((k : ℕ) → k < length es → get_or xs k 0 % 4294967296 ≡ (get_or es k d).face)
    → ((k : ℕ) → k < length es → get_or xs k 0 / 4294967296 ≡ (get_or es k d).count) → flat_map word_numbers xs ≡ flat_map entry_numbers es
unfolding flat_map
numbers_back d [] [] l f c = refl
numbers_back d [] (x ∷ xs) l f c = absurd (no l)
  where
    no : suc (length xs) ≡ 0 → ⊥
    no q = omega arith
numbers_back d (e ∷ es) [] l f c = absurd (no l)
  where
    no : 0 ≡ suc (length es) → ⊥
    no q = omega arith
numbers_back d (e ∷ es) (x ∷ xs) l f c =
    λ i. f 0 (omega arith) i ∷ c 0 (omega arith) i ∷ numbers_back d es xs (omega arith) (λ k h. f (suc k) (omega arith)) (λ k h. c (suc k) (omega arith)) i

-- What was written from such words is what the definition says of the list.
pub entries_written : (d : Entry) (es : List Entry) (E : List ℕ) (at r listed : ℕ) {list new : List ℕ} → r ≡ length es → at + r ≤ length E
    → ((k : ℕ) → k < r → get_or E (at + k) 0 % 4294967296 ≡ (get_or es k d).face) → ((k : ℕ) → k < r → get_or E (at + k) 0 / 4294967296 ≡ (get_or es k d).count)
    → Appended (entry_width * listed) (flat_map word_numbers (take r (drop at E))) list new → new ≡ list_after listed es list
unfolding list_after
entries_written d es E at r listed {list} {new} many room f c a =
    appended_behind a
    ∙ ap (λ (ns : List ℕ). take (entry_width * listed) list ++ written ns (drop (entry_width * listed) list))
    (numbers_back d es (take r (drop at E)) (long ∙ many) (λ k h. ap (λ (x : ℕ). x % 4294967296) (item k (omega arith)) ∙ f k (omega arith))
    (λ k h. ap (λ (x : ℕ). x / 4294967296) (item k (omega arith)) ∙ c k (omega arith)))
  where
    long : length (take r (drop at E)) ≡ r
    long = length-take-le r (drop at E) (omega (arith, length-drop at E))

    item : (k : ℕ) → k < r → get_or (take r (drop at E)) k 0 ≡ get_or E (at + k) 0
    item k h = get_or-take r (drop at E) k 0 h ∙ get_or-drop at E k 0
