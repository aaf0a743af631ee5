-- The laws of a listing: entries checked and measured one by one, and written one by one. Assumes nothing.
use mathlib.Core.Bool.{Bool, true, false, cond}
use mathlib.Core.List.{List, [], ◌∷◌, ◌++◌, append_assoc, append-nil}
use mathlib.Core.Path.{◌≡◌, refl, sym, ◌∙◌, ap, subst}
use Prim.Native.Nat.{ℕ, zero, suc, ◌+◌, ◌-◌, ◌*◌, ◌/◌, ◌≤◌, ◌<◌}
use native.Mathlib.Numerals.{add-one}
use native.Mathlib.Omega.{arith}
use borrow.Author.Tests.{le-leb, lt-leb, ltb-true}
use lib.Dec.{T, leb, ltb}
use lib.IntN.{ℤ, pos}
use lib.ListN.{length, get_or, take, drop, drop_of_length-le, length-append, length-drop, length-take, take-append-drop}
use lib.Seq.{take_all}
use Rattle.std.specs.Prelude.{Ok, Err}
use Rattle.lists.specs.Lists.{written}
use Rattle.sheet_digits.specs.Next.{next}
use Rattle.sheet_digit_writing.specs.Writing.{Wrote}
use Rattle.sheet_digit_writing.specs.Wrote.{wrote_none, wrote_then}
use Rattle.signed_numbers.specs.Range.{farthest}
use Rattle.plan_definition.specs.Places.{in_range}
use Rattle.plan_definition.specs.Grammar.{Entry, entry, bin_line}
use Rattle.plan_definition.specs.Reading.{malformed, most_entries, out_of_range, too_many}
use Rattle.plan_definition.proofs.RoundTrip as RoundTrip
use Rattle.plan_definition.specs.Writing as Writing
use Rattle.plan_definition.specs.Writing.{Writing, bin_in_range, entries_in, fitting, listing_refusal, listing_text, text_after, writing_of}
use Rattle.plan_write.specs.declared.entries.EntryWords.{EntryWords}
use Rattle.plan_definition.specs.Answers.{listing_answer}
use Rattle.plan_write.specs.Entries.{EntryOf, LineLength, bin_word, entry_at, place_words, words_line, words_refusal}
use Rattle.plan_write.specs.Answer.{CheckedListing, ListingPut, ListingWritten, Measured}
use Rattle.plan_write.proofs.WordLaws.{bin_is, place_is}
use Rattle.plan_write.proofs.EntryLaws.{bin_word_low, refusal_here, refusal_next, words_line_lem}

-- ---- the entries of a list from entry k on
entries_cut : (l : List ℤ) (k : ℕ) → 4 * k + 4 ≤ length l → entries_in (drop (4 * k) l) ≡ entry_at l k ∷ entries_in (drop (4 * (k + 1)) l)
unfolding entries_in
entries_cut l k h = ap entries_in four
  where
    plus : (j : ℕ) → 4 * k + j + 1 ≡ 4 * k + (j + 1)
    plus j = omega arith

    from : (j : ℕ) → 4 * k + j < length l → drop (4 * k + j) l ≡ get_or l (4 * k + j) (pos 0) ∷ drop (4 * k + (j + 1)) l
    from j g = next l (4 * k + j) (pos 0) g ∙ ap (λ (n : ℕ). get_or l (4 * k + j) (pos 0) ∷ drop n l) (plus j)

    four : drop (4 * k) l ≡ get_or l (4 * k) (pos 0) ∷ get_or l (4 * k + 1) (pos 0) ∷ get_or l (4 * k + 2) (pos 0) ∷ get_or l (4 * k + 3) (pos 0) ∷ drop (4 * (k + 1)) l
    four =
        next l (4 * k) (pos 0) (omega arith)
        ∙ ap (λ (xs : List ℤ). get_or l (4 * k) (pos 0) ∷ xs) (from 1 (omega arith))
        ∙ ap (λ (xs : List ℤ). get_or l (4 * k) (pos 0) ∷ get_or l (4 * k + 1) (pos 0) ∷ xs) (from 2 (omega arith))
        ∙ ap (λ (xs : List ℤ). get_or l (4 * k) (pos 0) ∷ get_or l (4 * k + 1) (pos 0) ∷ get_or l (4 * k + 2) (pos 0) ∷ xs) (from 3 (omega arith))
        ∙ ap (λ (n : ℕ). get_or l (4 * k) (pos 0) ∷ get_or l (4 * k + 1) (pos 0) ∷ get_or l (4 * k + 2) (pos 0) ∷ get_or l (4 * k + 3) (pos 0) ∷ drop n l)
        (let e : 4 * k + (3 + 1) ≡ 4 * (k + 1) = omega arith in e)

few_left : (l : List ℤ) → length l < 4 → entries_in l ≡ []
unfolding entries_in
few_left [] h = refl
few_left (a ∷ []) h = refl
few_left (a ∷ b ∷ []) h = refl
few_left (a ∷ b ∷ c ∷ []) h = refl
few_left (a ∷ b ∷ c ∷ d ∷ l) h = absurd (omega arith)

none_left : (l : List ℤ) (k : ℕ) → length l / 4 ≤ k → entries_in (drop (4 * k) l) ≡ []
none_left l k h = few_left (drop (4 * k) l) (omega (arith, length-drop (4 * k) l))

pub entry_there : (l : List ℤ) (k : ℕ) → k < length l / 4 → 4 * k + 4 ≤ length l
entry_there l k h = omega arith

-- ---- an entry that passes, by its words
record Passes (w : EntryWords) (k : ℕ) : Type 0 where
  bin : bin_word w.bin ≡ true
  place : place_words w.place ≡ true
  few : k < most_entries

passes : (w : EntryWords) (k : ℕ) → words_refusal w k ≡ 0 → Passes w k
passes w k z = go (bin_word w.bin) refl (place_words w.place) refl (ltb k most_entries) refl z
  where
    go : (a : Bool) → bin_word w.bin ≡ a → (b : Bool) → place_words w.place ≡ b → (c : Bool) → ltb k most_entries ≡ c → cond a (cond b (cond c 0 too_many) out_of_range) malformed ≡ 0 → Passes w k
    go false p b q c s x = absurd (omega arith)
    go true p false q c s x = absurd (omega arith)
    go true p true q false s x = absurd (omega arith)
    go true p true q true s x = record { bin = p; place = q; few = ltb-true k most_entries s }

-- its line is the definition's
line_of : (e : Entry) (w : EntryWords) (k : ℕ) → EntryOf e w → Passes w k → words_line w ≡ bin_line e.bin e.place
line_of e w k v p = words_line_lem e w v (subst T (sym (sym (bin_is e.bin w.bin v.bin) ∙ p.bin)) tt) (subst T (sym (sym (place_is e w v) ∙ p.place)) tt)

-- ---- checked and measured up to entry k
pub record Checking (l : List ℤ) (total k : ℕ) : Type 0 where
  pub few : k ≤ most_entries
  pub small : total ≤ 96 * k
  pub refusal : listing_refusal k (entries_in (drop (4 * k) l)) ≡ listing_refusal 0 (entries_in l)
  pub long : total + length (listing_text (entries_in (drop (4 * k) l))) ≡ length (listing_text (entries_in l))

pub checking_none : (l : List ℤ) → Checking l 0 0
checking_none l = record { few = omega arith; small = omega arith; refusal = refl; long = omega arith }

module _ (l : List ℤ) (total k : ℕ) (v : Checking l total k) where
  pub checking_all : length l / 4 ≤ k → CheckedListing l (Ok total)
  unfolding listing_refusal listing_text
  checking_all h =
      let done : entries_in (drop (4 * k) l) ≡ [] = none_left l k h in
      record {
        none_offends = sym v.refusal ∙ ap (listing_refusal k) done;
        long = omega (arith, v.long, ap (λ (es : List Entry). length (listing_text es)) done);
      }

  module _ (h : k < length l / 4) (w : EntryWords) (e : EntryOf (entry_at l k) w) (r : ℕ) (q : r ≡ words_refusal w k) where
    cut : entries_in (drop (4 * k) l) ≡ entry_at l k ∷ entries_in (drop (4 * (k + 1)) l)
    cut = entries_cut l k (entry_there l k h)

    pub checking_refused : (r ≡ 0 → ⊥) → CheckedListing l (Err r)
    checking_refused n = refusal_here (entry_at l k) w e k _ r q n ∙ ap (listing_refusal k) (sym cut) ∙ v.refusal

    pub bin_there : r ≡ 0 → farthest ≤ w.bin
    bin_there z = bin_word_low w.bin (passes w k (sym q ∙ z)).bin

    pub checking_room : (n : ℕ) → LineLength w n → r ≡ 0 → total + n < 18446744073709551616
    checking_room n m z = omega (arith, v.small, v.few, m.few)

    pub checking_more : (n : ℕ) → LineLength w n → r ≡ 0 → Checking l (total + n) (k + 1)
    unfolding listing_text
    checking_more n m z =
        let p : Passes w k = passes w k (sym q ∙ z) in
        let text : length (listing_text (entries_in (drop (4 * k) l))) ≡ n + length (listing_text (entries_in (drop (4 * (k + 1)) l))) =
        ap (λ (es : List Entry). length (listing_text es)) cut
        ∙ length-append (bin_line (entry_at l k).bin (entry_at l k).place) _
        ∙ ap (λ (x : ℕ). x + length (listing_text (entries_in (drop (4 * (k + 1)) l)))) (ap (length {A = ℕ}) (sym (line_of (entry_at l k) w k e p)) ∙ sym m.is) in
        record {
          few = omega (arith, p.few);
          small = omega (arith, v.small, m.few);
          refusal = ap (λ (x : ℕ). listing_refusal x (entries_in (drop (4 * (k + 1)) l))) (add-one k) ∙ sym (refusal_next (entry_at l k) w e k _ r q z) ∙ ap (listing_refusal k) (sym cut) ∙ v.refusal;
          long = omega (arith, v.long, text);
        }

-- ---- written up to entry k
pub record Putting (l : List ℤ) (E W : List ℕ) (at k : ℕ) : Type 0 where
  pub done : List ℕ
  pub wrote : Wrote E 0 done W at
  pub refusal : listing_refusal k (entries_in (drop (4 * k) l)) ≡ 0
  pub same : done ++ listing_text (entries_in (drop (4 * k) l)) ≡ listing_text (entries_in l)

pub putting_none : (l : List ℤ) (E : List ℕ) → listing_refusal 0 (entries_in l) ≡ 0 → Putting l E E 0 0
putting_none l E z = record { done = []; wrote = wrote_none E 0 (omega arith); refusal = z; same = refl }

module _ (l : List ℤ) (E W : List ℕ) (at k : ℕ) (v : Putting l E W at k) where
  pub putting_place : at ≤ length W
  putting_place = omega (arith, v.wrote.within, v.wrote.long)

  pub putting_long : length W ≡ length E
  putting_long = v.wrote.long

  pub putting_all : length l / 4 ≤ k → length (listing_text (entries_in l)) ≤ length E → ListingPut l E W at
  unfolding listing_text written
  putting_all h room =
      let over : entries_in (drop (4 * k) l) ≡ [] = none_left l k h in
      let text : v.done ≡ listing_text (entries_in l) = sym (append-nil v.done) ∙ ap (λ (es : List Entry). v.done ++ listing_text es) (sym over) ∙ v.same in
      let front : take at W ≡ listing_text (entries_in l) = v.wrote.front ∙ ap (take (length E)) text ∙ take_all (length E) (listing_text (entries_in l)) room in
      let size : at ≡ length (listing_text (entries_in l)) = omega (arith, ap (length {A = ℕ}) front, length-take at W, v.wrote.within, v.wrote.long) in
      record {
        is = sym (take-append-drop at W) ∙ ap (λ (xs : List ℕ). xs ++ drop at W) front ∙ ap (λ (xs : List ℕ). listing_text (entries_in l) ++ xs) (v.wrote.rest ∙ ap (λ (n : ℕ). drop n E) size);
        long = size;
      }

  module _ (h : k < length l / 4) (w : EntryWords) (e : EntryOf (entry_at l k) w) where
    put_cut : entries_in (drop (4 * k) l) ≡ entry_at l k ∷ entries_in (drop (4 * (k + 1)) l)
    put_cut = entries_cut l k (entry_there l k h)

    here : T (bin_in_range (entry_at l k).bin) × T (in_range (entry_at l k).place) × (listing_refusal (suc k) (entries_in (drop (4 * (k + 1)) l)) ≡ 0)
    here = RoundTrip.entry_passes k (entry_at l k) _ (ap (listing_refusal k) (sym put_cut) ∙ v.refusal)

    yes : (a : Bool) → T a → a ≡ true
    yes true t = refl
    yes false t = absurd t

    pub put_there : farthest ≤ w.bin
    put_there = bin_word_low w.bin (bin_is (entry_at l k).bin w.bin e.bin ∙ yes _ here.0)

    pub putting_more : (U : List ℕ) (r : ℕ) → Wrote W at (words_line w) U r → Putting l E U r (k + 1)
    unfolding listing_text
    putting_more U r x = record {
      done = v.done ++ words_line w;
      wrote = wrote_then v.wrote x;
      refusal = ap (λ (n : ℕ). listing_refusal n (entries_in (drop (4 * (k + 1)) l))) (add-one k) ∙ here.2;
      same =
          append_assoc v.done (words_line w) _
          ∙ ap (λ (xs : List ℕ). v.done ++ (xs ++ listing_text (entries_in (drop (4 * (k + 1)) l)))) (words_line_lem (entry_at l k) w e here.0 here.1)
          ∙ ap (λ (es : List Entry). v.done ++ listing_text es) (sym put_cut)
          ∙ v.same;
    }

-- ---- the whole

-- an entry offends
pub listing_refused : (l : List ℤ) (E : List ℕ) (n : ℕ) → CheckedListing l (Err n) → (n ≡ 0 → ⊥) → ListingWritten l E E (Err n)
unfolding listing_answer writing_of text_after
listing_refused l E n v some = go n refl
  where
    go : (k : ℕ) → n ≡ k → ListingWritten l E E (Err n)
    go zero z = absurd (some z)
    go (suc k) z =
        let is : writing_of (length E) (entries_in l) ≡ Writing.Refused (suc k) = rw (sym v ∙ z, writing_of) in
        record { answer = ap (λ (m : ℕ). Err m) z ∙ ap listing_answer (sym is); text = ap (λ (x : Writing). text_after x E) (sym is) }

module _ (l : List ℤ) (E : List ℕ) (c : ℕ) (v : Measured l c) where
  pub none_offends : listing_refusal 0 (entries_in l) ≡ 0
  none_offends = v.none_offends

  -- the slice is too short
  pub listing_short : length E < c → ListingWritten l E E (Err 68)
  unfolding listing_answer writing_of fitting text_after
  listing_short h =
      let long : leb (length (listing_text (entries_in l))) (length E) ≡ false = lt-leb (length (listing_text (entries_in l))) (length E) (omega (arith, v.long)) in
      let is : writing_of (length E) (entries_in l) ≡ Writing.Refused 68 = rw (none_offends, writing_of, long, fitting) in
      record { answer = ap listing_answer (sym is); text = ap (λ (x : Writing). text_after x E) (sym is) }

  pub text_fits : c ≤ length E → length (listing_text (entries_in l)) ≤ length E
  text_fits h = omega (arith, v.long)

  -- the text is written
  pub listing_written : (W : List ℕ) (n : ℕ) → c ≤ length E → ListingPut l E W n → ListingWritten l E W (Ok n)
  unfolding listing_answer writing_of fitting text_after
  listing_written W n h p =
      let fits : leb (length (listing_text (entries_in l))) (length E) ≡ true = le-leb (length (listing_text (entries_in l))) (length E) (text_fits h) in
      let is : writing_of (length E) (entries_in l) ≡ Writing.Written (listing_text (entries_in l)) = rw (none_offends, writing_of, fits, fitting) in
      record { answer = ap (λ (m : ℕ). Ok m) p.long ∙ ap listing_answer (sym is); text = p.is ∙ ap (λ (x : Writing). text_after x E) (sym is) }
