-- The laws of an entry: what it is refused for, and its line. Assumes nothing.
use mathlib.Core.Bool.{Bool, true, false, ◌&&◌, not, cond}
use mathlib.Core.List.{List, [], ◌∷◌, ◌++◌, append_assoc}
use mathlib.Core.Path.{◌≡◌, refl, sym, ◌∙◌, ap, subst}
use Prim.Native.Nat.{ℕ, zero, suc, ◌+◌, ◌-◌, ◌*◌, ◌≤◌, ◌<◌}
use native.Mathlib.Omega.{arith}
use borrow.Author.Tests.{not-true, not-false, leb-true, le-leb, le-ltb, lt-ltb}
use lib.Dec.{T, leb, ltb}
use lib.Ieee.Fits.{and_l, and_r}
use lib.IntN.{ℤ, pos, nat_abs}
use lib.ListN.{length, take, length-take}
use lib.Seq.{take_all}
use lib.Signed.{non_neg, pos-nat_abs}
use Rattle.signed_numbers.specs.Range.{farthest, within}
use Rattle.body_refusals.specs.TableChecks.{most_bin}
use Rattle.sheet_digits.specs.Bytes.{bytes}
use Rattle.sheet_digit_writing.specs.Writing.{Wrote}
use Rattle.sheet_lines.specs.Forms.{Piece, Word, Number, Offset, line, print}
use Rattle.sheet_lines.specs.Pattern.{piece, pieces, split, line_of_form}
use Rattle.sheet_lines.specs.Printed.{line_length}
use Rattle.plan_definition.specs.Places.{Place, in_range}
use Rattle.plan_definition.specs.Grammar.{Entry, bin_line}
use Rattle.plan_definition.specs.Lines.{bin_form, offset_of, offsets_of}
use Rattle.plan_definition.specs.LineLaws.{bin_print}
use Rattle.plan_definition.specs.Reading.{malformed, most_entries, out_of_range, too_many}
use Rattle.plan_definition.specs.Writing.{bin_in_range, listing_refusal}
use Rattle.plan_write.specs.declared.entries.EntryWords.{EntryWords}
use Rattle.plan_write.specs.Entries.{EntryOf, LineLength, bin_word, place_words, words_line, words_refusal}
use Rattle.plan_write.proofs.WordLaws.{bin_is, number_of, place_is}

-- ---- what an entry is refused for
module _ (w : EntryWords) (k : ℕ) (b : Bool) (e : b ≡ bin_word w.bin) where
  abbrev within_place : Bool → ℕ
  within_place p = cond p (cond (ltb k most_entries) 0 too_many) out_of_range

  pub bin_refused : not b ≡ true → 61 ≡ words_refusal w k
  bin_refused n = ap (λ (x : Bool). cond x (within_place (place_words w.place)) malformed) (sym (not-true b n) ∙ e)

  module _ (n : not b ≡ false) (p : Bool) (f : p ≡ place_words w.place) where
    passed : within_place (place_words w.place) ≡ words_refusal w k
    passed = ap (λ (x : Bool). cond x (within_place (place_words w.place)) malformed) (sym (not-false b n) ∙ e)

    pub place_refused : not p ≡ true → 63 ≡ words_refusal w k
    place_refused m = ap within_place (sym (not-true p m) ∙ f) ∙ passed

    pub entry_many : not p ≡ false → 4096 ≤ k → 64 ≡ words_refusal w k
    entry_many m h = ap (λ (x : Bool). cond x 0 too_many) (sym (le-ltb k most_entries h)) ∙ ap within_place (sym (not-false p m) ∙ f) ∙ passed

    pub entry_passes : not p ≡ false → k < 4096 → 0 ≡ words_refusal w k
    entry_passes m h = ap (λ (x : Bool). cond x 0 too_many) (sym (lt-ltb k most_entries h)) ∙ ap within_place (sym (not-false p m) ∙ f) ∙ passed

-- the definition's refusal of an entry, and of those behind it
module _ (e : Entry) (w : EntryWords) (v : EntryOf e w) (k : ℕ) (es : List Entry) where
  bin_same : (b : Bool) → bin_word w.bin ≡ b → bin_in_range e.bin ≡ b
  bin_same b q = sym (bin_is e.bin w.bin v.bin) ∙ q

  place_same : (b : Bool) → place_words w.place ≡ b → in_range e.place ≡ b
  place_same b q = sym (place_is e w v) ∙ q

  -- an entry is passed over, or decides
  pub refusal_next : (r : ℕ) → r ≡ words_refusal w k → r ≡ 0 → listing_refusal k (e ∷ es) ≡ listing_refusal (suc k) es
  unfolding listing_refusal
  refusal_next r q z = go (bin_word w.bin) refl (place_words w.place) refl (ltb k most_entries) refl (sym q ∙ z)
    where
      go : (a : Bool) → bin_word w.bin ≡ a → (b : Bool) → place_words w.place ≡ b → (c : Bool) → ltb k most_entries ≡ c → cond a (cond b (cond c 0 too_many) out_of_range) malformed ≡ 0
          → listing_refusal k (e ∷ es) ≡ listing_refusal (suc k) es
      go false p b q c s x = absurd (omega arith)
      go true p false q c s x = absurd (omega arith)
      go true p true q false s x = absurd (omega arith)
      go true p true q true s x = rw (bin_same true p, place_same true q, s, listing_refusal)

  pub refusal_here : (r : ℕ) → r ≡ words_refusal w k → (r ≡ 0 → ⊥) → r ≡ listing_refusal k (e ∷ es)
  unfolding listing_refusal
  refusal_here r q n = q ∙ go (bin_word w.bin) refl (place_words w.place) refl (ltb k most_entries) refl (λ z. n (q ∙ z))
    where
      go : (a : Bool) → bin_word w.bin ≡ a → (b : Bool) → place_words w.place ≡ b → (c : Bool) → ltb k most_entries ≡ c → (cond a (cond b (cond c 0 too_many) out_of_range) malformed ≡ 0 → ⊥)
          → cond a (cond b (cond c 0 too_many) out_of_range) malformed ≡ listing_refusal k (e ∷ es)
      go false p b q c s x = sym (rw (bin_same false p, listing_refusal))
      go true p false q c s x = sym (rw (bin_same true p, place_same false q, listing_refusal))
      go true p true q false s x = sym (rw (bin_same true p, place_same true q, s, listing_refusal))
      go true p true q true s x = absurd (x refl)

  -- the words of an entry that passes
  passes_bin : words_refusal w k ≡ 0 → bin_word w.bin ≡ true
  passes_bin z = go (bin_word w.bin) refl z
    where
      go : (a : Bool) → bin_word w.bin ≡ a → cond a (cond (place_words w.place) (cond (ltb k most_entries) 0 too_many) out_of_range) malformed ≡ 0 → bin_word w.bin ≡ true
      go true p x = p
      go false p x = absurd (omega arith)

-- the word of a bin in range
pub bin_word_low : (n : ℕ) → bin_word n ≡ true → farthest ≤ n
bin_word_low n q = go (leb farthest n) refl q
  where
    go : (b : Bool) → leb farthest n ≡ b → b && leb n (farthest + most_bin) ≡ true → farthest ≤ n
    go true p x = leb-true farthest n p
    go false p x = let z : ◌≡◌ {A = ℕ} 0 1 = cc in absurd (omega arith)

-- ---- its line

-- the line by its form, with its LF
line_printed : (n x y z : ℕ) → line (pieces (bytes "(bin#%%%)")) (n ∷ x ∷ y ∷ z ∷ []) ≡ print bin_form (n ∷ x ∷ y ∷ z ∷ [])
unfolding line print piece split
line_printed n x y z = line_of_form (bytes "(bin#%%%)") (Word (bytes "(bin") ∷ Number ∷ Offset ∷ Offset ∷ Offset ∷ Word (bytes ")") ∷ []) (n ∷ x ∷ y ∷ z ∷ []) refl ∙ simp append_assoc

pub words_line_lem : (e : Entry) (w : EntryWords) → EntryOf e w → T (bin_in_range e.bin) → T (in_range e.place) → words_line w ≡ bin_line e.bin e.place
unfolding words_line
words_line_lem e w v b p =
    line_printed (w.bin - farthest) w.place.x w.place.y w.place.z
    ∙ sym (bin_print (w.bin - farthest) w.place.x w.place.y w.place.z)
    ∙ (λ i. bin_line (number i) (record { x = number_of e.place.x w.place.x v.x on_x i; y = number_of e.place.y w.place.y v.y on_y i; z = number_of e.place.z w.place.z v.z on_z i }))
  where
    yes : (a : Bool) → T a → a ≡ true
    yes true t = refl
    yes false t = absurd t

    on_x : within e.place.x ≡ true
    on_x = yes _ (and_l (within e.place.x) (within e.place.y && within e.place.z) p)

    on_yz : T (within e.place.y && within e.place.z)
    on_yz = and_r (within e.place.x) (within e.place.y && within e.place.z) p

    on_y : within e.place.y ≡ true
    on_y = yes _ (and_l (within e.place.y) (within e.place.z) on_yz)

    on_z : within e.place.z ≡ true
    on_z = yes _ (and_r (within e.place.y) (within e.place.z) on_yz)

    low : farthest ≤ w.bin
    low = bin_word_low w.bin (bin_is e.bin w.bin v.bin ∙ yes _ b)

    small : nat_abs e.bin ≤ most_bin
    small = leb-true (nat_abs e.bin) most_bin (yes _ (and_r (non_neg e.bin) (leb (nat_abs e.bin) most_bin) b))

    bin_within : within e.bin ≡ true
    bin_within = le-leb (nat_abs e.bin) farthest (omega (arith, small))

    number : pos (w.bin - farthest) ≡ e.bin
    number = sym (rw (le-ltb w.bin farthest low)) ∙ number_of e.bin w.bin v.bin bin_within

-- what was written of it
pub words_wrote : (E W : List ℕ) (at r : ℕ) (w : EntryWords) → Wrote E at (line (pieces (bytes "(bin#%%%)")) ((w.bin - 1099511627776) ∷ w.place.x ∷ w.place.y ∷ w.place.z ∷ [])) W r → Wrote E at (words_line w) W r
unfolding words_line
words_wrote E W at r w v = v

-- it has few enough bytes for the slice that measures it
pub line_measured : (E W : List ℕ) (r : ℕ) (w : EntryWords) → length E ≡ 96 → Wrote E 0 (words_line w) W r → LineLength w r
unfolding words_line piece
line_measured E W r w h v =
    let short : length (words_line w) ≤ 96 = omega (arith, line_length (pieces (bytes "(bin#%%%)")) ((w.bin - farthest) ∷ w.place.x ∷ w.place.y ∷ w.place.z ∷ [])) in
    let same : take r W ≡ words_line w = v.front ∙ take_all (length E) (words_line w) (omega arith) in
    record { is = omega (arith, ap (length {A = ℕ}) same, length-take r W, v.within, v.long); few = omega (arith, v.within) }
