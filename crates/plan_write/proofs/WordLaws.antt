-- The laws of words: of a number that the machine reads, of a bin in range, of a place in range. Assumes nothing.
use mathlib.Core.Bool.{Bool, true, false, ◌&&◌, not, cond}
use mathlib.Core.Path.{◌≡◌, refl, sym, ◌∙◌, ap, subst}
use Prim.Native.Nat.{ℕ, zero, suc, ◌+◌, ◌-◌, ◌^◌, ◌≤◌, ◌<◌}
use native.Mathlib.Omega.{arith}
use borrow.Author.Tests.{not-true, not-false, leb-true, leb-false, le-leb, lt-leb, eq-eqb, ne_eqb}
use lib.Dec.{leb, eqb}
use lib.IntN.{ℤ, pos, negsuc, nat_abs, ◌+ℤ◌, ◌-ℤ◌, +ℤ-neg_ℤ_cancel}
use lib.Signed.{mag, non_neg}
use mir.Syntax.{w64}
use mir.ValLaws.{to_z-of_z}
use Rattle.signed_numbers.specs.Range.{farthest, within}
use Rattle.signed_numbers.specs.Bits.{read}
use Rattle.signed_numbers.specs.Linear.{up, down, alone, abs, plus}
use Rattle.body_refusals.specs.TableChecks.{most_bin}
use Rattle.sheet_digits.specs.OffsetLaws.{offset_words}
use Rattle.plan_definition.specs.Places.{in_range}
use Rattle.plan_definition.specs.Grammar.{Entry}
use Rattle.plan_definition.specs.Lines.{offset_of}
use Rattle.plan_definition.specs.Writing.{bin_in_range}
use Rattle.plan_write.specs.declared.entries.EntryWords.{EntryWords}
use Rattle.plan_write.specs.Entries.{EntryOf, WordOf, bin_word, place_words}

no : {P : Type 0} → true ≡ false → P
no {P} e = let z : ◌≡◌ {A = ℕ} 0 1 = cc in absurd (omega arith)

-- ---- a number as the machine reads it
module _ (n : ℤ) (r : Bool) (m : mag n < 2 ^ 63) (e : r ≡ within (read n)) where
  plain : read n ≡ n
  plain = to_z-of_z w64 n (record { sfits = m })

  tested : r ≡ within n
  tested = e ∙ ap within plain

  pub word_out : not r ≡ true → WordOf n 2199023255553
  word_out q = record { inside = λ w. no (sym w ∙ sym tested ∙ not-true r q); outside = λ w. refl }

  pub word_asked : not r ≡ false → nat_abs (read n) ≤ farthest
  word_asked q = subst (λ (z : ℤ). nat_abs z ≤ farthest) (sym plain) (leb-true (nat_abs n) farthest (sym tested ∙ not-false r q))

  pub word_in : (w : ℕ) → not r ≡ false → pos w ≡ read n +ℤ pos farthest → WordOf n w
  word_in w q f = record { inside = λ t. f ∙ ap (λ (z : ℤ). z +ℤ pos farthest) plain; outside = λ t. no (sym (not-false r q) ∙ tested ∙ t) }

-- ---- the word of a number in range
module _ (n : ℤ) (w : ℕ) (v : WordOf n w) (t : within n ≡ true) where
  pub number_of : offset_of w ≡ n
  number_of = ap (λ (z : ℤ). z -ℤ pos farthest) (v.inside t) ∙ +ℤ-neg_ℤ_cancel n (pos farthest)

  sums : w + down n ≡ up n + farthest
  sums = omega (arith, ap up (v.inside t), ap down (v.inside t), plus n (pos farthest))

  pub word_small : w < offset_words
  word_small = omega (arith, sums, abs n, leb-true (nat_abs n) farthest t)

-- whether it is the word of a number in range
apart_is : (n : ℤ) (w : ℕ) → WordOf n w → not (eqb w offset_words) ≡ within n
apart_is n w v = go (within n) refl
  where
    go : (b : Bool) → within n ≡ b → not (eqb w offset_words) ≡ within n
    go true t = ap not (ne_eqb w offset_words (λ e. let l : w < offset_words = word_small n w v t in omega arith)) ∙ sym t
    go false t = ap not (eq-eqb w offset_words (v.outside t)) ∙ sym t

pub place_is : (e : Entry) (w : EntryWords) → EntryOf e w → place_words w.place ≡ in_range e.place
place_is e w v = λ i. apart_is e.place.x w.place.x v.x i && (apart_is e.place.y w.place.y v.y i && apart_is e.place.z w.place.z v.z i)

-- ---- a bin's word
and_false : (b : Bool) → false ≡ (b && false)
and_false true = refl
and_false false = refl

pub bin_is : (n : ℤ) (w : ℕ) → WordOf n w → bin_word w ≡ bin_in_range n
bin_is n w v = go (within n) refl
  where
    far : within n ≡ false → nat_abs n ≤ most_bin → ⊥
    far t h = omega (arith, leb-false (nat_abs n) farthest t)

    outside : within n ≡ false → bin_word w ≡ bin_in_range n
    outside t =
        let big : leb w (farthest + most_bin) ≡ false = lt-leb w (farthest + most_bin) (omega (arith, v.outside t)) in
        let none : leb (nat_abs n) most_bin ≡ false = lt-leb (nat_abs n) most_bin (omega (arith, leb-false (nat_abs n) farthest t)) in
        ap (λ (b : Bool). leb farthest w && b) big ∙ sym (and_false (leb farthest w)) ∙ and_false (non_neg n) ∙ ap (λ (b : Bool). non_neg n && b) (sym none)

    at : (m : ℤ) → w + down m ≡ up m + farthest → nat_abs m ≤ farthest → bin_word w ≡ bin_in_range m
    at (pos m) s h = ap (λ (b : Bool). b && leb w (farthest + most_bin)) (le-leb farthest w (omega arith)) ∙ same (leb m most_bin) refl
      where
        same : (b : Bool) → leb m most_bin ≡ b → leb w (farthest + most_bin) ≡ leb m most_bin
        same true q = le-leb w (farthest + most_bin) (omega (arith, leb-true m most_bin q)) ∙ sym q
        same false q = lt-leb w (farthest + most_bin) (omega (arith, leb-false m most_bin q)) ∙ sym q
    at (negsuc m) s h = ap (λ (b : Bool). b && leb w (farthest + most_bin)) (lt-leb farthest w (omega arith))

    go : (b : Bool) → within n ≡ b → bin_word w ≡ bin_in_range n
    go true t = at n (sums n w v t) (leb-true (nat_abs n) farthest t)
    go false t = outside t
