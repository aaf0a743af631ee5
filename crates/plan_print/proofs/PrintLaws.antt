-- The laws of printing a plan: refused, or listed and then written. Assumes nothing.
use mathlib.Core.Bool.{Bool, true, false}
use mathlib.Core.List.{List, [], ◌∷◌, ◌++◌}
use mathlib.Core.Path.{◌≡◌, refl, sym, ◌∙◌, ap, subst}
use Prim.Native.Nat.{ℕ, zero, suc, ◌+◌, ◌*◌, ◌/◌, ◌≤◌, ◌<◌}
use native.Mathlib.Omega.{arith}
use borrow.Author.Tests.{leb-true}
use lib.Dec.{leb}
use lib.IntN.{ℤ}
use lib.ListN.{length, take, drop}
use lib.Seq.{take_all, take_at}
use Rattle.std.specs.Prelude.{Result, Ok, Err}
use Rattle.lists.specs.Lists.{written}
use Rattle.slice_front.specs.FrontLaws.{front_count}
use Rattle.sheet_answer_text.specs.Answer as Answer
use Rattle.sheet_answer_text.specs.Answer.{refusal_line}
use Rattle.plan_definition.specs.Answers.{listing_answer, listing_of, plan_answer, reading_of}
use Rattle.plan_definition.specs.Grammar.{Entry}
use Rattle.plan_definition.specs.ListLaws.{entries_back, list_length}
use Rattle.plan_definition.specs.Reading as Reading
use Rattle.plan_definition.specs.Reading.{Reading, entry_width, list_after, list_of}
use Rattle.plan_definition.specs.Writing as Writing
use Rattle.plan_definition.specs.Writing.{Writing, entries_in, fitting, listing_refusal, listing_text, text_after, writing_of}
use Rattle.plan_read.specs.Answer.{PlanRead}
use Rattle.plan_write.specs.Answer.{ListingWritten}
use Rattle.plan_print.specs.Printing.{Printed, reading_text, written_text}

-- ---- the front of a list
pub front_counted : (l : List ℤ) (n : ℕ) → n ≤ length l / 4 → 4 * n ≡ length (take (4 * n) l)
front_counted l n h = front_count (4 * n) l (omega arith)

pub front_whole : (l : List ℤ) (n : ℕ) → length l / 4 < n → l ≡ take (entry_width * n) l
front_whole l n h = sym (take_all (entry_width * n) l (omega arith))

-- two answers with one value have it in common
same_refusal : {k n : ℕ} → ◌≡◌ {A = Result ℕ ℕ} (Err k) (Err n) → n ≡ k
same_refusal e = cc

same_count : {k n : ℕ} → ◌≡◌ {A = Result ℕ ℕ} (Ok k) (Ok n) → k ≡ n
same_count e = cc

no_refusal : {P : Type 0} {k n : ℕ} → ◌≡◌ {A = Result ℕ ℕ} (Ok k) (Err n) → P
no_refusal {P} e = let z : ◌≡◌ {A = ℕ} 0 1 = cc in absurd (omega arith)

-- ---- a refused plan
pub plan_refused : (text : List ℕ) (L M : List ℤ) (E W : List ℕ) (n m r : ℕ) → PlanRead text L M (Err n) → m ≡ n → Answer.Written E (refusal_line m) W r → Printed text L E W r
unfolding plan_answer reading_text
plan_refused text L M E W n m r v e w = go (reading_of text L) refl
  where
    go : (x : Reading) → reading_of text L ≡ x → Printed text L E W r
    go (Reading.Refused k) q =
        let number : n ≡ k = same_refusal (ap plan_answer (sym q) ∙ sym v.answer) in
        record { is = subst (λ (t : List ℕ). Answer.Written E t W r) (ap refusal_line (e ∙ number) ∙ ap (reading_text (length E)) (sym q)) w }
    go (Reading.Listed es) q = no_refusal (ap plan_answer (sym q) ∙ sym v.answer)

-- ---- a listed plan
-- a text that is written fits
fits_in : (room : ℕ) (es : List Entry) (t : List ℕ) → writing_of room es ≡ Writing.Written t → length t ≤ room
unfolding writing_of fitting
fits_in room es t e = go (listing_refusal 0 es) refl (leb (length (listing_text es)) room) refl
  where
    go : (n : ℕ) → listing_refusal 0 es ≡ n → (b : Bool) → leb (length (listing_text es)) room ≡ b → length t ≤ room
    go (suc n) q b s = let no : Writing.Refused (suc n) ≡ Writing.Written t = rw (q, writing_of) at e in let z : ◌≡◌ {A = ℕ} 0 1 = cc in absurd (omega arith)
    go zero q false s = let no : Writing.Refused 68 ≡ Writing.Written t = rw (q, s, writing_of, fitting) at e in let z : ◌≡◌ {A = ℕ} 0 1 = cc in absurd (omega arith)
    go zero q true s =
        let yes : Writing.Written (listing_text es) ≡ Writing.Written t = rw (q, s, writing_of, fitting) at e in
        let same : listing_text es ≡ t = cc in
        omega (arith, leb-true (length (listing_text es)) room s, ap (length {A = ℕ}) same)

module _ (text : List ℕ) (L M : List ℤ) (n : ℕ) (v : PlanRead text L M (Ok n)) (F : List ℤ) (f : F ≡ take (entry_width * n) M) where
  -- the entries that were listed are those that are written
  record Listing : Type 0 where
    es : List Entry
    is : reading_of text L ≡ Reading.Listed es
    back : entries_in F ≡ es

  listing : Listing
  unfolding plan_answer list_after written
  listing = go (reading_of text L) refl
    where
      go : (x : Reading) → reading_of text L ≡ x → Listing
      go (Reading.Refused k) q = no_refusal (sym (ap plan_answer (sym q) ∙ sym v.answer))
      go (Reading.Listed fs) q =
          let count : length fs ≡ n = same_count (ap plan_answer (sym q) ∙ sym v.answer) in
          let left : M ≡ list_of fs ++ drop (length (list_of fs)) L = v.list ∙ ap (λ (x : Reading). list_after x L) q in
          let front : F ≡ list_of fs = f ∙ ap (take (entry_width * n)) left ∙ take_at (list_of fs) (drop (length (list_of fs)) L) (entry_width * n) (omega (arith, list_length fs)) in
          record { es = fs; is = q; back = ap entries_in front ∙ entries_back fs }

  module _ (E W : List ℕ) where
    printed : reading_text (length E) (reading_of text L) ≡ written_text (listing_of F E)
    unfolding reading_text
    printed = ap (reading_text (length E)) listing.is ∙ ap (λ (fs : List Entry). written_text (writing_of (length E) fs)) (sym listing.back)

    -- writing refuses
    pub listing_refused : (m k r : ℕ) (U : List ℕ) → ListingWritten F E W (Err m) → k ≡ m → Answer.Written W (refusal_line k) U r → Printed text L E U r
    unfolding listing_answer written_text text_after
    listing_refused m k r U u e w = go (listing_of F E) refl
      where
        go : (x : Writing) → listing_of F E ≡ x → Printed text L E U r
        go (Writing.Refused j) p =
            let number : m ≡ j = same_refusal (ap listing_answer (sym p) ∙ sym u.answer) in
            let kept : W ≡ E = u.text ∙ ap (λ (x : Writing). text_after x E) p in
            record {
              is = subst (λ (t : List ℕ). Answer.Written E t U r) (ap refusal_line (e ∙ number) ∙ ap written_text (sym p)
                  ∙ sym printed) (subst (λ (x : List ℕ). Answer.Written x (refusal_line k) U r) kept w);
            }
        go (Writing.Written t) p = no_refusal (ap listing_answer (sym p) ∙ sym u.answer)

    -- all is written
    pub listing_written : (k : ℕ) → ListingWritten F E W (Ok k) → Printed text L E W k
    unfolding listing_answer written_text text_after written
    listing_written k u = go (listing_of F E) refl
      where
        go : (x : Writing) → listing_of F E ≡ x → Printed text L E W k
        go (Writing.Refused m) p = no_refusal (sym (ap listing_answer (sym p) ∙ sym u.answer))
        go (Writing.Written t) p =
            let count : length t ≡ k = same_count (ap listing_answer (sym p) ∙ sym u.answer) in
            let short : length t ≤ length E = fits_in (length E) (entries_in F) t p in
            let whole : take (length E) t ≡ t = take_all (length E) t short in
            let left : W ≡ t ++ drop (length t) E = u.text ∙ ap (λ (x : Writing). text_after x E) p in
            record {
              is = subst (λ (s : List ℕ). Answer.Written E s W k) (ap written_text (sym p) ∙ sym printed)
                  (record { out = left ∙ ap (λ (s : List ℕ). s ++ drop (length t) E) (sym whole); count = sym count ∙ ap (length {A = ℕ}) (sym whole) });
            }
