-- What the reader of a plan listed the writer accepts, and what it writes is read as the same entries, over the definitions and for the calls in a row. Assumes nothing.
use Rattle.plan_definition.specs.ReadBack.{Again}
use Rattle.std.specs.Prelude.{Bool, true, false, List, [], ◌∷◌, ◌++◌, ◌≡◌, refl, ℕ, suc, ◌+◌, ◌*◌, ◌≤◌, T, leb, ℤ, pos, nat_abs, length, take, drop}
use Rattle.std.proofs.Common.{◌∙◌, ap, subst, arith, leb→le, take_at}
use borrow.Author.Tests.{le-leb, lt-ltb}
use Rattle.std.specs.Float.Ieee.Fits.{and_l, and_r, and_i}
use Rattle.std.specs.Int.Signed.{non_neg}
use Rattle.lists.specs.Lists.{written}
use Rattle.body_refusals.specs.TableChecks.{most_bin}
use Rattle.plan_definition.specs.Places.{Place, in_range}
use Rattle.plan_definition.specs.Grammar.{Plan, nothing, bin, group, Entry, placed, keeps_limits}
use Rattle.plan_definition.specs.Reading.{Reading, Listed, entry_width, most_entries, room_of, plan_of, list_of, list_after}
use Rattle.plan_definition.specs.Writing.{Writing, Written, bin_in_range, listing_refusal, listing_text, fitting, writing_of, text_after}
use Rattle.plan_definition.specs.Answers.{reading_of, listing_of}
use Rattle.plan_definition.proofs.Accepted.{bin_keeps, group_keeps, accepted_plan}
use Rattle.plan_definition.specs.Accepted.{TextOf}
use Rattle.plan_definition.proofs.RoundTrip.{listing_back}
use Rattle.plan_definition.specs.RoundTrip.{none_left, one_more}
use Rattle.plan_definition.specs.RoundTrip.{InRange}
use Rattle.plan_definition.specs.ListLaws.{list_length, entries_back}

-- ---- what a plan places is in range

-- the entries of two listings
range_both : {es fs : List Entry} → InRange es → InRange fs → InRange (es ++ fs)
range_both none_left w = w
range_both (one_more b p v) w = one_more b p (range_both v w)

-- the bins of a plan inside the limits
placed_range : (path : List Place) (plan : Plan) → T (keeps_limits path plan) → InRange (placed path plan)
unfolding placed
placed_range path nothing t = none_left
placed_range path (bin n o rest) t =
    let k = bin_keeps path n o rest t in
    one_more (and_i (non_neg (pos n)) (leb (nat_abs (pos n)) most_bin) tt (and_l (leb n most_bin) (in_range o) k.line)) k.place (placed_range path rest k.after)
placed_range path (group o inner rest) t =
    let k = group_keeps path o inner rest t in
    range_both (placed_range (o ∷ path) inner k.inside) (placed_range path rest k.after)

-- no entry of a listing in range offends, if they are not too many
range_accepted : (count : ℕ) {es : List Entry} → InRange es → count + length es ≤ most_entries → listing_refusal count es ≡ 0
unfolding listing_refusal
range_accepted count none_left few = refl
range_accepted count (one_more {e} {es} b p v) few =
    rw (is_true (bin_in_range e.bin) b, is_true (in_range e.place) p, lt-ltb count most_entries (omega arith), listing_refusal) (range_accepted (suc count) v (omega arith))
  where
    is_true : (c : Bool) → T c → c ≡ true
    is_true true t = refl
    is_true false t = absurd t

-- ---- the definitions

module _ (room : ℕ) (text : List ℕ) (es : List Entry) (few : room ≤ most_entries) (e : plan_of room text ≡ Listed es) where
  -- no more than there is room for
  listed_few : length es ≤ room
  listed_few =
      let t : TextOf room text es = accepted_plan room text es e in
      let n : length (placed [] t.plan) ≤ room = leb→le (length (placed [] t.plan)) room (and_r (keeps_limits [] t.plan) (leb (length (placed [] t.plan)) room) t.inside) in
      omega (arith, ap length t.entries)

  -- None of the entries that the reader listed offends the writer.
  pub listed_accepted : listing_refusal 0 es ≡ 0
  listed_accepted =
      let t : TextOf room text es = accepted_plan room text es e in
      let keeps : T (keeps_limits [] t.plan) = and_l (keeps_limits [] t.plan) (leb (length (placed [] t.plan)) room) t.inside in
      range_accepted 0 (subst InRange t.entries (placed_range [] t.plan keeps)) (omega (arith, listed_few))

  -- With room for their text it is written,
  pub listed_written : (bytes : ℕ) → length (listing_text es) ≤ bytes → writing_of bytes es ≡ Written (listing_text es)
  unfolding writing_of fitting
  listed_written bytes fits = rw (listed_accepted, le-leb (length (listing_text es)) bytes fits, writing_of, fitting)

  -- and with room for them it is read as the same entries.
  pub listed_back : (other : ℕ) → length es ≤ other → plan_of other (listing_text es) ≡ Listed es
  listed_back other fits = listing_back other es listed_accepted fits

-- ---- the calls in a row

-- the front of what was written
front : {A : Type 0} (xs old : List A) (n : ℕ) → length xs ≡ n → take n (written xs old) ≡ xs
unfolding written
front xs old n e = take_at xs (drop (length xs) old) n e

-- So it is for every text that is accepted, where the slice has room for the text and the other list for the entries.
pub read_again : (text : List ℕ) (list : List ℤ) (out : List ℕ) (other : List ℤ) (es : List Entry) → reading_of text list ≡ Listed es → length (listing_text es) ≤ length out
    → length es ≤ room_of (length other) → Again text list out other es
unfolding list_after text_after
read_again text list out other es e fits room =
    let few : room_of (length list) ≤ most_entries = omega arith in
    let numbers : length (list_of es) ≡ entry_width * length es = list_length es in
    let wrote : listing_of (list_of es) out ≡ Written (listing_text es) = ap (writing_of (length out)) (entries_back es) ∙ listed_written (room_of (length list)) text es few e (length out) fits in
    let back : reading_of (listing_text es) other ≡ Listed es = listed_back (room_of (length list)) text es few e (room_of (length other)) room in
    record {
      listed = ap (λ (r : Reading). take (entry_width * length es) (list_after r list)) e ∙ front (list_of es) list (entry_width * length es) numbers;
      accepted = wrote;
      text_left = ap (λ (w : Writing). take (length (listing_text es)) (text_after w out)) wrote ∙ front (listing_text es) out (length (listing_text es)) refl;
      again = back;
      same = ap (λ (r : Reading). take (entry_width * length es) (list_after r other)) back ∙ front (list_of es) other (entry_width * length es) numbers;
    }
