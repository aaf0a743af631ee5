-- With a list of 4,096 entries and 96 bytes for each, what is printed is all that the program is to print. Assumes nothing.
use Rattle.std.specs.Prelude.{Bool, true, false, List, [], ◌∷◌, ◌++◌, ◌≡◌, refl, ℕ, zero, suc, ◌+◌, ◌*◌, ◌≤◌, ◌<◌, T, leb, ltb, ℤ, pos, negsuc, nat_abs, length}
use Rattle.std.proofs.Common.{sym, ◌∙◌, ap, subst, arith, le-leb, lt-ltb, leb→le, length-append}
use Rattle.std.specs.Float.Ieee.Fits.{and_i, and_l, and_r}
use Rattle.std.specs.Int.Signed.{non_neg}
use Rattle.body_refusals.specs.TableChecks.{most_bin}
use Rattle.sheet_digits.specs.Digits.{decimal}
use Rattle.sheet_digits.specs.Bytes.{bytes}
use Rattle.sheet_lines.specs.Printed.{decimal_length}
use Rattle.plan_definition.specs.Places.{Place, in_range}
use Rattle.plan_definition.specs.Grammar.{Plan, nothing, bin, group, Entry, bin_line, integer, inside_limits, keeps_limits, offset_text, placed}
use Rattle.plan_definition.proofs.Accepted.{accepted_plan, bin_keeps, group_keeps}
use Rattle.plan_definition.specs.Accepted.{BinKeeps, GroupKeeps, TextOf}
use Rattle.plan_definition.specs.Reading as Reading
use Rattle.plan_definition.specs.Reading.{Reading, most_entries, plan_of}
use Rattle.plan_definition.specs.RoundTrip.{none_left, one_more}
use Rattle.plan_definition.specs.RoundTrip.{InRange}
use Rattle.plan_definition.specs.Writing as Writing
use Rattle.plan_definition.specs.Writing.{bin_in_range, fitting, listing_refusal, listing_text, writing_of}
use Rattle.plan_print.specs.Printing.{plan_program, printed_reading, reading_text, written_text}

-- ---- every entry of an accepted plan is in range
in_append : (a b : List Entry) → InRange a → InRange b → InRange (a ++ b)
in_append [] b none_left w = w
in_append (e ∷ a) b (one_more x y v) w = one_more x y (in_append a b v w)

placed_in : (path : List Place) (plan : Plan) → T (keeps_limits path plan) → InRange (placed path plan)
unfolding placed
placed_in path nothing t = none_left
placed_in path (bin n o rest) t =
    let k : BinKeeps path n o rest = bin_keeps path n o rest t in
    one_more (and_i (non_neg (pos n)) (leb n most_bin) tt (and_l (leb n most_bin) (in_range o) k.line)) k.place (placed_in path rest k.after)
placed_in path (group o inner rest) t =
    let k : GroupKeeps path o inner rest = group_keeps path o inner rest t in
    in_append (placed (o ∷ path) inner) (placed path rest) (placed_in (o ∷ path) inner k.inside) (placed_in path rest k.after)

-- a listing of so few entries in range is refused for none
none_refused : (count : ℕ) (es : List Entry) → InRange es → count + length es ≤ most_entries → listing_refusal count es ≡ 0
unfolding listing_refusal
none_refused count [] none_left h = refl
none_refused count (e ∷ es) (one_more x y v) h =
    rw (yes (bin_in_range e.bin) x, yes (in_range e.place) y, lt-ltb count most_entries (omega arith), listing_refusal) (none_refused (suc count) es v (omega arith))
  where
    yes : (b : Bool) → T b → b ≡ true
    yes true t = refl
    yes false t = absurd t

-- ---- a line has at most 96 bytes
integer_length : (n : ℤ) → length (integer n) ≤ 21
unfolding integer
integer_length (pos n) = omega (arith, decimal_length 19 n)
integer_length (negsuc n) = omega (arith, decimal_length 19 (suc n))

offset_length : (o : Place) (rest : List ℕ) → length (offset_text o rest) ≤ 66 + length rest
unfolding offset_text
offset_length o rest =
    omega (
      arith,
      length-append (integer o.x) (32 ∷ (integer o.y ++ 32 ∷ (integer o.z ++ rest))),
      length-append (integer o.y) (32 ∷ (integer o.z ++ rest)),
      length-append (integer o.z) rest,
      integer_length o.x,
      integer_length o.y,
      integer_length o.z,
    )

line_length : (n : ℤ) (o : Place) → length (bin_line n o) ≤ 96
unfolding bin_line
line_length n o = omega (arith, length-append (integer n) (offset_text o (bytes ")" ++ 10 ∷ [])), integer_length n, offset_length o (bytes ")" ++ 10 ∷ []))

listing_length : (es : List Entry) → length (listing_text es) ≤ 96 * length es
unfolding listing_text
listing_length [] = omega arith
listing_length (e ∷ es) = omega (arith, length-append (bin_line e.bin e.place) (listing_text es), line_length e.bin e.place, listing_length es)

-- ---- the definitions by their cases
written_is : (bytes : ℕ) (es : List Entry) → listing_refusal 0 es ≡ 0 → leb (length (listing_text es)) bytes ≡ true → written_text (writing_of bytes es) ≡ listing_text es
unfolding written_text writing_of fitting
written_is bytes es z q = rw (z, writing_of, q, fitting, written_text)

refused_is : (bytes n : ℕ) → reading_text bytes (Reading.Refused n) ≡ printed_reading (Reading.Refused n)
unfolding reading_text printed_reading
refused_is bytes n = refl

listed_is : (bytes : ℕ) (es : List Entry) → written_text (writing_of bytes es) ≡ listing_text es → reading_text bytes (Reading.Listed es) ≡ printed_reading (Reading.Listed es)
unfolding reading_text printed_reading
listed_is bytes es e = e

-- What is printed with room for every plan is what the program is to print.
pub whole_printed : (bytes : ℕ) (text : List ℕ) → 96 * most_entries ≤ bytes → reading_text bytes (plan_of most_entries text) ≡ plan_program text
unfolding plan_program
whole_printed bytes text h = go (plan_of most_entries text) refl
  where
    listed : (es : List Entry) → plan_of most_entries text ≡ Reading.Listed es → listing_refusal 0 es ≡ 0
    listed es e =
        let v : TextOf most_entries text es = accepted_plan most_entries text es e in
        let keeps : T (keeps_limits [] v.plan) = and_l (keeps_limits [] v.plan) _ v.inside in
        let few : length (placed [] v.plan) ≤ most_entries = leb→le _ most_entries (and_r (keeps_limits [] v.plan) (leb (length (placed [] v.plan)) most_entries) v.inside) in
        ap (listing_refusal 0) (sym v.entries) ∙ none_refused 0 (placed [] v.plan) (placed_in [] v.plan keeps) (omega arith)

    short : (es : List Entry) → plan_of most_entries text ≡ Reading.Listed es → length (listing_text es) ≤ bytes
    short es e =
        let v : TextOf most_entries text es = accepted_plan most_entries text es e in
        let few : length (placed [] v.plan) ≤ most_entries = leb→le _ most_entries (and_r (keeps_limits [] v.plan) (leb (length (placed [] v.plan)) most_entries) v.inside) in
        omega (arith, listing_length es, ap (length {A = Entry}) v.entries)

    whole : (es : List Entry) → listing_refusal 0 es ≡ 0 → length (listing_text es) ≤ bytes → written_text (writing_of bytes es) ≡ listing_text es
    whole es z l = written_is bytes es z (le-leb (length (listing_text es)) bytes l)

    go : (r : Reading) → plan_of most_entries text ≡ r → reading_text bytes r ≡ printed_reading r
    go (Reading.Refused n) e = refused_is bytes n
    go (Reading.Listed es) e = listed_is bytes es (whole es (listed es e) (short es e))
