-- What the writer makes of accepted entries reads back as those entries, in order. Assumes nothing.
use Rattle.plan_definition.specs.RoundTrip.{none_left, one_more, InRange}
use Rattle.std.specs.Prelude.{Bool, false, ◌&&◌, List, [], ◌∷◌, ◌++◌, ◌≡◌, ℕ, zero, suc, ◌≤◌, leb, ltb, ℤ, pos, nat_abs, length}
use Rattle.std.proofs.Math.Bool.{true}
use Rattle.std.proofs.Math.Path.{refl, subst}
use Rattle.std.proofs.Common.{sym, ◌∙◌, ap, arith, le→leb}
use Rattle.std.proofs.Math.Dec.{T}
use Rattle.std.specs.Float.Ieee.Fits.{and_l, and_r, and_i}
use Rattle.std.proofs.Math.IntN.{+ℤ_idl}
use Rattle.std.specs.Int.Signed.{non_neg, pos-nat_abs}
use Rattle.body_refusals.specs.TableChecks.{most_bin}
use Rattle.plan_definition.specs.Places.{Place, total, in_range}
use Rattle.plan_definition.specs.Grammar.{Plan, nothing, bin, Entry, entry, bin_line, plan_text, placed, keeps_limits, inside_limits}
use Rattle.plan_definition.specs.Reading.{Listed, most_entries, plan_of}
use Rattle.plan_definition.specs.Writing.{Writing, Refused, Written, bin_in_range, listing_refusal, listing_text, fitting, writing_of}
use Rattle.plan_definition.proofs.Accepted.{plan_accepted}

-- the plan of a listing: its bins, in no group
listing_plan : List Entry → Plan
listing_plan [] = nothing
listing_plan (e ∷ es) = bin (nat_abs e.bin) e.place (listing_plan es)

-- an entry that passes both tests, and those behind it
module _ (count : ℕ) (e : Entry) (es : List Entry) (r : listing_refusal count (e ∷ es) ≡ 0) where
  pub entry_passes : T (bin_in_range e.bin) × T (in_range e.place) × (listing_refusal (suc count) es ≡ 0)
  unfolding listing_refusal
  entry_passes = go (bin_in_range e.bin) refl (in_range e.place) refl (ltb count most_entries) refl
    where
      yes : (b : Bool) → b ≡ true → T b
      yes b q = subst T (sym q) tt

      go : (a : Bool) → bin_in_range e.bin ≡ a → (b : Bool) → in_range e.place ≡ b → (c : Bool) → ltb count most_entries ≡ c
          → T (bin_in_range e.bin) × T (in_range e.place) × (listing_refusal (suc count) es ≡ 0)
      go false p b q c s = absurd (omega (arith, (rw (p, listing_refusal) at r)))
      go true p false q c s = absurd (omega (arith, (rw (p, q, listing_refusal) at r)))
      go true p true q false s = absurd (omega (arith, (rw (p, q, s, listing_refusal) at r)))
      go true p true q true s = (yes (bin_in_range e.bin) p, yes (in_range e.place) q, (rw (p, q, s, listing_refusal) at r))

pub listing_in_range : (count : ℕ) (es : List Entry) → listing_refusal count es ≡ 0 → InRange es
listing_in_range count [] r = none_left
listing_in_range count (e ∷ es) r =
    let v = entry_passes count e es r in
    one_more v.0 v.1 (listing_in_range (suc count) es v.2)

-- a bin's number in range is not negative
bin_number : (n : ℤ) → T (bin_in_range n) → pos (nat_abs n) ≡ n
bin_number n t = pos-nat_abs n (and_l (non_neg n) (leb (nat_abs n) most_bin) t)

-- a bin in no group stands at its own offset
alone : (o : Place) → total (o ∷ []) ≡ o
unfolding total
alone o = λ i. record { x = +ℤ_idl o.x i; y = +ℤ_idl o.y i; z = +ℤ_idl o.z i }

listing_text_lem : (es : List Entry) → InRange es → plan_text (listing_plan es) ≡ listing_text es
unfolding listing_plan plan_text listing_text
listing_text_lem [] v = refl
listing_text_lem (e ∷ es) (one_more b p v) = ap (λ (n : ℤ). bin_line n e.place ++ plan_text (listing_plan es)) (bin_number e.bin b)
    ∙ ap (λ (cs : List ℕ). bin_line e.bin e.place ++ cs) (listing_text_lem es v)

listing_placed : (es : List Entry) → InRange es → placed [] (listing_plan es) ≡ es
unfolding listing_plan placed
listing_placed [] v = refl
listing_placed (e ∷ es) (one_more b p v) = λ i. entry (bin_number e.bin b i) (alone e.place i) ∷ listing_placed es v i

listing_keeps : (es : List Entry) → InRange es → T (keeps_limits [] (listing_plan es))
unfolding listing_plan keeps_limits
listing_keeps [] v = tt
listing_keeps (e ∷ es) (one_more b p v) =
    and_i (in_range e.place) _ p
    (and_i (leb (nat_abs e.bin) most_bin) _ (and_r (non_neg e.bin) (leb (nat_abs e.bin) most_bin) b)
    (and_i (in_range (total (e.place ∷ []))) _ (subst (λ (q : Place). T (in_range q)) (sym (alone e.place)) p) (listing_keeps es v)))

-- A listing of accepted entries, read with room for them, gives the same entries in order.
pub listing_back : (room : ℕ) (es : List Entry) → listing_refusal 0 es ≡ 0 → length es ≤ room → plan_of room (listing_text es) ≡ Listed es
listing_back room es r few =
    let v : InRange es = listing_in_range 0 es r in
    let same : placed [] (listing_plan es) ≡ es = listing_placed es v in
    let fits : T (inside_limits room (listing_plan es)) =
    and_i (keeps_limits [] (listing_plan es)) _ (listing_keeps es v) (subst (λ (fs : List Entry). T (leb (length fs) room)) (sym same) (le→leb (length es) room few)) in
    ap (plan_of room) (sym (listing_text_lem es v)) ∙ plan_accepted room (listing_plan es) fits ∙ ap Listed same

-- The same of what the writer wrote.
pub written_back : (bytes room : ℕ) (es : List Entry) (text : List ℕ) → writing_of bytes es ≡ Written text → length es ≤ room → plan_of room text ≡ Listed es
unfolding writing_of fitting
written_back bytes room es text w few = go (listing_refusal 0 es) refl (leb (length (listing_text es)) bytes) refl
  where
    go : (n : ℕ) → listing_refusal 0 es ≡ n → (b : Bool) → leb (length (listing_text es)) bytes ≡ b → plan_of room text ≡ Listed es
    go (suc n) q b s = let no : Refused (suc n) ≡ Written text = rw (q, writing_of) at w in let z : ◌≡◌ {A = ℕ} 0 1 = cc in absurd (omega arith)
    go zero q false s = let no : Refused 68 ≡ Written text = rw (q, s, writing_of, fitting) at w in let z : ◌≡◌ {A = ℕ} 0 1 = cc in absurd (omega arith)
    go zero q true s =
        let yes : Written (listing_text es) ≡ Written text = rw (q, s, writing_of, fitting) at w in
        let same : listing_text es ≡ text = cc in
        ap (plan_of room) (sym same) ∙ listing_back room es q few
