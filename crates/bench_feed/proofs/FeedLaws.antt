-- The laws of a text fed byte by byte: a byte is kept, a line feed has the line read, and the end is the text's. Assumes nothing.
use mathlib.Core.Bool.{Bool, true, false, not, ◌&&◌, cond}
use mathlib.Core.List.{List, [], ◌∷◌, ◌++◌, append_assoc, append-nil}
use mathlib.Core.Path.{◌≡◌, refl, sym, ◌∙◌, ap, subst}
use Prim.Native.Nat.{ℕ, suc, ◌+◌, ◌≤◌, ◌<◌}
use native.Mathlib.Numerals.{add-one}
use native.Mathlib.Omega.{arith}
use borrow.Author.Tests.{eqb-true, leb-true, leb-false, ne_eqb}
use lib.Dec.{T, leb, eqb}
use lib.Ieee.Fits.{and_i, and_l, and_r}
use lib.ListN.{length, get_or, take, length-take}
use lib.Seq.{length-take-le, take_all, take-nil, take-suc}
use Rattle.sheet_digit_writing.specs.Writing.{Wrote}
use Rattle.sheet_digit_writing.specs.Wrote.{take_again}
use Rattle.sheet_line_order.specs.declared.Limits.{Limits}
use Rattle.sheet_line_order.specs.Laws.{line_limits, long_line, no_lF, read_end, read_line_lem}
use Rattle.sheet_line_order.specs.Reading.{State, cut, finished, read_from, read_line, sheet_of}
use Rattle.sheet_reader_state.specs.declared.Reader.{Reader}
use Rattle.sheet_reader_state.specs.Kept.{Kept, ended_state, kept_line}
use Rattle.sheet_reader_state.specs.Slices.{Lent, ended, fits_in, in_limits, lent, read_into, refused, state_of}
use Rattle.sheet_meaning.specs.Bench.{printed, program, said}
use Rattle.sheet_meaning.specs.Meaning.{meant}
use Rattle.bench_definition.specs.Finish.{finish}
use Rattle.sheet_answer_text.specs.Answer.{refusal_line}
use Rattle.sheet_meaning.specs.Answered.{answer_in}
use Rattle.bench_feed.specs.declared.Fed.{Fed}
use Rattle.bench_feed.specs.Feeding.{Ended, FedOn, SoFar}
use Rattle.lists.specs.Both.{and_left}

-- ---- a byte is put behind the others

-- the buffer holds the tail, as far as it has room
record Holds (line tail : List ℕ) (k : ℕ) : Type 0 where
  buffer : take k line ≡ take (length line) tail
  count : k ≡ length (take (length line) tail)

holds_put : (line tail : List ℕ) (k c : ℕ) (line' : List ℕ) (n : ℕ) → Holds line tail k → Wrote line (length (take k line)) (c ∷ []) line' n → Holds line' (tail ++ c ∷ []) n
holds_put line tail k c line' n h w =
    let whole : length (take k line) ≡ k = ap length h.buffer ∙ sym h.count in
    let front : take n line' ≡ take (length line') (tail ++ c ∷ []) =
    w.front
    ∙ ap (λ (i : ℕ). take (length line) (take i line ++ c ∷ [])) whole
    ∙ ap (λ (xs : List ℕ). take (length line) (xs ++ c ∷ [])) h.buffer
    ∙ take_again (length line) tail (c ∷ [])
    ∙ ap (λ (i : ℕ). take i (tail ++ c ∷ [])) (sym w.long) in
    record { buffer = front; count = sym (length-take-le n line' (omega (arith, w.within, w.long))) ∙ ap length front }

-- ---- no line feed
plain_more : (xs : List ℕ) (c : ℕ) → T (no_lF xs) → eqb c 10 ≡ false → T (no_lF (xs ++ c ∷ []))
plain_more [] c t q = and_i (not (eqb c 10)) true (subst (λ (b : Bool). T (not b)) (sym q) tt) tt
plain_more (x ∷ xs) c t q =
    and_i (not (eqb x 10)) (no_lF (xs ++ c ∷ [])) (and_l (not (eqb x 10)) (no_lF xs) t) (plain_more xs c (and_r (not (eqb x 10)) (no_lF xs) t) q)

-- ---- a line that was cut off at the buffer's end is refused as the whole line is
same_line : (s : State) (tail : List ℕ) (L : ℕ) → 108 ≤ L → read_line s (take L tail) ≡ read_line s tail
unfolding read_line
same_line s tail L h = go (leb (length tail) L) refl (eqb s.refusal 0) refl
  where
    go : (b : Bool) → leb (length tail) L ≡ b → (d : Bool) → eqb s.refusal 0 ≡ d → read_line s (take L tail) ≡ read_line s tail
    go true q d z = ap (read_line s) (take_all L tail (leb-true (length tail) L q))
    go false q true z =
        let far : L < length tail = leb-false (length tail) L q in
        let clean : s.refusal ≡ 0 = eqb-true s.refusal 0 z in
        long_line s (take L tail) clean (omega (arith, length-take L tail)) ∙ sym (long_line s tail clean (omega arith))
    go false q false z = rw (z, read_line)

-- ---- the text, byte by byte
module _ (limits : Limits) (text : List ℕ) (f : Fed) (line table positions normals indices materials : List ℕ) (v : SoFar limits text f line table positions normals indices materials) where
  held : Holds line v.tail f.length
  held = record { buffer = v.buffer; count = v.count }

  goes_on : (c : ℕ) (rest : List ℕ) → sheet_of limits (text ++ c ∷ [] ++ rest) ≡ read_from v.state (cut (v.tail ++ c ∷ rest))
  goes_on c rest = ap (sheet_of limits) (append_assoc text (c ∷ []) rest) ∙ v.means (c ∷ rest)

  byte_fed : (c : ℕ) (line' : List ℕ) (n : ℕ) → eqb c 10 ≡ false → Wrote line (length (take f.length line)) (c ∷ []) line' n
      → SoFar limits (text ++ c ∷ []) (record { reader = f.reader; length = n }) line' table positions normals indices materials
  byte_fed c line' n q p =
      let h = holds_put line v.tail f.length c line' n held p in
      record {
        state = v.state;
        within = v.within;
        tail = v.tail ++ c ∷ [];
        plain = plain_more v.tail c v.plain q;
        means = λ rest. goes_on c rest ∙ ap (λ (xs : List ℕ). read_from v.state (cut xs)) (sym (append_assoc v.tail (c ∷ []) rest));
        kept = v.kept;
        room = omega (arith, v.room, p.long);
        buffer = h.buffer;
        count = h.count;
      }

  line_fed : (front : List ℕ) (t : Reader) (table' positions' normals' indices' materials' : List ℕ) → front ≡ take f.length line
      → lent t table' positions' normals' indices' materials' ≡ read_into (lent f.reader table positions normals indices materials) front
      → SoFar limits (text ++ 10 ∷ []) (record { reader = t; length = 0 }) line table' positions' normals' indices' materials'
  line_fed front t table' positions' normals' indices' materials' q e =
      let l : Lent = lent f.reader table positions normals indices materials in
      let same : read_line v.state front ≡ read_line v.state v.tail = ap (read_line v.state) (q ∙ v.buffer) ∙ same_line v.state v.tail (length line) v.room in
      record {
        state = read_line v.state v.tail;
        within = line_limits v.state v.tail ∙ v.within;
        tail = [];
        plain = tt;
        means = λ rest. goes_on 10 rest ∙ read_line_lem v.state v.tail rest v.plain;
        kept = subst (λ (m : Lent). Kept m (read_line v.state v.tail)) (sym e) (subst (λ (s : State). Kept (read_into l front) s) same (kept_line l v.state front v.kept));
        room = v.room;
        buffer = sym (take-nil (length line));
        count = sym (ap length (take-nil {A = ℕ} (length line)));
      }

-- ---- the end of the text

-- a line that was cut off at the buffer's end is empty as the whole line is
same_empty : (xs front : List ℕ) (L : ℕ) → 108 ≤ L → front ≡ take L xs → eqb (length front) 0 ≡ eqb (length xs) 0
same_empty [] front L h q = ap (λ (ys : List ℕ). eqb (length ys) 0) (q ∙ take-nil L)
same_empty (x ∷ xs) front L h q =
    ne_eqb (length front) 0 (λ z. omega (arith, ap length q, length-take L (x ∷ xs))) ∙ sym (ne_eqb (suc (length xs)) 0 (λ z. omega arith))

same_end : (s : State) (front xs : List ℕ) → eqb (length front) 0 ≡ eqb (length xs) 0 → finished s front ≡ finished s xs
unfolding finished
same_end s front xs q = rw q

-- slices with room for the next line are within the limits
limits_fit : (r : Reader) (table : List ℕ) (p n i m : ℕ) → fits_in r table p n i m ≡ true → in_limits r (length table) p n i m ≡ true
unfolding fits_in
limits_fit r table p n i m e = and_left (in_limits r (length table) p n i m) _ e

ended_limits : (r : Reader) (rest : List ℕ) → (ended r rest).limits ≡ r.limits
unfolding ended
ended_limits r rest = go (eqb r.refusal 0 && not (eqb (length rest) 0 && leb 3 r.place))
  where
    go : (b : Bool) → (cond b (refused 51 r) r).limits ≡ r.limits
    go true = refl
    go false = refl

limits_ended : (r : Reader) (rest : List ℕ) (t p n i m : ℕ) → in_limits (ended r rest) t p n i m ≡ in_limits r t p n i m
unfolding ended in_limits
limits_ended r rest t p n i m = go (eqb r.refusal 0 && not (eqb (length rest) 0 && leb 3 r.place))
  where
    go : (b : Bool) → in_limits (cond b (refused 51 r) r) t p n i m ≡ in_limits r t p n i m
    go true = refl
    go false = refl

inner : (b d : Bool) (x y z : List ℕ) → d ≡ true
    → ◌≡◌ {A = List ℕ} (elim b as (λ o. List ℕ) [ true ↦ elim d as (λ o. List ℕ) [ true ↦ x | false ↦ y ] | false ↦ z ]) (elim b as (λ o. List ℕ) [ true ↦ x | false ↦ z ])
inner b true x y z e = refl
inner true false x y z e = let n : ◌≡◌ {A = ℕ} 0 1 = cc in absurd (omega arith)
inner false false x y z e = refl

-- what is printed of a reader and its slices is what is printed of a text that says the same
answer_same : (limits : Limits) (l : Lent) (text : List ℕ) → state_of l ≡ sheet_of limits text
    → in_limits l.reader (length l.table) (length l.positions) (length l.normals) (length l.indices)
    (length l.materials) ≡ true
    → answer_in l ≡ program limits text
unfolding answer_in said program
answer_same limits l text e h =
    let here : answer_in l ≡ said (state_of l) = inner (eqb l.reader.refusal 0) _ _ _ _ h in
    here ∙ ap said e

module _ (f : Fed) (line front : List ℕ) (r : Reader) (q : front ≡ take f.length line) (e : r ≡ ended f.reader front) where
  pub text_ended : Ended f line r
  text_ended = record { within = ap (λ (t : Reader). t.limits) e ∙ ended_limits f.reader front; goes = go }
    where
      go : (limits : Limits) (text table positions normals indices materials : List ℕ) → SoFar limits text f line table positions normals indices materials
          → answer_in (lent r table positions normals indices materials) ≡ program limits text
      go limits text table positions normals indices materials v =
          let s : State = v.state in
          let k = v.kept in
          let empty : eqb (length front) 0 ≡ eqb (length v.tail) 0 = same_empty v.tail front (length line) v.room (q ∙ v.buffer) in
          let state : state_of (lent (ended f.reader front) table positions normals indices materials) ≡ finished s v.tail =
          ended_state f.reader table positions normals indices materials front ∙ ap (λ (t : State). finished t front) k.same ∙ same_end s front v.tail empty in
          let sheet : sheet_of limits text ≡ finished s v.tail =
          ap (sheet_of limits) (sym (append-nil text)) ∙ v.means [] ∙ ap (λ (xs : List ℕ). read_from s (cut xs)) (append-nil v.tail) ∙ read_end s v.tail v.plain in
          let room : in_limits (ended f.reader front) (length table) (length positions) (length normals) (length indices) (length materials) ≡ true =
          limits_ended f.reader front (length table) (length positions) (length normals) (length indices) (length materials)
          ∙ limits_fit f.reader table (length positions) (length normals) (length indices) (length materials) k.fit in
          ap (λ (t : Reader). answer_in (lent t table positions normals indices materials)) e
          ∙ answer_same limits (lent (ended f.reader front) table positions normals indices materials) text (state ∙ sym sheet) room

-- ---- stretch by stretch
module _ (f : Fed) (line table positions normals indices materials : List ℕ) where
  pub fed_none : FedOn [] f line table positions normals indices materials f line table positions normals indices materials
  fed_none = record { goes = λ limits text v. subst (λ (t : List ℕ). SoFar limits t f line table positions normals indices materials) (sym (append-nil text)) v }

  pub fed_byte : (c : ℕ) (front line' : List ℕ) (n : ℕ) → (c ≡ 10 → ⊥) → front ≡ take f.length line → Wrote line (length front) (c ∷ []) line' n
      → FedOn (c ∷ []) f line table positions normals indices materials (record { reader = f.reader; length = n }) line' table positions normals indices materials
  fed_byte c front line' n q e p =
      let w : Wrote line (length (take f.length line)) (c ∷ []) line' n = subst (λ (xs : List ℕ). Wrote line (length xs) (c ∷ []) line' n) e p in
      record { goes = λ limits text v. byte_fed limits text f line table positions normals indices materials v c line' n (ne_eqb c 10 q) w }

  pub kept_within : (front : List ℕ) → front ≡ take f.length line → length front ≤ length line
  kept_within front e = omega (arith, ap length e, length-take f.length line)

  pub fed_line : (c : ℕ) (front : List ℕ) (t : Reader) (table' positions' normals' indices' materials' : List ℕ) → c ≡ 10 → front ≡ take f.length line
      → lent t table' positions' normals' indices' materials' ≡ read_into (lent f.reader table positions normals indices materials) front
      → FedOn (c ∷ []) f line table positions normals indices materials (record { reader = t; length = 0 }) line table' positions' normals' indices' materials'
  fed_line c front t table' positions' normals' indices' materials' z q e =
      record {
        goes =
            λ limits text v.
            subst (λ (b : ℕ). SoFar limits (text ++ b ∷ []) (record { reader = t; length = 0 }) line table' positions' normals' indices' materials') (sym z)
            (line_fed limits text f line table positions normals indices materials v front t table' positions' normals' indices' materials' q e);
      }

  module _ (part : List ℕ) (i : ℕ) (g : Fed) (line' table' positions' normals' indices' materials' : List ℕ)
      (w : FedOn (take i part) f line table positions normals indices materials g line' table' positions' normals' indices' materials') where
    pub fed_more : (h : Fed) (line'' table'' positions'' normals'' indices'' materials'' : List ℕ) → i < length part
        → FedOn (get_or part i 0 ∷ []) g line' table' positions' normals' indices' materials' h line'' table'' positions'' normals'' indices'' materials''
        → FedOn (take (i + 1) part) f line table positions normals indices materials h line'' table'' positions'' normals'' indices'' materials''
    fed_more h line'' table'' positions'' normals'' indices'' materials'' l x =
        let parts : take i part ++ get_or part i 0 ∷ [] ≡ take (i + 1) part = sym (ap (λ (n : ℕ). take n part) (add-one i) ∙ take-suc part i 0 l) in
        record {
          goes =
              λ limits text v.
              subst (λ (t : List ℕ). SoFar limits t h line'' table'' positions'' normals'' indices'' materials'')
              (append_assoc text (take i part) (get_or part i 0 ∷ []) ∙ ap (λ (xs : List ℕ). text ++ xs) parts)
              (x.goes limits (text ++ take i part) (w.goes limits text v));
        }

    pub fed_all : length part ≤ i → FedOn part f line table positions normals indices materials g line' table' positions' normals' indices' materials'
    fed_all l = subst (λ (xs : List ℕ). FedOn xs f line table positions normals indices materials g line' table' positions' normals' indices' materials') (take_all i part l) w
