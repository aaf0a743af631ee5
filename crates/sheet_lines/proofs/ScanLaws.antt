-- The laws of reading a line by a form: what is left to read, behind the numbers so far, gives what reading from the start gives. Assumes nothing.
use mathlib.Core.Bool.{Bool, true, false, cond}
use mathlib.Core.List.{List, [], ◌∷◌, ◌++◌, map, append-nil, append_assoc}
use mathlib.Core.Option.{Option, none, some}
use mathlib.Core.Path.{◌≡◌, refl, sym, ◌∙◌, ap, subst}
use Prim.Native.Nat.{ℕ, ◌+◌, ◌≤◌, ◌<◌}
use native.Mathlib.Nat.{add-zero}
use native.Mathlib.Numerals.{add-one}
use native.Mathlib.Omega.{arith}
use borrow.Author.Tests.{eqb-true, eqb-false}
use lib.Dec.{eqb}
use lib.ListN.{length, get_or, take, drop, set, length-set, drop_of_length-le}
use lib.Seq.{take-set-le, take-suc-set}
use Rattle.sheet_digits.specs.Digits.{Found, found, read_decimal, read_hex}
use Rattle.sheet_digits.specs.Offsets.{read_offset}
use Rattle.std.specs.Prelude.{Some, None}
use Rattle.sheet_digits.specs.Next.{next}
use Rattle.sheet_digit_reading.specs.declared.Taken.{Taken}
use Rattle.sheet_lines.specs.Forms.{Piece, Word, Bits, Number, Offset, after_word, read, spaced}
use Rattle.sheet_lines.specs.Counted.{count_in}
use Rattle.sheet_lines.specs.Pattern.{numbers_of, piece, pieces, read_piece}
use Rattle.sheet_lines.specs.Scan.{Numbers, PieceTaken, Scanned}

-- numbers in front of those that are read
unfoldable pub after : List ℕ → Option (List ℕ) → Option (List ℕ)
after ns none = none
after ns (some ms) = some (ns ++ ms)

after_nil : (o : Option (List ℕ)) → after [] o ≡ o
unfolding after
after_nil none = refl
after_nil (some ms) = refl

after_after : (ns ms : List ℕ) (o : Option (List ℕ)) → after ns (after ms o) ≡ after (ns ++ ms) o
unfolding after
after_after ns ms none = refl
after_after ns ms (some ls) = ap some (sym (append_assoc ns ms ls))

after_one : (n : ℕ) (o : Option (List ℕ)) → elim o as (λ x. Option (List ℕ)) [ none ↦ none | some ns ↦ some (n ∷ ns) ] ≡ after (n ∷ []) o
unfolding after
after_one n none = refl
after_one n (some ns) = refl

-- the number of a piece, a word having none
unfoldable own : Piece → ℕ → List ℕ
own (Word w) n = []
own (Bits k) n = n ∷ []
own Number n = n ∷ []
own Offset n = n ∷ []

-- one piece and then the rest
one_then : Piece → Option Found → List Piece → Option (List ℕ)
one_then p o ps = elim o [ none ↦ none | some f ↦ after (own p f.value) (read ps f.rest) ]

read_step : (p : Piece) (ps : List Piece) (xs : List ℕ) → read (p ∷ ps) xs ≡ one_then p (read_piece p xs) ps
unfolding read read_piece one_then own
read_step (Word w) ps xs = go (after_word w xs)
  where
    go : (o : Option (List ℕ)) → elim o as (λ x. Option (List ℕ)) [ none ↦ none | some rest ↦ read ps rest ]
        ≡ one_then (Word w) (elim o as (λ x. Option Found) [ none ↦ none | some rest ↦ some (found 0 rest) ]) ps
    go none = refl
    go (some rest) = sym (after_nil (read ps rest))
read_step (Bits k) ps xs = go (spaced (read_hex k) xs)
  where
    go : (o : Option Found) → elim o as (λ x. Option (List ℕ)) [ none ↦ none | some f ↦ elim (read ps f.rest) as (λ x. Option (List ℕ)) [ none ↦ none | some ns ↦ some (f.value ∷ ns) ] ]
        ≡ one_then (Bits k) o ps
    go none = refl
    go (some f) = after_one f.value (read ps f.rest)
read_step Number ps xs = go (spaced read_decimal xs)
  where
    go : (o : Option Found) → elim o as (λ x. Option (List ℕ)) [ none ↦ none | some f ↦ elim (read ps f.rest) as (λ x. Option (List ℕ)) [ none ↦ none | some ns ↦ some (f.value ∷ ns) ] ]
        ≡ one_then Number o ps
    go none = refl
    go (some f) = after_one f.value (read ps f.rest)
read_step Offset ps xs = go (spaced read_offset xs)
  where
    go : (o : Option Found) → elim o as (λ x. Option (List ℕ)) [ none ↦ none | some f ↦ elim (read ps f.rest) as (λ x. Option (List ℕ)) [ none ↦ none | some ns ↦ some (f.value ∷ ns) ] ]
        ≡ one_then Offset o ps
    go none = refl
    go (some f) = after_one f.value (read ps f.rest)

count_step : (p : Piece) (ps : List Piece) → count_in (p ∷ ps) ≡ numbers_of p + count_in ps
unfolding count_in numbers_of
count_step (Word w) ps = omega arith
count_step (Bits k) ps = omega arith
count_step Number ps = omega arith
count_step Offset ps = omega arith

-- the number that was read stands behind those before
stored : (p : Piece) (N : List ℕ) (count v : ℕ) → count < length N → take (count + numbers_of p) (set N count v) ≡ take count N ++ own p v
unfolding numbers_of own
stored (Word w) N count v h = ap (λ (n : ℕ). take n (set N count v)) (add-zero count) ∙ take-set-le count N count v (omega arith) ∙ sym (append-nil (take count N))
stored (Bits k) N count v h = ap (λ (n : ℕ). take n (set N count v)) (add-one count) ∙ take-suc-set N count v h
stored Number N count v h = ap (λ (n : ℕ). take n (set N count v)) (add-one count) ∙ take-suc-set N count v h
stored Offset N count v h = ap (λ (n : ℕ). take n (set N count v)) (add-one count) ∙ take-suc-set N count v h

pub record Scanning (line form F N : List ℕ) (at count i : ℕ) : Type 0 where
  pub long : length N ≡ length F
  pub few : i ≤ length form
  pub inside : at ≤ length line
  pub room : count_in (pieces form) < length N
  pub counted : count + count_in (pieces (drop i form)) ≡ count_in (pieces form)
  pub same : after (take count N) (read (pieces (drop i form)) (drop at line)) ≡ read (pieces form) line

pub scanning_none : (line form N : List ℕ) → count_in (pieces form) < length N → Scanning line form N N 0 0 0
scanning_none line form N h = record { long = refl; few = omega arith; inside = omega arith; room = h; counted = omega arith; same = after_nil (read (pieces form) line) }

scanning_room : (line form F N : List ℕ) (at count i : ℕ) → Scanning line form F N at count i → count < length N
scanning_room line form F N at count i v = omega (arith, v.room, v.counted)

module _ (line form F N : List ℕ) (at count i : ℕ) (v : Scanning line form F N at count i) (h : i < length form) where
  abbrev here : Piece
  here = piece (get_or form i 0)

  abbrev left : List Piece
  left = pieces (drop (i + 1) form)

  rest : pieces (drop i form) ≡ here ∷ left
  rest = ap (map piece) (next form i 0 h)

  step : (o : Option Found) → o ≡ read_piece here (drop at line) → after (take count N) (one_then here o left) ≡ read (pieces form) line
  step o e =
      ap (λ (x : Option Found). after (take count N) (one_then here x left)) e
      ∙ ap (after (take count N)) (sym (read_step here left (drop at line)))
      ∙ ap (λ (ps : List Piece). after (take count N) (read ps (drop at line))) (sym rest)
      ∙ v.same

  pub scanning_other : PieceTaken line (read_piece here (drop at line)) None → Scanned (pieces form) line N false
  unfolding one_then after
  scanning_other p = record { is = step none p.is }

  pub scanning_more : (t : Taken) (n : ℕ) → PieceTaken line (read_piece here (drop at line)) (Some t) → Numbers (get_or form i 0) n
      → Scanning line form F (set N count t.value) t.next (count + n) (i + 1)
  unfolding one_then
  scanning_more t n p counts =
      let q : n ≡ numbers_of here = counts.is in
      let many : count_in (pieces (drop i form)) ≡ numbers_of here + count_in left = ap count_in rest ∙ count_step here left in
      record {
        long = length-set N count t.value ∙ v.long;
        few = omega arith;
        inside = p.within;
        room = subst (λ (k : ℕ). count_in (pieces form) < k) (sym (length-set N count t.value)) v.room;
        counted = omega (arith, v.counted);
        same =
            ap (λ (k : ℕ). after (take (count + k) (set N count t.value)) (read left (drop t.next line))) q
            ∙ ap (λ (ns : List ℕ). after ns (read left (drop t.next line))) (stored here N count t.value (scanning_room line form F N at count i v))
            ∙ sym (after_after (take count N) (own here t.value) (read left (drop t.next line)))
            ∙ step (some (found t.value (drop t.next line))) p.is;
      }

pub scanning_all : (line form F N : List ℕ) (at count i : ℕ) → Scanning line form F N at count i → length form ≤ i → Scanned (pieces form) line N (eqb at (length line))
unfolding read count_in after
scanning_all line form F N at count i v h = record { is = go (eqb at (length line)) refl }
  where
    done : drop i form ≡ []
    done = drop_of_length-le form h

    whole : count ≡ count_in (pieces form)
    whole = sym (ap (λ (ps : List ℕ). count + count_in (pieces ps)) done ∙ add-zero count) ∙ v.counted

    go : (b : Bool) → eqb at (length line) ≡ b → cond b (some (take (count_in (pieces form)) N)) none ≡ read (pieces form) line
    go true q =
        let past : length line ≤ at = omega (arith, eqb-true at (length line) q) in
        let end : drop at line ≡ [] = drop_of_length-le line past in
        ap (λ (k : ℕ). some (take k N)) (sym whole)
        ∙ ap some (sym (append-nil (take count N)))
        ∙ ap (λ (xs : List ℕ). after (take count N) (read [] xs)) (sym end)
        ∙ ap (λ (ps : List ℕ). after (take count N) (read (pieces ps) (drop at line))) (sym done)
        ∙ v.same
    go false q =
        let ne : ¬ (at ≡ length line) = eqb-false at (length line) q in
        let l : at < length line = omega (arith, v.inside) in
        ap (λ (xs : List ℕ). after (take count N) (read [] xs)) (sym (next line at 0 l))
        ∙ ap (λ (ps : List ℕ). after (take count N) (read (pieces ps) (drop at line))) (sym done)
        ∙ v.same
