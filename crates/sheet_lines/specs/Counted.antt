-- A form's reading has as many numbers as the form says. Assumes nothing.
use Rattle.std.specs.Prelude.{List, [], ◌∷◌, ◌≡◌, refl, ℕ, suc, length}
use Rattle.std.proofs.Math.Option.{Option, none, some}
use Rattle.std.proofs.Common.{sym, ap, ◌∙◌, arith}
use Rattle.sheet_digits.specs.Digits.{Found, read_hex, read_decimal}
use Rattle.sheet_digits.specs.Offsets.{read_offset}
use Rattle.sheet_lines.specs.Forms.{Piece, Word, Bits, Number, Offset, Line, after_word, spaced, read, form, line_among, line_of}
use Rattle.sheet_lines.specs.declared.Kind.{Kind}

-- how many numbers a line of a form has
unfoldable pub count_in : List Piece → ℕ
count_in [] = 0
count_in (Word w ∷ ps) = count_in ps
count_in (Bits k ∷ ps) = suc (count_in ps)
count_in (Number ∷ ps) = suc (count_in ps)
count_in (Offset ∷ ps) = suc (count_in ps)

number_then : (o : Option Found) (ps : List Piece) (ns : List ℕ)
    → elim o as (λ x. Option (List ℕ)) [ none ↦ none | some f ↦ elim (read ps f.rest) as (λ x. Option (List ℕ)) [ none ↦ none | some ms ↦ some (f.value ∷ ms) ] ] ≡ some ns
    → ((xs ms : List ℕ) → read ps xs ≡ some ms → length ms ≡ count_in ps) → length ns ≡ suc (count_in ps)
number_then none ps ns e back = let z : ◌≡◌ {A = ℕ} 0 1 = cc in absurd (omega arith)
number_then (some f) ps ns e back = go (read ps f.rest) refl
  where
    go : (o : Option (List ℕ)) → read ps f.rest ≡ o → length ns ≡ suc (count_in ps)
    go none q = let n : none ≡ some ns = rw q at e in let z : ◌≡◌ {A = ℕ} 0 1 = cc in absurd (omega arith)
    go (some ms) q =
        let n : some (f.value ∷ ms) ≡ some ns = rw q at e in
        let s : f.value ∷ ms ≡ ns = cc in
        sym (ap (λ (xs : List ℕ). length xs) s) ∙ ap suc (back f.rest ms q)

pub read_count : (ps : List Piece) (xs ns : List ℕ) → read ps xs ≡ some ns → length ns ≡ count_in ps
unfolding read count_in
read_count [] [] ns e = let s : [] ≡ ns = cc in sym (ap (λ (xs : List ℕ). length xs) s)
read_count [] (x ∷ xs) ns e = let z : ◌≡◌ {A = ℕ} 0 1 = cc in absurd (omega arith)
read_count (Word w ∷ ps) xs ns e = go (after_word w xs) refl (λ rest. read_count ps rest ns)
  where
    go : (o : Option (List ℕ)) → after_word w xs ≡ o → ((rest : List ℕ) → read ps rest ≡ some ns → length ns ≡ count_in ps) → length ns ≡ count_in ps
    go none q back = let n : none ≡ some ns = rw (q, read) at e in let z : ◌≡◌ {A = ℕ} 0 1 = cc in absurd (omega arith)
    go (some rest) q back = back rest (rw (q, read) at e)
read_count (Bits k ∷ ps) xs ns e = number_then (spaced (read_hex k) xs) ps ns e (read_count ps)
read_count (Number ∷ ps) xs ns e = number_then (spaced read_decimal xs) ps ns e (read_count ps)
read_count (Offset ∷ ps) xs ns e = number_then (spaced read_offset xs) ps ns e (read_count ps)

among_count : (ks : List Kind) (xs : List ℕ) (l : Line) → line_among ks xs ≡ some l → length l.numbers ≡ count_in (form l.kind)
unfolding line_among
among_count [] xs l e = let z : ◌≡◌ {A = ℕ} 0 1 = cc in absurd (omega arith)
among_count (k ∷ ks) xs l e = go (read (form k) xs) refl (among_count ks xs l)
  where
    go : (o : Option (List ℕ)) → read (form k) xs ≡ o → (line_among ks xs ≡ some l → length l.numbers ≡ count_in (form l.kind)) → length l.numbers ≡ count_in (form l.kind)
    go none q back = back (rw (q, line_among) at e)
    go (some ns) q back =
        let n : some (record { kind = k; numbers = ns }) ≡ some l = rw (q, line_among) at e in
        let s : ◌≡◌ {A = Line} (record { kind = k; numbers = ns }) l = cc in
        sym (ap (λ (m : Line). length m.numbers) s) ∙ read_count (form k) xs ns q ∙ ap (λ (m : Line). count_in (form m.kind)) s

-- A line that is some form has as many numbers as the form says.
pub line_count : (xs : List ℕ) (l : Line) → line_of xs ≡ some l → length l.numbers ≡ count_in (form l.kind)
unfolding line_of
line_count xs l e = among_count _ xs l e
