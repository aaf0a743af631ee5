-- What is read is exactly what is printed: a line that has a form is the form's text of its numbers. Assumes nothing.
use Rattle.std.specs.Prelude.{Bool, true, false, List, [], ◌∷◌, ◌++◌, ◌≡◌, refl, ℕ, ◌^◌, ◌<◌, T, ltb, eqb}
use Rattle.std.proofs.Math.Option.{Option, none, some}
use Rattle.std.proofs.Common.{sym, ◌∙◌, ap, subst, arith, lt→ltb, eqb-true}
use Rattle.std.specs.Float.Ieee.Fits.{and_i}
use Rattle.sheet_digits.proofs.Exact.{read_decimal_small, hex_small, hex_exact, number_exact}
use Rattle.sheet_digits.specs.Digits.{digits, decimal, Found, read_hex, read_decimal}
use Rattle.sheet_lines.specs.Forms.{Piece, Word, Bits, Number, Offset, Line, print, after_word, spaced, read, form, line_among, line_of}
use Rattle.sheet_lines.specs.declared.Kind.{Kind}
use Rattle.sheet_digits.specs.Offsets.{offset, read_offset}
use Rattle.sheet_digits.proofs.OffsetLaws.{offset_exact}
use Rattle.sheet_digits.specs.OffsetLaws.{offset_words}
use Rattle.sheet_lines.specs.ReadBack.{fits}

-- ---- lines

word_exact : (w xs rest : List ℕ) → after_word w xs ≡ some rest → w ++ rest ≡ xs
unfolding after_word
word_exact [] xs rest e = cc
word_exact (w ∷ ws) [] rest e = let z : ◌≡◌ {A = ℕ} 0 1 = cc in absurd (omega arith)
word_exact (w ∷ ws) (x ∷ xs) rest e = go (eqb w x) refl (word_exact ws xs rest)
  where
    go : (b : Bool) → eqb w x ≡ b → (after_word ws xs ≡ some rest → ws ++ rest ≡ xs) → w ∷ (ws ++ rest) ≡ x ∷ xs
    go true q back = let h : w ≡ x = eqb-true w x q in let t : ws ++ rest ≡ xs = back (rw (q, after_word) at e) in cc
    go false q back = let n : none ≡ some rest = rw (q, after_word) at e in let z : ◌≡◌ {A = ℕ} 0 1 = cc in absurd (omega arith)

-- a number whose text, with a space before it, is what was read
spaced_exact : (f : List ℕ → Option Found) (text : Found → List ℕ) → ((xs : List ℕ) (g : Found) → f xs ≡ some g → text g ≡ xs)
    → (xs : List ℕ) (g : Found) → spaced f xs ≡ some g → 32 ∷ text g ≡ xs
unfolding spaced
spaced_exact f text back [] g e = let z : ◌≡◌ {A = ℕ} 0 1 = cc in absurd (omega arith)
spaced_exact f text back (x ∷ xs) g e = go (eqb x 32) refl
  where
    go : (b : Bool) → eqb x 32 ≡ b → 32 ∷ text g ≡ x ∷ xs
    go true q = let h : x ≡ 32 = eqb-true x 32 q in let t : text g ≡ xs = back xs g (rw (q, spaced) at e) in cc
    go false q = let n : none ≡ some g = rw (q, spaced) at e in let z : ◌≡◌ {A = ℕ} 0 1 = cc in absurd (omega arith)

spaced_then : (o : Option Found) (ps : List Piece) (ns : List ℕ)
    → elim o as (λ x. Option (List ℕ)) [ none ↦ none | some f ↦ elim (read ps f.rest) as (λ x. Option (List ℕ)) [ none ↦ none | some ms ↦ some (f.value ∷ ms) ] ] ≡ some ns
    → (f : Found) × (ms : List ℕ) × (o ≡ some f) × (read ps f.rest ≡ some ms) × (f.value ∷ ms ≡ ns)
spaced_then none ps ns e = let z : ◌≡◌ {A = ℕ} 0 1 = cc in absurd (omega arith)
spaced_then (some f) ps ns e = go (read ps f.rest) refl
  where
    go : (o : Option (List ℕ)) → read ps f.rest ≡ o → (g : Found) × (ms : List ℕ) × (some f ≡ some g) × (read ps g.rest ≡ some ms) × (g.value ∷ ms ≡ ns)
    go none q = let n : none ≡ some ns = rw q at e in let z : ◌≡◌ {A = ℕ} 0 1 = cc in absurd (omega arith)
    go (some ms) q = let n : some (f.value ∷ ms) ≡ some ns = rw q at e in (f, ms, refl, q, cc)

-- A line that has a form is the form's text of its numbers.
pub print_read : (ps : List Piece) (xs ns : List ℕ) → read ps xs ≡ some ns → print ps ns ≡ xs
unfolding read print
print_read [] [] ns e = refl
print_read [] (x ∷ xs) ns e = let z : ◌≡◌ {A = ℕ} 0 1 = cc in absurd (omega arith)
print_read (Word w ∷ ps) xs ns e = go (after_word w xs) refl (λ rest. print_read ps rest ns)
  where
    go : (o : Option (List ℕ)) → after_word w xs ≡ o → ((rest : List ℕ) → read ps rest ≡ some ns → print ps ns ≡ rest) → w ++ print ps ns ≡ xs
    go none q back = let n : none ≡ some ns = rw (q, read) at e in let z : ◌≡◌ {A = ℕ} 0 1 = cc in absurd (omega arith)
    go (some rest) q back = ap (λ ys. w ++ ys) (back rest (rw (q, read) at e)) ∙ word_exact w xs rest q
print_read (Bits k ∷ ps) xs ns e =
    let r = spaced_then (spaced (read_hex k) xs) ps ns e in
    let f : Found = r.0 in
    ap (print (Bits k ∷ ps)) (sym r.4)
    ∙ ap (λ ys. 32 ∷ (digits 16 k f.value ++ ys)) (print_read ps f.rest r.1 r.3)
    ∙ spaced_exact (read_hex k) (λ g. digits 16 k g.value ++ g.rest) (λ ys g q. (hex_exact 0 k ys g q).text) xs f r.2
print_read (Number ∷ ps) xs ns e =
    let r = spaced_then (spaced read_decimal xs) ps ns e in
    let f : Found = r.0 in
    ap (print (Number ∷ ps)) (sym r.4)
    ∙ ap (λ ys. 32 ∷ (decimal f.value ++ ys)) (print_read ps f.rest r.1 r.3)
    ∙ spaced_exact read_decimal (λ g. decimal g.value ++ g.rest) number_exact xs f r.2
print_read (Offset ∷ ps) xs ns e =
    let r = spaced_then (spaced read_offset xs) ps ns e in
    let f : Found = r.0 in
    ap (print (Offset ∷ ps)) (sym r.4)
    ∙ ap (λ ys. 32 ∷ (offset f.value ++ ys)) (print_read ps f.rest r.1 r.3)
    ∙ spaced_exact read_offset (λ g. offset g.value ++ g.rest) (λ ys g q. (offset_exact ys g q).text) xs f r.2

-- ---- numbers are not too large

spaced_value : (f : List ℕ → Option Found) (bound : ℕ) → ((xs : List ℕ) (g : Found) → f xs ≡ some g → g.value < bound)
    → (xs : List ℕ) (g : Found) → spaced f xs ≡ some g → g.value < bound
unfolding spaced
spaced_value f bound small [] g e = let z : ◌≡◌ {A = ℕ} 0 1 = cc in absurd (omega arith)
spaced_value f bound small (x ∷ xs) g e = go (eqb x 32) refl
  where
    go : (b : Bool) → eqb x 32 ≡ b → g.value < bound
    go true q = small xs g (rw (q, spaced) at e)
    go false q = let n : none ≡ some g = rw (q, spaced) at e in let z : ◌≡◌ {A = ℕ} 0 1 = cc in absurd (omega arith)

-- The numbers of a line that has a form are as many as the form has and not too large.
pub read_fits : (ps : List Piece) (xs ns : List ℕ) → read ps xs ≡ some ns → T (fits ps ns)
unfolding read
read_fits [] [] ns e = let q : [] ≡ ns = cc in subst (λ (ms : List ℕ). T (fits [] ms)) q tt
read_fits [] (x ∷ xs) ns e = let z : ◌≡◌ {A = ℕ} 0 1 = cc in absurd (omega arith)
read_fits (Word w ∷ ps) xs ns e = go (after_word w xs) refl (λ rest. read_fits ps rest ns)
  where
    go : (o : Option (List ℕ)) → after_word w xs ≡ o → ((rest : List ℕ) → read ps rest ≡ some ns → T (fits ps ns)) → T (fits ps ns)
    go none q back = let n : none ≡ some ns = rw (q, read) at e in let z : ◌≡◌ {A = ℕ} 0 1 = cc in absurd (omega arith)
    go (some rest) q back = back rest (rw (q, read) at e)
read_fits (Bits k ∷ ps) xs ns e =
    let r = spaced_then (spaced (read_hex k) xs) ps ns e in
    subst (λ (ms : List ℕ). T (fits (Bits k ∷ ps) ms)) r.4
    (and_i (ltb r.0.value (16 ^ k)) (fits ps r.1) (lt→ltb r.0.value (16 ^ k) (spaced_value (read_hex k) (16 ^ k) (hex_small k) xs r.0 r.2)) (read_fits ps r.0.rest r.1 r.3))
read_fits (Number ∷ ps) xs ns e =
    let r = spaced_then (spaced read_decimal xs) ps ns e in
    subst (λ (ms : List ℕ). T (fits (Number ∷ ps) ms)) r.4
    (and_i (ltb r.0.value (2 ^ 32)) (fits ps r.1) (lt→ltb r.0.value (2 ^ 32) (spaced_value read_decimal (2 ^ 32) read_decimal_small xs r.0 r.2))
    (read_fits ps r.0.rest r.1 r.3))
read_fits (Offset ∷ ps) xs ns e =
    let r = spaced_then (spaced read_offset xs) ps ns e in
    subst (λ (ms : List ℕ). T (fits (Offset ∷ ps) ms)) r.4
    (and_i (ltb r.0.value offset_words) (fits ps r.1) (lt→ltb r.0.value offset_words (spaced_value read_offset offset_words (λ ys g q. (offset_exact ys g q).small) xs r.0 r.2))
    (read_fits ps r.0.rest r.1 r.3))

among_fits : (ks : List Kind) (xs : List ℕ) (l : Line) → line_among ks xs ≡ some l → T (fits (form l.kind) l.numbers)
unfolding line_among
among_fits [] xs l e = let z : ◌≡◌ {A = ℕ} 0 1 = cc in absurd (omega arith)
among_fits (k ∷ ks) xs l e = go (read (form k) xs) refl (among_fits ks xs l)
  where
    go : (o : Option (List ℕ)) → read (form k) xs ≡ o → (line_among ks xs ≡ some l → T (fits (form l.kind) l.numbers)) → T (fits (form l.kind) l.numbers)
    go none q back = back (rw (q, line_among) at e)
    go (some ns) q back =
        let n : some (record { kind = k; numbers = ns }) ≡ some l = rw (q, line_among) at e in
        let s : ◌≡◌ {A = Line} (record { kind = k; numbers = ns }) l = cc in
        subst (λ (m : Line). T (fits (form m.kind) m.numbers)) s (read_fits (form k) xs ns q)

pub line_fits : (xs : List ℕ) (l : Line) → line_of xs ≡ some l → T (fits (form l.kind) l.numbers)
unfolding line_of
line_fits xs l e = among_fits _ xs l e
