-- No line of the sheet is longer than 107 bytes, so a program may keep a line in so many. Assumes nothing.
use Rattle.std.specs.Prelude.{Bool, true, false, List, [], ◌∷◌, ◌≡◌, refl, ℕ, suc, ◌+◌, ◌≤◌, length, eqb}
use Rattle.std.proofs.Math.Option.{Option, none, some}
use Rattle.std.proofs.Common.{ap, arith}
use Rattle.sheet_digits.specs.Lengths.{hex_length, number_length}
use Rattle.sheet_digits.specs.Digits.{Found, read_hex, read_decimal}
use Rattle.sheet_digits.specs.Offsets.{read_offset}
use Rattle.sheet_digits.proofs.OffsetLaws.{offset_exact}
use Rattle.sheet_lines.specs.Forms.{Piece, Word, Bits, Number, Offset, Line, after_word, spaced, read, form, numbers, line_among, line_of}
use Rattle.sheet_lines.specs.declared.Kind.{Kind}
use Rattle.sheet_lines.specs.declared.Kind.TheVariants.{Box, Sag, NoDefault, Default, Material, Face, FaceBin, Vertex, Triangle, Fail, FailBin}

pub word_length : (w xs rest : List ℕ) → after_word w xs ≡ some rest → length xs ≡ length w + length rest
unfolding after_word
word_length [] xs rest e = let q : xs ≡ rest = cc in omega (arith, ap length q)
word_length (w ∷ ws) [] rest e = let z : ◌≡◌ {A = ℕ} 0 1 = cc in omega arith
word_length (w ∷ ws) (x ∷ xs) rest e = go (eqb w x) refl (word_length ws xs rest)
  where
    go : (b : Bool) → eqb w x ≡ b → (after_word ws xs ≡ some rest → length xs ≡ length ws + length rest) → suc (length xs) ≡ suc (length ws) + length rest
    go true q back = omega (arith, back (rw (q, after_word) at e))
    go false q back = let n : none ≡ some rest = rw (q, after_word) at e in let z : ◌≡◌ {A = ℕ} 0 1 = cc in omega arith

-- the longest line of a form without its LF, a decimal number having so many digits at the most, an offset a minus and 20
abbrev pub longest : ℕ → List Piece → ℕ
longest most [] = 0
longest most (Word w ∷ ps) = length w + longest most ps
longest most (Bits k ∷ ps) = suc k + longest most ps
longest most (Number ∷ ps) = suc most + longest most ps
longest most (Offset ∷ ps) = 22 + longest most ps

spaced_length : (f : List ℕ → Option Found) (k : ℕ) → ((xs : List ℕ) (g : Found) → f xs ≡ some g → length xs ≤ k + length g.rest)
    → (xs : List ℕ) (g : Found) → spaced f xs ≡ some g → length xs ≤ suc k + length g.rest
unfolding spaced
spaced_length f k back [] g e = omega arith
spaced_length f k back (x ∷ xs) g e = go (eqb x 32) refl
  where
    go : (b : Bool) → eqb x 32 ≡ b → suc (length xs) ≤ suc k + length g.rest
    go true q = omega (arith, back xs g (rw (q, spaced) at e))
    go false q = let n : none ≡ some g = rw (q, spaced) at e in let z : ◌≡◌ {A = ℕ} 0 1 = cc in omega arith

-- a number before the rest of a line
spaced_then : (o : Option Found) (ps : List Piece) (ns : List ℕ)
    → elim o as (λ x. Option (List ℕ)) [ none ↦ none | some f ↦ elim (read ps f.rest) as (λ x. Option (List ℕ)) [ none ↦ none | some ms ↦ some (f.value ∷ ms) ] ] ≡ some ns
    → (f : Found) × (ms : List ℕ) × (o ≡ some f) × (read ps f.rest ≡ some ms)
spaced_then none ps ns e = let z : ◌≡◌ {A = ℕ} 0 1 = cc in absurd (omega arith)
spaced_then (some f) ps ns e = go (read ps f.rest) refl
  where
    go : (o : Option (List ℕ)) → read ps f.rest ≡ o → (g : Found) × (ms : List ℕ) × (some f ≡ some g) × (read ps g.rest ≡ some ms)
    go none q = let n : none ≡ some ns = rw q at e in let z : ◌≡◌ {A = ℕ} 0 1 = cc in absurd (omega arith)
    go (some ms) q = (f, ms, refl, q)

pub read_length : (ps : List Piece) (xs ns : List ℕ) → read ps xs ≡ some ns → length xs ≤ longest 10 ps
unfolding read
read_length [] [] ns e = omega arith
read_length [] (x ∷ xs) ns e = let z : ◌≡◌ {A = ℕ} 0 1 = cc in omega arith
read_length (Word w ∷ ps) xs ns e = go (after_word w xs) refl (λ rest. read_length ps rest ns)
  where
    go : (o : Option (List ℕ)) → after_word w xs ≡ o → ((rest : List ℕ) → read ps rest ≡ some ns → length rest ≤ longest 10 ps) → length xs ≤ length w + longest 10 ps
    go none q back = let n : none ≡ some ns = rw (q, read) at e in let z : ◌≡◌ {A = ℕ} 0 1 = cc in omega arith
    go (some rest) q back = omega (arith, word_length w xs rest q, back rest (rw (q, read) at e))
read_length (Bits k ∷ ps) xs ns e =
    let r = spaced_then (spaced (read_hex k) xs) ps ns e in
    omega (arith, spaced_length (read_hex k) k (λ ys g q. omega (arith, hex_length 0 k ys g q)) xs r.0 r.2, read_length ps r.0.rest r.1 r.3)
read_length (Number ∷ ps) xs ns e =
    let r = spaced_then (spaced read_decimal xs) ps ns e in
    omega (arith, spaced_length read_decimal 10 number_length xs r.0 r.2, read_length ps r.0.rest r.1 r.3)
read_length (Offset ∷ ps) xs ns e =
    let r = spaced_then (spaced read_offset xs) ps ns e in
    omega (arith, spaced_length read_offset 14 (λ ys g q. (offset_exact ys g q).long) xs r.0 r.2, read_length ps r.0.rest r.1 r.3)

pub form_length : (k : Kind) → longest 10 (form k) ≤ 107
unfolding form numbers
form_length Box = omega arith
form_length Sag = omega arith
form_length NoDefault = omega arith
form_length Default = omega arith
form_length Material = omega arith
form_length Face = omega arith
form_length FaceBin = omega arith
form_length Vertex = omega arith
form_length Triangle = omega arith
form_length Fail = omega arith
form_length FailBin = omega arith

among_length : (ks : List Kind) (xs : List ℕ) (l : Line) → line_among ks xs ≡ some l → length xs ≤ 107
unfolding line_among
among_length [] xs l e = let z : ◌≡◌ {A = ℕ} 0 1 = cc in omega arith
among_length (k ∷ ks) xs l e = go (read (form k) xs) refl (among_length ks xs l)
  where
    go : (o : Option (List ℕ)) → read (form k) xs ≡ o → (line_among ks xs ≡ some l → length xs ≤ 107) → length xs ≤ 107
    go none q back = back (rw (q, line_among) at e)
    go (some ns) q back = omega (arith, read_length (form k) xs ns q, form_length k)

pub line_length : (xs : List ℕ) (l : Line) → line_of xs ≡ some l → length xs ≤ 107
unfolding line_of
line_length xs l e = among_length _ xs l e
