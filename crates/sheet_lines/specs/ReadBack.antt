-- A line that was printed reads back. Assumes nothing.
use Rattle.std.specs.Prelude.{Bool, true, false, ◌&&◌, List, [], ◌∷◌, ◌++◌, ◌≡◌, refl, ℕ, ◌^◌, ◌<◌, T, leb, ltb, eqb}
use Rattle.std.proofs.Math.Option.{some}
use Rattle.std.proofs.Common.{ltb→lt, eq-eqb}
use Rattle.std.specs.Float.Ieee.Fits.{and_l, and_r}
use Rattle.sheet_digits.specs.ReadBack.{read_hex_hex, read_decimal_decimal, no_digit}
use Rattle.sheet_digits.specs.Digits.{digit_of}
use Rattle.sheet_digits.proofs.OffsetLaws.{read_offset_offset}
use Rattle.sheet_digits.specs.OffsetLaws.{offset_words}
use Rattle.sheet_lines.specs.Forms.{Piece, Word, Bits, Number, Offset, print, after_word, spaced, read, form, numbers}
use Rattle.sheet_lines.specs.declared.Kind.{Kind}
use Rattle.sheet_lines.specs.declared.Kind.TheVariants.{Box, Sag, NoDefault, Default, Material, Face, FaceBin, Vertex, Triangle, Fail, FailBin}

-- ---- lines

pub after_word_word : (w xs : List ℕ) → after_word w (w ++ xs) ≡ some xs
unfolding after_word
after_word_word [] xs = refl
after_word_word (w ∷ ws) xs = let e : eqb w w ≡ true = eq-eqb w w refl in rw (e, after_word) (after_word_word ws xs)

-- whether what the pieces print begins with no digit
abbrev pub opens : List Piece → Bool
opens [] = true
opens (Word [] ∷ ps) = false
opens (Word (w ∷ ws) ∷ ps) = leb 10 (digit_of w)
opens (Bits k ∷ ps) = true
opens (Number ∷ ps) = true
opens (Offset ∷ ps) = true

-- whether no digit follows a decimal number or an offset
abbrev pub readable : List Piece → Bool
readable [] = true
readable (Word w ∷ ps) = readable ps
readable (Bits k ∷ ps) = readable ps
readable (Number ∷ ps) = opens ps && readable ps
readable (Offset ∷ ps) = opens ps && readable ps

-- whether the numbers are as many as the form has and not too large
abbrev pub fits : List Piece → List ℕ → Bool
fits [] [] = true
fits [] (n ∷ ns) = false
fits (Word w ∷ ps) ns = fits ps ns
fits (Bits k ∷ ps) [] = false
fits (Bits k ∷ ps) (n ∷ ns) = ltb n (16 ^ k) && fits ps ns
fits (Number ∷ ps) [] = false
fits (Number ∷ ps) (n ∷ ns) = ltb n (2 ^ 32) && fits ps ns
fits (Offset ∷ ps) [] = false
fits (Offset ∷ ps) (n ∷ ns) = ltb n offset_words && fits ps ns

opens_print : (ps : List Piece) (ns : List ℕ) → T (opens ps) → T (fits ps ns) → T (no_digit (print ps ns))
unfolding print digit_of
opens_print [] ns o f = tt
opens_print (Word [] ∷ ps) ns o f = absurd o
opens_print (Word (w ∷ ws) ∷ ps) ns o f = o
opens_print (Bits k ∷ ps) [] o f = tt
opens_print (Bits k ∷ ps) (n ∷ ns) o f = tt
opens_print (Number ∷ ps) [] o f = tt
opens_print (Number ∷ ps) (n ∷ ns) o f = tt
opens_print (Offset ∷ ps) [] o f = tt
opens_print (Offset ∷ ps) (n ∷ ns) o f = tt

-- A line that was printed reads back.
pub read_print : (ps : List Piece) (ns : List ℕ) → T (readable ps) → T (fits ps ns) → read ps (print ps ns) ≡ some ns
unfolding read print spaced
read_print [] [] r f = refl
read_print [] (n ∷ ns) r f = absurd f
read_print (Word w ∷ ps) ns r f = rw (after_word_word w (print ps ns), read) (read_print ps ns r f)
read_print (Bits k ∷ ps) [] r f = absurd f
read_print (Bits k ∷ ps) (n ∷ ns) r f =
    let h : n < 16 ^ k = ltb→lt n (16 ^ k) (and_l (ltb n (16 ^ k)) (fits ps ns) f) in
    rw (read_hex_hex k n (print ps ns) h, read_print ps ns r (and_r (ltb n (16 ^ k)) (fits ps ns) f), read)
read_print (Number ∷ ps) [] r f = absurd f
read_print (Number ∷ ps) (n ∷ ns) r f =
    let h : n < 2 ^ 32 = ltb→lt n (2 ^ 32) (and_l (ltb n (2 ^ 32)) (fits ps ns) f) in
    let g : T (fits ps ns) = and_r (ltb n (2 ^ 32)) (fits ps ns) f in
    rw (read_decimal_decimal n (print ps ns) h (opens_print ps ns (and_l (opens ps) (readable ps) r) g), read_print ps ns (and_r (opens ps) (readable ps) r) g, read)
read_print (Offset ∷ ps) [] r f = absurd f
read_print (Offset ∷ ps) (n ∷ ns) r f =
    let h : n < offset_words = ltb→lt n offset_words (and_l (ltb n offset_words) (fits ps ns) f) in
    let g : T (fits ps ns) = and_r (ltb n offset_words) (fits ps ns) f in
    rw (read_offset_offset n (print ps ns) h (opens_print ps ns (and_l (opens ps) (readable ps) r) g), read_print ps ns (and_r (opens ps) (readable ps) r) g, read)

-- Every form of the sheet reads back.
pub forms_read_back : (k : Kind) → T (readable (form k))
unfolding form numbers digit_of
forms_read_back Box = tt
forms_read_back Sag = tt
forms_read_back NoDefault = tt
forms_read_back Default = tt
forms_read_back Material = tt
forms_read_back Face = tt
forms_read_back FaceBin = tt
forms_read_back Vertex = tt
forms_read_back Triangle = tt
forms_read_back Fail = tt
forms_read_back FailBin = tt
