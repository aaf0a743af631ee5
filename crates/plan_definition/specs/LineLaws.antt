-- A line's text is read as that line, and what is read as a line is its text. Assumes nothing.
use Rattle.std.specs.Prelude.{Bool, true, false, ◌&&◌, cond, List, [], ◌∷◌, ◌++◌, ◌≡◌, refl, ℕ, ◌^◌, ◌≤◌, ◌<◌, T, leb, ltb, eqb, ℤ, pos}
use Rattle.std.proofs.Math.Option.{Option, none, some}
use Rattle.std.proofs.Common.{sym, ◌∙◌, ap, subst, arith, le-leb, leb-true, leb→le, le→leb, lt→ltb, ltb→lt}
use Rattle.std.specs.Float.Ieee.Fits.{and_l, and_r, and_i}
use Rattle.signed_numbers.specs.Range.{within}
use Rattle.body_refusals.specs.TableChecks.{most_bin}
use Rattle.sheet_digits.specs.Bytes.{bytes}
use Rattle.sheet_digits.specs.Digits.{decimal, digit_of}
use Rattle.sheet_digits.specs.Offsets.{offset}
use Rattle.sheet_digits.specs.OffsetLaws.{offset_words}
use Rattle.sheet_lines.specs.Forms.{Piece, print, read, after_word}
use Rattle.sheet_lines.specs.ReadBack.{fits, readable, read_print}
use Rattle.sheet_lines.specs.Exact.{print_read, read_fits}
use Rattle.plan_definition.specs.Places.{Place, in_range}
use Rattle.plan_definition.specs.Grammar.{integer, offset_text, group_line, bin_line, close_line}
use Rattle.plan_definition.specs.Lines.{Line, Open, Bin, Close, group_form, bin_form, close_form, offset_of, offsets_of, opened, standing, line_of, line_text, line_fits}
use Rattle.plan_definition.specs.Words.{integer_word, word, word_back, word_small, word_within, word_text}

-- ---- a line's text by its form

-- three offsets of words, before what follows
words_text : (x y z : ℕ) (rest : List ℕ) → offset_text (offsets_of x y z) rest ≡ 32 ∷ (offset x ++ 32 ∷ (offset y ++ 32 ∷ (offset z ++ rest)))
unfolding offset_text
words_text x y z rest = λ i. 32 ∷ (integer_word x i ++ 32 ∷ (integer_word y i ++ 32 ∷ (integer_word z i ++ rest)))

pub group_print : (x y z : ℕ) → group_line (offsets_of x y z) ≡ print group_form (x ∷ y ∷ z ∷ [])
unfolding group_line print
group_print x y z = ap (λ (cs : List ℕ). bytes "(group" ++ cs) (words_text x y z (10 ∷ []))

pub bin_print : (n x y z : ℕ) → bin_line (pos n) (offsets_of x y z) ≡ print bin_form (n ∷ x ∷ y ∷ z ∷ [])
unfolding bin_line print integer
bin_print n x y z = ap (λ (cs : List ℕ). bytes "(bin" ++ 32 ∷ (decimal n ++ cs)) (words_text x y z (bytes ")" ++ 10 ∷ []))

-- the words of an offset in range
module _ (o : Place) (t : T (in_range o)) where
  on_x : T (within o.x)
  on_x = and_l (within o.x) (within o.y && within o.z) t

  on_yz : T (within o.y && within o.z)
  on_yz = and_r (within o.x) (within o.y && within o.z) t

  on_y : T (within o.y)
  on_y = and_l (within o.y) (within o.z) on_yz

  on_z : T (within o.z)
  on_z = and_r (within o.y) (within o.z) on_yz

  offsets_back : offsets_of (word o.x) (word o.y) (word o.z) ≡ o
  offsets_back = λ i. record { x = word_back o.x on_x i; y = word_back o.y on_y i; z = word_back o.z on_z i }

  words_fit : T (ltb (word o.x) offset_words && (ltb (word o.y) offset_words && (ltb (word o.z) offset_words && true)))
  words_fit =
      and_i (ltb (word o.x) offset_words) _ (lt→ltb (word o.x) offset_words (word_small o.x on_x))
      (and_i (ltb (word o.y) offset_words) _ (lt→ltb (word o.y) offset_words (word_small o.y on_y))
      (and_i (ltb (word o.z) offset_words) true (lt→ltb (word o.z) offset_words (word_small o.z on_z)) tt))

-- ---- a line's text is read as the line

forms_readable : T (readable group_form && readable bin_form)
unfolding digit_of
forms_readable = tt

group_back : (o : Place) → T (in_range o) → line_of (group_line o) ≡ some (Open o)
unfolding line_of opened
group_back o t =
    let ns : List ℕ = word o.x ∷ word o.y ∷ word o.z ∷ [] in
    let text : group_line o ≡ print group_form ns = ap group_line (sym (offsets_back o t)) ∙ group_print (word o.x) (word o.y) (word o.z) in
    let back : read group_form (print group_form ns) ≡ some ns = read_print group_form ns (and_l (readable group_form) (readable bin_form) forms_readable) (words_fit o t) in
    ap line_of text ∙ rw (back, line_of) (ap (λ (p : Place). some (Open p)) (offsets_back o t))

-- a bin's line is no group's
bin_no_group : (n : ℤ) (o : Place) → read group_form (bin_line n o) ≡ none
unfolding read after_word bin_line
bin_no_group n o = refl

bin_back : (n : ℕ) (o : Place) → T (leb n most_bin) → T (in_range o) → line_of (bin_line (pos n) o) ≡ some (Bin n o)
unfolding line_of standing
bin_back n o m t =
    let ns : List ℕ = n ∷ word o.x ∷ word o.y ∷ word o.z ∷ [] in
    let few : n ≤ most_bin = leb→le n most_bin m in
    let text : bin_line (pos n) o ≡ print bin_form ns = ap (bin_line (pos n)) (sym (offsets_back o t)) ∙ bin_print n (word o.x) (word o.y) (word o.z) in
    let back : read bin_form (print bin_form ns) ≡ some ns =
    read_print bin_form ns (and_r (readable group_form) (readable bin_form) forms_readable) (and_i (ltb n (2 ^ 32)) _ (lt→ltb n (2 ^ 32) (omega arith)) (words_fit o t)) in
    let here : read bin_form (bin_line (pos n) o) ≡ some ns = ap (read bin_form) text ∙ back in
    let inside : leb n most_bin ≡ true = le-leb n most_bin few in
    rw (bin_no_group (pos n) o, here, line_of, inside) (ap (λ (p : Place). some (Bin n p)) (offsets_back o t))

close_back : line_of close_line ≡ some Close
unfolding line_of close_line read after_word
close_back = refl

-- A line's text is read as the line.
pub line_back : (x : Line) → T (line_fits x) → line_of (line_text x) ≡ some x
unfolding line_text line_fits
line_back (Open o) t = group_back o t
line_back (Bin n o) t = bin_back n o (and_l (leb n most_bin) (in_range o) t) (and_r (leb n most_bin) (in_range o) t)
line_back Close t = close_back

-- ---- what is read as a line is its text

-- a text that is read as a line is the line's, and the line's numbers are in range
pub record LineOf (l : List ℕ) (x : Line) : Type 0 where
  pub text : line_text x ≡ l
  pub fits : T (line_fits x)

offsets_range : (x y z : ℕ) → T (ltb x offset_words && (ltb y offset_words && (ltb z offset_words && true))) → T (in_range (offsets_of x y z))
offsets_range x y z t =
    let yz : T (ltb y offset_words && (ltb z offset_words && true)) = and_r (ltb x offset_words) _ t in
    let z1 : T (ltb z offset_words && true) = and_r (ltb y offset_words) _ yz in
    and_i (within (offset_of x)) _ (word_within x (ltb→lt x offset_words (and_l (ltb x offset_words) _ t)))
    (and_i (within (offset_of y)) _ (word_within y (ltb→lt y offset_words (and_l (ltb y offset_words) _ yz))) (word_within z (ltb→lt z offset_words (and_l (ltb z offset_words) true z1))))

no_line : {x : Line} {P : Type 0} → none ≡ some x → P
no_line {x} {P} e = let z : ◌≡◌ {A = ℕ} 0 1 = cc in absurd (omega arith)

opened_exact : (l ns : List ℕ) (x : Line) → print group_form ns ≡ l → T (fits group_form ns) → opened ns ≡ some x → LineOf l x
unfolding opened line_text line_fits
opened_exact l [] x p f e = absurd f
opened_exact l (a ∷ []) x p f e = no_line e
opened_exact l (a ∷ b ∷ []) x p f e = no_line e
opened_exact l (a ∷ b ∷ c ∷ []) x p f e =
    let s : Open (offsets_of a b c) ≡ x = cc in
    subst (LineOf l) s (record { text = group_print a b c ∙ p; fits = offsets_range a b c f })
opened_exact l (a ∷ b ∷ c ∷ d ∷ ns) x p f e = no_line e

standing_exact : (l ns : List ℕ) (x : Line) → print bin_form ns ≡ l → T (fits bin_form ns) → standing ns ≡ some x → LineOf l x
unfolding standing line_text line_fits
standing_exact l [] x p f e = absurd f
standing_exact l (n ∷ []) x p f e = no_line e
standing_exact l (n ∷ a ∷ []) x p f e = no_line e
standing_exact l (n ∷ a ∷ b ∷ []) x p f e = no_line e
standing_exact l (n ∷ a ∷ b ∷ c ∷ []) x p f e = go (leb n most_bin) refl
  where
    go : (m : Bool) → leb n most_bin ≡ m → LineOf l x
    go true q =
        let here : some (Bin n (offsets_of a b c)) ≡ some x = rw q at e in
        let s : Bin n (offsets_of a b c) ≡ x = cc in
        let few : T (leb n most_bin) = le→leb n most_bin (leb-true n most_bin q) in
        subst (LineOf l) s (record { text = bin_print n a b c ∙ p; fits = and_i (leb n most_bin) (in_range (offsets_of a b c)) few (offsets_range a b c (and_r (ltb n (2 ^ 32)) _ f)) })
    go false q = let none_here : none ≡ some x = rw q at e in no_line none_here
standing_exact l (n ∷ a ∷ b ∷ c ∷ d ∷ ns) x p f e = no_line e

close_exact : (l ns : List ℕ) (x : Line) → print close_form ns ≡ l → some Close ≡ some x → LineOf l x
unfolding line_text line_fits close_line print
close_exact l ns x p e = let s : Close ≡ x = cc in subst (LineOf l) s (record { text = p; fits = tt })

-- What is read as a line is its text.
pub line_exact : (l : List ℕ) (x : Line) → line_of l ≡ some x → LineOf l x
unfolding line_of
line_exact l x e = go (read group_form l) refl
  where
    last : read group_form l ≡ none → read bin_form l ≡ none → (o : Option (List ℕ)) → read close_form l ≡ o → LineOf l x
    last p q (some ns) r = close_exact l ns x (print_read close_form l ns r) (rw (p, q, r, line_of) at e)
    last p q none r = let none_here : none ≡ some x = rw (p, q, r, line_of) at e in no_line none_here

    middle : read group_form l ≡ none → (o : Option (List ℕ)) → read bin_form l ≡ o → LineOf l x
    middle p (some ns) q = standing_exact l ns x (print_read bin_form l ns q) (read_fits bin_form l ns q) (rw (p, q, line_of) at e)
    middle p none q = last p q (read close_form l) refl

    go : (o : Option (List ℕ)) → read group_form l ≡ o → LineOf l x
    go (some ns) p = opened_exact l ns x (print_read group_form l ns p) (read_fits group_form l ns p) (rw (p, line_of) at e)
    go none p = middle p (read bin_form l) refl
