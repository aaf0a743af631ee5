-- The laws of one piece: what a byte of a form stands for, and what is read of it at a place. Assumes nothing.
use mathlib.Core.Bool.{Bool, true, false}
use mathlib.Core.List.{List, [], ◌∷◌}
use mathlib.Core.Option.{Option, none, some}
use mathlib.Core.Path.{◌≡◌, refl, sym, ◌∙◌, ap}
use Rattle.std.specs.Prelude.{Some, None}
use Rattle.std.specs.Prelude as Std
use Prim.Native.Nat.{ℕ, ◌+◌, ◌≤◌, ◌<◌}
use native.Mathlib.Omega.{arith}
use borrow.Author.Tests.{eq-eqb, ne_eqb, eqb-true, eqb-false}
use lib.Dec.{eqb}
use lib.ListN.{length, get_or, drop, drop_of_length-le}
use Rattle.sheet_digits.specs.Digits.{Found, found}
use Rattle.sheet_digits.specs.Next.{next}
use Rattle.sheet_digit_reading.specs.Given as goal
use Rattle.sheet_digit_reading.specs.declared.Taken.{Taken}
use Rattle.sheet_lines.specs.Forms.{Piece, Word, Bits, Number, Offset, after_word, spaced}
use Rattle.sheet_lines.specs.Pattern.{numbers_of, piece, read_byte, read_number, read_piece}
use Rattle.sheet_lines.specs.Scan.{Numbers, PieceTaken}

-- ---- what a byte stands for
pub piece_number : (c : ℕ) → c ≡ 35 → piece c ≡ Number
unfolding piece
piece_number c e = rw (eq-eqb c 35 e)

pub piece_long : (c : ℕ) → (c ≡ 35 → ⊥) → c ≡ 36 → piece c ≡ Bits 16
unfolding piece
piece_long c m e = rw (ne_eqb c 35 m, eq-eqb c 36 e)

pub piece_short : (c : ℕ) → (c ≡ 35 → ⊥) → (c ≡ 36 → ⊥) → c ≡ 42 → piece c ≡ Bits 8
unfolding piece
piece_short c m n e = rw (ne_eqb c 35 m, ne_eqb c 36 n, eq-eqb c 42 e)

pub piece_offset : (c : ℕ) → (c ≡ 35 → ⊥) → (c ≡ 36 → ⊥) → (c ≡ 42 → ⊥) → c ≡ 37 → piece c ≡ Offset
unfolding piece
piece_offset c m n o e = rw (ne_eqb c 35 m, ne_eqb c 36 n, ne_eqb c 42 o, eq-eqb c 37 e)

pub piece_byte : (c : ℕ) → (c ≡ 35 → ⊥) → (c ≡ 36 → ⊥) → (c ≡ 42 → ⊥) → (c ≡ 37 → ⊥) → piece c ≡ Word (c ∷ [])
unfolding piece
piece_byte c m n o q = rw (ne_eqb c 35 m, ne_eqb c 36 n, ne_eqb c 42 o, ne_eqb c 37 q)

pub count_number : (c : ℕ) → c ≡ 35 → Numbers c 1
unfolding numbers_of
count_number c e = record { is = ap numbers_of (sym (piece_number c e)); few = omega arith }

pub count_long : (c : ℕ) → (c ≡ 35 → ⊥) → c ≡ 36 → Numbers c 1
unfolding numbers_of
count_long c m e = record { is = ap numbers_of (sym (piece_long c m e)); few = omega arith }

pub count_short : (c : ℕ) → (c ≡ 35 → ⊥) → (c ≡ 36 → ⊥) → c ≡ 42 → Numbers c 1
unfolding numbers_of
count_short c m n e = record { is = ap numbers_of (sym (piece_short c m n e)); few = omega arith }

pub count_offset : (c : ℕ) → (c ≡ 35 → ⊥) → (c ≡ 36 → ⊥) → (c ≡ 42 → ⊥) → c ≡ 37 → Numbers c 1
unfolding numbers_of
count_offset c m n o e = record { is = ap numbers_of (sym (piece_offset c m n o e)); few = omega arith }

pub count_byte : (c : ℕ) → (c ≡ 35 → ⊥) → (c ≡ 36 → ⊥) → (c ≡ 42 → ⊥) → (c ≡ 37 → ⊥) → Numbers c 0
unfolding numbers_of
count_byte c m n o q = record { is = ap numbers_of (sym (piece_byte c m n o q)); few = omega arith }

-- ---- what is read

-- nothing is there
no_piece : (line : List ℕ) (o : Option Found) → none ≡ o → PieceTaken line o None
no_piece line o e = record { is = e; within = tt }

module _ (line : List ℕ) (at p : ℕ) where
  pub byte_end : length line ≤ at → PieceTaken line (read_byte p (drop at line)) None
  unfolding after_word
  byte_end h = no_piece line (read_byte p (drop at line)) (ap (read_byte p) (sym (drop_of_length-le line h)))

  module _ (c : ℕ) (there : (at < length line) × ((d : ℕ) → c ≡ get_or line at d)) where
    pub byte_other : (c ≡ p → ⊥) → PieceTaken line (read_byte p (drop at line)) None
    unfolding after_word
    byte_other n =
        let no : eqb p (get_or line at 0) ≡ false = ne_eqb p (get_or line at 0) (λ e. n (there.1 0 ∙ sym e)) in
        let other : read_byte p (get_or line at 0 ∷ drop (at + 1) line) ≡ none = rw (no, read_byte, after_word) in
        no_piece line (read_byte p (drop at line)) (sym other ∙ ap (read_byte p) (sym (next line at 0 there.0)))

    pub byte_there : c ≡ p → PieceTaken line (read_byte p (drop at line)) (Some (record { value = 0; next = at + 1 }))
    unfolding after_word
    byte_there e =
        let yes : eqb p (get_or line at 0) ≡ true = eq-eqb p (get_or line at 0) (sym e ∙ there.1 0) in
        let same : read_byte p (get_or line at 0 ∷ drop (at + 1) line) ≡ some (found 0 (drop (at + 1) line)) = rw (yes, read_byte, after_word) in
        record { is = sym same ∙ ap (read_byte p) (sym (next line at 0 there.0)); within = omega (arith, there.0) }

-- ---- the number that a byte stands for
pub number_none : (line : List ℕ) (at c : ℕ) → (c ≡ 35 → ⊥) → (c ≡ 36 → ⊥) → (c ≡ 42 → ⊥) → (c ≡ 37 → ⊥) → PieceTaken line (read_number (piece c) (drop at line)) None
unfolding read_number
number_none line at c m n o q = no_piece line (read_number (piece c) (drop at line)) (ap (λ (p : Piece). read_number p (drop at line)) (sym (piece_byte c m n o q)))

pub number_as : (p : Piece) (line : List ℕ) (at c bound : ℕ) (r : Std.Option Taken) → piece c ≡ p → goal.Number line bound (read_number p (drop at line)) r
    → PieceTaken line (read_number (piece c) (drop at line)) r
number_as p line at c bound r e v = record { is = v.is ∙ ap (λ (q : Piece). read_number q (drop at line)) (sym e); within = v.within }

-- ---- a byte that stands for itself, or for a space and a number

-- a byte that stands for no number stands for itself
pub itself : (c n : ℕ) → Numbers c n → n ≡ 0 → piece c ≡ Word (c ∷ [])
unfolding piece numbers_of
itself c n v z = go (eqb c 35) refl (eqb c 36) refl (eqb c 42) refl (eqb c 37) refl
  where
    none_of : numbers_of (piece c) ≡ 0
    none_of = sym v.is ∙ z

    go : (a : Bool) → eqb c 35 ≡ a → (b : Bool) → eqb c 36 ≡ b → (d : Bool) → eqb c 42 ≡ d → (e : Bool) → eqb c 37 ≡ e → piece c ≡ Word (c ∷ [])
    go true p b q d r e s = absurd (omega (arith, (rw p at none_of)))
    go false p true q d r e s = absurd (omega (arith, (rw (p, q) at none_of)))
    go false p false q true r e s = absurd (omega (arith, (rw (p, q, r) at none_of)))
    go false p false q false r true s = absurd (omega (arith, (rw (p, q, r, s) at none_of)))
    go false p false q false r false s = rw (p, q, r, s)

pub byte_as : (line : List ℕ) (at c n : ℕ) (r : Std.Option Taken) → Numbers c n → n ≡ 0 → PieceTaken line (read_byte c (drop at line)) r → PieceTaken line (read_piece (piece c) (drop at line)) r
unfolding read_piece
byte_as line at c n r v z w = record { is = w.is ∙ ap (λ (p : Piece). read_piece p (drop at line)) (sym (itself c n v z)); within = w.within }

-- a space is read as a byte, and then the number
spaced_is : (f : List ℕ → Option Found) (xs : List ℕ) → spaced f xs ≡ elim (read_byte 32 xs) as (λ o. Option Found) [ none ↦ none | some g ↦ f g.rest ]
unfolding spaced after_word
spaced_is f [] = refl
spaced_is f (x ∷ xs) = go (eqb 32 x) refl
  where
    go : (b : Bool) → eqb 32 x ≡ b → spaced f (x ∷ xs) ≡ elim (read_byte 32 (x ∷ xs)) as (λ o. Option Found) [ none ↦ none | some g ↦ f g.rest ]
    go true q = rw (q, eq-eqb x 32 (sym (eqb-true 32 x q)), spaced, read_byte, after_word)
    go false q = rw (q, ne_eqb x 32 (λ h. eqb-false 32 x q (sym h)), spaced, read_byte, after_word)

number_piece : (p : Piece) (xs : List ℕ) → ¬ (numbers_of p ≡ 0) → read_piece p xs ≡ spaced (read_number p) xs
unfolding read_piece numbers_of read_number
number_piece (Word w) xs n = absurd (n refl)
number_piece (Bits k) xs n = refl
number_piece Number xs n = refl
number_piece Offset xs n = refl

module _ (line : List ℕ) (at c n : ℕ) (v : Numbers c n) (m : ¬ (n ≡ 0)) where
  after : (space : Option Found) → space ≡ read_byte 32 (drop at line)
      → read_piece (piece c) (drop at line) ≡ elim space as (λ o. Option Found) [ none ↦ none | some g ↦ read_number (piece c) g.rest ]
  after space e =
      number_piece (piece c) (drop at line) (λ z. m (v.is ∙ z))
      ∙ spaced_is (read_number (piece c)) (drop at line)
      ∙ ap (λ (o : Option Found). elim o as (λ x. Option Found) [ none ↦ none | some g ↦ read_number (piece c) g.rest ]) (sym e)

  pub no_space : PieceTaken line (read_byte 32 (drop at line)) None → PieceTaken line (read_piece (piece c) (drop at line)) None
  no_space w = no_piece line (read_piece (piece c) (drop at line)) (sym (after none w.is))

  pub space_then : (space : Taken) (r : Std.Option Taken) → PieceTaken line (read_byte 32 (drop at line)) (Some space) → PieceTaken line (read_number (piece c) (drop space.next line)) r
      → PieceTaken line (read_piece (piece c) (drop at line)) r
  space_then space r w u = record { is = u.is ∙ sym (after (some (found space.value (drop space.next line))) w.is); within = u.within }
