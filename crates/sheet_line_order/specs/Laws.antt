-- Reading goes line by line, and an over-long line is 51. Assumes nothing.
use Rattle.std.specs.Prelude.{Bool, true, false, not, ◌&&◌, List, [], ◌∷◌, ◌++◌, ◌≡◌, refl, ℕ, ◌<◌, T, eqb, length}
use Rattle.std.proofs.Math.Option.{Option, none, some}
use Rattle.std.proofs.Common.{◌∙◌, ap, arith, eq-eqb}
use Rattle.std.specs.Float.Ieee.Bits.{is_false}
use Rattle.std.specs.Float.Ieee.Fits.{and_l, and_r}
use Rattle.sheet_lines.specs.Lengths.{line_length}
use Rattle.sheet_lines.specs.Forms.{Line, line_of}
use Rattle.sheet_line_order.specs.Reading.{State, refuse, line_refusal, take_up, with_form, read_line, finished, into_first, cut, read_from}

-- ---- the text

-- whether there is no LF
abbrev pub no_lF : List ℕ → Bool
no_lF [] = true
no_lF (x ∷ xs) = not (eqb x 10) && no_lF xs

-- a line and its LF are cut off
pub cut_line : (l rest : List ℕ) → T (no_lF l) → cut (l ++ 10 ∷ rest) ≡ l ∷ cut rest
unfolding cut into_first
cut_line [] rest t = refl
cut_line (x ∷ xs) rest t =
    let e : eqb x 10 ≡ false = is_false (eqb x 10) (and_l (not (eqb x 10)) (no_lF xs) t) in
    rw (e, cut_line xs rest (and_r (not (eqb x 10)) (no_lF xs) t), cut)

pub cut_rest : (rest : List ℕ) → T (no_lF rest) → cut rest ≡ rest ∷ []
unfolding cut into_first
cut_rest [] t = refl
cut_rest (x ∷ xs) t =
    let e : eqb x 10 ≡ false = is_false (eqb x 10) (and_l (not (eqb x 10)) (no_lF xs) t) in
    rw (e, cut_rest xs (and_r (not (eqb x 10)) (no_lF xs) t), cut)

-- the text is cut into one piece at least
cut_some : (text : List ℕ) (s : State) (l : List ℕ) → read_from s (l ∷ cut text) ≡ read_from (read_line s l) (cut text)
unfolding cut into_first read_from
cut_some [] s l = refl
cut_some (x ∷ xs) s l = go (eqb x 10) refl (cut xs) refl
  where
    go : (b : Bool) → eqb x 10 ≡ b → (ls : List (List ℕ)) → cut xs ≡ ls → read_from s (l ∷ cut (x ∷ xs)) ≡ read_from (read_line s l) (cut (x ∷ xs))
    go true e ls q = rw (e, cut)
    go false e [] q = rw (e, q, cut)
    go false e (m ∷ ls) q = rw (e, q, cut)

-- Reading goes line by line: what a program's loop does at each LF, and at the end.
pub read_line_lem : (s : State) (l rest : List ℕ) → T (no_lF l) → read_from s (cut (l ++ 10 ∷ rest)) ≡ read_from (read_line s l) (cut rest)
read_line_lem s l rest t = ap (read_from s) (cut_line l rest t) ∙ cut_some rest s l

pub read_end : (s : State) (rest : List ℕ) → T (no_lF rest) → read_from s (cut rest) ≡ finished s rest
unfolding read_from
read_end s rest t = ap (read_from s) (cut_rest rest t)

-- A line changes no limit.
form_limits : (s : State) (l : Line) → (with_form s l).limits ≡ s.limits
unfolding with_form take_up refuse
form_limits s l = go (eqb (line_refusal l s) 0)
  where
    go : (b : Bool) → (elim b as (λ x. State) [ true ↦ take_up s l | false ↦ refuse (line_refusal l s) s ]).limits ≡ s.limits
    go true = refl
    go false = refl

pub line_limits : (s : State) (xs : List ℕ) → (read_line s xs).limits ≡ s.limits
unfolding read_line refuse
line_limits s xs = go (eqb s.refusal 0) (line_of xs)
  where
    go : (b : Bool) (o : Option Line) → (elim b as (λ x. State) [ true ↦ elim o as (λ x. State) [ none ↦ refuse 51 s | some l ↦ with_form s l ] | false ↦ s ]).limits ≡ s.limits
    go true none = refl
    go true (some l) = form_limits s l
    go false o = refl

-- An over-long line is 51.
pub long_line : (s : State) (xs : List ℕ) → s.refusal ≡ 0 → 107 < length xs → read_line s xs ≡ refuse 51 s
unfolding read_line
long_line s xs z h = go (line_of xs) refl
  where
    go : (o : Option Line) → line_of xs ≡ o → read_line s xs ≡ refuse 51 s
    go none q = rw (eq-eqb s.refusal 0 z, q, read_line)
    go (some l) q = absurd (omega (arith, line_length xs l q))
