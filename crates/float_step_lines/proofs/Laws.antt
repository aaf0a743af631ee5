-- The laws of answering a line: which step's form it has, the earlier ones being none of it, and its operands. Assumes nothing.
use mathlib.Core.Bool.{Bool, true, false, cond}
use mathlib.Core.List.{List, [], ◌∷◌}
use mathlib.Core.Option.{Option, none, some}
use mathlib.Core.Path.{◌≡◌, refl, sym, ◌∙◌, ap}
use Rattle.std.specs.Prelude.{None}
use Rattle.std.specs.Prelude as Std
use Prim.Native.Nat.{ℕ, ◌^◌, ◌≤◌, ◌<◌}
use native.Mathlib.Omega.{arith}
use lib.Dec.{T, ltb, ltb→lt}
use lib.Ieee.Fits.{and_l}
use lib.ListN.{length, get_or, take}
use Rattle.sheet_digits.specs.Bytes.{bytes}
use Rattle.sheet_lines.specs.Forms.{Piece, read}
use Rattle.sheet_lines.specs.Counted.{count_in}
use Rattle.sheet_lines.specs.Exact.{read_fits}
use Rattle.sheet_lines.specs.Pattern.{piece, pieces, read_split, split}
use Rattle.sheet_lines.specs.ReadBack.{fits}
use Rattle.sheet_lines.specs.Scan.{Scanned}
use Rattle.float_step_lines.specs.declared.Reply.{Reply}
use Rattle.float_step_lines.specs.Lines.{Step, Widen, Narrow, Sqrt, Round, Larger, form, reply_among, reply_of, reply_to}

-- the text of each step's form
abbrev pub pattern : Step → List ℕ
pattern Widen = bytes "widen*"
pattern Narrow = bytes "narrow$"
pattern Sqrt = bytes "sqrt$"
pattern Round = bytes "round$"
pattern Larger = bytes "larger$$"

pattern_form : (s : Step) → pieces (pattern s) ≡ split (form s)
unfolding piece split form
pattern_form Widen = refl
pattern_form Narrow = refl
pattern_form Sqrt = refl
pattern_form Round = refl
pattern_form Larger = refl

-- how many operands a step has
abbrev pub operands : Step → ℕ
operands Widen = 1
operands Narrow = 1
operands Sqrt = 1
operands Round = 1
operands Larger = 2

pattern_count : (s : Step) → count_in (pieces (pattern s)) ≡ operands s
unfolding count_in piece
pattern_count Widen = refl
pattern_count Narrow = refl
pattern_count Sqrt = refl
pattern_count Round = refl
pattern_count Larger = refl

-- a line's operands, if it has a step's form
scanned : (s : Step) (line N : List ℕ) (r : Bool) → Scanned (pieces (pattern s)) line N r → read (form s) line ≡ cond r (some (take (operands s) N)) none
scanned s line N r v =
    sym (ap (λ (ps : List Piece). read ps line) (pattern_form s) ∙ read_split (form s) line) ∙ sym v.is ∙ ap (λ (n : ℕ). cond r (some (take n N)) none) (pattern_count s)

-- the first of some numbers, and the first two
first : (N : List ℕ) → 3 ≤ length N → take 1 N ≡ get_or N 0 0 ∷ []
first [] h = absurd (omega arith)
first (a ∷ N) h = refl

first_two : (N : List ℕ) → 3 ≤ length N → take 2 N ≡ get_or N 0 0 ∷ get_or N 1 0 ∷ []
first_two [] h = absurd (omega arith)
first_two (a ∷ []) h = absurd (omega arith)
first_two (a ∷ b ∷ N) h = refl

-- the steps that are left, the line having the form of no earlier one
pub record Left (line : List ℕ) (ss : List Step) : Type 0 where
  pub is : reply_to line ≡ reply_among ss line

pub left_all : (line : List ℕ) → Left line (Widen ∷ Narrow ∷ Sqrt ∷ Round ∷ Larger ∷ [])
unfolding reply_to
left_all line = record { is = refl }

module _ (s : Step) {line : List ℕ} {ss : List Step} {N : List ℕ} {r : Bool} (p : Left line (s ∷ ss)) (v : Scanned (pieces (pattern s)) line N r) where
  step : (b : Bool) → r ≡ b → reply_to line ≡ elim (cond b (some (take (operands s) N)) none) as (λ o. Std.Option Reply) [ none ↦ reply_among ss line | some bits ↦ reply_of s bits ]
  unfolding reply_among
  step b e = p.is ∙ ap (λ (o : Option (List ℕ)). elim o as (λ x. Std.Option Reply) [ none ↦ reply_among ss line | some bits ↦ reply_of s bits ])
      (scanned s line N r v ∙ ap (λ (x : Bool). cond x (some (take (operands s) N)) none) e)

  pub left_more : r ≡ false → Left line ss
  left_more e = record { is = step false e }

  here : r ≡ true → reply_of s (take (operands s) N) ≡ reply_to line
  here e = sym (step true e)

  pub left_one : r ≡ true → 3 ≤ length N → operands s ≡ 1 → reply_of s (get_or N 0 0 ∷ []) ≡ reply_to line
  left_one e h q = ap (reply_of s) (sym (ap (λ (n : ℕ). take n N) q ∙ first N h)) ∙ here e

  pub left_two : r ≡ true → 3 ≤ length N → operands s ≡ 2 → reply_of s (get_or N 0 0 ∷ get_or N 1 0 ∷ []) ≡ reply_to line
  left_two e h q = ap (reply_of s) (sym (ap (λ (n : ℕ). take n N) q ∙ first_two N h)) ∙ here e

pub left_none : (line : List ℕ) → Left line [] → None ≡ reply_to line
unfolding reply_among
left_none line p = sym p.is

-- The operand of a line that widens is below 2 ^ 32.
pub short : {line N : List ℕ} {r : Bool} → Scanned (pieces (pattern Widen)) line N r → r ≡ true → 3 ≤ length N → get_or N 0 0 < 2 ^ 32
unfolding form
short {line} {N} {r} v e h =
    let there : read (form Widen) line ≡ some (get_or N 0 0 ∷ []) = scanned Widen line N r v ∙ ap (λ (b : Bool). cond b (some (take 1 N)) none) e ∙ ap some (first N h) in
    let t : T (fits (form Widen) (get_or N 0 0 ∷ [])) = read_fits (form Widen) line (get_or N 0 0 ∷ []) there in
    ltb→lt (get_or N 0 0) (2 ^ 32) (and_l (ltb (get_or N 0 0) (2 ^ 32)) true t)
