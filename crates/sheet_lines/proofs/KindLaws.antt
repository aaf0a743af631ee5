-- The laws of a line's kind: which form it has, the earlier ones being none of it. Assumes nothing.
use mathlib.Core.Bool.{Bool, true, false, cond}
use mathlib.Core.List.{List, [], ◌∷◌}
use mathlib.Core.Option.{Option, none, some}
use Rattle.std.specs.Prelude.{Some, None}
use mathlib.Core.Path.{◌≡◌, refl, sym, ◌∙◌, ap}
use Prim.Native.Nat.{ℕ}
use lib.ListN.{take}
use Rattle.sheet_lines.specs.declared.Kind.{Kind}
use Rattle.sheet_lines.specs.declared.Kind.TheVariants.{Box, Sag, NoDefault, Default, Material, Face, FaceBin, Vertex, Triangle, Fail, FailBin}
use Rattle.sheet_lines.specs.Forms.{Line, form, line_among, line_of, numbers, read}
use Rattle.sheet_lines.specs.Counted.{count_in}
use Rattle.sheet_lines.specs.Pattern.{pattern, pattern_read, piece, pieces}
use Rattle.sheet_lines.specs.Scan.{Scanned, given}

pattern_count : (k : Kind) → count_in (pieces (pattern k)) ≡ count_in (form k)
unfolding count_in piece form numbers
pattern_count Box = refl
pattern_count Sag = refl
pattern_count NoDefault = refl
pattern_count Default = refl
pattern_count Material = refl
pattern_count Face = refl
pattern_count FaceBin = refl
pattern_count Vertex = refl
pattern_count Triangle = refl
pattern_count Fail = refl
pattern_count FailBin = refl

module _ (k : Kind) (line N : List ℕ) (r : Bool) (v : Scanned (pieces (pattern k)) line N r) where
  -- the line has not this kind's form
  pub no_form : r ≡ false → read (form k) line ≡ none
  no_form e = sym (pattern_read k line) ∙ sym v.is ∙ ap (λ (b : Bool). cond b (some (take (count_in (pieces (pattern k))) N)) none) e

  -- the line has this kind's form
  pub of_form : r ≡ true → read (form k) line ≡ some (take (count_in (form k)) N)
  of_form e = sym (pattern_read k line) ∙ sym v.is ∙ ap (λ (b : Bool). cond b (some (take (count_in (pieces (pattern k))) N)) none) e ∙ ap (λ (n : ℕ). some (take n N)) (pattern_count k)

among_next : (k : Kind) (ks : List Kind) (line : List ℕ) → read (form k) line ≡ none → line_among (k ∷ ks) line ≡ line_among ks line
unfolding line_among
among_next k ks line e = ap (λ (o : Option (List ℕ)). elim o as (λ x. Option Line) [ none ↦ line_among ks line | some ns ↦ some (record { kind = k; numbers = ns }) ]) e

among_here : (k : Kind) (ks : List Kind) (line N : List ℕ) → read (form k) line ≡ some (take (count_in (form k)) N) → given (Some k) N ≡ line_among (k ∷ ks) line
unfolding line_among given
among_here k ks line N e = ap (λ (o : Option (List ℕ)). elim o as (λ x. Option Line) [ none ↦ line_among ks line | some ns ↦ some (record { kind = k; numbers = ns }) ]) (sym e)

-- the kinds that are left, the line having the form of no earlier one
pub record Past (line : List ℕ) (all ks : List Kind) : Type 0 where
  pub left : line_among all line ≡ line_among ks line

pub past_none : (line : List ℕ) (ks : List Kind) → Past line ks ks
past_none line ks = record { left = refl }

pub past_more : (k : Kind) {line : List ℕ} {all ks : List Kind} {N : List ℕ} {r : Bool} → Past line all (k ∷ ks) → Scanned (pieces (pattern k)) line N r → r ≡ false → Past line all ks
past_more k {line} {all} {ks} {N} {r} p v e = record { left = p.left ∙ among_next k ks line (no_form k line N r v e) }

pub past_here : (k : Kind) {line : List ℕ} {all ks : List Kind} {N : List ℕ} {r : Bool} → Past line all (k ∷ ks) → Scanned (pieces (pattern k)) line N r → r ≡ true
    → given (Some k) N ≡ line_among all line
past_here k {line} {all} {ks} {N} {r} p v e = among_here k ks line N (of_form k line N r v e) ∙ sym p.left

pub past_all : (line N : List ℕ) (all : List Kind) → Past line all [] → given None N ≡ line_among all line
unfolding line_among given
past_all line N all p = sym p.left

-- the later kinds
pub past_rest : (all ks : List Kind) (line : List ℕ) (o : Option Line) → Past line all ks → o ≡ line_among ks line → o ≡ line_among all line
past_rest all ks line o p e = e ∙ sym p.left

-- all kinds
abbrev pub kinds : List Kind
kinds = Box ∷ Sag ∷ NoDefault ∷ Default ∷ Material ∷ Vertex ∷ Triangle ∷ Face ∷ FaceBin ∷ Fail ∷ FailBin ∷ []

pub of_any : (line : List ℕ) (o : Option Line) → o ≡ line_among kinds line → o ≡ line_of line
unfolding line_of
of_any line o e = e
