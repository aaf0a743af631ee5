-- An answer by its refusal, and what is printed of it. Assumes nothing.
use Rattle.std.specs.Prelude.{Bool, true, false, List, ◌≡◌, refl, ℕ, eqb}
use Rattle.std.proofs.Common.{ap, eqb-true}
use Rattle.sheet_answer_text.specs.Answer.{refusal_line}
use Rattle.bench_definition.specs.Finish.{Outcome, Refused}
use Rattle.sheet_meaning.specs.Bench.{printed}

-- the first if the test passes, else the second
abbrev pub pick : {A : Type 0} → Bool → A → A → A
pick {A} b x y = elim b as (λ c. A) [ true ↦ x | false ↦ y ]

-- a text where n is 0, else the refusal n
abbrev pub or_refusal : ℕ → List ℕ → List ℕ
or_refusal n text = pick (eqb n 0) text (refusal_line n)

-- A refusal prints its number.
pub refusal_printed : (o : Outcome) (n : ℕ) → eqb n 0 ≡ false → printed (pick (eqb n 0) o (Refused n)) ≡ refusal_line n
unfolding printed
refusal_printed o n q = ap (λ (b : Bool). printed (pick b o (Refused n))) q

-- Texts that are the same where nothing is refused.
pub or_same : (n : ℕ) (x y : List ℕ) → (n ≡ 0 → x ≡ y) → or_refusal n x ≡ or_refusal n y
or_same n x y f = go (eqb n 0) refl
  where
    go : (b : Bool) → eqb n 0 ≡ b → pick b x (refusal_line n) ≡ pick b y (refusal_line n)
    go true q = f (eqb-true n 0 q)
    go false q = refl

-- Texts that are the same where nothing is refused, and the second is no refusal k.
pub or_unless : (n k : ℕ) (x y : List ℕ) → (n ≡ 0 → (y ≡ refusal_line k → ⊥) → x ≡ y) → (or_refusal n y ≡ refusal_line k → ⊥) → or_refusal n x ≡ or_refusal n y
or_unless n k x y f h = go (eqb n 0) refl h
  where
    go : (b : Bool) → eqb n 0 ≡ b → (pick b y (refusal_line n) ≡ refusal_line k → ⊥) → pick b x (refusal_line n) ≡ pick b y (refusal_line n)
    go true q g = f (eqb-true n 0 q) g
    go false q g = refl
