-- What is printed of a call's answer, whichever call it is: of a result its text, of a refusal its line. Assumes nothing.
use Rattle.std.specs.Prelude.{Bool, true, false, List, ◌≡◌, refl, ℕ, eqb, Result, Ok, Err}
use Rattle.std.proofs.Common.{sym, ◌∙◌, ap, subst, arith}
use Rattle.sheet_answer_text.specs.Answer.{Written, refusal_line}
use Rattle.bench_call_texts.specs.Told.{Told, told_refusal}

-- the two cases of a call's answer are told apart, and each by what it carries
pub record Cases {X C : Type 0} (done : C → X) (refuse : ℕ → X) : Type 0 where
  pub apart : (c : C) (n : ℕ) → done c ≡ refuse n → ⊥
  pub result : (c d : C) → done c ≡ done d → c ≡ d
  pub number : (m n : ℕ) → refuse m ≡ refuse n → m ≡ n

-- those of a Result
pub result_cases : {C : Type 0} → Cases {X = Result C ℕ} {C = C} Ok Err
result_cases = record { apart = λ c n e. let z : ◌≡◌ {A = ℕ} 0 1 = cc in omega arith; result = λ c d e. cc; number = λ m n e. cc }

module _ {X C : Type 0} {done : C → X} {refuse : ℕ → X} (v : Cases done refuse) (m : C) (n lines : ℕ) (E W : List ℕ) (r : ℕ) (text : List ℕ) where
  -- what the call answers, n being its refusal or 0
  abbrev answer : Bool → X
  answer b = elim b [ true ↦ done m | false ↦ refuse n ]

  -- what is printed of it
  abbrev said : Bool → List ℕ
  said b = elim b [ true ↦ text | false ↦ refusal_line n ]

  pub told_done : (c : C) → done c ≡ answer (eqb n 0) → (c ≡ m → Told lines E text W r) → Told lines E (said (eqb n 0)) W r
  told_done c e t = go (eqb n 0) refl
    where
      go : (b : Bool) → eqb n 0 ≡ b → Told lines E (said (eqb n 0)) W r
      go true q = subst (λ (b : Bool). Told lines E (said b) W r) (sym q) (t (v.result c m (e ∙ ap answer q)))
      go false q = absurd (v.apart c n (e ∙ ap answer q))

  pub told_refused : (k : ℕ) → refuse k ≡ answer (eqb n 0) → Written E (refusal_line k) W r → Told lines E (said (eqb n 0)) W r
  told_refused k e w = go (eqb n 0) refl
    where
      go : (b : Bool) → eqb n 0 ≡ b → Told lines E (said (eqb n 0)) W r
      go true q = absurd (v.apart m k (sym (e ∙ ap answer q)))
      go false q = subst (λ (b : Bool). Told lines E (said b) W r) (sym q) (subst (λ (i : ℕ). Told lines E (refusal_line i) W r) (v.number k n (e ∙ ap answer q)) (told_refusal lines E k W r w))
