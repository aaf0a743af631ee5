-- The answers about a patch alone, as values and as numbers. Assumes nothing.
use Rattle.std.specs.Prelude.{cond, ℕ, eqb, Result, Ok, Err}
use Rattle.patch_alone.specs.Alone.{Alone}

-- the answer if the refusal's number is 0, else the refusal's number
abbrev pub answer_of : {A : Type 0} → Alone A → Result A ℕ
answer_of a = cond (eqb a.refusal 0) (Ok a.answer) (Err a.refusal)

-- an answer is given with 0 for the refusal, a refusal with `none` for the answer
abbrev pub answer_as : {A : Type 0} → A → Result A ℕ → Alone A
answer_as none (Ok x) = record { refusal = 0; answer = x }
answer_as none (Err n) = record { refusal = n; answer = none }
