-- What reading a plan leaves, by the definition. Assumes nothing.
use Rattle.std.specs.Prelude.{List, ◌≡◌, ℕ, ℤ, Result}
use Rattle.plan_definition.specs.Answers.{plan_answer, reading_of}
use Rattle.plan_definition.specs.Reading.{list_after}

-- A plan's text was read into a list that held E and holds W now: the answer and the list are what the definition has.
pub record PlanRead (text : List ℕ) (E W : List ℤ) (r : Result ℕ ℕ) : Type 0 where
  pub answer : r ≡ plan_answer (reading_of text E)
  pub list : W ≡ list_after (reading_of text E) E
