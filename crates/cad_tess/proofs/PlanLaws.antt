-- The laws of the calls of a plan: the struct and the slice are the definition's. Assumes nothing.
use mathlib.Core.List.{List}
use mathlib.Core.Path.{◌≡◌, ap, ◌∙◌}
use Prim.Native.Nat.{ℕ}
use lib.IntN.{ℤ}
use Rattle.std.specs.Prelude.{Result}
use Rattle.plan_definition.specs.Answers.{listing_answer, listing_of, plan_answer, reading_of}
use Rattle.plan_definition.specs.Reading.{list_after}
use Rattle.plan_definition.specs.Writing.{text_after}
use Rattle.plan_read.specs.Answer.{PlanRead}
use Rattle.plan_write.specs.Answer.{ListingWritten}
use Rattle.cad_answers.specs.declared.plans.CadPlanRead.{CadPlanRead}
use Rattle.cad_answers.specs.declared.plans.CadPlanWritten.{CadPlanWritten}
use Rattle.cad_answers.specs.Plans.{cad_plan_read, cad_plan_written}

pub plan_told : (text : List ℕ) (E W : List ℤ) (a : Result ℕ ℕ) (r : CadPlanRead) → PlanRead text E W a → r ≡ cad_plan_read a → r ≡ cad_plan_read (plan_answer (reading_of text E))
plan_told text E W a r v e = e ∙ ap cad_plan_read v.answer

pub plan_left : (text : List ℕ) (E W : List ℤ) (a : Result ℕ ℕ) → PlanRead text E W a → W ≡ list_after (reading_of text E) E
plan_left text E W a v = v.list

pub listing_told : (list : List ℤ) (E W : List ℕ) (a : Result ℕ ℕ) (r : CadPlanWritten) → ListingWritten list E W a → r ≡ cad_plan_written a → r ≡ cad_plan_written (listing_answer (listing_of list E))
listing_told list E W a r v e = e ∙ ap cad_plan_written v.answer

pub listing_left : (list : List ℤ) (E W : List ℕ) (a : Result ℕ ℕ) → ListingWritten list E W a → W ≡ text_after (listing_of list E) E
listing_left list E W a v = v.text
