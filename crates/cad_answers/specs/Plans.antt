-- The answers of reading and writing a plan as the C structs. Assumes nothing.
use Rattle.std.specs.Prelude.{ℕ, Result, Ok, Err}
use Rattle.cad_answers.specs.declared.plans.CadPlanRead.{CadPlanRead}
use Rattle.cad_answers.specs.declared.plans.CadPlanWritten.{CadPlanWritten}

-- 02's number and values for each answer
abbrev pub cad_plan_read : Result ℕ ℕ → CadPlanRead
cad_plan_read (Ok n) = record { refusal = 0; entries = n }
cad_plan_read (Err n) = record { refusal = n; entries = 0 }

abbrev pub cad_plan_written : Result ℕ ℕ → CadPlanWritten
cad_plan_written (Ok n) = record { refusal = 0; length = n }
cad_plan_written (Err n) = record { refusal = n; length = 0 }
