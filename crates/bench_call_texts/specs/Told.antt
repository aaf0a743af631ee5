-- A text of the program's answer written whole or cut off, and a refusal's. Assumes nothing.
use Rattle.std.specs.Prelude.{List, ℕ, ◌+◌, ◌≤◌, length}
use Rattle.std.proofs.Common.{arith}
use Rattle.sheet_answer_text.specs.Answer.{Written, refusal_line}
use Rattle.sheet_answer_text.specs.Longest.{refusal_length}

-- a text was written into E, cut off where E ends, and has at most 504 bytes more than the lines of the mesh may take
pub record Told (lines : ℕ) (E text W : List ℕ) (r : ℕ) : Type 0 where
  pub written : Written E text W r
  pub few : length text ≤ lines + 504

-- a refusal has so few
pub told_refusal : (lines : ℕ) (E : List ℕ) (n : ℕ) (W : List ℕ) (r : ℕ) → Written E (refusal_line n) W r → Told lines E (refusal_line n) W r
told_refusal lines E n W r v = record { written = v; few = omega (arith, refusal_length n) }
