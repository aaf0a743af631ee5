-- The answer of a lookup of the bins nearest a peg as the C struct. Assumes nothing.
use Rattle.std.specs.Prelude.{ℕ, Result, Ok, Err}
use Rattle.cad_answers.specs.declared.pegs.CadNearestBins.{CadNearestBins}

-- 02's number and count for each answer
abbrev pub cad_nearest_bins : Result ℕ ℕ → CadNearestBins
cad_nearest_bins (Ok n) = record { refusal = 0; bins = n }
cad_nearest_bins (Err n) = record { refusal = n; bins = 0 }
