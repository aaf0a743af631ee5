-- The failure that an answer tells of. Assumes nothing.
use Rattle.std.specs.Prelude.{Result, Ok, Err}
use Rattle.std.proofs.Math.Option.{Option, none, some}
use Rattle.mesh_verdicts.specs.declared.Failure.{Failure}

-- the failure that an answer tells of
abbrev pub failure_in : {A : Type 0} → Result A Failure → Option Failure
failure_in (Ok a) = none
failure_in (Err f) = some f
