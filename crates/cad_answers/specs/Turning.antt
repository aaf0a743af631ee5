-- What cad_turn answers and leaves. Assumes nothing.
use Rattle.turn_definition.specs.declared.TurnCounts.{TurnCounts}
use Rattle.std.specs.Prelude.{List, ℕ, Float, Result, Ok, Err}
use Rattle.turn_definition.specs.Orient.{AfterTurn}
use Rattle.cad_answers.specs.declared.turning.CadTurned.{CadTurned}

-- 01's number and values for each answer
abbrev pub cad_turned : Result TurnCounts ℕ → CadTurned
cad_turned (Ok c) = record { refusal = 0; turned = c.turned; against = c.against }
cad_turned (Err n) = record { refusal = n; turned = 0; against = 0 }

-- the answer, and what the lent slices hold
abbrev pub left_after_turn : CadTurned → List Float → List ℕ → List ℕ → AfterTurn
left_after_turn r ns is work = record { refusal = r.refusal; turned = r.turned; against = r.against; normals = ns; indices = is; work = work }
