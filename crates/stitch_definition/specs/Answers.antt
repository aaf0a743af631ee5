-- Stitch's answer as an enum, with what the lent slices hold. Assumes nothing.
use Rattle.stitch_definition.specs.declared.Sizes.{Sizes}
use Rattle.std.specs.Prelude.{true, false, List, ℕ, eqb, Float, Result, Ok, Err}
use Rattle.stitch_definition.specs.Slices.{StitchSlices, AfterStitch}

-- stitch's answer, and what the lent slices hold
pub record LeftStitch : Type 0 where
  pub answer : Result Sizes ℕ
  pub slices : StitchSlices

-- the slices
abbrev pub slices_of : List ℕ → List Float → List Float → List ℕ → List ℕ → StitchSlices
slices_of table ps ns is work = record { table = table; positions = ps; normals = ns; indices = is; work = work }

-- the answer with the slices
abbrev pub left_stitch : Result Sizes ℕ → StitchSlices → LeftStitch
left_stitch a s = record { answer = a; slices = s }

-- 01's number and values for each answer
abbrev pub stitch_answer : AfterStitch → Result Sizes ℕ
stitch_answer t = elim (eqb t.refusal 0) [ true ↦ Ok (record { vertices = t.vertices; indices = t.indices; splits = t.splits }) | false ↦ Err t.refusal ]

-- what the definition says of the call, with the answer as stitch gives it
abbrev pub stitch_answered : AfterStitch → LeftStitch
stitch_answered t = left_stitch (stitch_answer t) t.slices
