-- What cad_stitch answers and leaves. Assumes nothing.
use Rattle.std.specs.Prelude.{ℕ, Result, Ok, Err}
use Rattle.stitch_definition.specs.declared.Sizes.{Sizes}
use Rattle.stitch_definition.specs.Slices.{StitchSlices, AfterStitch}
use Rattle.cad_answers.specs.declared.stitching.CadStitched.{CadStitched}

-- 01's number and values for each answer
abbrev pub cad_stitched : Result Sizes ℕ → CadStitched
cad_stitched (Ok s) = record { refusal = 0; vertices = s.vertices; indices = s.indices; splits = s.splits }
cad_stitched (Err n) = record { refusal = n; vertices = 0; indices = 0; splits = 0 }

-- the answer, and what the lent slices hold
abbrev pub left_after_stitch : CadStitched → StitchSlices → AfterStitch
left_after_stitch r s = record { refusal = r.refusal; vertices = r.vertices; indices = r.indices; splits = r.splits; slices = s }
