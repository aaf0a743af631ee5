-- What the code answers, with what the lent slices hold afterwards. Assumes nothing.
use Rattle.std.specs.Prelude.{List, ℕ, Result, Ok, Err, Float}
use Rattle.stl_definition.specs.Write.{AfterWrite}
use Rattle.stl_definition.specs.Read.{ReadSlices, AfterRead}

-- the writer's answer, how long the file is or the refusal's number, and the lent slice
abbrev pub left_written : Result ℕ ℕ → List ℕ → AfterWrite
left_written (Ok n) bytes = record { refusal = 0; length = n; bytes = bytes }
left_written (Err n) bytes = record { refusal = n; length = 0; bytes = bytes }

-- the slices that the reader is lent
abbrev pub slices : List ℕ → List Float → List Float → List ℕ → ReadSlices
slices table ps ns is = record { table = table; positions = ps; normals = ns; indices = is }

-- the reader's answer, how many vertices were read (as many as the indices) or the refusal's number, and the lent slices
abbrev pub left_read : Result ℕ ℕ → ReadSlices → AfterRead
left_read (Ok n) out = record { refusal = 0; vertices = n; indices = n; slices = out }
left_read (Err n) out = record { refusal = n; vertices = 0; indices = 0; slices = out }
