-- The numbers of refusals, and answers that say them. Assumes nothing.
use Rattle.std.specs.Prelude.{ℕ, Result, Ok, Err}
use Rattle.refusals.specs.declared.Refusal.{Refusal}
use Rattle.refusals.specs.declared.Refusal.TheVariants.{Table, Outcome, Limit, Lengths, Bin, Triangles, Index, NotFinite, Clamped, WorkArea, Output, StitchedLimit, Mesh, Material, Sheet, SheetLimit, Line, Depth, Place, Entries, Peg, BinList, Page, Text, FaceList, FileRoom, FileLength, FileTriangles, FileCorner, ReadRoom}

-- the number of the check that fails
abbrev pub number : Refusal → ℕ
number Table = 11
number Outcome = 12
number Limit = 13
number Lengths = 14
number Bin = 15
number Triangles = 21
number Index = 22
number NotFinite = 23
number Clamped = 24
number WorkArea = 31
number Output = 32
number StitchedLimit = 33
number Mesh = 41
number Material = 42
number Sheet = 51
number SheetLimit = 52
number Line = 61
number Depth = 62
number Place = 63
number Entries = 64
number Peg = 65
number BinList = 66
number Page = 67
number Text = 68
number FaceList = 69
number FileRoom = 71
number FileLength = 72
number FileTriangles = 73
number FileCorner = 74
number ReadRoom = 75

-- the number of the first check that fails, else 0
abbrev pub failing : {A : Type 0} → Result A Refusal → ℕ
failing (Ok a) = 0
failing (Err r) = number r

-- an answer that says why a call is refused by number
abbrev pub numbered : {A : Type 0} → Result A Refusal → Result A ℕ
numbered (Ok a) = Ok a
numbered (Err r) = Err (number r)
