-- Laws of a refusal's number: it is never 0, so an answer fails a check exactly if it is an error. Assumes nothing.
use Rattle.std.proofs.Common.{◌≡◌, ◌∙◌, ap, arith, ◌<◌, Result, Ok, Continue}
use Rattle.std.specs.Result.{result_from_control_flow}
use Rattle.refusals.specs.declared.Refusal.{Refusal}
use Rattle.refusals.specs.declared.Refusal.TheVariants.{Table, Outcome, Limit, Lengths, Bin, Triangles, Index, NotFinite, Clamped, WorkArea, Output, StitchedLimit, Mesh, Material, Sheet, SheetLimit, Line, Depth, Place, Entries, Peg, BinList, Page, Text, FaceList, FileRoom, FileLength, FileTriangles, FileCorner, ReadRoom}
use Rattle.refusals.specs.Numbers.{number, failing}

-- a refusal's number is above 0
pub number_positive : (e : Refusal) → 0 < number e
number_positive Table = omega arith
number_positive Outcome = omega arith
number_positive Limit = omega arith
number_positive Lengths = omega arith
number_positive Bin = omega arith
number_positive Triangles = omega arith
number_positive Index = omega arith
number_positive NotFinite = omega arith
number_positive Clamped = omega arith
number_positive WorkArea = omega arith
number_positive Output = omega arith
number_positive StitchedLimit = omega arith
number_positive Mesh = omega arith
number_positive Material = omega arith
number_positive Sheet = omega arith
number_positive SheetLimit = omega arith
number_positive Line = omega arith
number_positive Depth = omega arith
number_positive Place = omega arith
number_positive Entries = omega arith
number_positive Peg = omega arith
number_positive BinList = omega arith
number_positive Page = omega arith
number_positive Text = omega arith
number_positive FaceList = omega arith
number_positive FileRoom = omega arith
number_positive FileLength = omega arith
number_positive FileTriangles = omega arith
number_positive FileCorner = omega arith
number_positive ReadRoom = omega arith

-- no refusal has the number 0
pub number_nonzero : (e : Refusal) → number e ≡ 0 → ⊥
number_nonzero e z = omega (arith, number_positive e, z)

-- an answer that is no error fails no check
pub none_failing : {A : Type 0} {r : Result A Refusal} {a : A} → r ≡ Ok a → failing r ≡ 0
none_failing h = ap failing h

-- an answer that `?` goes on from fails no check
pub going_on : {A : Type 0} {r : Result A Refusal} {b : _} {a : A} → r ≡ result_from_control_flow b → b ≡ Continue a → failing r ≡ 0
going_on e f = ap failing (e ∙ ap result_from_control_flow f)
