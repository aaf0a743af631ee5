-- A text fed piece by piece: what the reader, its slices and the line's buffer stand for. Assumes nothing.
use Rattle.std.specs.Prelude.{List, [], ◌∷◌, ◌++◌, ◌≡◌, ℕ, ◌≤◌, T, length, take}
use Rattle.sheet_line_order.specs.declared.Limits.{Limits}
use Rattle.sheet_line_order.specs.Laws.{no_lF}
use Rattle.sheet_line_order.specs.Reading.{State, cut, read_from, sheet_of}
use Rattle.sheet_reader_state.specs.declared.Reader.{Reader}
use Rattle.sheet_reader_state.specs.Kept.{Kept}
use Rattle.sheet_reader_state.specs.Slices.{lent}
use Rattle.sheet_meaning.specs.Bench.{program}
use Rattle.sheet_meaning.specs.Answered.{answer_in}
use Rattle.bench_feed.specs.declared.Fed.{Fed}
use Rattle.bench_definition.specs.Finish.{mesh_slices}
use Rattle.bench_call_texts.specs.Told.{Told}
use Rattle.bench_call_texts.specs.Texts.{bytes_in}

-- A text was fed: the lines before its last LF were read, giving the state, and what stands after that LF, the tail, is in the buffer, as far as it has room. However the text goes on, the
-- sheet is what the state and the tail then give.
pub record SoFar (limits : Limits) (text : List ℕ) (f : Fed) (line table positions normals indices materials : List ℕ) : Type 0 where
  pub state : State
  pub within : state.limits ≡ limits
  pub tail : List ℕ
  pub plain : T (no_lF tail)
  pub means : (rest : List ℕ) → sheet_of limits (text ++ rest) ≡ read_from state (cut (tail ++ rest))
  pub kept : Kept (lent f.reader table positions normals indices materials) state
  pub room : 108 ≤ length line
  pub buffer : take f.length line ≡ take (length line) tail
  pub count : f.length ≡ length (take (length line) tail)

-- a stretch of the text was fed behind what was
pub record FedOn (part : List ℕ) (f : Fed) (line table positions normals indices materials : List ℕ) (g : Fed) (line' table' positions' normals' indices' materials' : List ℕ) : Type 0 where
  pub goes : (limits : Limits) (text : List ℕ) → SoFar limits text f line table positions normals indices materials → SoFar limits (text ++ part) g line' table' positions' normals' indices' materials'

-- some stretch of the text was fed behind what was
pub record FedSome (f : Fed) (line table positions normals indices materials : List ℕ) (g : Fed) (line' table' positions' normals' indices' materials' : List ℕ) : Type 0 where
  pub part : List ℕ
  pub fed : FedOn part f line table positions normals indices materials g line' table' positions' normals' indices' materials'

-- A text whose reading failed where it stands: an empty line, which is no form, follows what was read.
abbrev pub failed_read : List ℕ
failed_read = 10 ∷ 10 ∷ []

-- the text has ended: what is printed of the reader and its slices is what the program of these limits is to print of the text
pub record Ended (f : Fed) (line : List ℕ) (r : Reader) : Type 0 where
  pub within : r.limits ≡ f.reader.limits
  pub goes : (limits : Limits) (text table positions normals indices materials : List ℕ) → SoFar limits text f line table positions normals indices materials
      → answer_in (lent r table positions normals indices materials) ≡ program limits text

-- what the program of these limits is to print of some text was written; which one, no contract of a read could say
pub record Answered (limits : Limits) (E W : List ℕ) (r : ℕ) : Type 0 where
  pub text : List ℕ
  pub told : Told (bytes_in (mesh_slices limits)) E (program limits text) W r
