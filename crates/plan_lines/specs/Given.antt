-- The code's lines as the definitions' own. Assumes nothing.
use Rattle.std.specs.Prelude.{Bool, true, false, List, [], ◌∷◌, ◌≡◌, ℕ, ◌≤◌, ◌<◌, length, drop}
use Rattle.std.proofs.Math.Option.{Option, none, some}
use Rattle.std.proofs.Math.Seq.{slice}
use Rattle.body_refusals.specs.TableChecks.{most_bin}
use Rattle.sheet_digits.specs.OffsetLaws.{offset_words}
use Rattle.plan_definition.specs.Places.{Place}
use Rattle.plan_definition.specs.Lines as Lines
use Rattle.plan_definition.specs.Lines.{line_of, lines_of, offsets_of}
use Rattle.plan_definition.specs.declared.PlaceWords.{PlaceWords}
use Rattle.plan_lines.specs.declared.lines.LineAt.{LineAt}
use Rattle.plan_lines.specs.declared.lines.PlanLine.{PlanLine}

-- the line of a text at a place ends at r: the bytes between are its first line
pub record LineEnd (text : List ℕ) (at r : ℕ) : Type 0 where
  pub more : at < r
  pub within : r ≤ length text
  pub cut : lines_of (drop at text) ≡ slice at r text ∷ lines_of (drop r text)

-- the offset of its words
abbrev pub place_of : PlaceWords → Place
place_of w = offsets_of w.x w.y w.z

-- the line that an answer tells of
unfoldable pub given : PlanLine → Option Lines.Line
given (PlanLine.Open w) = some (Lines.Open (place_of w))
given (PlanLine.Bin n w) = some (Lines.Bin n (place_of w))
given PlanLine.Close = some Lines.Close
given PlanLine.Malformed = none
given PlanLine.End = none

-- each is the word of an offset
pub record InWords (w : PlaceWords) : Type 0 where
  pub x_small : w.x < offset_words
  pub y_small : w.y < offset_words
  pub z_small : w.z < offset_words

-- the numbers of an answer are in range
unfoldable pub Small : PlanLine → Type 0
Small (PlanLine.Open w) = InWords w
Small (PlanLine.Bin n w) = (n ≤ most_bin) × InWords w
Small PlanLine.Close = Unit {0}
Small PlanLine.Malformed = Unit {0}
Small PlanLine.End = Unit {0}

-- whether an answer tells of the end of the text
unfoldable pub ended : PlanLine → Bool
ended (PlanLine.Open w) = false
ended (PlanLine.Bin n w) = false
ended PlanLine.Close = false
ended PlanLine.Malformed = false
ended PlanLine.End = true

-- r tells of the line that a text was read as
pub record Line (o : Option Lines.Line) (r : PlanLine) : Type 0 where
  pub is : given r ≡ o
  pub small : Small r
  pub there : ended r ≡ false

-- the text from a place on begins with a line that r tells of, and the next one begins behind it
pub record Begins (text : List ℕ) (at : ℕ) (r : LineAt) : Type 0 where
  pub bytes : List ℕ
  pub cut : lines_of (drop at text) ≡ bytes ∷ lines_of (drop r.end text)
  pub is : given r.line ≡ line_of bytes
  pub more : at < r.end

-- r tells of the line at a place, or that no line follows
pub record Found (text : List ℕ) (at : ℕ) (r : LineAt) : Type 0 where
  pub within : r.end ≤ length text
  pub from : at ≤ r.end
  pub small : Small r.line
  pub begins : ended r.line ≡ false → Begins text at r
  pub none_left : ended r.line ≡ true → lines_of (drop at text) ≡ []
