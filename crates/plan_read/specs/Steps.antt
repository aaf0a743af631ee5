-- What a step of reading says of the text that follows, the groups of any path being open. Assumes nothing.
use Rattle.std.specs.Prelude.{Bool, true, false, cond, List, [], ◌∷◌, ◌++◌, ◌≡◌, ℕ, zero, suc, ◌+◌, ◌*◌, ◌≤◌, ◌<◌, eqb, ltb, ℤ, pos, length, drop, Option, Some, None, Result, Ok, Err, IfOk}
use Rattle.slice_append.specs.Appended.{Appended}
use Rattle.plan_definition.specs.Places.{Place, total, moved, in_range}
use Rattle.plan_definition.specs.Grammar.{Entry, entry, most_depth}
use Rattle.plan_definition.specs.Lines.{lines_of}
use Rattle.plan_definition.specs.Reading.{refusal_of, entries_of, malformed, too_deep, out_of_range, too_many, entry_width, most_entries, list_of}
use Rattle.plan_definition.specs.declared.PlaceWords.{PlaceWords}
use Rattle.plan_lines.specs.declared.places.SumWords.{SumWords}
use Rattle.plan_lines.specs.Given.{place_of}
use Rattle.plan_lines.specs.Sums.{MovedTo, Near, sum_of}
use Rattle.plan_lines.specs.declared.lines.PlanLine.{PlanLine}
use Rattle.plan_lines.specs.declared.lines.PlanLine.TheVariants as PlanLine
use Rattle.plan_read.specs.declared.path.Path.{Path}
use Rattle.plan_read.specs.declared.items.Step.{Step}

-- ---- single steps

abbrev pub step : Bool → ℕ → ℕ → Step
step closed next count = record { closed = closed; next = next; count = count }

-- a bracket with so many groups open
abbrev pub closed_step : ℕ → ℕ → ℕ → Result Step ℕ
closed_step depth next count = cond (eqb depth 0) (Err malformed) (Ok (step true next count))

-- the end of the text with so many groups open
abbrev pub end_step : ℕ → ℕ → ℕ → Result Step ℕ
end_step depth next count = cond (eqb depth 0) (Ok (step true next count)) (Err malformed)

-- a bin at a place: it stands if the place is in range and there is room
abbrev pub bin_step : Place → ℕ → ℕ → ℕ → Result Step ℕ
bin_step place next count room = cond (in_range place) (cond (ltb count room) (Ok (step false next (suc count))) (Err too_many)) (Err out_of_range)

-- a bin was read: its place is the sum along its path, and its entry is in the list if it stands
pub record BinRead (bin : ℕ) (offset : PlaceWords) (sum : SumWords) (next count room : ℕ) (E W : List ℤ) (r : Result Step ℕ) : Type 0 where
  pub long : length W ≡ length E
  pub is : r ≡ bin_step (moved (sum_of sum) (place_of offset)) next count room
  pub put : IfOk r (λ s. entry_width * room ≤ length E → Appended (entry_width * count) (list_of (entry (pos bin) (moved (sum_of sum) (place_of offset)) ∷ [])) E W)

-- the step of a line that opens no group, or one too many
unfoldable pub leaf_step : PlanLine → ℕ → SumWords → ℕ → ℕ → ℕ → Result Step ℕ
leaf_step (PlanLine.Open o) depth sum next count room = Err too_deep
leaf_step (PlanLine.Bin n o) depth sum next count room = bin_step (moved (sum_of sum) (place_of o)) next count room
leaf_step PlanLine.Close depth sum next count room = closed_step depth next count
leaf_step PlanLine.Malformed depth sum next count room = Err malformed
leaf_step PlanLine.End depth sum next count room = end_step depth next count

-- the entries of such a line
unfoldable pub leaf_entries : PlanLine → SumWords → List Entry
leaf_entries (PlanLine.Open o) sum = []
leaf_entries (PlanLine.Bin n o) sum = entry (pos n) (moved (sum_of sum) (place_of o)) ∷ []
leaf_entries PlanLine.Close sum = []
leaf_entries PlanLine.Malformed sum = []
leaf_entries PlanLine.End sum = []

-- such a line was read
pub record LeafRead (line : PlanLine) (depth : ℕ) (sum : SumWords) (next count room : ℕ) (E W : List ℤ) (r : Result Step ℕ) : Type 0 where
  pub long : length W ≡ length E
  pub is : r ≡ leaf_step line depth sum next count room
  pub put : IfOk r (λ s. entry_width * room ≤ length E → Appended (entry_width * count) (list_of (leaf_entries line sum)) E W)

-- whether a line opens a group that may still be opened
unfoldable pub may_open : PlanLine → ℕ → Bool
may_open (PlanLine.Open o) depth = ltb depth most_depth
may_open (PlanLine.Bin n o) depth = false
may_open PlanLine.Close depth = false
may_open PlanLine.Malformed depth = false
may_open PlanLine.End depth = false

-- a line opens a group, and `inner` is the path into it
pub record OpensGroup (line : PlanLine) (depth : ℕ) (sum : SumWords) (inner : Path) : Type 0 where
  pub offset : PlaceWords
  pub is : line ≡ PlanLine.Open offset
  pub shallow : depth < most_depth
  pub deeper : inner.depth ≡ depth + 1
  pub moved_to : MovedTo depth sum offset inner.sum

-- r is the path into the group that a line opens, if it opens one
unfoldable pub Opened : PlanLine → ℕ → SumWords → Option Path → Type 0
Opened line depth sum (Some inner) = OpensGroup line depth sum inner
Opened line depth sum None = may_open line depth ≡ false

-- ---- steps along a path

-- so many groups are open, and this is the sum of their offsets
pub record Stands (path : List Place) (depth : ℕ) (sum : SumWords) : Type 0 where
  pub deep : length path ≡ depth
  pub sum_is : sum_of sum ≡ total path

-- what reading from a place on asks
pub record Ready (text : List ℕ) (at room : ℕ) : Type 0 where
  pub place : at ≤ length text
  pub few : room ≤ most_entries

-- the refusal of what follows once the innermost group is closed; with none open, nothing follows
unfoldable pub refusal_closed : ℕ → List Place → ℕ → List (List ℕ) → ℕ
refusal_closed room [] count ls = 0
refusal_closed room (o ∷ path) count ls = refusal_of room path count ls

-- the entries of what follows then
unfoldable pub entries_closed : List Place → List (List ℕ) → List Entry
entries_closed [] ls = []
entries_closed (o ∷ path) ls = entries_of path ls

-- the refusal of what follows a step, and its entries
abbrev pub refusal_after : ℕ → List Place → List ℕ → Step → ℕ
refusal_after room path text s = cond s.closed (refusal_closed room path s.count (lines_of (drop s.next text))) (refusal_of room path s.count (lines_of (drop s.next text)))

abbrev pub entries_after : List Place → List ℕ → Step → List Entry
entries_after path text s = cond s.closed (entries_closed path (lines_of (drop s.next text))) (entries_of path (lines_of (drop s.next text)))

-- no line offended from a place up to a step: the entries that were read stand in the list
pub record Went (text : List ℕ) (path : List Place) (at count room : ℕ) (E W : List ℤ) (s : Step) : Type 0 where
  pub entries : List Entry
  pub refusal : refusal_of room path count (lines_of (drop at text)) ≡ refusal_after room path text s
  pub listed : entries_of path (lines_of (drop at text)) ≡ entries ++ entries_after path text s
  pub counted : s.count ≡ count + length entries
  pub put : entry_width * room ≤ length E → Appended (entry_width * count) (list_of entries) E W

-- a step along a path: the first offending line was met, or none was
abbrev pub Along : List ℕ → List Place → ℕ → ℕ → ℕ → List ℤ → List ℤ → Result Step ℕ → Type 0
Along text path at count room E W (Err n) = refusal_of room path count (lines_of (drop at text)) ≡ n
Along text path at count room E W (Ok s) = Went text path at count room E W s

-- a step from a place, along every path that has the depth and the sum
pub record Read (text : List ℕ) (depth : ℕ) (sum : SumWords) (at count room : ℕ) (E W : List ℤ) (r : Result Step ℕ) : Type 0 where
  pub long : length W ≡ length E
  pub inside : IfOk r (λ s. s.next ≤ length text)
  pub onward : IfOk r (λ s. at ≤ s.next)
  pub along : (path : List Place) → Stands path depth sum → Along text path at count room E W r

-- an item was read: it takes a line at least, unless it ends its group
pub record ItemRead (text : List ℕ) (depth : ℕ) (sum : SumWords) (at count room : ℕ) (E W : List ℤ) (r : Result Step ℕ) : Type 0 where
  pub read : Read text depth sum at count room E W r
  pub further : IfOk r (λ s. s.closed ≡ false → at < s.next)

-- a group was read to its end
pub record GroupRead (text : List ℕ) (depth : ℕ) (sum : SumWords) (at count room : ℕ) (E W : List ℤ) (r : Result Step ℕ) : Type 0 where
  pub read : Read text depth sum at count room E W r
  pub ended : IfOk r (λ s. s.closed ≡ true)
