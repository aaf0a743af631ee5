-- The words of sums along a path, and a bin's entry in a lent list. Assumes nothing.
use Rattle.std.specs.Prelude.{List, [], ◌∷◌, ◌≡◌, ℕ, suc, ◌+◌, ◌*◌, ◌^◌, ◌≤◌, ℤ, pos, ◌-ℤ◌, length}
use Rattle.signed_numbers.specs.Range.{farthest}
use Rattle.slice_append.specs.Appended.{Appended}
use Rattle.plan_definition.specs.Places.{Place, moved}
use Rattle.plan_definition.specs.Grammar.{Entry, entry}
use Rattle.plan_definition.specs.Reading.{entry_width, list_of}
use Rattle.plan_lines.specs.Given as Given
use Rattle.plan_lines.specs.Given.{place_of}
use Rattle.plan_definition.specs.declared.PlaceWords.{PlaceWords}
use Rattle.plan_lines.specs.declared.places.SumWords.{SumWords}

-- the word of sum 0
abbrev pub sum_zero : ℕ
sum_zero = 2 ^ 45

-- the sum of a word
abbrev pub sum_word : ℕ → ℤ
sum_word n = pos n -ℤ pos sum_zero

-- the sum of its words
abbrev pub sum_of : SumWords → Place
sum_of w = record { x = sum_word w.x; y = sum_word w.y; z = sum_word w.z }

-- the words of the sum of no offsets
abbrev pub origin_words : SumWords
origin_words = record { x = sum_zero; y = sum_zero; z = sum_zero }

-- a word of a sum of k offsets
pub record NearZero (k n : ℕ) : Type 0 where
  pub low : sum_zero ≤ n + k * farthest
  pub high : n ≤ sum_zero + k * farthest

-- the words of a sum of k offsets
pub record Near (k : ℕ) (w : SumWords) : Type 0 where
  pub on_x : NearZero k w.x
  pub on_y : NearZero k w.y
  pub on_z : NearZero k w.z

-- the words of an offset
abbrev pub InWords : PlaceWords → Type 0
InWords w = Given.InWords w

-- r is a sum of k offsets with one more
pub record MovedTo (k : ℕ) (sum : SumWords) (offset : PlaceWords) (r : SumWords) : Type 0 where
  pub is : sum_of r ≡ moved (sum_of sum) (place_of offset)
  pub near : Near (suc k) r

-- a bin at a sum
abbrev pub entry_for : ℕ → SumWords → Entry
entry_for n sum = entry (pos n) (sum_of sum)

-- an entry was put behind so many of a list, where there was room for it
pub record EntryPut (E : List ℤ) (count : ℕ) (e : Entry) (W : List ℤ) : Type 0 where
  pub long : length W ≡ length E
  pub put : entry_width * count + entry_width ≤ length E → Appended (entry_width * count) (list_of (e ∷ [])) E W
