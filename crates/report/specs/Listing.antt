-- Entries written to the lent face list from their words. Assumes nothing.
use Rattle.std.specs.Prelude.{◌≡◌, List, [], ◌∷◌, ◌++◌, ℕ, ◌+◌, ◌*◌, ◌/◌, ◌%◌, ◌≤◌, length}
use Rattle.std.proofs.Common.{ap, ◌∙◌}
use Rattle.report_definition.specs.Report.{entry_width}

-- the numbers of an entry whose word has the count above the face number
abbrev pub word_numbers : ℕ → List ℕ
word_numbers x = x % 4294967296 ∷ x / 4294967296 ∷ []

-- what writing r entries asks: their words stand from `at` on, and the list has room for them behind its first entries
pub record ListReady (W : List ℕ) (at r : ℕ) (list : List ℕ) (listed : ℕ) : Type 0 where
  pub there : at + r ≤ length W
  pub room : entry_width * (listed + r) ≤ length list
