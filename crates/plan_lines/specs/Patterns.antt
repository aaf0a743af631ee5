-- The forms of a plan's lines as texts, each with its LF. Assumes nothing.
use Rattle.std.specs.Prelude.{List, [], ◌∷◌, ◌++◌, ◌≡◌, ℕ}
use Rattle.sheet_digits.specs.Bytes.{bytes}
use Rattle.sheet_lines.specs.Forms.{read}
use Rattle.sheet_lines.specs.Pattern.{piece, pieces, split, read_split}
use Rattle.plan_definition.specs.Lines.{group_form, bin_form, close_form}

abbrev pub group_pattern : List ℕ
group_pattern = bytes "(group%%%" ++ 10 ∷ []

abbrev pub bin_pattern : List ℕ
bin_pattern = bytes "(bin#%%%)" ++ 10 ∷ []

abbrev pub close_pattern : List ℕ
close_pattern = bytes ")" ++ 10 ∷ []

pub group_read : (xs : List ℕ) → read (pieces group_pattern) xs ≡ read group_form xs
unfolding piece split
group_read xs = read_split group_form xs

pub bin_read : (xs : List ℕ) → read (pieces bin_pattern) xs ≡ read bin_form xs
unfolding piece split
bin_read xs = read_split bin_form xs

pub close_read : (xs : List ℕ) → read (pieces close_pattern) xs ≡ read close_form xs
unfolding piece split
close_read xs = read_split close_form xs
