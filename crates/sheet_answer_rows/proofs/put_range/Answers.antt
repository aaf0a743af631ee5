-- `put_range` meets its contract. Assumes nothing.
use mathlib.Core.Path.{refl}
use Rattle.sheet_digits.specs.Bytes.{bytes}
use Rattle.sheet_lines.specs.Forms.{numbers}
use Rattle.sheet_lines.specs.Pattern.{piece, split}
use Rattle.sheet_answer_rows.specs.Rows.{range_form}
use Rattle.sheet_answer_rows.specs.FormLaws.{as_form}
use borrow.Author.Rules.{rules}
use Rattle.sheet_answer_rows.proofs.put_range.Goals as goal

pub returns : goal.returns
unfolding piece split numbers
returns c = search (rules, as_form range_form (bytes "(range####)") refl)
