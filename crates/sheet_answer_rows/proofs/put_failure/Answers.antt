-- `put_failure` meets its contract. Assumes nothing.
use mathlib.Core.Path.{refl}
use Rattle.sheet_digits.specs.Bytes.{bytes}
use Rattle.sheet_lines.specs.Forms.{numbers}
use Rattle.sheet_lines.specs.Pattern.{piece, split}
use Rattle.sheet_answer_rows.specs.Rows.{empty_form, escape_form, upstream_form}
use Rattle.sheet_answer_rows.specs.FormLaws.{as_form}
use Rattle.sheet_answer_rows.proofs.RowLaws.{failed_empty, failed_escape, failed_upstream}
use borrow.Author.Rules.{rules}
use Rattle.sheet_answer_rows.proofs.put_failure.Goals as goal

pub returns-in-0 : goal.returns-in-0
unfolding piece split numbers
returns-in-0 c = search (rules, failed_empty, as_form empty_form (bytes "(failed## (empty))") refl)

pub returns-in-256 : goal.returns-in-256
unfolding piece split numbers
returns-in-256 c = search (rules, failed_escape, as_form escape_form (bytes "(failed## (escape$$))") refl)

pub returns-in_default : goal.returns-in_default
unfolding piece split numbers
returns-in_default c = search (rules, failed_upstream, as_form upstream_form (bytes "(failed## (upstream#))") refl)
