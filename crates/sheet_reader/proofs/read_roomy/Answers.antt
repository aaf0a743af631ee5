-- `read_roomy` meets its contract. Assumes nothing.
use Rattle.sheet_reader.proofs.LineLaws.{roomy_fitting, roomy_line, roomy_nothing}
use borrow.Author.Rules.{rules}
use Rattle.sheet_reader.proofs.read_roomy.Goals as goal

pub with_form-requires : goal.with_form-requires
with_form-requires c = search (rules, roomy_fitting)

pub returns-in-Some : goal.returns-in-Some
returns-in-Some c = roomy_line _ _ _ _ _ _ _ c.requires _ _ c.line_of.ensures _ _ c.in-Some.is c.with_form.ensures

pub returns-in-None : goal.returns-in-None
returns-in-None c = roomy_nothing _ _ _ _ _ _ _ c.requires _ _ c.line_of.ensures _ c.in-None.is c.refuse.ensures
