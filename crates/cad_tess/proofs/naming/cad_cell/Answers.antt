-- `cad_cell` meets its contract. Assumes nothing.
use mathlib.Core.Path.{ap, ◌∙◌}
use Rattle.cad_answers.specs.Naming.{cad_cell}
use Rattle.cad_tess.proofs.naming.cad_cell.Goals as goal

pub returns : goal.returns
returns c = c.into.ensures ∙ ap cad_cell c.cell.ensures
