-- `cad_key` meets its contract. Assumes nothing.
use mathlib.Core.Path.{ap, ◌∙◌}
use Rattle.cad_answers.specs.Naming.{cad_key}
use Rattle.cad_tess.proofs.naming.cad_key.Goals as goal

pub returns : goal.returns
returns c = c.into.ensures ∙ ap cad_key c.key.ensures
