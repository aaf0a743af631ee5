-- `set_material` meets its contract. Assumes nothing.
use Rattle.sheet_line_effects.proofs.TakeLaws.{material_set}
use borrow.Author.Rules.{rules}
use Rattle.sheet_line_effects.proofs.set_material.Goals as goal

pub returns : goal.returns
returns c = search (rules, material_set)
