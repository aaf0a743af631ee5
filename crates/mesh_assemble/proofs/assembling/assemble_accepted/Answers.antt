-- `assemble_accepted` meets its contract. What is cleared in the end does not matter to what was written. Assumes nothing.
use Rattle.body_checks.specs.Cleared.{clearable}
use Rattle.mesh_assemble.proofs.CallLaws.{accepted_assembled}
use Rattle.mesh_assemble.proofs.assembling.assemble_accepted.Goals as goal

pub clear_words-requires : goal.clear_words-requires
clear_words-requires c = search clearable

pub returns : goal.returns
returns c =
    accepted_assembled _ c.requires c.assemble_rows-answer.ensures c.clear_words.ensures
