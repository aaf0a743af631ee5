-- `escape::escapes_alone` meets its contract. Assumes nothing.
use Rattle.refusals.specs.Laws.{going_on, none_failing}
use Rattle.patch_alone.proofs.AloneLaws.{escapes_answered}
use Rattle.patch_alone.proofs.escape.escapes_alone.Goals as goal

pub returns : goal.returns
returns c = search (escapes_answered, none_failing, going_on)
