-- `point_key::key::key_bytes` meets its contract. Assumes nothing.
use Rattle.point_key.proofs.Steps.{bytes_none, bytes_more, bytes_all}
use Rattle.point_key.proofs.key.key_bytes.Goals as goal

pub loop-init : goal.loop-init
loop-init c = search bytes_none

pub loop-preserved : goal.loop-preserved
loop-preserved c = search bytes_more

pub returns : goal.returns
returns c = search bytes_all
