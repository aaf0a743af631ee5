-- `put_failure` meets its contract. Each case writes its five numbers. Assumes nothing.
use Rattle.mesh_failures.proofs.FailureLaws.{put_empty, put_upstream, put_escape}
use Rattle.mesh_failures.proofs.failures.put_failure.Goals as goal

pub returns-in-Empty : goal.returns-in-Empty
returns-in-Empty c = put_empty c.in-Empty.is c.put.ensures.appended

pub returns-in-Upstream : goal.returns-in-Upstream
returns-in-Upstream c = put_upstream c.in-Upstream.is c.put-in-Upstream.ensures.appended

pub returns-in-Escape : goal.returns-in-Escape
returns-in-Escape c = put_escape c.in-Escape.is c.bits_of_f64.ensures c.bits_of_f64-in-Escape.ensures c.put-in-Escape.ensures.appended
