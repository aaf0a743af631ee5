-- A read that brings nothing feeds nothing. Assumes nothing.
use Rattle.bench_feed.specs.FeedingLaws.{fed_nothing}
use Rattle.bench_input.proofs.read_some.Goals as goal

pub returns-in-Ok-eq0 : goal.returns-in-Ok-eq0
returns-in-Ok-eq0 g c = fed_nothing _ _ _ _ _ _ _

pub returns-in-Err : goal.returns-in-Err
returns-in-Err g c = fed_nothing _ _ _ _ _ _ _
