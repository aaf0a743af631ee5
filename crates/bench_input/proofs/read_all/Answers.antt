-- What a read feeds stands behind what was fed before it. Assumes nothing.
use Rattle.std.proofs.Common.{rules}
use Rattle.bench_feed.specs.FeedingLaws.{fed_further, fed_nothing}
use Rattle.bench_input.proofs.read_all.Goals as goal

pub loop-turn-init : goal.loop-turn-init
loop-turn-init g c = search (rules, fed_nothing)

pub returns-in-Break : goal.returns-in-Break
returns-in-Break g c = fed_further _ _ _ _ _ _ _ _ _ _ _ _ _ _ _ _ _ _ _ _ _ c.loop-turn.invariant.6 c.in-Break.ensures

pub loop-turn-preserved : goal.loop-turn-preserved
loop-turn-preserved g c = (
  search (rules, c.read_some-turn.auto, c.loop-turn.invariant),
  search (rules, c.read_some-turn.auto, c.loop-turn.invariant),
  search (rules, c.read_some-turn.auto, c.loop-turn.invariant),
  search (rules, c.read_some-turn.auto, c.loop-turn.invariant),
  search (rules, c.read_some-turn.auto, c.loop-turn.invariant),
  search (rules, c.read_some-turn.auto, c.loop-turn.invariant),
  fed_further _ _ _ _ _ _ _ _ _ _ _ _ _ _ _ _ _ _ _ _ _ c.loop-turn.invariant.6 c.in-Continue.ensures,
)
