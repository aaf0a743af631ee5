-- `feed` takes in the stretch byte by byte. Assumes nothing.
use Rattle.bench_feed.proofs.FeedLaws.{fed_all, fed_more, fed_none}
use borrow.Author.Rules.{rules}
use Rattle.bench_feed.proofs.feed.Goals as goal

pub loop-c-init : goal.loop-c-init
loop-c-init c = search (rules, fed_none)

pub loop-c-preserved : goal.loop-c-preserved
loop-c-preserved c = (search rules, search rules, search rules, search rules, search rules, search rules, fed_more _ _ _ _ _ _ _ _ _ _ _ _ _ _ _ _ c.loop-c.invariant.6 _ _ _ _ _ _ _ c.loop-c-test.true c.take_byte-g.ensures)

pub returns : goal.returns
returns c = fed_all _ _ _ _ _ _ _ _ _ _ _ _ _ _ _ _ c.loop-c.invariant.6 c.loop-c-test.false
