-- `take_byte` keeps the byte, or has the line read. Assumes nothing.
use Rattle.bench_feed.proofs.FeedLaws.{fed_byte, fed_line, kept_within}
use borrow.Author.Rules.{rules}
use Rattle.bench_feed.proofs.take_byte.Goals as goal

pub returns-then-c-eq10 : goal.returns-then-c-eq10
returns-then-c-eq10 c = fed_line _ _ _ _ _ _ _ _ _ _ _ _ _ _ _ c.if-c-eq10.true c.front-kept.ensures c.read_line-t.ensures

pub put_byte-n-requires : goal.put_byte-n-requires
put_byte-n-requires c = search (rules, kept_within)

pub returns : goal.returns
returns c = fed_byte _ _ _ _ _ _ _ _ _ _ _ c.if-c-eq10.false c.front-kept.ensures c.put_byte-n.ensures
