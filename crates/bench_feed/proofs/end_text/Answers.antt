-- `end_text` ends the text. Assumes nothing.
use Rattle.bench_feed.proofs.FeedLaws.{text_ended}
use Rattle.bench_feed.proofs.end_text.Goals as goal

pub returns : goal.returns
returns c = text_ended _ _ _ _ c.front.ensures c.end_sheet.ensures
