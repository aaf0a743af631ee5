-- `least_square` meets its contract. Assumes nothing.
use Rattle.float_spans.proofs.SpanLaws.{square_is}
use Rattle.float_spans.proofs.Span.least_square.Goals as goal

pub returns : goal.returns
returns c = search square_is
