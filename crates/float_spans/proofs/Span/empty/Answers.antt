-- `float_spans::Span::empty` meets its contract. Assumes nothing.
use Rattle.float_spans.proofs.SpanLaws.{empty_is}
use Rattle.float_spans.proofs.Span.empty.Goals as goal

pub returns : goal.returns
returns c = search empty_is
