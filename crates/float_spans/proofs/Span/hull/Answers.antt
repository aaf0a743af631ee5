-- `float_spans::Span::hull` meets its contract. Assumes nothing.
use Rattle.float_spans.proofs.SpanLaws.{hull_is}
use Rattle.float_spans.proofs.Span.hull.Goals as goal

pub returns : goal.returns
returns c = search hull_is
