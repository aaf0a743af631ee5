-- `nearest_to_zero` meets its contract. Assumes nothing.
use Rattle.float_spans.proofs.SpanLaws.{nearest_low, nearest_high, nearest_none}
use Rattle.float_spans.proofs.Span.nearest_to_zero.Goals as goal

pub returns-then-self : goal.returns-then-self
returns-then-self c = search nearest_low

pub returns-then-self-2 : goal.returns-then-self-2
returns-then-self-2 c = search nearest_high

pub returns : goal.returns
returns c = search nearest_none
