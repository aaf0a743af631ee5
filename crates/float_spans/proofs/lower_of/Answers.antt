-- `float_spans::lower_of` meets its contract. Assumes nothing.
use Rattle.float_spans.proofs.SpanLaws.{lower_yes, lower_no}
use Rattle.float_spans.proofs.lower_of.Goals as goal

pub returns-then-a-b : goal.returns-then-a-b
returns-then-a-b c = search lower_yes

pub returns : goal.returns
returns c = search lower_no
