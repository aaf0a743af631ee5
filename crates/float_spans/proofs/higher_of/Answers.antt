-- `float_spans::higher_of` meets its contract. Assumes nothing.
use Rattle.float_spans.proofs.SpanLaws.{higher_yes, higher_no}
use Rattle.float_spans.proofs.higher_of.Goals as goal

pub returns-then-a-b : goal.returns-then-a-b
returns-then-a-b c = search higher_yes

pub returns : goal.returns
returns c = search higher_no
