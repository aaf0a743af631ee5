-- `put_counts` meets its contract. Assumes nothing.
use mathlib.Core.Path.{◌∙◌}
use Rattle.sheet_answer_text.proofs.CountLaws.{as_number, counts_written}
use Rattle.sheet_answer_text.proofs.put_counts.Goals as goal

pub shape_of-out : goal.shape_of-out
shape_of-out c = c.put_count.ensures.long ∙ c.put_count-g.ensures.long ∙ c.put_count-f.ensures.long ∙ c.put_count-e.ensures.long ∙ c.put_count-d.ensures.long ∙ c.put_count-c.ensures.long ∙ c.put_count-b.ensures.long ∙ c.put_count-a.ensures.long

pub returns : goal.returns
returns c = counts_written _ (c.from.ensures ∙ as_number _) c.put_count-a.ensures c.put_count-b.ensures c.put_count-c.ensures c.put_count-d.ensures c.put_count-e.ensures c.put_count-f.ensures c.put_count-g.ensures c.put_count.ensures
