-- `write_answer` meets its contract. Assumes nothing.
use Rattle.sheet_answer.proofs.WholeLaws.{answer_written}
use Rattle.sheet_answer.proofs.write_answer.Goals as goal

pub returns : goal.returns
returns c = search answer_written
