-- `read_input` has read some text. Assumes nothing.
use Rattle.bench_run.specs.Run.{input_read}
use Rattle.bench_run.proofs.read_input.Goals as goal

pub returns : goal.returns
returns g c = input_read _ _ _ _ _ _ _ _ _ _ _ _ _ _ _ _ _ c.begin-s.ensures c.read_all-fed.ensures c.end_text.ensures
