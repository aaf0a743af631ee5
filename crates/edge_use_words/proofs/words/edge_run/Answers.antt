-- `edge_run` meets its contract. Assumes nothing.
use Rattle.edge_use_words.proofs.WordLaws.{run_equal, run_up, run_down}
use Rattle.edge_use_words.proofs.words.edge_run.Goals as goal

pub returns-then-a-b : goal.returns-then-a-b
returns-then-a-b c = search run_equal

pub returns-then-a-b-2 : goal.returns-then-a-b-2
returns-then-a-b-2 c = search run_up

pub returns : goal.returns
returns c = search run_down
