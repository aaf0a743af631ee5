-- `run_row` meets its contract. Assumes nothing.
use Rattle.edge_uses.specs.Named.{use_run}
use Rattle.edge_use_words.proofs.rows.run_row.Given as goal

abbrev pub ghost-write_row : goal.ghost-write_row
ghost-write_row a = use_run
