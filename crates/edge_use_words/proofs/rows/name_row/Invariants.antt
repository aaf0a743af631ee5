-- `name_row` meets its contract. Assumes nothing.
use Rattle.edge_uses.specs.Named.{use_name}
use Rattle.edge_use_words.proofs.rows.name_row.Given as goal

abbrev pub ghost-write_row : goal.ghost-write_row
ghost-write_row a = use_name
