-- `body_table_checks::table::wrong_lengths` meets its contract. Assumes nothing.
use Rattle.body_table_checks.specs.TableFirst.{lengths_positions, lengths_normals, lengths_indices}
use Rattle.body_table_checks.proofs.table.wrong_lengths.Goals as goal

pub returns-then-positions-v : goal.returns-then-positions-v
returns-then-positions-v c = search lengths_positions

pub returns-then-normals-v : goal.returns-then-normals-v
returns-then-normals-v c = search lengths_normals

pub returns : goal.returns
returns c = search lengths_indices
