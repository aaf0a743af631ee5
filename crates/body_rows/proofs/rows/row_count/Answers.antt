-- `body_rows::rows::row_count` meets its contract. Assumes nothing.
use mathlib.Core.Path.{sym}
use Rattle.body_rows.specs.Rows.{length_rows}
use Rattle.body_rows.proofs.rows.row_count.Goals as goal

pub returns : goal.returns
returns c = sym (length_rows c.args.rows.now)
