-- `body_rows::rows::number` meets its contract. Assumes nothing.
use native.Mathlib.Omega.{arith}
use Rattle.body_rows.specs.Rows.{row_room, row_column}
use borrow.Author.Rules.{rules}
use Rattle.body_rows.proofs.rows.number.Goals as goal

pub overflow_mul-result : goal.overflow_mul-result
overflow_mul-result c = omega (arith, row_room c.args.rows.now c.args.k c.requires.row)

pub overflow_add-result : goal.overflow_add-result
overflow_add-result c = omega (arith, row_room c.args.rows.now c.args.k c.requires.row)

pub offset_bounds-rows-k : goal.offset_bounds-rows-k
offset_bounds-rows-k c = omega (arith, row_room c.args.rows.now c.args.k c.requires.row)

pub bounds-rows-k : goal.bounds-rows-k
bounds-rows-k c = omega (arith, row_room c.args.rows.now c.args.k c.requires.row)

pub returns : goal.returns
returns c = search (rules, row_column)
