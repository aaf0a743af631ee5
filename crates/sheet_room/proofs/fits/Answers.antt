-- `fits` meets its contract. Assumes nothing.
use Rattle.std.proofs.Common.{length, arith}
use Rattle.sheet_reader_state.specs.Limits.{Limited, limited}
use borrow.Author.Rules.{rules}
use Rattle.sheet_room.proofs.fits.Goals as goal

pub last_fits-requires : goal.last_fits-requires
last_fits-requires c =
    let v : Limited c.args.s (length c.args.table.now) c.args.positions c.args.normals c.args.indices c.args.materials = search (rules, limited) in
    record { rows_in_bounds = omega (arith, v.rows, v.room.table); rows_le_most_rows = omega (arith, v.rows, v.few.rows) }
