-- `point_cell::cell_size` meets its contract. Assumes nothing.
use Rattle.point_cell.specs.Scale.{cell_scale}
use Rattle.point_cell.proofs.cell_size.Goals as goal

pub nearest_size-requires : goal.nearest_size-requires
nearest_size-requires c = search cell_scale
