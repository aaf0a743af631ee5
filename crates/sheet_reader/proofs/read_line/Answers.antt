-- `read_line` meets its contract. Assumes nothing.
use Rattle.std.proofs.Common.{ap}
use mathlib.Core.Bool.{not}
use Rattle.sheet_reader.proofs.LineLaws.{read_refused, read_room, read_roomy_lem, read_unfit}
use Rattle.sheet_reader.proofs.read_line.Goals as goal

pub returns-then-before-ne0 : goal.returns-then-before-ne0
returns-then-before-ne0 c = search read_refused

pub returns-then-not-fits : goal.returns-then-not-fits
returns-then-not-fits c = search read_unfit

pub read_roomy-requires : goal.read_roomy-requires
read_roomy-requires c = read_room _ _ _ _ _ _ c.if-before-ne0.false _ c.fits.ensures (ap not c.if-not-fits.false)

pub returns : goal.returns
returns c = search read_roomy_lem
