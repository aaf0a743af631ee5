-- `append_range` meets its contract. A row that fails has none, another one. Assumes nothing.
use native.Mathlib.Omega.{arith}
use mathlib.Core.Path.{refl}
use Rattle.mesh_rows.proofs.RangeLaws.{range_no, range_yes}
use Rattle.mesh_rows.proofs.ranges.append_range.Goals as goal

pub returns-then-w-at-eq0 : goal.returns-then-w-at-eq0
returns-then-w-at-eq0 c = range_no c.requires (omega arith)

pub returns : goal.returns
returns c = range_yes c.requires c.if-w-at-eq0.false c.face.ensures c.bin.ensures refl (omega (arith, c.indices.ensures)) c.put_range.ensures
