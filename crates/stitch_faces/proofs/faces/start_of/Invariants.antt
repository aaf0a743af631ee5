-- `stitch_faces::faces::start_of` meets its contract. With j rows passed the place is where row j's indices start. Assumes nothing.
use Prim.Native.Nat.{◌-◌, ◌≤◌}
use Rattle.body_rows.specs.Body.{rows_of}
use Rattle.body_rows.specs.Rows.{indices_before}
use Rattle.stitch_faces.specs.Places.{Place}
use Rattle.stitch_faces.proofs.faces.start_of.Given as goal

abbrev pub invariant-loop-j : goal.invariant-loop-j
invariant-loop-j l = (l.j ≤ l.k) × Place (indices_before (rows_of l.rows) l.j) l.end l.at
