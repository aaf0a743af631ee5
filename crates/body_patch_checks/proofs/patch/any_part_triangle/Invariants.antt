-- `body_patch_checks::patch::any_part_triangle` meets its contract. The first k rows have whole triangles. Assumes nothing.
use Prim.Native.Nat.{◌-◌}
use Rattle.lists.specs.Any.{Searched}
use Rattle.body_rows.specs.Body.{rows_of}
use Rattle.body_patch_checks.specs.PatchTests.{part_triangle}
use Rattle.body_patch_checks.proofs.patch.any_part_triangle.Given as goal

abbrev pub invariant-loop-k : goal.invariant-loop-k
invariant-loop-k l = Searched part_triangle (rows_of l.table) l.k
