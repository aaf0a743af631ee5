-- The definitions that the theorems of this name in proofs/ speak of. Assumes nothing.
use Rattle.std.specs.Prelude.{◌≡◌, length, get_or, Float}
use Rattle.std.proofs.Math.Bool.{true}
use mathlib.Core.List.{List, ◌++◌}
use Prim.Native.Nat.{ℕ, ◌+◌, ◌<◌}
use Rattle.lists.specs.Lists.{filter}
use Rattle.patch_geometry.specs.Geometry.{point_at}
use Rattle.stitch_splits.specs.declared.sides.Sides.{Sides}
use Rattle.stitch_splits.specs.Splits.{same_cell}
use Rattle.stitch_splits.specs.Found.{found_only}

-- vertices whose names rise, and of which two in one cell have one name
pub record Distinct (ps : List Float) (ns gs : List ℕ) : Type 0 where
  pub rising : (j k : ℕ) → j < k → k < length gs → get_or ns (get_or gs j 0) 0 < get_or ns (get_or gs k 0) 0
  pub named : (j k : ℕ) → j < length gs → k < length gs → same_cell (point_at ps (get_or gs j 0)) (point_at ps (get_or gs k 0)) ≡ true
      → get_or ns (get_or gs j 0) 0 ≡ get_or ns (get_or gs k 0) 0

-- the vertices that the code finds on edge e
abbrev pub found_vertices : Float → List Float → List ℕ → Sides → ℕ → List ℕ → List ℕ
found_vertices sag ps ns s e gs = filter (λ g. found_only sag s e (get_or ns g 0) (point_at ps g)) gs

-- those of all edges
abbrev pub all_found : Float → List Float → List ℕ → Sides → List ℕ → List ℕ
all_found sag ps ns s gs = found_vertices sag ps ns s 0 gs ++ found_vertices sag ps ns s 1 gs ++ found_vertices sag ps ns s 2 gs
