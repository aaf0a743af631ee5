-- A body as it is lent in slices, with its box. Assumes nothing.
use Rattle.std.specs.Prelude.{List, ℕ, ◌≤◌, Float}
use Rattle.patch_geometry.specs.declared.Aabb.{Aabb}
use Rattle.report_definition.specs.Report.{Body}

-- the body of a table, positions, normals and indices, with a box
abbrev pub body_of : List ℕ → List Float → List Float → List ℕ → Aabb → Body
body_of table ps ns is box = record { table = table; positions = ps; normals = ns; indices = is; box = box }

-- as many indices as a body may have
pub record IndicesFew (n : ℕ) : Type 0 where
  pub few : n ≤ 786432
