-- What assembling a body that passed its checks asks and leaves. Assumes nothing.
use Rattle.mesh_definition.specs.declared.MeshCounts.{MeshCounts}
use Rattle.std.specs.Prelude.{◌≡◌, List, ℕ, length, drop, Float, Result}
use Rattle.body_rows.specs.Body.{rows_of, patches_of, work_needed}
use Rattle.body_checks.specs.Accepted.{Passed}
use Rattle.patch_geometry.specs.declared.Aabb.{Aabb}
use Rattle.mesh_acceptance.specs.Acceptance.{acceptance}
use Rattle.mesh_definition.specs.Assemble.{assemble_or_refuse}
use Rattle.mesh_definition.specs.Assembled.{slices_of, left_mesh, assemble_answered}

-- what assembling an accepted body asks: m rows and the slices of a body that passed its checks
pub record AssembleReady (table : List ℕ) (ps ns : List Float) (is W : List ℕ) (m : ℕ) : Type 0 where
  pub passed : Passed table ps ns is (length W)
  pub rows_are : m ≡ length (rows_of table)

-- what it leaves, whatever the work area holds in the end
pub record BodyAssembled (table : List ℕ) (ps ns : List Float) (is : List ℕ) (box : Aabb) (materials : List ℕ) (default : ℕ) (P P' N N' : List Float)
    (I I' parts parts' ranges ranges' failures failures' W E : List ℕ) (r : Result MeshCounts ℕ) : Type 0 where
  pub same : (work : List ℕ) → left_mesh r (slices_of P' N' I' parts' ranges' failures' work)
      ≡ assemble_answered (assemble_or_refuse (rows_of table) materials default (acceptance box materials default (patches_of (rows_of table) ps ns is)) (slices_of P N I parts ranges failures work))
  pub rest : drop (work_needed (rows_of table)) E ≡ drop (work_needed (rows_of table)) W
