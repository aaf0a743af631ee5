-- Why a patch is not accepted. Assumes nothing.
use Rattle.std.specs.Prelude.{not, cond, List, ℕ, length, eqb, Float}
use Rattle.std.proofs.Math.Option.{Option, none, some}
use Rattle.body_rows.specs.Body.{Patch}
use Rattle.patch_geometry.specs.declared.Aabb.{Aabb}
use Rattle.patch_measures.specs.Reach.{farthest, escapes_body}
use Rattle.patch_geometry.specs.Geometry.{diagonal}
use Rattle.mesh_verdicts.specs.declared.Failure.{Failure}
use Rattle.mesh_verdicts.specs.declared.Failure.TheVariants.{Empty, Upstream, Escape}

-- An escape carries the reach and the span.
unfoldable pub escape_of : Aabb → List Float → Option Failure
escape_of box ps = cond (escapes_body ps box) (some (Escape (farthest ps box) (diagonal box))) none

-- A failure is one of: no triangles; upstream with its number; and an escape. Upstream goes first, then empty.
unfoldable pub failure_by : Aabb → ℕ → List Float → List ℕ → Option Failure
failure_by box outcome ps is = cond (not (eqb outcome 0)) (some (Upstream outcome)) (cond (eqb (length is) 0) (some Empty) (escape_of box ps))

-- the failure of a patch
abbrev pub failure_of : Aabb → Patch → Option Failure
failure_of box p = failure_by box p.row.outcome p.positions p.indices
