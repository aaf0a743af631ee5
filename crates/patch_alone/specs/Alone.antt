-- A patch asked about alone: its refusal, or its volume, reach or escape. Assumes nothing.
use Rattle.std.specs.Prelude.{Bool, false, cond, List, ℕ, eqb, Float}
use Rattle.body_rows.specs.Body.{first_failing}
use Rattle.body_refusals.specs.BodyChecks.{lone_checks}
use Rattle.patch_geometry.specs.declared.Aabb.{Aabb}
use Rattle.patch_geometry.specs.Geometry.{zero64}
use Rattle.patch_measures.specs.Volume.{patch_volume}
use Rattle.patch_measures.specs.Reach.{farthest, escapes_body}

-- the refusal's number or 0, and the answer
pub record Alone (A : Type 0) : Type 0 where
  pub refusal : ℕ
  pub answer : A

-- the answer, or the first refusal with `none` in its place
unfoldable pub alone : {A : Type 0} → List Float → List Float → List ℕ → A → A → Alone A
alone ps ns is none answer = let n = first_failing (lone_checks ps ns is) in record { refusal = n; answer = cond (eqb n 0) answer none }

-- the volume of a patch alone
unfoldable pub volume_alone : List Float → List Float → List ℕ → Bool → Alone Float
volume_alone ps ns is flip = alone ps ns is zero64 (patch_volume ps is flip)

-- the reach of a patch alone
unfoldable pub farthest_alone : List Float → List Float → List ℕ → Aabb → Alone Float
farthest_alone ps ns is box = alone ps ns is zero64 (farthest ps box)

-- whether a patch alone escapes
unfoldable pub escapes_alone : List Float → List Float → List ℕ → Aabb → Alone Bool
escapes_alone ps ns is box = alone ps ns is false (escapes_body ps box)
