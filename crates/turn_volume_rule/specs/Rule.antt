-- The definitions that the theorems of this name in proofs/ speak of. Assumes nothing.
use Rattle.std.specs.Prelude.{◌≤◌, ◌<◌, length}
use Rattle.body_rows.specs.Body.{Patch, triangles_of}
use Rattle.turn_volume_rule.specs.Sign.{All}
use Rattle.turn_volume_rule.specs.Accepted.{accepted, Vertex, vertices}

-- ---- a row's patch in an accepted body
pub record PatchGood (p : Patch) : Type 0 where
  pub vertices : All (Vertex p.positions) p.indices
  pub few : length p.indices ≤ 786432
  pub whole : 0 < length p.indices → 0 < length (triangles_of p.indices)
