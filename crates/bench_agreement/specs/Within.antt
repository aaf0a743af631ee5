-- Limits within others, and limits whose results may be as large as bodies. Assumes nothing.
use Rattle.std.specs.Prelude.{◌≤◌}
use Rattle.sheet_line_order.specs.declared.Limits.{Limits}

-- no limit of the one is above the other's
pub record Within (small large : Limits) : Type 0 where
  pub rows : small.rows ≤ large.rows
  pub vertices : small.vertices ≤ large.vertices
  pub indices : small.indices ≤ large.indices
  pub face : small.face ≤ large.face
  pub result_vertices : small.result_vertices ≤ large.result_vertices
  pub result_indices : small.result_indices ≤ large.result_indices

-- results may be as large as bodies
pub record Spacious (limits : Limits) : Type 0 where
  pub vertices : limits.vertices ≤ limits.result_vertices
  pub indices : limits.indices ≤ limits.result_indices
