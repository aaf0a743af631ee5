-- A claim that says `unfolding evaluation` has every definition of this crate and of those below it computed. Assumes nothing.
use Rattle.std.specs.Prelude.{ℕ}
use Rattle.lists.specs.Evaluation as Lists
use Rattle.float_steps.specs.Evaluation as Floats
use Rattle.body_rows.specs.Body.{rows_of, table_of, all_vertices, all_indices, patches_of, triangles_of, first_failing, work_needed, cleared}
use Rattle.body_rows.specs.Rows.{row_at, vertices_before, indices_before}
use Rattle.body_rows.specs.Given.{given_table, given_positions, given_indices, axes, K6, K6-reversed, K7, K8}

-- every definition that computes
unfoldable pub evaluation : ℕ
unfolding Lists.evaluation Floats.evaluation rows_of table_of all_vertices all_indices patches_of triangles_of first_failing work_needed cleared row_at vertices_before indices_before given_table given_positions
    given_indices axes K6 K6-reversed K7 K8
evaluation = 0
