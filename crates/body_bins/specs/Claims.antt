-- Tables covered: their bins and nothing else. Assumes nothing.
use Rattle.std.specs.Prelude.{List, [], ◌∷◌, T}
use Rattle.lists.specs.Lists.{all}
use Rattle.lists.specs.Table.{Case, case, agrees}
use Rattle.body_rows.specs.Evaluation.{evaluation}
use Rattle.mesh_acceptance.specs.Acceptance.{failure_width}
use Rattle.mesh_layout.specs.Mesh.{range_width}
use Rattle.body_bins.specs.Covered.{covered, bin_behind_face, covered_table}

-- a face table of two rows; two ranges and what stands behind them; a failure
pub claims : List Case
claims =
    case 1 (covered_table (1 ∷ 7 ∷ 0 ∷ 3 ∷ 3 ∷ 70 ∷ 1 ∷ 8 ∷ 9 ∷ 0 ∷ 0 ∷ 80 ∷ [])) (1 ∷ 7 ∷ 0 ∷ 3 ∷ 3 ∷ 0 ∷ 1 ∷ 8 ∷ 9 ∷ 0 ∷ 0 ∷ 0 ∷ [])
    ∷ case 2 (covered range_width bin_behind_face 2 (7 ∷ 70 ∷ 0 ∷ 3 ∷ 8 ∷ 80 ∷ 3 ∷ 6 ∷ 9 ∷ 9 ∷ [])) (7 ∷ 0 ∷ 0 ∷ 3 ∷ 8 ∷ 0 ∷ 3 ∷ 6 ∷ 9 ∷ 9 ∷ [])
    ∷ case 3 (covered failure_width bin_behind_face 1 (7 ∷ 70 ∷ 256 ∷ 5 ∷ 6 ∷ [])) (7 ∷ 0 ∷ 256 ∷ 5 ∷ 6 ∷ [])
    ∷ []

-- The definitions yield each.
pub claims_hold : T (all agrees claims)
unfolding evaluation covered claims
claims_hold = tt
