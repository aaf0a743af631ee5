-- Points at the edges of a split, and a mixed normal. Assumes nothing.
use Rattle.std.specs.Prelude.{cond, List, [], ◌∷◌, map, ℕ, T}
use Rattle.lists.specs.Lists.{all}
use Rattle.lists.specs.Table.{Case, case, agrees}
use Rattle.float_steps.specs.Floats.{f64, bits32}
use Rattle.patch_geometry.specs.Given.{vec}
use Rattle.stitch_projection.specs.Projection.{edge_of, within_sag, mixed}
use Rattle.stitch_projection.specs.Evaluation.{evaluation}

-- whether x, y, 0 is within the sag 1 of the edge from the origin to 1, 0, 0
near : ℕ → ℕ → ℕ
near x y = cond (within_sag (f64 0x3FF0000000000000) (edge_of (vec 0 0 0) (vec 0x3FF0000000000000 0 0)) (vec x y 0)) 1 0

-- a distance of the sag is within it, one of 2 is not; 1e-6 and 1 − 1e-6 are outside, 5e-6 and 0.999998 inside; a quarter of the way from 1, 0, 0 to 0, 1, 0
pub claims : List Case
claims =
    case 1 (near 0x3FE0000000000000 0x3FF0000000000000 ∷ near 0x3FE0000000000000 0x4000000000000000 ∷ []) (1 ∷ 0 ∷ [])
    ∷ case 2 (near 0x3EB0C6F7A0B5ED8D 0 ∷ near 0x3FEFFFFDE7210BE9 0 ∷ near 0x3ED4F8B588E368F1 0 ∷ near 0x3FEFFFFBCE4217D3 0 ∷ []) (0 ∷ 0 ∷ 1 ∷ 1 ∷ [])
    ∷ case 3 (map bits32 (mixed (vec 0x3FF0000000000000 0 0) (vec 0 0x3FF0000000000000 0) (f64 0x3FD0000000000000))) (0x3F72DCE9 ∷ 0x3EA1E89B ∷ 0 ∷ [])
    ∷ []

-- The definitions yield each.
pub claims_hold : T (all agrees claims)
unfolding evaluation near claims
claims_hold = tt
