-- The checks 21 to 24: index counts, indices, positions and normals. Assumes nothing.
use Rattle.std.specs.Prelude.{Bool, not, List, [], ◌∷◌, ◌++◌, ◌%◌, leb, eqb}
use Rattle.float_steps.specs.Floats.{finite}
use Rattle.lists.specs.Lists.{any}
use Rattle.point_rules.specs.Points.{clamps}
use Rattle.body_rows.specs.Body.{Patch, Check, check}

-- 22: an index isn't below its row's vertex count
unfoldable pub bad_indices : Patch → Bool
bad_indices p = any (λ i. leb p.row.vertices i) p.indices

-- 21 to 24: an index count isn't a multiple of 3; an index too high; a position or normal isn't finite; a position's cell is clamped (request N6)
unfoldable pub patch_checks : List Patch → List Check
patch_checks patches =
    check 21 (any (λ p. not (eqb (p.row.indices % 3) 0)) patches)
    ∷ check 22 (any bad_indices patches)
    ∷ check 23 (any (λ p. any (λ x. not (finite x)) (p.positions ++ p.normals)) patches)
    ∷ check 24 (any (λ p. any clamps p.positions) patches)
    ∷ []
