-- Volumes whose bits tell the order of rounding, and boxes at the edge of an escape. Assumes nothing.
use Rattle.std.specs.Prelude.{Bool, true, false, cond, List, [], ◌∷◌, map, ℕ, T, Float}
use Rattle.lists.specs.Lists.{all}
use Rattle.lists.specs.Table.{Case, case, agrees}
use Rattle.float_steps.specs.Floats.{f32, bits64}
use Rattle.patch_measures.specs.Volume.{patch_volume}
use Rattle.patch_measures.specs.Evaluation.{evaluation}
use Rattle.patch_geometry.specs.declared.Aabb.{Aabb}
use Rattle.patch_measures.specs.Reach.{farthest, escapes_body}
use Rattle.patch_geometry.specs.Geometry.{diagonal}
use Rattle.patch_geometry.specs.Given.{vec, box68, one_point, vertex}

-- four points: (0, −1.1, −0.9), (−0.9, 0, 0), (0, 1.6, −0.4), (−1.2, −1.5, 1.4)
four : List Float
four =
    map f32
    (0 ∷ 0xBF8CCCCD ∷ 0xBF666666 ∷ 0xBF666666 ∷ 0 ∷ 0 ∷ 0 ∷ 0x3FCCCCCD ∷ 0xBECCCCCD ∷ 0xBF99999A ∷ 0xBFC00000 ∷ 0x3FB33333 ∷ [])

-- four points: (1.1, 0.8, 0.4), (−1, −0.6, −0.5), (−0.2, 0.9, 1.5), (1.7, 0.4, −0.7)
slanted : List Float
slanted =
    map f32
    (0x3F8CCCCD ∷ 0x3F4CCCCD ∷ 0x3ECCCCCD ∷ 0xBF800000 ∷ 0xBF19999A ∷ 0xBF000000 ∷ 0xBE4CCCCD ∷ 0x3F666666 ∷ 0x3FC00000 ∷ 0x3FD9999A ∷ 0x3ECCCCCD ∷ 0xBF333333 ∷ [])

-- the volume's bits of two triangles over four points, and of the same reversed
volume : List Float → Bool → ℕ
volume ps flip = bits64 (patch_volume ps (0 ∷ 1 ∷ 2 ∷ 0 ∷ 2 ∷ 3 ∷ []) flip)

-- a box whose minimum is above its maximum on one axis
no_box : Aabb
no_box = record { min = vec 0 0 0x3FF0000000000000; max = vec 0x4018000000000000 0x4020000000000000 0 }

-- whether the vertex x, 4, 0 escapes
escapes : Aabb → ℕ → ℕ
escapes box x = cond (escapes_body (vertex x) box) 1 0

-- 1, 2: the volumes; K9: 13 stays, 41500001 escapes, its reach and the span; K10: nothing escapes a box of one point; nor an empty one
pub claims : List Case
claims =
    case 1 (volume four false ∷ volume four true ∷ []) (0xBFB81062ADF3B645 ∷ 0x3FB81062ADF3B645 ∷ [])
    ∷ case 2 (volume slanted false ∷ volume slanted true ∷ []) (0x3FAA485CF983C13F ∷ 0xBFAA485CF983C13F ∷ [])
    ∷ case 9 (escapes box68 0x41500000 ∷ escapes box68 0x41500001 ∷ []) (0 ∷ 1 ∷ [])
    ∷ case 9 (bits64 (farthest (vertex 0x41500000) box68) ∷ bits64 (diagonal box68) ∷ []) (0x4024000000000000 ∷ 0x4024000000000000 ∷ [])
    ∷ case 10 (escapes one_point 0 ∷ escapes one_point 0x41500001 ∷ escapes no_box 0x7F7FFFFF ∷ []) (0 ∷ 0 ∷ 0 ∷ [])
    ∷ []

-- The definitions yield each.
pub claims_hold : T (all agrees claims)
unfolding evaluation four slanted volume no_box escapes claims
claims_hold = tt
