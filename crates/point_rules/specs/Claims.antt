-- Cells and keys of some points, as document 01 gives them or as the Rust's steps make them. Assumes nothing.
use Rattle.std.specs.Prelude.{cond, List, [], ◌∷◌, map, ℕ, ◌^◌, ◌-◌, T}
use Rattle.lists.specs.Lists.{all}
use Rattle.lists.specs.Table.{Case, case, agrees}
use Rattle.float_steps.specs.Floats.{f32}
use Rattle.point_rules.specs.Points.{cell, clamps, pattern, key, bits, zeros}
use Rattle.point_rules.specs.Evaluation.{evaluation}

-- the cells of some f32 bits, as 64-bit patterns
cells : List ℕ → List ℕ
cells bs = map (λ b. pattern (cell (f32 b))) bs

-- 1 for each of some f32 bits whose cell clamps, else 0
clamping : List ℕ → List ℕ
clamping bs = map (λ b. cond (clamps (f32 b)) 1 0) bs

-- cells of 2^-7, −2^-7, −0.0, 2^43, 2^44, −2^44; keys of (0,0,0), (1,2,3), (−1, 0.5, 0); the names by bits of the two zeros, and with −0.0 as 0.0 on each axis;
-- the last number whose cell isn't clamped and the next, of both signs; the largest finite number, the infinities, a NaN, 0
pub claims : List Case
claims =
    case 1 (cells (0x3C000000 ∷ 0xBC000000 ∷ 0x80000000 ∷ [])) (7813 ∷ (2 ^ 64 - 7813) ∷ 0 ∷ [])
    ∷ case 2 (cells (0x55000000 ∷ 0x55800000 ∷ 0xD5800000 ∷ [])) (8_796_093_022_208_000_000 ∷ 9_223_372_036_854_775_807 ∷ 2 ^ 63 ∷ [])
    ∷ case 3 (key (f32 0) (f32 0) (f32 0x80000000) ∷ []) (0xD852DCB87B6F12A3 ∷ [])
    ∷ case 4 (key (f32 0x3F800000) (f32 0x40000000) (f32 0x40400000) ∷ []) (0xEB8010E0CC71C37B ∷ [])
    ∷ case 5 (key (f32 0xBF800000) (f32 0x3F000000) (f32 0) ∷ []) (0x97995B1F3B186F8D ∷ [])
    ∷ case 6 (bits (f32 0) (f32 0) (f32 0) ∷ bits (f32 0x80000000) (f32 0) (f32 0) ∷ []) (0 ∷ 0x800000000000000000000000 ∷ [])
    ∷ case 7
    (zeros (f32 0x80000000) (f32 0) (f32 0) ∷ zeros (f32 0) (f32 0x80000000) (f32 0) ∷ zeros (f32 0) (f32 0) (f32 0x80000000) ∷ zeros (f32 0x80000001) (f32 0) (f32 0) ∷ [])
    (0 ∷ 0 ∷ 0 ∷ 0x800000010000000000000000 ∷ [])
    ∷ case 8 (clamping (0x550637BD ∷ 0x550637BE ∷ 0xD50637BD ∷ 0xD50637BE ∷ [])) (0 ∷ 1 ∷ 0 ∷ 1 ∷ [])
    ∷ case 9 (clamping (0x7F7FFFFF ∷ 0x7F800000 ∷ 0xFF800000 ∷ 0x7FC00000 ∷ 0 ∷ [])) (1 ∷ 1 ∷ 1 ∷ 0 ∷ 0 ∷ [])
    ∷ []

-- The definitions yield each.
pub claims_hold : T (all agrees claims)
unfolding evaluation cells clamping claims
claims_hold = tt
