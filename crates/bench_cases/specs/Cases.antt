-- The bench cases K1 to K10: one table, and one claim that the definitions yield each row. Assumes nothing.
use Rattle.std.specs.Prelude.{Bool, false, cond, List, [], ◌∷◌, ◌++◌, map, ℕ, take, replicate, pos, neg_ℤ, T, Float}
use Rattle.lists.specs.Lists.{all}
use Rattle.lists.specs.Table.{Case, case, agrees}
use Rattle.float_steps.specs.Floats.{f32, f64, bits32, bits64}
use Rattle.float_sqrt.specs.Roots.{sqrt}
use Rattle.float_narrow.specs.Narrow.{narrow}
use Rattle.point_rules.specs.Points.{cell, pattern}
use Rattle.body_rows.specs.Body.{rows_of, patches_of}
use Rattle.body_rows.specs.Given.{Given, given_table, given_positions, given_indices, K6, K6-reversed, K7, K8}
use Rattle.patch_geometry.specs.Geometry.{zero64}
use Rattle.patch_measures.specs.Volume.{patch_volume}
use Rattle.patch_measures.specs.Reach.{escapes_body}
use Rattle.patch_geometry.specs.Given.{box68, one_point, vertex}
use Rattle.turn_definition.specs.Claims.{turn_given}
use Rattle.stitch_definition.specs.Claims.{roomy, stitch_given}
use Rattle.bench_definition.specs.Evaluation.{evaluation}
use Rattle.sheet_line_order.specs.Limits.{bench_limits}
use Rattle.bench_definition.specs.Finish.{Sheet, Outcome, Refused, Finished, finish}

-- ---- how the cases are read

-- the bits of the volume of each patch
volumes : List Given → List ℕ
volumes gs =
    map (λ p. bits64 (patch_volume p.positions p.indices false))
    (patches_of (rows_of (given_table gs)) (given_positions gs) (given_positions gs) (given_indices gs))

number : Bool → ℕ
number b = cond b 1 0

-- all counts, and closed
counts : Outcome → List ℕ
counts (Refused n) = n ∷ []
counts (Finished t s a) =
    t.turned ∷ t.against ∷ s.vertices ∷ s.indices ∷ s.splits ∷ a.vertices ∷ a.indices ∷ a.parts ∷ a.ranges ∷ a.failures
    ∷ a.counts.edges ∷ a.counts.opens ∷ a.counts.overs ∷ number a.closed ∷ []

-- ---- the inputs that are no body

-- K8's sag: 0.25
quarter : Float
quarter = f64 0x3FD0000000000000

-- K2, its second half as request N6 has it: a body with a corner at 2^44, whose cell is clamped
K2 : Sheet
K2 =
    record {
      box = one_point;
      sag = zero64;
      default = 0;
      materials = [];
      table = 0 ∷ 5 ∷ 0 ∷ 3 ∷ 3 ∷ 0 ∷ [];
      positions = 0x55800000 ∷ replicate 8 0;
      normals = replicate 9 0;
      indices = 0 ∷ 1 ∷ 2 ∷ [];
    }

-- K5: no rows
nothing : Sheet
nothing =
    record {
      box = one_point;
      sag = zero64;
      default = 0;
      materials = [];
      table = [];
      positions = [];
      normals = [];
      indices = [];
    }

-- ---- the table

-- K1 to K10: what the definitions yield, and what the papers say: document 01, and of K2's second half request N6
pub cases : List Case
cases =
    case 1 (map (λ b. pattern (cell (f32 b))) (0x3C000000 ∷ 0xBC000000 ∷ 0x80000000 ∷ [])) (7813 ∷ pattern (neg_ℤ (pos 7813)) ∷ 0 ∷ [])
    ∷ case 2 (pattern (cell (f32 0x55000000)) ∷ counts (finish bench_limits K2)) (8_796_093_022_208_000_000 ∷ 24 ∷ [])
    ∷ case 3 (bits64 (sqrt (f64 0x4000000000000000)) ∷ []) (0x3FF6A09E667F3BCD ∷ [])
    ∷ case 4 (map (λ b. bits32 (narrow (f64 b))) (0x3FF0000010000000 ∷ 0x3FF0000030000000 ∷ [])) (0x3F800000 ∷ 0x3F800002 ∷ [])
    ∷ case 5 (counts (finish bench_limits nothing)) (0 ∷ 0 ∷ 0 ∷ 0 ∷ 0 ∷ 0 ∷ 0 ∷ 0 ∷ 0 ∷ 0 ∷ 0 ∷ 0 ∷ 0 ∷ 1 ∷ [])
    ∷ case 6 (volumes K6 ++ (turn_given K6).turned ∷ (turn_given K6-reversed).turned ∷ []) (0x3FC5555555555555 ∷ 0 ∷ 1 ∷ [])
    ∷ case 7 ((turn_given K7).turned ∷ (turn_given K7).against ∷ []) (0 ∷ 2 ∷ [])
    ∷ case 8 ((stitch_given K8 quarter).splits ∷ take 6 (stitch_given K8 quarter).slices.indices) (1 ∷ 0 ∷ 3 ∷ 1 ∷ 0 ∷ 1 ∷ 2 ∷ [])
    ∷ case 9 (map (λ x. number (escapes_body (vertex x) box68)) (0x41500000 ∷ 0x41500001 ∷ [])) (0 ∷ 1 ∷ [])
    ∷ case 10 (map (λ x. number (escapes_body (vertex x) one_point)) (0 ∷ 0x41500001 ∷ 0x7F7FFFFF ∷ [])) (0 ∷ 0 ∷ 0 ∷ [])
    ∷ []

-- The definitions yield each row.
pub K1-to-K10 : T (all agrees cases)
unfolding evaluation turn_given roomy stitch_given volumes number counts quarter K2 nothing cases
K1-to-K10 = tt
