-- E, T, M, the bound and V of the groups of small bodies, in the units of VolumeRule. Assumes nothing.
use Rattle.std.specs.Prelude.{cond, ℕ, ◌*◌, ◌^◌, ℤ, pos, negsuc, nat_abs, T}
use mathlib.Core.List.{List, [], ◌∷◌, ◌++◌, flat_map}
use Rattle.lists.specs.Lists.{all}
use Rattle.lists.specs.Table.{Case, case, agrees}
use Rattle.float_steps.specs.Floats.{bits64}
use Rattle.point_rules.specs.Rule.{names}
use Rattle.join_definition.specs.Join.{joined}
use Rattle.point_rules.specs.Points.{key}
use Rattle.body_rows.specs.Body.{Patch, rows_of, patches_of}
use Rattle.body_rows.specs.Given.{Given, at, row, triangle, given_table, given_positions, given_indices, K6-reversed}
use Rattle.turn_definition.specs.Groups.{Group}
use Rattle.turn_definition.specs.Orient.{walks_of}
use Rattle.turn_definition.specs.Claims.{turn_given}
use Rattle.turn_volume_rule.specs.Exact.{exact_rows, triangles_in, largest_in, bound, volume_left, rule_holds}
use Rattle.turn_volume_rule.specs.Evaluation.{evaluation}

-- 1 for a number below 0
sign : ℤ → ℕ
sign (pos n) = 0
sign (negsuc n) = 1

-- a body's patches, before
before : List Given → List Patch
before gs = patches_of (rows_of (given_table gs)) (given_positions gs) (given_positions gs) (given_indices gs)

-- and as turn leaves them
after : List Given → List Patch
after gs = let t = turn_given gs in patches_of (rows_of (given_table gs)) (given_positions gs) t.normals t.indices

-- its groups
groups : List Given → List Group
groups gs = (walks_of (before gs) (joined (names key (given_positions gs)))).groups

-- each group's rows and colours, the bits of V, T, whether the rule holds
shape : List Given → List ℕ
shape gs = flat_map (λ g. g.rows ++ g.colours ++ bits64 g.volume ∷ triangles_in (before gs) g.rows ∷ cond (rule_holds (before gs) (after gs) g) 1 0 ∷ []) (groups gs)

-- M in 2 ^ -149; six times E in (2 ^ -149) ^ 3 with its sign; the bound, and the exact volume left with its sign, in sixths of 2 ^ -1074
exact : List Given → List ℕ
exact gs =
    flat_map
    (λ g.
    let e = exact_rows (before gs) g.rows g.colours in
    largest_in (before gs) g.rows ∷ nat_abs e ∷ sign e ∷ bound (before gs) g ∷ nat_abs (volume_left (after gs) g) ∷ sign (volume_left (after gs) g) ∷ [])
    (groups gs)

-- a tetrahedron of edge 2 on two rows, the second of which runs the wrong way, and a flat row apart
two : List Given
two =
    row 0 (at 0 0 0 ∷ at 2 0 0 ∷ at 0 2 0 ∷ at 0 0 2 ∷ []) (0 ∷ 2 ∷ 1 ∷ 0 ∷ 1 ∷ 3 ∷ [])
    ∷ row 1 (at 0 0 0 ∷ at 2 0 0 ∷ at 0 2 0 ∷ at 0 0 2 ∷ []) (0 ∷ 2 ∷ 3 ∷ 1 ∷ 3 ∷ 2 ∷ [])
    ∷ triangle 2 (at 9 0 0) (at 9 1 0) (at 8 0 0)
    ∷ []

-- K6 reversed: V is −1/6, T is 4, M is 1. The two rows: V is 4/3, T is 4, M is 2. The flat row: 0, 1, 9.
pub claims : List Case
claims =
    case 6 (shape K6-reversed) (0 ∷ 1 ∷ 0xBFC5555555555555 ∷ 4 ∷ 1 ∷ [])
    ∷ case 6 (exact K6-reversed) (2 ^ 149 ∷ 2 ^ 447 ∷ 1 ∷ 6 * 16 * 2 ^ 447 * 2 ^ 577 ∷ 2 ^ 447 * 2 ^ 627 ∷ 0 ∷ [])
    ∷ case 2 (shape two) (0 ∷ 1 ∷ 1 ∷ 2 ∷ 0x3FF5555555555555 ∷ 4 ∷ 1 ∷ 2 ∷ 1 ∷ 0 ∷ 1 ∷ 1 ∷ [])
    ∷ case 2 (exact two)
    (2 * 2 ^ 149 ∷ 8 * 2 ^ 447 ∷ 0 ∷ 6 * 16 * 8 * 2 ^ 447 * 2 ^ 577 ∷ 8 * 2 ^ 447 * 2 ^ 627 ∷ 0
    ∷ 9 * 2 ^ 149 ∷ 0 ∷ 0 ∷ 6 * 729 * 2 ^ 447 * 2 ^ 577 ∷ 0 ∷ 0 ∷ [])
    ∷ []

-- The definitions yield each.
pub claims_hold : T (all agrees claims)
unfolding evaluation turn_given sign before after groups shape exact K6-reversed two claims
claims_hold = tt
