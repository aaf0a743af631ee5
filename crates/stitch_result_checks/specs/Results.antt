-- Checks 33 and 32 by the counts of the result and the lengths of the slices to write. Assumes nothing.
use Rattle.std.specs.Prelude.{◌≡◌, refl, Bool, ◌||◌, List, [], ◌∷◌, ℕ, ◌*◌, ◌≤◌, length, ltb}
use Rattle.std.proofs.Common.{ltb-false}
use Rattle.body_rows.specs.Body.{row_width, Row, Check, check, first_failing, all_vertices, all_indices}
use Rattle.body_refusals.specs.TableChecks.{too_large}
use Rattle.body_rows.specs.Checks.{clear_first}
use Rattle.lists.specs.Both.{or_left, or_right}
use Rattle.stitch_definition.specs.Slices.{StitchSlices, stitch_checks}

-- 32: a slice of length t, p, n or x is shorter than f rows, v vertices and i indices need
unfoldable pub too_short : ℕ → ℕ → ℕ → ℕ → ℕ → ℕ → ℕ → Bool
too_short v i f t p n x = ltb t (row_width * f) || ltb p (3 * v) || ltb n (3 * v) || ltb x i

-- 33, then 32
unfoldable pub result_checks : ℕ → ℕ → ℕ → ℕ → ℕ → ℕ → ℕ → List Check
result_checks v i f t p n x = check 33 (too_large v i) ∷ check 32 (too_short v i f t p n x) ∷ []

-- vertices and rows that passed their limits
pub record SmallResult (v f : ℕ) : Type 0 where
  pub vertices : v ≤ 262144
  pub rows : f ≤ 4096

-- the checks of a stitched body look at its counts and the lengths of the slices
pub stitch_checks_lem : (rows : List Row) (out : StitchSlices)
    → stitch_checks rows out ≡ result_checks (all_vertices rows) (all_indices rows) (length rows) (length out.table) (length out.positions) (length out.normals) (length out.indices)
unfolding stitch_checks result_checks too_short
stitch_checks_lem rows out = refl

-- what both checks give
pub record ResultFits (v i f t p n x : ℕ) : Type 0 where
  pub vertices : v ≤ 262144
  pub indices : i ≤ 786432
  pub room_rows : row_width * f ≤ t
  pub room_positions : 3 * v ≤ p
  pub room_normals : 3 * v ≤ n
  pub room_indices : i ≤ x

-- both have passed
pub result_fits : (v i f t p n x : ℕ) → first_failing (result_checks v i f t p n x) ≡ 0 → ResultFits v i f t p n x
unfolding result_checks too_short too_large
result_fits v i f t p n x h =
    let c33 = clear_first 32 _ _ h in
    let c32 = clear_first 31 _ _ c33.rest in
    let large = c33.here in
    let short = c32.here in
    let three = or_left (ltb t (row_width * f) || ltb p (3 * v) || ltb n (3 * v)) (ltb x i) short in
    let two = or_left (ltb t (row_width * f) || ltb p (3 * v)) (ltb n (3 * v)) three in
    record {
      vertices = ltb-false 262144 v (or_left (ltb 262144 v) (ltb 786432 i) large);
      indices = ltb-false 786432 i (or_right (ltb 262144 v) (ltb 786432 i) large);
      room_rows = ltb-false t (row_width * f) (or_left (ltb t (row_width * f)) (ltb p (3 * v)) two);
      room_positions = ltb-false p (3 * v) (or_right (ltb t (row_width * f)) (ltb p (3 * v)) two);
      room_normals = ltb-false n (3 * v) (or_right (ltb t (row_width * f) || ltb p (3 * v)) (ltb n (3 * v)) three);
      room_indices = ltb-false x i (or_right (ltb t (row_width * f) || ltb p (3 * v) || ltb n (3 * v)) (ltb x i) short);
    }
