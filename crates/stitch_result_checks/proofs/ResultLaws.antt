-- Checks 33 and 32, as the code makes them. Assumes nothing.
use mathlib.Core.Path.{◌≡◌, sym, ◌∙◌}
use mathlib.Core.Bool.{Bool, true, false}
use mathlib.Core.List.{[]}
use Prim.Native.Nat.{ℕ, ◌*◌, ◌≤◌, ◌<◌}
use lib.Dec.{ltb}
use borrow.Author.Tests.{lt-ltb, le-ltb}
use Rattle.body_refusals.specs.TableChecks.{too_large}
use Rattle.body_rows.specs.Body.{row_width, first_failing}
use Rattle.body_rows.specs.Checks.{first_here, first_next, first_none}
use Rattle.stitch_result_checks.specs.Results.{too_short, result_checks}

module _ (v i f t p n x : ℕ) where
  -- ---- 32
  -- the table is too short
  pub short_rows : t < row_width * f → true ≡ too_short v i f t p n x
  unfolding too_short
  short_rows h = rw (lt-ltb t (row_width * f) h)

  module _ (a : row_width * f ≤ t) where
    -- the positions are
    pub short_positions : p < 3 * v → true ≡ too_short v i f t p n x
    unfolding too_short
    short_positions h = rw (le-ltb t (row_width * f) a, lt-ltb p (3 * v) h)

    module _ (b : 3 * v ≤ p) where
      -- the normals are
      pub short_normals : n < 3 * v → true ≡ too_short v i f t p n x
      unfolding too_short
      short_normals h = rw (le-ltb t (row_width * f) a, le-ltb p (3 * v) b, lt-ltb n (3 * v) h)

      -- none of the three: the indices decide
      pub short_indices : 3 * v ≤ n → ltb x i ≡ too_short v i f t p n x
      unfolding too_short
      short_indices h = rw (le-ltb t (row_width * f) a, le-ltb p (3 * v) b, le-ltb n (3 * v) h)

  -- ---- 33, then 32
  -- too many vertices
  pub result_vertices : 262144 < v → 33 ≡ first_failing (result_checks v i f t p n x)
  unfolding result_checks too_large
  result_vertices h = first_here 33 _ (rw (lt-ltb 262144 v h))

  module _ (a : v ≤ 262144) where
    -- too many indices
    pub result_indices : 786432 < i → 33 ≡ first_failing (result_checks v i f t p n x)
    unfolding result_checks too_large
    result_indices h = first_here 33 _ (rw (le-ltb 262144 v a, lt-ltb 786432 i h))

    module _ (b : i ≤ 786432) {r : Bool} (e : r ≡ too_short v i f t p n x) where
      -- neither is above its limit
      not_large : too_large v i ≡ false
      unfolding too_large
      not_large = rw (le-ltb 262144 v a, le-ltb 786432 i b)

      -- a slice is too short
      pub result_short : r ≡ true → 32 ≡ first_failing (result_checks v i f t p n x)
      unfolding result_checks
      result_short h = first_here 32 [] (sym e ∙ h) ∙ first_next 33 _ not_large

      -- there is room
      pub result_none : r ≡ false → 0 ≡ first_failing (result_checks v i f t p n x)
      unfolding result_checks
      result_none h = first_none ∙ first_next 32 [] (sym e ∙ h) ∙ first_next 33 _ not_large
