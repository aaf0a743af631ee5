-- Laws of the limits of a result: counts that pass one show what the whole counts would. Assumes nothing.
use mathlib.Core.Path.{◌≡◌, refl, sym, ◌∙◌}
use mathlib.Core.Bool.{Bool, true, false}
use Prim.Native.Nat.{ℕ, ◌≤◌}
use native.Mathlib.Omega.{arith}
use lib.Dec.{ltb}
use borrow.Author.Tests.{ltb-false}
use Rattle.lists.specs.Both.{or_left, or_right}
use Rattle.body_rows.specs.Body.{first_failing}
use Rattle.body_rows.specs.Checks.{first_here}
use Rattle.body_refusals.specs.TableChecks.{too_large}
use Rattle.stitch_count.specs.Limits.{within_limits}
use Rattle.stitch_result_checks.specs.Results.{result_checks}

-- what is not too large is within both
within_vertices : (v i : ℕ) → too_large v i ≡ false → v ≤ 262144
unfolding too_large
within_vertices v i e = ltb-false 262144 v (or_left (ltb 262144 v) (ltb 786432 i) e)

within_indices : (v i : ℕ) → too_large v i ≡ false → i ≤ 786432
unfolding too_large
within_indices v i e = ltb-false 786432 i (or_right (ltb 262144 v) (ltb 786432 i) e)

-- the first check fails if it is too large
large_first : (v i m t p n x : ℕ) → too_large v i ≡ true → 33 ≡ first_failing (result_checks v i m t p n x)
unfolding result_checks
large_first v i m t p n x e = first_here 33 _ e

-- more is too large as well
more_large : (v i v' i' : ℕ) → v ≤ v' → i ≤ i' → too_large v i ≡ true → too_large v' i' ≡ true
more_large v i v' i' a b e = go (too_large v' i') refl
  where
    go : (t : Bool) → too_large v' i' ≡ t → t ≡ true
    go true h = refl
    go false h = absurd (within_limits v i (omega (arith, a, within_vertices v' i' h)) (omega (arith, b, within_indices v' i' h)) e)

-- the checks find the same: if the counts pass a limit, so do the larger ones, and if not, both are the same
pub checks_same : (v i v' i' m t p n x : ℕ) → v ≤ v' → i ≤ i' → (v ≤ 262144 → i ≤ 786432 → v ≡ v') → (v ≤ 262144 → i ≤ 786432 → i ≡ i')
    → first_failing (result_checks v i m t p n x) ≡ first_failing (result_checks v' i' m t p n x)
checks_same v i v' i' m t p n x a b ev ei = go (too_large v i) refl
  where
    go : (s : Bool) → too_large v i ≡ s → first_failing (result_checks v i m t p n x) ≡ first_failing (result_checks v' i' m t p n x)
    go true e = sym (large_first v i m t p n x e) ∙ large_first v' i' m t p n x (more_large v i v' i' a b e)
    go false e =
        let w = within_vertices v i e in
        let u = within_indices v i e in
        λ j. first_failing (result_checks (ev w u j) (ei w u j) m t p n x)
