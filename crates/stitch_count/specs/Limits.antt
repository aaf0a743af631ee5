-- The limits of a result's vertices and indices. Assumes nothing.
use Rattle.std.specs.Prelude.{◌≡◌, refl, Bool, true, false, ◌||◌, ℕ, ◌≤◌, ltb}
use Rattle.std.proofs.Common.{arith, ltb-true}
use Rattle.body_refusals.specs.TableChecks.{too_large}

-- counts within both are not too large
pub within_limits : (vertices indices : ℕ) → vertices ≤ 262144 → indices ≤ 786432 → too_large vertices indices ≡ true → ⊥
unfolding too_large
within_limits vertices indices a b e = go (ltb 262144 vertices) (ltb 786432 indices) refl refl e
  where
    go : (x y : Bool) → ltb 262144 vertices ≡ x → ltb 786432 indices ≡ y → x || y ≡ true → ⊥
    go true y p q h = let l = ltb-true 262144 vertices p in omega arith
    go false true p q h = let l = ltb-true 786432 indices q in omega arith
    go false false p q h = let z : ◌≡◌ {A = ℕ} 0 1 = cc in omega arith
