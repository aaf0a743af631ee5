-- A triangle's edge by its number, case by case. Assumes nothing.
use Rattle.std.specs.Prelude.{◌≡◌, ℕ, ◌≤◌}
use Rattle.std.proofs.Common.{sym}
use Rattle.std.proofs.Math.Path.{ap}
use native.Mathlib.Omega.{arith}
use Rattle.stitch_splits.specs.declared.sides.Sides.{Sides}
use Rattle.stitch_splits.specs.Found.{side_of}

module _ (s : Sides) {e : ℕ} where
  pub side_0 : e ≡ 0 → s.first ≡ side_of s e
  unfolding side_of
  side_0 z = ap (side_of s) (sym z)

  pub side_1 : e ≡ 1 → s.second ≡ side_of s e
  unfolding side_of
  side_1 z = ap (side_of s) (sym z)

  pub side_2 : e ≤ 2 → (e ≡ 0 → ⊥) → (e ≡ 1 → ⊥) → s.third ≡ side_of s e
  unfolding side_of
  side_2 l n m = let z : 2 ≡ e = omega arith in ap (side_of s) z
