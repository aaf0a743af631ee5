-- The fan of a ring is what pushing its vertices one after another writes, and how long it is. Assumes nothing.
use Rattle.std.specs.Prelude.{◌≡◌, refl, Some, None, List, [], ◌∷◌, ℕ, ◌+◌, ◌*◌, ◌<◌, length}
use Rattle.std.proofs.Common.{ap, arith}
use Rattle.stitch_rings.specs.Rings.{fan_from, fan, fan_go}

-- behind the vertex b
pub from_go : (a b : ℕ) (ys : List ℕ) → fan_from a (b ∷ ys) ≡ fan_go a (Some b) ys
unfolding fan_from fan_go
from_go a b [] = refl
from_go a b (c ∷ ys) = ap (λ (l : List ℕ). a ∷ b ∷ c ∷ l) (from_go a c ys)

-- from corner 0
pub fan_go_lem : (a : ℕ) (ys : List ℕ) → fan (a ∷ ys) ≡ fan_go a None ys
unfolding fan fan_from fan_go
fan_go_lem a [] = refl
fan_go_lem a (b ∷ ys) = from_go a b ys

-- each vertex behind another makes a triangle
pub fan_long : (a last : ℕ) (ys : List ℕ) → length (fan_go a (Some last) ys) ≡ 3 * length ys
unfolding fan_go
fan_long a last [] = refl
fan_long a last (y ∷ ys) = omega (arith, fan_long a y ys)

-- the first makes none
pub first_none : (a : ℕ) (ys : List ℕ) → 0 < length ys → length (fan_go a None ys) + 3 ≡ 3 * length ys
unfolding fan_go
first_none a [] l = absurd (omega arith)
first_none a (y ∷ ys) l = omega (arith, fan_long a y ys)
