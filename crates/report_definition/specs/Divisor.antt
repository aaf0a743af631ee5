-- The greatest common divisor by Euclid's algorithm, and what makes it that. Assumes nothing.
use Rattle.std.specs.Prelude.{ℕ, zero, suc, ◌%◌}

-- Euclid's algorithm, in so many steps at most: the first number once the second is 0, else the second and what is left of the first
unfoldable pub euclid : ℕ → ℕ → ℕ → ℕ
euclid zero a b = a
euclid (suc n) a zero = a
euclid (suc n) a (suc b) = euclid n (suc b) (a % suc b)

-- the greatest common divisor; the second number falls at each step, so that as many steps are enough
unfoldable pub gcd : ℕ → ℕ → ℕ
gcd a b = euclid b a b
