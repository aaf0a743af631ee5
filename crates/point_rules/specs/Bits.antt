-- The bits of a vertex in parts, and a digest of them, for the rule that tells the two zeros apart and for the one that doesn't. Assumes nothing.
use Rattle.std.specs.Prelude.{◌≡◌, Bool, true, false, List, ℕ, ◌+◌, ◌*◌, ◌/◌, ◌%◌, ◌^◌, ◌<◌, get_or, Float}
use Rattle.std.specs.Float.{nan}
use Rattle.float_steps.specs.Floats.{bits32}
use Rattle.point_rules.specs.Rule.{Rule}
use Rattle.point_rules.specs.Points.{bits, zeros, zero_joined}

-- the two rules that go by bits: the zeros apart, or as one
unfoldable pub bits_by : Bool → Rule
bits_by false = bits
bits_by true = zeros

-- the bits of a coordinate by each
abbrev pub bits_of : Bool → Float → ℕ
bits_of false x = bits32 x
bits_of true x = zero_joined (bits32 x)

-- b is the bits of x by such a rule, 32 of them
pub record Bits32 (joined : Bool) (x : Float) (b : ℕ) : Type 0 where
  pub bits : b ≡ bits_of joined x
  pub few : b < 2 ^ 32

-- the bits of the first two coordinates of vertex i
unfoldable pub front_bits : Bool → List Float → ℕ → ℕ
front_bits joined ps i = bits_of joined (get_or ps (3 * i) nan) * 2 ^ 32 + bits_of joined (get_or ps (3 * i + 1) nan)

-- A digest of a point's bits: 64 of them, from all 96.
unfoldable pub digest : ℕ → ℕ
digest n = (n / 2 ^ 32 * 11400714819323198485 % 2 ^ 64 + n % 2 ^ 32 * 2246822507) % 2 ^ 64
