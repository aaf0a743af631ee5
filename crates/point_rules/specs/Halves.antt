-- A law of words in halves of 32 bits. Assumes nothing.
use Rattle.std.specs.Prelude.{ℕ, ◌*◌, ◌^◌, ◌<◌}
use Rattle.std.proofs.Math.Nat.{mul-lt-mul_of_pos_left}
use Rattle.std.proofs.Common.{mul-le-mul_right, lt_of_le_of_lt, le_of_lt, pow_pos}

-- the product of two halves is a word
pub halves_below : {x y : ℕ} → x < 2 ^ 32 → y < 2 ^ 32 → x * y < 2 ^ 64
halves_below {x} {y} hx hy = lt_of_le_of_lt (mul-le-mul_right y (le_of_lt hx)) (mul-lt-mul_of_pos_left hy (pow_pos 32))
