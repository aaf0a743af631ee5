-- Division keeps the order of any numbers. Assumes nothing.
use Rattle.std.specs.Prelude.{zero, T, Float}
use Rattle.std.specs.Float.{Format}
use Rattle.std.specs.Float.Ieee.{div, le}
use Rattle.std.specs.Float.Ieee.Positive.{above}
use Rattle.float_spans.specs.Rounds.{number}
use Rattle.float_spans.specs.Orders.{below_of_le, le_of_below}
use Rattle.float_spans.proofs.Everywhere.{div_keeps}

-- x ≤ y gives x / c ≤ y / c for a c above zero
pub div_any : (f : Format) (x y c : Float) → T (above c) → T (number (div f x c)) → T (number (div f y c)) → T (le x y) → T (le (div f x c) (div f y c))
div_any f x y c a p q h = le_of_below (div f y c) (div f x c) q p (div_keeps f c a (below_of_le y x h))
