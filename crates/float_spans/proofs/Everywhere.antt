-- Division by a number above 0 keeps the order. Assumes nothing.
use Rattle.std.specs.Prelude.{T, Float}
use Rattle.std.specs.Float.{Format}
use Rattle.std.specs.Float.Ieee.{div}
use Rattle.std.specs.Float.Ieee.Positive.{above}
use Rattle.float_spans.specs.Orders.{NotBelow, not_below, refuted}
use Rattle.float_spans.specs.Everywhere.{div_below}

-- quotients by one float above zero
pub div_keeps : (f : Format) {x y : Float} (c : Float) → T (above c) → NotBelow x y → NotBelow (div f x c) (div f y c)
div_keeps f {x} {y} c p h = not_below (div f x c) (div f y c) (λ l. refuted h (div_below f x y c p l))
