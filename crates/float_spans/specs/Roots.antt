-- The root keeps the order of all f64: signs, both zeros, infinities and NaN included. Assumes nothing.
use Rattle.std.proofs.Common.{sym, subst}
use Rattle.std.specs.Prelude.{T, Float}
use Rattle.std.specs.Float.{binary64}
use Rattle.std.specs.Float.Ieee.{fits, lt}
use Rattle.std.specs.Float.Ieee.Bits.{is_true}
use Rattle.float_sqrt.specs.Roots.{sqrt}
use Rattle.float_sqrt.specs.RootOrder.{below_root}
use Rattle.float_spans.specs.Orders.{NotBelow, not_below, refuted, not_self}

-- the root of the higher of two f64 is not below that of the lower; the root is of f64 alone, so this is not over the format
pub root_keeps : (x y : Float) → T (fits binary64 x) → T (fits binary64 y) → T (lt x y) → NotBelow (sqrt y) (sqrt x)
root_keeps x y f g l =
    not_below (sqrt y) (sqrt x)
    (λ h. refuted (not_self (sqrt y)) (subst T (sym (below_root (sqrt y) x y f g (is_true (lt (sqrt y) (sqrt x)) h) (is_true (lt x y) l))) tt))
