-- The hull of two spans holds what either holds. Assumes nothing.
use Rattle.std.specs.Prelude.{T, Float}
use Rattle.float_spans.specs.Rounds.{number}
use Rattle.float_spans.specs.Orders.{le_trans}
use Rattle.float_spans.specs.declared.Span.{Span}
use Rattle.float_spans.specs.Spans.{Holds, lower, higher, lower_le, le_higher, low_le, le_high, holds_of_le}
use Rattle.float_spans.specs.Hulls.{hull, end_number, Ends}

-- what lies in the first of two spans lies in their hull
pub hull_left : {X Y : Span} {x : Float} → T (number x) → Ends X → Ends Y → Holds X x → Holds (hull X Y) x
hull_left {X} {Y} {x} n p q h =
    holds_of_le (hull X Y) x
    (le_trans (lower X.low Y.low) X.low x (lower_le X.low Y.low (end_number p.low) (end_number q.low)).0 (low_le X x (end_number p.low) n h))
    (le_trans x X.high (higher X.high Y.high) (le_high X x (end_number p.high) n h) (le_higher X.high Y.high (end_number p.high) (end_number q.high)).0)

-- what lies in the second does too
pub hull_right : {X Y : Span} {x : Float} → T (number x) → Ends X → Ends Y → Holds Y x → Holds (hull X Y) x
hull_right {X} {Y} {x} n p q h =
    holds_of_le (hull X Y) x
    (le_trans (lower X.low Y.low) Y.low x (lower_le X.low Y.low (end_number p.low) (end_number q.low)).1 (low_le Y x (end_number q.low) n h))
    (le_trans x Y.high (higher X.high Y.high) (le_high Y x (end_number q.high) n h) (le_higher X.high Y.high (end_number p.high) (end_number q.high)).1)
