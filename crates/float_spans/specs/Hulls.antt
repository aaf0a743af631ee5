-- The span of several floats: made of one, empty, and the hull of two. Their ends are finite f32 values, or the infinities of the empty span. Assumes nothing.
use Rattle.std.specs.Prelude.{◌≡◌, refl, Bool, true, false, cond, T, Float}
use Rattle.std.proofs.Common.{sym, subst}
use Rattle.std.specs.Float.{nan, inf, fin}
use Rattle.std.specs.Float.Ieee.{lt}
use Rattle.std.specs.Float.Ieee.Scale.{finite}
use Rattle.float_spans.specs.Rounds.{number}
use Rattle.float_spans.specs.Orders.{NotBelow, refuted, not_self, le_trans}
use Rattle.float_spans.specs.Everywhere.{finite_number}
use Rattle.float_spans.specs.declared.Span.{Span}
use Rattle.float_spans.specs.Spans.{Holds, lower, higher, lower_le, le_higher, low_le, le_high, holds_of_le}
use Rattle.float_spans.specs.Small.{Single}

-- the span of nothing
abbrev pub empty : Span
empty = record { low = inf false; high = inf true }

-- the span of one float
abbrev pub one : Float → Span
one x = record { low = x; high = x }

-- the least span that holds two spans
abbrev pub hull : Span → Span → Span
hull X Y = record { low = lower X.low Y.low; high = higher X.high Y.high }

-- a finite f32, or the infinity with a sign
pub data End (s : Bool) (x : Float) : Type 0 where
  at : Single x → End s x
  none : x ≡ inf s → End s x

-- the ends of such a span
pub record Ends (X : Span) : Type 0 where
  pub low : End false X.low
  pub high : End true X.high

-- the empty span has such ends
pub empty_ends : Ends empty
empty_ends = record { low = none refl; high = none refl }

-- so has that of a finite f32
pub one_ends : {x : Float} → Single x → Ends (one x)
one_ends h = record { low = at h; high = at h }

chosen : {s : Bool} {x y : Float} (b : Bool) → End s x → End s y → End s (cond b x y)
chosen true h k = h
chosen false h k = k

-- and a hull of two that have
pub hull_ends : {X Y : Span} → Ends X → Ends Y → Ends (hull X Y)
hull_ends {X} {Y} h k = record { low = chosen (lt X.low Y.low) h.low k.low; high = chosen (lt Y.high X.high) h.high k.high }

pub end_number : {s : Bool} {x : Float} → End s x → T (number x)
end_number {s} {x} (at h) = finite_number x h.real
end_number (none e) = subst (λ (z : Float). T (number z)) (sym e) tt

-- ---- membership
-- x lies in the span of x
pub one_holds : (x : Float) → Holds (one x) x
one_holds x = record { least = not_self x; most = not_self x }

-- ---- of a span that holds a finite float both ends are finite f32 values
low_single : (l x : Float) → End false l → T (finite x) → NotBelow x l → Single l
low_single l x (at h) p k = h
low_single l x (none e) p k = absurd (no x p (subst (λ (z : Float). NotBelow x z) e k))
  where
    no : (x : Float) → T (finite x) → NotBelow x (inf false) → ⊥
    no nan p k = p
    no (inf s) p k = p
    no (fin s m e) p k = refuted k (unfold lt in tt)

high_single : (u x : Float) → End true u → T (finite x) → NotBelow u x → Single u
high_single u x (at h) p k = h
high_single u x (none e) p k = absurd (no x p (subst (λ (z : Float). NotBelow z x) e k))
  where
    no : (x : Float) → T (finite x) → NotBelow (inf true) x → ⊥
    no nan p k = p
    no (inf s) p k = p
    no (fin s m e) p k = refuted k (unfold lt in tt)

-- both ends are finite f32 values
pub record Singles (X : Span) : Type 0 where
  pub low : Single X.low
  pub high : Single X.high

-- so it is where the span holds a finite float
pub singles : {X : Span} (x : Float) → Ends X → T (finite x) → Holds X x → Singles X
singles {X} x e p h = record { low = low_single X.low x e.low p h.least; high = high_single X.high x e.high p h.most }
