-- Spans and boxes in words of the work area: read, written, and as they were. Assumes nothing.
use mathlib.Core.Path.{◌≡◌, ap, ◌∙◌}
use mathlib.Core.List.{List}
use Prim.Native.Nat.{ℕ, ◌+◌, ◌≤◌}
use native.Mathlib.Omega.{arith}
use lib.ListN.{length, get_or, take, drop, set, length-set}
use lib.Seq.{get_or-set_same, get_or-set_other, take-set-le, drop-set-lt}
use lib.Dec.{T}
use lib.Ieee.{Float, binary64, fits}
use lib.Ieee.Bits.{of_bits-to_bits}
use Rattle.float_steps.specs.Floats.{f64, bits64}
use Rattle.float_spans.specs.declared.Span.{Span}
use Rattle.stitch_boxes.specs.declared.Bounds.{Bounds}
use Rattle.lists.specs.Stretches.{front_at, front_less, rest_at, rest_less}
use Rattle.stitch_tree.specs.Nodes.{span_at, box_at, SpanPut, BoxPut}

abbrev made : Float → Float → Span
made a b = record { low = a; high = b }

-- a span by its ends
pub span_is : {a b c d : Float} → a ≡ c → b ≡ d → made a b ≡ made c d
span_is {a} {b} {c} {d} h k = ap (λ (z : Float). made z b) h ∙ ap (made c) k

abbrev box : Span → Span → Span → Bounds
box a b c = record { x = a; y = b; z = c }

-- a box by its spans
pub box_is : {a b c x y z : Span} → a ≡ x → b ≡ y → c ≡ z → box a b c ≡ box x y z
box_is {a} {b} {c} {x} {y} {z} h k l = ap (λ (s : Span). box s b c) h ∙ ap (λ (s : Span). box x s c) k ∙ ap (box x y) l

-- ---- what is as it was

module _ (W E : List ℕ) (q k : ℕ) where
  -- a span in front of what was written
  span_front : take q E ≡ take q W → k + 2 ≤ q → span_at E k ≡ span_at W k
  span_front e l = span_is (ap f64 (front_at q k W E 0 e (omega arith))) (ap f64 (front_at q (k + 1) W E 0 e (omega arith)))

  -- and one behind it
  span_rest : drop q E ≡ drop q W → q ≤ k → span_at E k ≡ span_at W k
  span_rest e l = span_is (ap f64 (rest_at q k W E 0 e l)) (ap f64 (rest_at q (k + 1) W E 0 e (omega arith)))

module _ (W E : List ℕ) (q k : ℕ) where
  -- a box in front of what was written
  pub box_front : take q E ≡ take q W → k + 6 ≤ q → box_at E k ≡ box_at W k
  box_front e l = box_is (span_front W E q k e (omega arith)) (span_front W E q (k + 2) e (omega arith)) (span_front W E q (k + 4) e (omega arith))

  -- and one behind it
  pub box_rest : drop q E ≡ drop q W → q ≤ k → box_at E k ≡ box_at W k
  box_rest e l = box_is (span_rest W E q k e l) (span_rest W E q (k + 2) e (omega arith)) (span_rest W E q (k + 4) e (omega arith))

-- ---- written

-- the bits of its ends are a span's words
pub span_put : {k a b : ℕ} {W : List ℕ} (s : Span) → T (fits binary64 s.low) → T (fits binary64 s.high) → k + 2 ≤ length W → a ≡ bits64 s.low → b ≡ bits64 s.high
    → SpanPut k s W (set (set W k a) (k + 1) b)
span_put {k} {a} {b} {W} s f g l h m =
    record {
      is =
          span_is
          (ap f64 (get_or-set_other (set W k a) (k + 1) k b 0 (λ z. omega arith) ∙ get_or-set_same W k a 0 (omega arith) ∙ h) ∙ of_bits-to_bits binary64 s.low f)
          (ap f64 (get_or-set_same (set W k a) (k + 1) b 0 (omega (arith, length-set W k a)) ∙ m) ∙ of_bits-to_bits binary64 s.high g);
      front = take-set-le k (set W k a) (k + 1) b (omega arith) ∙ take-set-le k W k a (omega arith);
      rest = drop-set-lt (k + 2) (set W k a) (k + 1) b (omega arith) ∙ drop-set-lt (k + 2) W k a (omega arith);
    }

-- three spans are a box
pub box_put : {k : ℕ} {W X Y E : List ℕ} (b : Bounds) → SpanPut k b.x W X → SpanPut (k + 2) b.y X Y → SpanPut (k + 4) b.z Y E → BoxPut k b W E
box_put {k} {W} {X} {Y} {E} b x y z =
    record {
      is =
          box_is
          (span_front Y E (k + 4) k z.front (omega arith) ∙ span_front X Y (k + 2) k y.front (omega arith) ∙ x.is)
          (span_front Y E (k + 4) (k + 2) z.front (omega arith) ∙ y.is)
          z.is;
      front = front_less k (k + 4) Y E z.front (omega arith) ∙ front_less k (k + 2) X Y y.front (omega arith) ∙ x.front;
      rest =
          rest_less (k + 4 + 2) (k + 6) Y E z.rest (omega arith)
          ∙ rest_less (k + 2 + 2) (k + 6) X Y y.rest (omega arith)
          ∙ rest_less (k + 2) (k + 6) W X x.rest (omega arith);
    }
