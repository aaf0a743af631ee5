-- The laws of sums by their words. Assumes nothing.
use mathlib.Core.Bool.{Bool, true, false, ◌&&◌, not}
use mathlib.Core.Path.{◌≡◌, refl, sym, ◌∙◌, ap}
use Prim.Native.Nat.{ℕ, suc, ◌+◌, ◌-◌, ◌≤◌, ◌<◌}
use native.Mathlib.Omega.{arith}
use borrow.Author.Tests.{le-leb, lt-leb, leb-true, leb-false, not-true, not-false}
use lib.Dec.{leb}
use lib.IntN.{pos, nat_abs, ◌+ℤ◌}
use Rattle.signed_numbers.specs.Range.{farthest, within}
use Rattle.signed_numbers.specs.Linear.{alone, abs, plus, minus, equal}
use Rattle.plan_definition.specs.Places.{in_range}
use Rattle.plan_definition.specs.Lines.{offset_of}
use Rattle.plan_definition.specs.declared.PlaceWords.{PlaceWords}
use Rattle.plan_lines.specs.declared.places.SumWords.{SumWords}
use Rattle.plan_lines.specs.Given.{InWords}
use Rattle.plan_lines.specs.Sums.{MovedTo, Near, NearZero, sum_zero, sum_word, sum_of}

-- a word of a sum with an offset added
axis : (k a b : ℕ) → NearZero k a → k ≤ 16 → sum_word (a + b - 1099511627776) ≡ sum_word a +ℤ offset_of b
axis k a b n h =
    equal (sum_word (a + b - 1099511627776)) (sum_word a +ℤ offset_of b)
    (omega (arith, n.low, plus (sum_word a) (offset_of b), minus (pos (a + b - 1099511627776)) (pos sum_zero), minus (pos a) (pos sum_zero), minus (pos b) (pos farthest)))

axis_near : (k a b : ℕ) → NearZero k a → k ≤ 16 → b < suc (farthest + farthest) → NearZero (suc k) (a + b - 1099511627776)
axis_near k a b n h l = record { low = omega (arith, n.low, n.high); high = omega (arith, n.low, n.high) }

pub moved_to : (k : ℕ) (sum : SumWords) (o : PlaceWords) → Near k sum → InWords o → k ≤ 16
    → MovedTo k sum o (record { x = sum.x + o.x - 1099511627776; y = sum.y + o.y - 1099511627776; z = sum.z + o.z - 1099511627776 })
moved_to k sum o n w h = record {
  is = λ i. record { x = axis k sum.x o.x n.on_x h i; y = axis k sum.y o.y n.on_y h i; z = axis k sum.z o.z n.on_z h i };
  near = record {
    on_x = axis_near k sum.x o.x n.on_x h w.x_small;
    on_y = axis_near k sum.y o.y n.on_y h w.y_small;
    on_z = axis_near k sum.z o.z n.on_z h w.z_small;
  };
}

-- ---- the range
size : (n : ℕ) → nat_abs (sum_word n) ≡ (n - sum_zero) + (sum_zero - n)
size n = omega (arith, minus (pos n) (pos sum_zero), alone (sum_word n), abs (sum_word n))

-- its test by the word
pub word_tested : (n : ℕ) → leb 34084860461056 n && leb n 36283883716608 ≡ within (sum_word n)
word_tested n = go (leb 34084860461056 n) refl (leb n 36283883716608) refl
  where
    go : (a : Bool) → leb 34084860461056 n ≡ a → (b : Bool) → leb n 36283883716608 ≡ b → a && b ≡ within (sum_word n)
    go false p b q = sym (lt-leb (nat_abs (sum_word n)) farthest (omega (arith, size n, leb-false 34084860461056 n p)))
    go true p false q = sym (lt-leb (nat_abs (sum_word n)) farthest (omega (arith, size n, leb-false n 36283883716608 q)))
    go true p true q = sym (le-leb (nat_abs (sum_word n)) farthest (omega (arith, size n, leb-true 34084860461056 n p, leb-true n 36283883716608 q)))
