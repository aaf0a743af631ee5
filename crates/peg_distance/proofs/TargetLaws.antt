-- The laws of the peg less a row's place. Assumes nothing.
use mathlib.Core.Path.{◌≡◌, refl, sym, ap, ◌∙◌, subst}
use mathlib.Core.List.{List}
use Prim.Native.Nat.{ℕ, ◌+◌, ◌-◌, ◌*◌, ◌^◌, ◌≤◌, ◌<◌}
use native.Mathlib.Omega.{arith}
use lib.IntN.{ℤ, pos, nat_abs, ◌+ℤ◌, ◌-ℤ◌}
use lib.ListN.{get_or}
use Rattle.signed_numbers.specs.Range.{farthest}
use Rattle.signed_numbers.specs.Linear.{up, down, alone, abs, plus, minus, equal}
use Rattle.signed_numbers.specs.Bits.{read, small_read}
use Rattle.peg_distance.specs.Words.{AxisAim, AxisRange, PegAt, middle}
use Rattle.plan_definition.specs.declared.PlaceWords.{PlaceWords}

-- a number in range is read as it is
in_range_read : (z : ℤ) → nat_abs z ≤ farthest → read z ≡ z
in_range_read z h = small_read z (omega arith)

pub peg_at : (x y z : ℤ) (a b c : ℕ) → nat_abs x ≤ farthest → nat_abs y ≤ farthest → nat_abs z ≤ farthest → pos a ≡ read x +ℤ pos farthest → pos b ≡ read y +ℤ pos farthest
    → pos c ≡ read z +ℤ pos farthest → PegAt x y z (record { x = a; y = b; z = c })
peg_at x y z a b c hx hy hz ea eb ec = record {
  on_x = ea ∙ ap (λ (n : ℤ). n +ℤ pos farthest) (in_range_read x hx);
  on_y = eb ∙ ap (λ (n : ℤ). n +ℤ pos farthest) (in_range_read y hy);
  on_z = ec ∙ ap (λ (n : ℤ). n +ℤ pos farthest) (in_range_read z hz);
  x_range = hx;
  y_range = hy;
  z_range = hz;
}

module _ (places : List ℤ) (i peg w : ℕ) (r : AxisRange places i peg) (e : pos w ≡ read (get_or places i (pos 0)) +ℤ pos farthest) where
  abbrev place : ℤ
  place = get_or places i (pos 0)

  word : pos w ≡ place +ℤ pos farthest
  word = e ∙ ap (λ (n : ℤ). n +ℤ pos farthest) (in_range_read place r.place_range)

  word_sum : w + down place ≡ up place + farthest
  word_sum = omega (arith, ap up word, ap down word, plus place (pos farthest))

  -- the word of a place is no more than what it is taken from
  pub place_low : w ≤ middle + peg
  place_low = omega (arith, word_sum, abs place, r.place_range)

  pub axis_aim : AxisAim places i peg (middle + peg - w)
  axis_aim = record {
    is =
        equal (pos (middle + peg - w) +ℤ place) ((pos peg -ℤ pos farthest) +ℤ pos middle)
        (omega
        (arith, plus (pos (middle + peg - w)) place, plus (pos peg -ℤ pos farthest) (pos middle), minus (pos peg) (pos farthest), alone place, word_sum, place_low));
    near = record { low = omega (arith, word_sum, abs place, alone place, r.place_range, r.peg_range); high = omega (arith, word_sum, abs place, alone place, r.place_range, r.peg_range) };
  }
