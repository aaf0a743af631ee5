-- Words of the peg and of its difference from a row's place, and what a row's vertices come to by them. Assumes nothing.
use Rattle.std.specs.Prelude.{◌≡◌, Bool, ◌&&◌, cond, List, [], ◌∷◌, ℕ, ◌+◌, ◌*◌, ◌^◌, ◌≤◌, ◌<◌, min, leb, ℤ, pos, nat_abs, ◌+ℤ◌, ◌-ℤ◌, length, get_or, Float}
use Rattle.signed_numbers.specs.Range.{farthest}
use Rattle.point_rules.specs.Points.{nearest}
use Rattle.plan_definition.specs.Places.{Place}
use Rattle.peg_definition.specs.Peg.{micrometres, reach}
use Rattle.plan_definition.specs.declared.PlaceWords.{PlaceWords}
use Rattle.peg_distance.specs.declared.target.Target.{Target}

-- the word of micrometre 0
abbrev pub middle : ℕ
middle = 2 ^ 43

-- more than any sum of squares that counts
abbrev pub beyond : ℕ
beyond = 75000001

-- ---- the words of a peg

-- the words of a peg that stands at x, y, z, which is in range
pub record PegAt (x y z : ℤ) (r : PlaceWords) : Type 0 where
  pub on_x : pos r.x ≡ x +ℤ pos farthest
  pub on_y : pos r.y ≡ y +ℤ pos farthest
  pub on_z : pos r.z ≡ z +ℤ pos farthest
  pub x_range : nat_abs x ≤ farthest
  pub y_range : nat_abs y ≤ farthest
  pub z_range : nat_abs z ≤ farthest

-- ---- the peg less a place

-- number i of the places and the peg's word on that axis are in range
pub record AxisRange (places : List ℤ) (i peg : ℕ) : Type 0 where
  pub there : i < length places
  pub place_range : nat_abs (get_or places i (pos 0)) ≤ farthest
  pub peg_range : peg ≤ 2 * farthest

-- so is the place of row k
pub record RowRange (places : List ℤ) (k : ℕ) (peg : PlaceWords) : Type 0 where
  pub there : 3 * k + 2 < length places
  pub on_x : nat_abs (get_or places (3 * k) (pos 0)) ≤ farthest
  pub on_y : nat_abs (get_or places (3 * k + 1) (pos 0)) ≤ farthest
  pub on_z : nat_abs (get_or places (3 * k + 2) (pos 0)) ≤ farthest
  pub peg_x : peg.x ≤ 2 * farthest
  pub peg_y : peg.y ≤ 2 * farthest
  pub peg_z : peg.z ≤ 2 * farthest

-- a target that a peg and a place in range may have
pub record InReach (t : ℕ) : Type 0 where
  pub low : middle ≤ t + 2 * farthest
  pub high : t ≤ middle + 2 * farthest

-- r is the word of the peg less number i of the places
pub record AxisAim (places : List ℤ) (i peg r : ℕ) : Type 0 where
  pub is : pos r +ℤ get_or places i (pos 0) ≡ (pos peg -ℤ pos farthest) +ℤ pos middle
  pub near : InReach r

-- a target on three axes
pub record Aimed (t : Target) : Type 0 where
  pub on_x : InReach t.x
  pub on_y : InReach t.y
  pub on_z : InReach t.z

-- r is the peg less the place of row k
pub record RowAim (places : List ℤ) (k : ℕ) (peg : PlaceWords) (r : Target) : Type 0 where
  pub on_x : AxisAim places (3 * k) peg.x r.x
  pub on_y : AxisAim places (3 * k + 1) peg.y r.y
  pub on_z : AxisAim places (3 * k + 2) peg.z r.z

-- ---- a row's vertices

-- how far a coordinate is from a target on its axis
abbrev pub apart_from : ℕ → Float → ℕ
apart_from t v = nat_abs ((nearest micrometres v +ℤ pos middle) -ℤ pos t)

-- r is the square of a distance within the reach
pub record Squared (x r : ℕ) : Type 0 where
  pub is : r ≡ x * x
  pub few : r ≤ reach * reach

-- the sum of squares of a vertex, or more than any that counts if it is ignored
unfoldable pub square_to : Target → Float → Float → Float → ℕ
square_to t x y z =
    let a = apart_from t.x x in let b = apart_from t.y y in let c = apart_from t.z z in cond (leb a reach && (leb b reach && leb c reach)) (a * a + b * b + c * c) beyond

-- the smallest of some vertices
unfoldable pub least_to : Target → List Float → ℕ
least_to t [] = beyond
least_to t (x ∷ []) = beyond
least_to t (x ∷ y ∷ []) = beyond
least_to t (x ∷ y ∷ z ∷ ps) = min (square_to t x y z) (least_to t ps)
