-- Small bodies written down for a claim: each row in one line, its points with whole coordinates. Assumes nothing.
use mathlib.Core.List.{List, [], ◌∷◌, map, flat_map}
use Rattle.std.specs.Prelude.{ℕ, ◌+◌, length, ℤ, pos, neg_ℤ, Float}
use Rattle.std.specs.Float.{binary32}
use Rattle.std.specs.Float.Ieee.{of_int}

-- a row's shell and face, its points, and its indices
pub record Given : Type 0 where
  pub shell : ℕ
  pub face : ℕ
  pub points : List (List ℤ)
  pub indices : List ℕ

-- the point x, y, z
abbrev pub at : ℕ → ℕ → ℕ → List ℤ
at x y z = pos x ∷ pos y ∷ pos z ∷ []

-- the point x, −y, z
abbrev pub below : ℕ → ℕ → ℕ → List ℤ
below x y z = pos x ∷ neg_ℤ (pos y) ∷ pos z ∷ []

-- a row in a shell
abbrev pub row_in : ℕ → ℕ → List (List ℤ) → List ℕ → Given
row_in s f ps is = record { shell = s; face = f; points = ps; indices = is }

-- a row of one triangle in a shell
abbrev pub triangle_in : ℕ → ℕ → List ℤ → List ℤ → List ℤ → Given
triangle_in s f p q r = row_in s f (p ∷ q ∷ r ∷ []) (0 ∷ 1 ∷ 2 ∷ [])

-- a row of shell 0
abbrev pub row : ℕ → List (List ℤ) → List ℕ → Given
row f ps is = row_in 0 f ps is

-- a row of one triangle in shell 0
abbrev pub triangle : ℕ → List ℤ → List ℤ → List ℤ → Given
triangle f p q r = triangle_in 0 f p q r

-- how far a row's bin is above its face, so that neither is taken for the other
abbrev pub bins_above : ℕ
bins_above = 100

-- the flat table
unfoldable pub given_table : List Given → List ℕ
given_table [] = []
given_table (g ∷ gs) = g.shell ∷ g.face ∷ 0 ∷ length g.points ∷ length g.indices ∷ (bins_above + g.face) ∷ given_table gs

-- the flat positions
unfoldable pub given_positions : List Given → List Float
given_positions gs = flat_map (λ g. flat_map (λ p. map (of_int binary32) p) g.points) gs

-- the flat indices
unfoldable pub given_indices : List Given → List ℕ
given_indices gs = flat_map (λ g. g.indices) gs

-- ---- the bodies of the bench cases

-- O, X, Y, Z at 0 and unit axes
unfoldable pub axes : List (List ℤ)
axes = at 0 0 0 ∷ at 1 0 0 ∷ at 0 1 0 ∷ at 0 0 1 ∷ []

-- K6: triangles OYX, OXZ, OZY, XYZ on one row
unfoldable pub K6 : List Given
K6 = row 0 axes (0 ∷ 2 ∷ 1 ∷ 0 ∷ 1 ∷ 3 ∷ 0 ∷ 3 ∷ 2 ∷ 1 ∷ 2 ∷ 3 ∷ []) ∷ []

-- K6 reversed
unfoldable pub K6-reversed : List Given
K6-reversed = row 0 axes (0 ∷ 1 ∷ 2 ∷ 0 ∷ 3 ∷ 1 ∷ 0 ∷ 2 ∷ 3 ∷ 1 ∷ 3 ∷ 2 ∷ []) ∷ []

-- K7: row A, and row B with two triangles
unfoldable pub K7 : List Given
K7 =
    triangle 0 (at 0 0 0) (at 1 0 0) (at 0 1 0)
    ∷ row 1 (at 1 0 0 ∷ at 0 0 0 ∷ below 0 1 0 ∷ at 1 0 0 ∷ at 0 1 0 ∷ at 1 1 0 ∷ []) (0 ∷ 1 ∷ 2 ∷ 3 ∷ 4 ∷ 5 ∷ [])
    ∷ []

-- K8: row A, and row B with two triangles that meet in the middle of A's first edge
unfoldable pub K8 : List Given
K8 =
    triangle 0 (at 0 0 0) (at 10 0 0) (at 0 10 0)
    ∷ row 1 (at 0 0 0 ∷ below 0 10 0 ∷ at 5 0 0 ∷ at 5 0 0 ∷ below 0 10 0 ∷ at 10 0 0 ∷ []) (0 ∷ 1 ∷ 2 ∷ 3 ∷ 4 ∷ 5 ∷ [])
    ∷ []
