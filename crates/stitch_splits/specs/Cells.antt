-- Laws of cells: a point lies in its own cell, and points in one cell have one name. Assumes nothing.
use Rattle.std.specs.Prelude.{◌≡◌, refl, Bool, true, false, ◌&&◌, List, ℕ, ◌<◌, length, get_or, ℤ, pos, negsuc, Float}
use Rattle.std.proofs.Common.{sym, ap, ◌∙◌, eq-eqb, eqb-true}
use Rattle.std.proofs.lemmas.Bool.{false≢true}
use Rattle.std.specs.Float.{nan}
use Rattle.point_rules.specs.Points.{cell, key, sameℤ}
use Rattle.point_rules.specs.Rule.{names}
use Rattle.point_rules.specs.Names.{names_at, names_within}
use Rattle.patch_geometry.specs.declared.Vec3.{Vec3}
use Rattle.patch_geometry.specs.Geometry.{point_at}
use Rattle.stitch_splits.specs.Splits.{same_cell}

-- a whole number is the same as itself
same_self : (a : ℤ) → sameℤ a a ≡ true
same_self (pos n) = eq-eqb n n refl
same_self (negsuc n) = eq-eqb n n refl

-- two that are the same are equal
same_equal : (a b : ℤ) → sameℤ a b ≡ true → a ≡ b
same_equal (pos m) (pos n) e = ap pos (eqb-true m n e)
same_equal (pos m) (negsuc n) e = absurd (false≢true e)
same_equal (negsuc m) (pos n) e = absurd (false≢true e)
same_equal (negsuc m) (negsuc n) e = ap negsuc (eqb-true m n e)

-- if three tests pass, the first passes
and_first : (a b c : Bool) → (a && b && c) ≡ true → a ≡ true
and_first true b c e = refl
and_first false b c e = e

-- and the second
and_second : (a b c : Bool) → (a && b && c) ≡ true → b ≡ true
and_second true true c e = refl
and_second true false c e = e
and_second false b c e = absurd (false≢true e)

-- and the third
and_third : (a b c : Bool) → (a && b && c) ≡ true → c ≡ true
and_third true true c e = e
and_third true false c e = absurd (false≢true e)
and_third false b c e = absurd (false≢true e)

-- a point lies in its own cell
pub cell_self : (p : Vec3) → same_cell p p ≡ true
unfolding same_cell
cell_self p = rw (same_self (cell p.x), same_self (cell p.y), same_self (cell p.z))

-- points in one cell have one key
pub cell_key : (p q : Vec3) → same_cell p q ≡ true → key p.x p.y p.z ≡ key q.x q.y q.z
unfolding same_cell key
cell_key p q e =
    let a = sameℤ (cell p.x) (cell q.x) in
    let b = sameℤ (cell p.y) (cell q.y) in
    let c = sameℤ (cell p.z) (cell q.z) in
    let x = same_equal (cell p.x) (cell q.x) (and_first a b c e) in
    let y = same_equal (cell p.y) (cell q.y) (and_second a b c e) in
    let z = same_equal (cell p.z) (cell q.z) (and_third a b c e) in
    rw (x, y, z)

-- vertices in one cell have one name, since a key is computed from the cells
pub cells_name : (ps : List Float) (g h : ℕ) → g < length (names key ps) → h < length (names key ps) → same_cell (point_at ps g) (point_at ps h) ≡ true
    → get_or (names key ps) g 0 ≡ get_or (names key ps) h 0
cells_name ps g h i j e =
    names_at key ps g nan (names_within key ps g i) ∙ cell_key (point_at ps g) (point_at ps h) e ∙ sym (names_at key ps h nan (names_within key ps h j))
