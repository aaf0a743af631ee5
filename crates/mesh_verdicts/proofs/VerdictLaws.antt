-- Laws of the verdict on a patch. Assumes nothing.
use mathlib.Core.Path.{◌≡◌, sym}
use mathlib.Core.Bool.{Bool, true, false}
use mathlib.Core.List.{List}
use mathlib.Core.Option.{Option, none, some}
use Prim.Native.Nat.{ℕ}
use borrow.Author.Tests.{eq-eqb, ne_eqb}
use lib.ListN.{length}
use lib.Ieee.{Float, lt}
use Rattle.patch_geometry.specs.declared.Aabb.{Aabb}
use Rattle.patch_geometry.specs.Geometry.{is_empty, diagonal, zero64}
use Rattle.patch_measures.specs.Reach.{farthest, escapes_body}
use Rattle.mesh_verdicts.specs.declared.Failure.{Failure}
use Rattle.mesh_verdicts.specs.declared.Failure.TheVariants.{Empty, Upstream, Escape}
use Rattle.mesh_verdicts.specs.Failures.{escape_of, failure_by}

module _ (box : Aabb) (ps : List Float) {e : Bool} (test : e ≡ is_empty box) where
  -- nothing escapes an empty box
  pub stays_empty : e ≡ true → none ≡ escape_of box ps
  unfolding escape_of escapes_body
  stays_empty t = rw (sym test, t)

  module _ (t : e ≡ false) {span : Float} (s : span ≡ diagonal box) where
    -- nothing escapes a box that spans nothing
    pub stays_point : lt zero64 span ≡ false → none ≡ escape_of box ps
    unfolding escape_of escapes_body
    stays_point h = rw (sym test, t, sym s, h)

    -- what reaches no farther than the span stays
    pub stays_near : {far : Float} → lt zero64 span ≡ true → far ≡ farthest ps box → lt span far ≡ false → none ≡ escape_of box ps
    unfolding escape_of escapes_body
    stays_near h f g = rw (sym test, t, sym s, h, sym f, g)

    -- what reaches farther escapes, with its reach and the span
    pub escapes_far : {far : Float} → lt zero64 span ≡ true → far ≡ farthest ps box → lt span far ≡ true → some (Escape far span) ≡ escape_of box ps
    unfolding escape_of escapes_body
    escapes_far h f g = rw (sym test, t, sym s, h, sym f, g)

module _ (box : Aabb) (outcome : ℕ) (ps : List Float) (is : List ℕ) where
  -- an upstream failure
  pub upstream_is : (outcome ≡ 0 → ⊥) → some (Upstream outcome) ≡ failure_by box outcome ps is
  unfolding failure_by
  upstream_is n = rw (ne_eqb outcome 0 n)

  -- a patch without triangles
  pub empty_is : outcome ≡ 0 → length is ≡ 0 → some Empty ≡ failure_by box outcome ps is
  unfolding failure_by
  empty_is z e = rw (eq-eqb outcome 0 z, eq-eqb (length is) 0 e)

  -- another fails only by escaping
  pub other_is : {f : Option Failure} → outcome ≡ 0 → (length is ≡ 0 → ⊥) → f ≡ escape_of box ps → f ≡ failure_by box outcome ps is
  unfolding failure_by
  other_is z n g = rw (eq-eqb outcome 0 z, ne_eqb (length is) 0 n, g)
