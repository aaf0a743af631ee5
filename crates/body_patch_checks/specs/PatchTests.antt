-- The conditions of the checks 21 and 23 by name, and that 22 looks at no position and no normal. Assumes nothing.
use Rattle.float_steps.specs.Floats.{finite}
use Rattle.std.specs.Prelude.{◌≡◌, refl, Bool, true, false, not, List, [], ◌∷◌, ℕ, ◌*◌, ◌%◌, take, drop, leb, eqb, Float}
use Rattle.std.proofs.Common.{sym, ap, ◌∙◌}
use Rattle.lists.specs.Lists.{any}
use Rattle.body_rows.specs.Body.{Row, patches_of}
use Rattle.body_refusals.specs.PatchChecks.{bad_indices}

-- 21: an index count isn't a multiple of 3
abbrev pub part_triangle : Row → Bool
part_triangle r = not (eqb (r.indices % 3) 0)

-- 23: a number isn't finite
abbrev pub not_finite : Float → Bool
not_finite x = not (finite x)

-- Check 22 looks at no position and no normal.
pub any_indices : (rows : List Row) (ps ns : List Float) (is : List ℕ) → any bad_indices (patches_of rows ps ns is) ≡ any bad_indices (patches_of rows [] [] is)
unfolding patches_of any bad_indices
any_indices [] ps ns is = refl
any_indices (r ∷ rs) ps ns is =
    let v = 3 * r.vertices in
    let rest = drop r.indices is in
    ap (λ (b : Bool). elim (any (λ i. leb r.vertices i) (take r.indices is)) [ true ↦ true | false ↦ b ])
    (any_indices rs (drop v ps) (drop v ns) rest ∙ sym (any_indices rs (drop v []) (drop v []) rest))
