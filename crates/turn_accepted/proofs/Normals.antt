-- Walks look at no normal: a body without its normals has the same. Assumes nothing.
use mathlib.Core.Path.{◌≡◌, refl, sym, ap, ◌∙◌}
use mathlib.Core.List.{List, [], ◌∷◌, map}
use Prim.Native.Nat.{ℕ, ◌*◌}
use lib.ListN.{take, drop}
use lib.Seq.{take-nil, drop-nil}
use lib.Ieee.{Float}
use Rattle.body_rows.specs.Body.{Row, Patch, patches_of}
use Rattle.edge_uses.specs.Seen.{seen}
use Rattle.turn_definition.specs.Orient.{walks_of}
use Rattle.turn_definition.proofs.Seen.{walks_seen}

-- a patch without its normals
abbrev bare : Patch → Patch
bare = seen (λ r. r) (λ ns. [])

-- a body that has none
bodies_bare : (rows : List Row) (ps ns : List Float) (is : List ℕ) → map bare (patches_of rows ps ns is) ≡ patches_of rows ps [] is
unfolding patches_of
bodies_bare [] ps ns is = refl
bodies_bare (r ∷ rs) ps ns is =
    (λ i. record { row = r; positions = take (3 * r.vertices) ps; normals = sym (take-nil {A = Float} (3 * r.vertices)) i; indices = take r.indices is }
    ∷ bodies_bare rs (drop (3 * r.vertices) ps) (drop (3 * r.vertices) ns) (drop r.indices is) i)
    ∙ ap (λ (l : List Float). record { row = r; positions = take (3 * r.vertices) ps; normals = take (3 * r.vertices) []; indices = take r.indices is }
    ∷ patches_of rs (drop (3 * r.vertices) ps) l (drop r.indices is)) (sym (drop-nil {A = Float} (3 * r.vertices)))

-- The walks of a body are those of the body without its normals.
pub walks_any_normals : (rows : List Row) (ps ns : List Float) (is points : List ℕ) → walks_of (patches_of rows ps [] is) points ≡ walks_of (patches_of rows ps ns is) points
walks_any_normals rows ps ns is points =
    ap (λ (b : List Patch). walks_of b points) (sym (bodies_bare rows ps ns is)) ∙ walks_seen (λ r. r) (λ ns. []) (λ r. refl) (λ r. refl) (patches_of rows ps ns is) points
