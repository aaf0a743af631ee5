-- A patch seen with another row and other normals: a row of the same vertex count has the same uses. Assumes nothing.
use Rattle.std.specs.Prelude.{◌≡◌, refl, List, [], ◌∷◌, ◌++◌, map, ℕ, suc, drop, Float}
use Rattle.std.proofs.Common.{◌∙◌}
use Rattle.body_rows.specs.Body.{Row, Patch, triangles_of}
use Rattle.edge_uses.specs.Edges.{triangle_uses, uses_from}

-- a patch with row and normals changed
abbrev pub seen : (Row → Row) → (List Float → List Float) → Patch → Patch
seen f g p = record { row = f p.row; positions = p.positions; normals = g p.normals; indices = p.indices }

-- the uses of patches seen so, by numbers of their rows that stay
pub uses_seen : (f : Row → Row) (g : List Float → List Float) (shell : Row → ℕ) → ((r : Row) → shell (f r) ≡ shell r) → ((r : Row) → (f r).vertices ≡ r.vertices)
    → (row : ℕ) (points : List ℕ) (patches : List Patch) → uses_from shell row points (map (seen f g) patches) ≡ uses_from shell row points patches
unfolding uses_from
uses_seen f g shell e v row points [] = refl
uses_seen f g shell e v row points (p ∷ ps) =
    (λ i. triangle_uses (e p.row i) row points (triangles_of p.indices) ++ uses_from shell (suc row) (drop (v p.row i) points) (map (seen f g) ps))
    ∙ (λ i. triangle_uses (shell p.row) row points (triangles_of p.indices) ++ uses_seen f g shell e v (suc row) (drop p.row.vertices points) ps i)
