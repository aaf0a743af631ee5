-- A patch that gets no new vertex keeps its indices, and every stitched patch has as many indices as its row says. Assumes nothing.
use Rattle.std.specs.Prelude.{◌≡◌, Bool, get_or, drop, Float}
use Rattle.std.proofs.Math.Path.{refl, ap}
use Rattle.std.proofs.Common.{◌∙◌, le_of_suc-le-suc, not-suc-le-zero, arith, length-append}
use mathlib.Core.List.{List, [], ◌∷◌, ◌++◌, map}
use Prim.Native.Nat.{ℕ, zero, suc, ◌+◌, ◌%◌, ◌≤◌, ◌<◌}
use Rattle.std.proofs.Math.ListN.{length, length-drop}
use Rattle.lists.specs.Lists.{sum_of}
use Rattle.body_rows.specs.Body.{Patch, triangles_of}
use Rattle.body_rows.specs.Patches.{no_patch}
use Rattle.edge_uses.specs.Edges.{uses_from, triangle_uses}
use Rattle.edge_uses.specs.RowUses.{uses_count}
use Rattle.stitch_loose_points.specs.Loose.{Facet, corner_of, facets_of, body_facets}
use Rattle.stitch_splits.specs.Splits.{SplitTriangle}
use Rattle.stitch_rings.specs.Rings.{fan, fan_from, numbers_of}
use Rattle.stitch_definition.specs.StitchedBody.{ring, fanned, stitched_patch, stitched_patches}

-- whole triangles in every patch
pub record Threes (patches : List Patch) : Type 0 where
  pub each : (j : ℕ) → j < length patches → length (get_or patches j no_patch).indices % 3 ≡ 0

-- so in all but the first
threes_rest : {p : Patch} {ps : List Patch} → Threes (p ∷ ps) → Threes ps
threes_rest t = record { each = λ j h. t.each (suc j) (omega arith) }

-- the indices of all patches
abbrev pub many_indices : List Patch → ℕ
many_indices patches = sum_of (λ p. length p.indices) patches

-- an edge for each index
pub uses_many : (row : ℕ) (names : List ℕ) (patches : List Patch) → Threes patches → length (uses_from (λ r. 0) row names patches) ≡ many_indices patches
unfolding uses_from sum_of
uses_many row names [] t = refl
uses_many row names (p ∷ ps) t =
    length-append (triangle_uses 0 row names (triangles_of p.indices)) (uses_from (λ r. 0) (suc row) (drop p.row.vertices names) ps)
    ∙ (λ i. uses_count 0 row names p.indices (t.each 0 (omega arith)) i + uses_many (suc row) (drop p.row.vertices names) ps (threes_rest t) i)

no_items : {A : Type 0} (xs : List A) → length xs ≡ 0 → xs ≡ []
no_items [] e = refl
no_items (x ∷ xs) e = absurd (omega arith)

module _ (split : Facet → SplitTriangle) (same : (f : Facet) → (split f).facet ≡ f) where
  -- the triangles of a patch, split
  abbrev split_in : List Float → List ℕ → List Bool → List ℕ → List SplitTriangle
  split_in ps ns areOpen is = map split (facets_of ps ns areOpen (triangles_of is))

  -- triangles without a new vertex have the indices that they had
  fan_none : (next : ℕ) (ps : List Float) (ns : List ℕ) (areOpen : List Bool) (is : List ℕ) → length is % 3 ≡ 0 → length is ≤ length areOpen
      → sum_of (λ c. length c.kept) (split_in ps ns areOpen is) ≡ 0 → fanned next (split_in ps ns areOpen is) ≡ is
  unfolding facets_of triangles_of fanned sum_of ring fan fan_from numbers_of corner_of
  fan_none next ps ns areOpen [] m l z = refl
  fan_none next ps ns areOpen (a ∷ []) m l z = absurd (omega arith)
  fan_none next ps ns areOpen (a ∷ b ∷ []) m l z = absurd (omega arith)
  fan_none next ps ns [] (a ∷ b ∷ c ∷ is) m l z = absurd (omega arith)
  fan_none next ps ns (o ∷ []) (a ∷ b ∷ c ∷ is) m l z = absurd (omega arith)
  fan_none next ps ns (o ∷ p ∷ []) (a ∷ b ∷ c ∷ is) m l z = absurd (omega arith)
  fan_none next ps ns (o ∷ p ∷ q ∷ areOpen) (a ∷ b ∷ c ∷ is) m l z =
      let f : Facet = record { c₀ = corner_of ps ns o a; c₁ = corner_of ps ns p b; c₂ = corner_of ps ns q c } in
      let none : (split f).kept ≡ [] = no_items (split f).kept (omega arith) in
      let rest = split_in ps ns areOpen is in
      (λ i. fan (ring (same f i) (none i) next) ++ fanned (next + length (none i)) rest)
      ∙ ap (λ (xs : List ℕ). a ∷ b ∷ c ∷ xs) (fan_none (next + 0) ps ns areOpen is (omega arith) (omega arith) (omega arith))

  -- all patches stitched by the splits of their triangles
  abbrev split_patches : List ℕ → List Bool → List Patch → List Patch
  split_patches ns areOpen patches = stitched_patches patches (map (λ fs. map split fs) (body_facets ns areOpen patches))

  -- a patch for each
  pub split_many : (ns : List ℕ) (areOpen : List Bool) (patches : List Patch) → length (split_patches ns areOpen patches) ≡ length patches
  unfolding stitched_patches body_facets
  split_many ns areOpen [] = refl
  split_many ns areOpen (p ∷ ps) = ap suc (split_many (drop p.row.vertices ns) (drop (length p.indices) areOpen) ps)

  -- with as many indices as its row says
  pub split_sized : (ns : List ℕ) (areOpen : List Bool) (patches : List Patch) (k : ℕ) → k < length patches
      → length (get_or (split_patches ns areOpen patches) k no_patch).indices ≡ (get_or (split_patches ns areOpen patches) k no_patch).row.indices
  unfolding stitched_patches stitched_patch body_facets
  split_sized ns areOpen [] k h = absurd (not-suc-le-zero h)
  split_sized ns areOpen (p ∷ ps) zero h = refl
  split_sized ns areOpen (p ∷ ps) (suc k) h = split_sized (drop p.row.vertices ns) (drop (length p.indices) areOpen) ps k (le_of_suc-le-suc h)

  -- one that has no new vertex has the indices that it had
  pub split_none : (ns : List ℕ) (areOpen : List Bool) (patches : List Patch) → Threes patches → many_indices patches ≤ length areOpen → (k : ℕ) → k < length patches
      → (get_or (split_patches ns areOpen patches) k no_patch).row.vertices ≤ (get_or patches k no_patch).row.vertices
      → (get_or (split_patches ns areOpen patches) k no_patch).indices ≡ (get_or patches k no_patch).indices
  unfolding stitched_patches stitched_patch body_facets sum_of
  split_none ns areOpen [] t l k h v = absurd (not-suc-le-zero h)
  split_none ns areOpen (p ∷ ps) t l zero h v = fan_none p.row.vertices p.positions ns areOpen p.indices (t.each 0 (omega arith)) (omega arith) (omega arith)
  split_none ns areOpen (p ∷ ps) t l (suc k) h v =
      let n = length p.indices in
      split_none (drop p.row.vertices ns) (drop n areOpen) ps (threes_rest t) (omega (arith, length-drop n areOpen)) k (le_of_suc-le-suc h) v
