-- Open edges and loose points. Assumes nothing.
use Rattle.std.specs.Prelude.{Bool, cond, ℕ, length, get_or, drop, ltb, eqb, Float}
use mathlib.Core.List.{List, [], ◌∷◌, map, flat_map}
use Rattle.join_definition.specs.Join.{joined}
use Rattle.body_rows.specs.Body.{Patch, Triangle, triangles_of}
use Rattle.patch_geometry.specs.declared.Vec3.{Vec3}
use Rattle.patch_geometry.specs.Geometry.{point_at}
use Rattle.edge_uses.specs.Edges.{uses_from, is_open}

-- a corner of a triangle: its index, its point and the point's name, and whether the edge from it to the next corner is open
pub record Corner : Type 0 where
  pub index : ℕ
  pub point : Vec3
  pub name : ℕ
  pub is_open : Bool

-- a triangle of a patch, by its corners 0, 1, 2
pub record Facet : Type 0 where
  pub c₀ : Corner
  pub c₁ : Corner
  pub c₂ : Corner

-- a corner of a patch whose vertices have the names that `ns` begins with
unfoldable pub corner_of : List Float → List ℕ → Bool → ℕ → Corner
corner_of ps ns o i = record { index = i; point = point_at ps i; name = get_or ns i 0; is_open = o }

-- the triangles of a patch; `opens` begins with the edges of its triangles, three each
unfoldable pub facets_of : List Float → List ℕ → List Bool → List Triangle → List Facet
facets_of ps ns areOpen [] = []
facets_of ps ns [] (t ∷ ts) = []
facets_of ps ns (o ∷ []) (t ∷ ts) = []
facets_of ps ns (o ∷ p ∷ []) (t ∷ ts) = []
facets_of ps ns (o ∷ p ∷ q ∷ areOpen) (t ∷ ts) =
    record { c₀ = corner_of ps ns o t.a; c₁ = corner_of ps ns p t.b; c₂ = corner_of ps ns q t.c } ∷ facets_of ps ns areOpen ts

-- the triangles of each row
unfoldable pub body_facets : List ℕ → List Bool → List Patch → List (List Facet)
body_facets ns areOpen [] = []
body_facets ns areOpen (p ∷ ps) =
    facets_of p.positions ns areOpen (triangles_of p.indices) ∷ body_facets (drop p.row.vertices ns) (drop (length p.indices) areOpen) ps

-- a loose point, with its name
pub record Loose : Type 0 where
  pub name : ℕ
  pub point : Vec3

-- Loose points go by name; of several with one name the last stands.
unfoldable pub insert_loose : Loose → List Loose → List Loose
insert_loose l [] = l ∷ []
insert_loose l (x ∷ xs) =
    let rest = x ∷ insert_loose l xs in cond (ltb l.name x.name) (l ∷ x ∷ xs) (cond (eqb l.name x.name) (l ∷ xs) rest)

-- a corner's point becomes a loose point
unfoldable pub insert_corner : Corner → List Loose → List Loose
insert_corner c ls = insert_loose (record { name = c.name; point = c.point }) ls

-- All three corners of an open edge's triangle are loose points: corner 0, 1, 2 for the edge from corner c.
unfoldable pub insert_open : Facet → Corner → List Loose → List Loose
insert_open f c ls = cond c.is_open (insert_corner f.c₂ (insert_corner f.c₁ (insert_corner f.c₀ ls))) ls

-- the loose points of some triangles, in the order of open edges by row, triangle, corner
unfoldable pub loose_from : List Facet → List Loose → List Loose
loose_from [] ls = ls
loose_from (f ∷ fs) ls = loose_from fs (insert_open f f.c₂ (insert_open f f.c₁ (insert_open f f.c₀ ls)))

-- Uses are counted over the whole body, shells ignored: the triangles of each row, vertices having the names `ns`, with their open edges.
unfoldable pub facets_in : List ℕ → List Patch → List (List Facet)
facets_in ns patches = let uses = uses_from (λ r. 0) 0 (joined ns) patches in body_facets ns (map (is_open uses) uses) patches

-- the loose points of a body
unfoldable pub loose_in : List (List Facet) → List Loose
loose_in fss = loose_from (flat_map (λ fs. fs) fss) []
