-- The uses of edges. A use runs between two joined points; which points are joined is the caller's. Assumes nothing.
use Rattle.std.specs.Prelude.{Bool, true, false, not, ◌&&◌, ◌||◌, cond, List, [], ◌∷◌, ◌++◌, ℕ, suc, get_or, drop, eqb}
use Rattle.body_rows.specs.Body.{Patch, Row, Triangle, triangles_of}
use Rattle.lists.specs.Lists.{any, count_if}

-- the use of an edge by a row, in a shell
pub record Use : Type 0 where
  pub shell : ℕ
  pub row : ℕ
  pub start : ℕ
  pub end : ℕ

-- Corner 0, 1, 2 of each triangle; `names` are the points of the patch's vertices. Check 22 sees to it that an index is of a vertex.
unfoldable pub triangle_uses : ℕ → ℕ → List ℕ → List Triangle → List Use
triangle_uses shell row names [] = []
triangle_uses shell row names (t ∷ ts) =
    let a = get_or names t.a 0 in
    let b = get_or names t.b 0 in
    let c = get_or names t.c 0 in
    record { shell = shell; row = row; start = a; end = b }
    ∷ record { shell = shell; row = row; start = b; end = c }
    ∷ record { shell = shell; row = row; start = c; end = a }
    ∷ triangle_uses shell row names ts

-- Edges go by row, triangle, corner. `row` is the number of the first of the patches, and `names` begins with its vertices.
unfoldable pub uses_from : (Row → ℕ) → ℕ → List ℕ → List Patch → List Use
uses_from shell row names [] = []
uses_from shell row names (p ∷ ps) =
    triangle_uses (shell p.row) row names (triangles_of p.indices) ++ uses_from shell (suc row) (drop p.row.vertices names) ps

-- an edge with equal ends is skipped
unfoldable pub skipped : Use → Bool
skipped u = eqb u.start u.end

-- two uses of one edge run between the same two points, either way
unfoldable pub same_edge : Use → Use → Bool
same_edge u v =
    eqb u.shell v.shell && (eqb u.start v.start && eqb u.end v.end || eqb u.start v.end && eqb u.end v.start)

-- the first of the uses that is of the edge of u; u itself, if none is
unfoldable pub first_user : List Use → Use → Use
first_user [] u = u
first_user (v ∷ vs) u = elim (same_edge v u) [ true ↦ v | false ↦ first_user vs u ]

-- how many uses the edge of u has
unfoldable pub uses_of : List Use → Use → ℕ
uses_of all u = count_if (same_edge u) all

-- an edge used once is open
unfoldable pub is_open : List Use → Use → Bool
is_open all u = not (skipped u) && eqb (uses_of all u) 1

-- of each edge the first use: those of `us` with no use of their edge before them
unfoldable pub first_uses : List Use → List Use → List Use
first_uses before [] = []
first_uses before (u ∷ us) =
    let rest = first_uses (u ∷ before) us in
    cond (skipped u || any (same_edge u) before) rest (u ∷ rest)
