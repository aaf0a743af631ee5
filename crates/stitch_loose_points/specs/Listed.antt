-- Loose points in the work area: a list of vertices, rising by name, in which each stands for its point. Assumes nothing.
use Rattle.std.specs.Prelude.{◌≡◌, Bool, not, ◌||◌, cond, List, [], ◌∷◌, ℕ, ◌+◌, ◌-◌, ◌%◌, ◌<◌, ◌≤◌, length, get_or, take, drop, ltb, eqb, Float}
use Rattle.std.proofs.Common.{sym, ap, ◌∙◌, subst, arith}
use Rattle.lists.specs.Stretches.{front_at}
use Rattle.body_rows.specs.Body.{Row, Triangle, triangles_of, rows_of, all_vertices, all_indices}
use Rattle.body_rows.specs.Rows.{WholeRows, row_at, indices_before}
use Rattle.patch_geometry.specs.Geometry.{point_at}
use Rattle.stitch_loose_points.specs.Loose.{Loose}

-- the loose point of a vertex whose name is one of `ns`
abbrev pub loose_of : List Float → List ℕ → ℕ → Loose
loose_of ps ns g = record { name = get_or ns g 0; point = point_at ps g }

-- Vertices go by name; of several with one name the last stands.
unfoldable pub insert_vertex : List ℕ → ℕ → List ℕ → List ℕ
insert_vertex ns g [] = g ∷ []
insert_vertex ns g (x ∷ xs) =
    let rest = x ∷ insert_vertex ns g xs in cond (ltb (get_or ns g 0) (get_or ns x 0)) (g ∷ x ∷ xs) (cond (eqb (get_or ns g 0) (get_or ns x 0)) (g ∷ xs) rest)

-- the corners of a triangle, one after another
abbrev pub insert_triangle : List ℕ → ℕ → ℕ → ℕ → List ℕ → List ℕ
insert_triangle ns a b c R = insert_vertex ns c (insert_vertex ns b (insert_vertex ns a R))

-- whether one of three flags is set
abbrev pub any_set : ℕ → ℕ → ℕ → Bool
any_set o p q = not (eqb o 0) || not (eqb p 0) || not (eqb q 0)

-- the vertices with those of the triangle at index k, if one of its flags in W is set
abbrev pub with_triangle : List ℕ → ℕ → List ℕ → List ℕ → ℕ → ℕ → List ℕ → List ℕ
with_triangle ns base is W flags k R =
    cond (any_set (get_or W (flags + k) 0) (get_or W (flags + k + 1) 0) (get_or W (flags + k + 2) 0)) (insert_triangle ns (base + get_or is k 0) (base + get_or is (k + 1) 0) (base + get_or is (k + 2) 0) R) R

-- the corners of a row's triangles that have an open edge: `flags` begins with three for each triangle, and the row's vertices start at `base`
unfoldable pub row_vertices : List ℕ → ℕ → List ℕ → List Triangle → List ℕ → List ℕ
row_vertices ns base flags [] R = R
row_vertices ns base [] (t ∷ ts) R = R
row_vertices ns base (o ∷ []) (t ∷ ts) R = R
row_vertices ns base (o ∷ p ∷ []) (t ∷ ts) R = R
row_vertices ns base (o ∷ p ∷ q ∷ flags) (t ∷ ts) R =
    row_vertices ns base flags ts (cond (any_set o p q) (insert_triangle ns (base + t.a) (base + t.b) (base + t.c) R) R)

-- those of all rows: `flags` and `is` begin with the first row's
unfoldable pub body_vertices : List ℕ → ℕ → List ℕ → List Row → List ℕ → List ℕ → List ℕ
body_vertices ns base flags [] is R = R
body_vertices ns base flags (r ∷ rs) is R =
    body_vertices ns (base + r.vertices) (drop r.indices flags) rs (drop r.indices is)
    (row_vertices ns base (take r.indices flags) (triangles_of (take r.indices is)) R)

-- the name of the vertex that stands at place j of the list at `at`; names are the first words of the work area
abbrev pub name_in : List ℕ → ℕ → ℕ → ℕ
name_in W at j = get_or W (get_or W (at + j) 0) 0

-- a list of `count` vertices, below v, rising by name, stands at `at`, behind the names
pub record Listed (v at count : ℕ) (W : List ℕ) : Type 0 where
  pub behind : v ≤ at
  pub room : at + count ≤ length W
  pub below : (j : ℕ) → j < count → get_or W (at + j) 0 < v
  pub rising : (j k : ℕ) → j < k → k < count → name_in W at j < name_in W at k

-- a list in front of what was written is kept
pub listed_kept : {v list count at : ℕ} {W E : List ℕ} → Listed v list count W → list + count ≤ at → take at E ≡ take at W → length E ≡ length W → Listed v list count E
listed_kept {v} {list} {count} {at} {W} {E} s l e long =
    record {
      behind = s.behind;
      room = omega (arith, s.room);
      below = λ j b. subst (λ (x : ℕ). x < v) (sym (word j b)) (s.below j b);
      rising = λ j k a b. omega (arith, name j (omega arith), name k b, s.rising j k a b);
    }
  where
    word : (j : ℕ) → j < count → get_or E (list + j) 0 ≡ get_or W (list + j) 0
    word j b = front_at at (list + j) W E 0 e (omega arith)

    name : (j : ℕ) → j < count → name_in E list j ≡ name_in W list j
    name j b = ap (λ (x : ℕ). get_or E x 0) (word j b) ∙ front_at at (get_or W (list + j) 0) W E 0 e (omega (arith, s.below j b, s.behind))

-- what looking at a triangle's three flags asks
pub record FlagsAt (W : List ℕ) (k : ℕ) : Type 0 where
  pub room : k + 3 ≤ length W

-- what reading a corner asks: index k is of one of v vertices, `base` of which come before the row's
pub record CornerAt (is : List ℕ) (base v k : ℕ) : Type 0 where
  pub inside : k < length is
  pub low : base + get_or is k 0 < v
