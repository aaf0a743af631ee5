-- Patch k of a body: its stretches of the three slices, and what the checks look at. Assumes nothing.
use Rattle.std.specs.Prelude.{◌≡◌, refl, Bool, true, false, ◌||◌, List, [], ◌∷◌, ◌++◌, ℕ, zero, suc, ◌+◌, ◌*◌, ◌≤◌, ◌<◌, length, get_or, take, drop, Float}
use Rattle.std.proofs.Common.{sym, ap, ◌∙◌, le_of_suc-le-suc, not-suc-le-zero, arith, length-drop, take-append-drop, drop-drop}
use Rattle.lists.specs.Lists.{any, sum_of}
use Rattle.lists.specs.Any.{any_append, sum_more, sum_front, sum_room}
use Rattle.body_rows.specs.Body.{Row, Patch, rows_of, patches_of, all_vertices, all_indices}
use Rattle.body_rows.specs.Rows.{no_row, row_at, vertices_before, indices_before}

-- a patch of nothing: what lies past the end
abbrev pub no_patch : Patch
no_patch = record { row = no_row; positions = []; normals = []; indices = [] }

-- a row's patch, its vertices from v on and its indices from i on
abbrev pub patch_from : Row → List Float → List Float → List ℕ → ℕ → ℕ → Patch
patch_from r ps ns is v i = record { row = r; positions = take (3 * r.vertices) (drop (3 * v) ps); normals = take (3 * r.vertices) (drop (3 * v) ns); indices = take r.indices (drop i is) }

-- the rows' indices are all there
pub record IndicesFit (table is : List ℕ) : Type 0 where
  pub fit : length is ≡ all_indices (rows_of table)

-- row k's indices lie in the slice, from base on
pub record IndicesOfRow (table is : List ℕ) (k base : ℕ) : Type 0 where
  pub row : k < length (rows_of table)
  pub room : base + (row_at table k).indices ≤ length is

-- a patch for each row
pub length_patches : (rows : List Row) (ps ns : List Float) (is : List ℕ) → length (patches_of rows ps ns is) ≡ length rows
unfolding patches_of
length_patches [] ps ns is = refl
length_patches (r ∷ rs) ps ns is = ap suc (length_patches rs (drop (3 * r.vertices) ps) (drop (3 * r.vertices) ns) (drop r.indices is))

-- the patches of a body as volumes and acceptance look at them: without their normals
abbrev pub shapes : List ℕ → List Float → List ℕ → List Patch
shapes table ps is = patches_of (rows_of table) ps [] is

-- patch k is where the rows before it end
pub patch_at_lem : (rows : List Row) (ps ns : List Float) (is : List ℕ) (k : ℕ) → k < length rows
    → get_or (patches_of rows ps ns is) k no_patch ≡ patch_from (get_or rows k no_row) ps ns is (vertices_before rows k) (indices_before rows k)
unfolding patches_of vertices_before indices_before all_vertices all_indices sum_of
patch_at_lem [] ps ns is k h = absurd (not-suc-le-zero h)
patch_at_lem (r ∷ rs) ps ns is zero h = refl
patch_at_lem (r ∷ rs) ps ns is (suc k) h =
    let v = vertices_before rs k in
    let i = indices_before rs k in
    let e : 3 * r.vertices + 3 * v ≡ 3 * (r.vertices + v) = omega arith in
    patch_at_lem rs (drop (3 * r.vertices) ps) (drop (3 * r.vertices) ns) (drop r.indices is) k (le_of_suc-le-suc h)
    ∙ (λ j. record {
      row = get_or rs k no_row;
      positions = take (3 * (get_or rs k no_row).vertices) ((drop-drop (3 * v) (3 * r.vertices) ps ∙ ap (λ (n : ℕ). drop n ps) e) j);
      normals = take (3 * (get_or rs k no_row).vertices) ((drop-drop (3 * v) (3 * r.vertices) ns ∙ ap (λ (n : ℕ). drop n ns) e) j);
      indices = take (get_or rs k no_row).indices (drop-drop i r.indices is j);
    })

-- the first row's indices start at 0
pub indices_first : (rows : List Row) → 0 ≡ indices_before rows 0
unfolding indices_before all_indices sum_of
indices_first rows = refl

-- where the next row's indices start
pub indices_next : (table : List ℕ) (k : ℕ) → k < length (rows_of table) → indices_before (rows_of table) (k + 1) ≡ indices_before (rows_of table) k + (row_at table k).indices
unfolding indices_before all_indices row_at
indices_next table k h = sum_more (λ r. r.indices) (rows_of table) k no_row h

-- where the next row's vertices start
pub vertices_next : (table : List ℕ) (k : ℕ) → k < length (rows_of table) → vertices_before (rows_of table) (k + 1) ≡ vertices_before (rows_of table) k + (row_at table k).vertices
unfolding vertices_before all_vertices row_at
vertices_next table k h = sum_more (λ r. r.vertices) (rows_of table) k no_row h

-- a front's vertices are among all
pub vertices_front : (rows : List Row) (k : ℕ) → vertices_before rows k ≤ all_vertices rows
unfolding vertices_before all_vertices
vertices_front rows k = sum_front (λ r. r.vertices) rows k

-- so are its indices
pub indices_front : (rows : List Row) (k : ℕ) → indices_before rows k ≤ all_indices rows
unfolding indices_before all_indices
indices_front rows k = sum_front (λ r. r.indices) rows k

-- a row's indices end within all
pub indices_room : (rows : List Row) (k : ℕ) → k < length rows → indices_before rows k + (get_or rows k no_row).indices ≤ all_indices rows
unfolding indices_before all_indices
indices_room rows k h = sum_room (λ r. r.indices) rows k no_row h

-- a row's vertices end within all
pub vertices_room : (rows : List Row) (k : ℕ) → k < length rows → vertices_before rows k + (get_or rows k no_row).vertices ≤ all_vertices rows
unfolding vertices_before all_vertices
vertices_room rows k h = sum_room (λ r. r.vertices) rows k no_row h

-- a test of the rows alone
pub any_row : (f : Row → Bool) (rows : List Row) (ps ns : List Float) (is : List ℕ) → any (λ p. f p.row) (patches_of rows ps ns is) ≡ any f rows
unfolding patches_of any
any_row f [] ps ns is = refl
any_row f (r ∷ rs) ps ns is =
    ap (λ (b : Bool). elim (f r) [ true ↦ true | false ↦ b ]) (any_row f rs (drop (3 * r.vertices) ps) (drop (3 * r.vertices) ns) (drop r.indices is))

-- two tests of a front and a rest, either way grouped
either : (a b c d : Bool) → elim (a || b) [ true ↦ true | false ↦ c || d ] ≡ ((a || c) || (b || d))
either true b c d = refl
either false true true d = refl
either false true false d = refl
either false false true d = refl
either false false false d = refl

-- a test of a list by its front and its rest
any_split : (f : Float → Bool) (n : ℕ) (xs : List Float) → (any f (take n xs) || any f (drop n xs)) ≡ any f xs
any_split f n xs = sym (any_append f (take n xs) (drop n xs)) ∙ ap (any f) (take-append-drop n xs)

-- what is left of a slice for the rows that are left
pub left_length : (v w : ℕ) (xs : List Float) → length xs ≡ 3 * (v + w) → length (drop (3 * v) xs) ≡ 3 * w
left_length v w xs h = simp length-drop (omega arith)

-- Check 23 looks at every position and normal of a body whose slices are as long as its rows say.
pub any_number : (f : Float → Bool) (rows : List Row) (ps ns : List Float) (is : List ℕ) → length ps ≡ 3 * all_vertices rows → length ns ≡ 3 * all_vertices rows
    → any (λ p. any f (p.positions ++ p.normals)) (patches_of rows ps ns is) ≡ (any f ps || any f ns)
unfolding patches_of any all_vertices sum_of
any_number f [] [] [] is h k = refl
any_number f [] [] (n ∷ ns) is h k = absurd (no k)
  where
    no : suc (length ns) ≡ 0 → ⊥
    no b = omega arith
any_number f [] (p ∷ ps) ns is h k = absurd (no h)
  where
    no : suc (length ps) ≡ 0 → ⊥
    no b = omega arith
any_number f (r ∷ rs) ps ns is h k =
    let v = 3 * r.vertices in
    let rest = any_number f rs (drop v ps) (drop v ns) (drop r.indices is) (left_length r.vertices _ ps h) (left_length r.vertices _ ns k) in
    (λ j. elim (any_append f (take v ps) (take v ns) j) [ true ↦ true | false ↦ rest j ])
    ∙ either (any f (take v ps)) (any f (take v ns)) (any f (drop v ps)) (any f (drop v ns))
    ∙ (λ j. any_split f v ps j || any_split f v ns j)

-- Check 24 looks at every position of such a body, and at no normal.
pub any_position : (f : Float → Bool) (rows : List Row) (ps ns : List Float) (is : List ℕ) → length ps ≡ 3 * all_vertices rows
    → any (λ p. any f p.positions) (patches_of rows ps ns is) ≡ any f ps
unfolding patches_of any all_vertices sum_of
any_position f [] [] ns is h = refl
any_position f [] (p ∷ ps) ns is h = absurd (no h)
  where
    no : suc (length ps) ≡ 0 → ⊥
    no b = omega arith
any_position f (r ∷ rs) ps ns is h =
    let v = 3 * r.vertices in
    ap (λ (b : Bool). elim (any f (take v ps)) [ true ↦ true | false ↦ b ]) (any_position f rs (drop v ps) (drop v ns) (drop r.indices is) (left_length r.vertices _ ps h))
    ∙ one (any f (take v ps)) (any f (drop v ps))
    ∙ any_split f v ps
  where
    one : (a b : Bool) → elim a [ true ↦ true | false ↦ b ] ≡ (a || b)
    one true b = refl
    one false b = refl

-- the first row's vertices and indices start at 0
pub before_none : (rows : List Row) → (vertices_before rows 0 ≡ 0) × (indices_before rows 0 ≡ 0)
unfolding vertices_before indices_before all_vertices all_indices sum_of
before_none rows = (refl, refl)
