-- The turned body as it stands in the flat slices: a row's stretch reversed where its colour says so. Assumes nothing.
use Rattle.std.specs.Prelude.{◌≡◌, refl, Bool, true, false, cond, ℕ, ◌+◌, ◌*◌, ◌%◌, ◌≤◌, ◌<◌, length, take, drop, eqb, Float}
use Rattle.std.proofs.Common.{ap, ◌∙◌, arith, length-drop}
use mathlib.Core.List.{List, [], ◌∷◌, ◌++◌, map, flat_map}
use Rattle.std.specs.Float.Ieee.{neg}
use Rattle.lists.specs.Lists.{sum_of, count_if}
use Rattle.body_rows.specs.Body.{Row, Patch, rows_of, patches_of, all_vertices, all_indices}
use Rattle.body_rows.specs.Rows.{WholeRows, row_at}
use Rattle.turn_walk.specs.Walk.{coloured}
use Rattle.turn_definition.specs.Reversal.{swapped, turned_patch, turned_body}

-- a stretch, changed where the row is coloured
abbrev pub changed : {A : Type 0} → (List A → List A) → ℕ → List A → List A
changed f c xs = cond (eqb c coloured) (f xs) xs

-- each row's stretch of a slice, changed where the row's colour says so; `size` says how long a row's stretch is
unfoldable pub changed_rows : {A : Type 0} → (List A → List A) → (Row → ℕ) → List ℕ → List Row → List A → List A
changed_rows f size [] rows xs = xs
changed_rows f size (c ∷ cs) [] xs = []
changed_rows f size (c ∷ cs) (r ∷ rs) xs = changed f c (take (size r) xs) ++ changed_rows f size cs rs (drop (size r) xs)

-- how many coordinates a row has
abbrev pub coordinates : Row → ℕ
coordinates r = 3 * r.vertices

-- how many indices
abbrev pub index_count : Row → ℕ
index_count r = r.indices

no_length : {A : Type 0} (xs : List A) → 0 ≡ length xs → [] ≡ xs
no_length [] e = refl
no_length (x ∷ xs) e = absurd (omega arith)

turned_normals : (c : ℕ) (p : Patch) → (turned_patch c p).normals ≡ changed (map neg) c p.normals
unfolding turned_patch
turned_normals c p = go (eqb c coloured)
  where
    go : (b : Bool) → (cond b (record { row = p.row; positions = p.positions; normals = map neg p.normals; indices = swapped p.indices }) p).normals ≡ cond b (map neg p.normals) p.normals
    go true = refl
    go false = refl

turned_indices : (c : ℕ) (p : Patch) → (turned_patch c p).indices ≡ changed swapped c p.indices
unfolding turned_patch
turned_indices c p = go (eqb c coloured)
  where
    go : (b : Bool) → (cond b (record { row = p.row; positions = p.positions; normals = map neg p.normals; indices = swapped p.indices }) p).indices ≡ cond b (swapped p.indices) p.indices
    go true = refl
    go false = refl

-- the normals of the turned body
pub normals_turned : (cs : List ℕ) (rows : List Row) (ps ns : List Float) (is : List ℕ) → length cs ≡ length rows → 3 * all_vertices rows ≡ length ns
    → flat_map (λ p. p.normals) (turned_body cs (patches_of rows ps ns is)) ≡ changed_rows (map neg) coordinates cs rows ns
unfolding flat_map turned_body patches_of changed_rows all_vertices sum_of
normals_turned [] [] ps ns is e l = no_length ns l
normals_turned [] (r ∷ rs) ps ns is e l = absurd (omega arith)
normals_turned (c ∷ cs) [] ps ns is e l = absurd (omega arith)
normals_turned (c ∷ cs) (r ∷ rs) ps ns is e l =
    let h = normals_turned cs rs (drop (3 * r.vertices) ps) (drop (3 * r.vertices) ns) (drop r.indices is) (omega arith) (omega (arith, length-drop (3 * r.vertices) ns)) in
    ap (λ (xs : List Float). xs ++ flat_map (λ p. p.normals) (turned_body cs (patches_of rs (drop (3 * r.vertices) ps) (drop (3 * r.vertices) ns) (drop r.indices is))))
    (turned_normals c (record { row = r; positions = take (3 * r.vertices) ps; normals = take (3 * r.vertices) ns; indices = take r.indices is }))
    ∙ ap (λ (xs : List Float). changed (map neg) c (take (3 * r.vertices) ns) ++ xs) h

-- the indices of the turned body
pub indices_turned : (cs : List ℕ) (rows : List Row) (ps ns : List Float) (is : List ℕ) → length cs ≡ length rows → all_indices rows ≡ length is
    → flat_map (λ p. p.indices) (turned_body cs (patches_of rows ps ns is)) ≡ changed_rows swapped index_count cs rows is
unfolding flat_map turned_body patches_of changed_rows all_indices sum_of
indices_turned [] [] ps ns is e l = no_length is l
indices_turned [] (r ∷ rs) ps ns is e l = absurd (omega arith)
indices_turned (c ∷ cs) [] ps ns is e l = absurd (omega arith)
indices_turned (c ∷ cs) (r ∷ rs) ps ns is e l =
    let h = indices_turned cs rs (drop (3 * r.vertices) ps) (drop (3 * r.vertices) ns) (drop r.indices is) (omega arith) (omega (arith, length-drop r.indices is)) in
    ap (λ (xs : List ℕ). xs ++ flat_map (λ p. p.indices) (turned_body cs (patches_of rs (drop (3 * r.vertices) ps) (drop (3 * r.vertices) ns) (drop r.indices is))))
    (turned_indices c (record { row = r; positions = take (3 * r.vertices) ps; normals = take (3 * r.vertices) ns; indices = take r.indices is }))
    ∙ ap (λ (xs : List ℕ). changed swapped c (take r.indices is) ++ xs) h

-- ---- what the code asks and ensures

-- a row's normals and indices as its colour says, and 1 if it is coloured
pub record RowReversed (c : ℕ) (ns : List Float) (is : List ℕ) (ns' : List Float) (is' : List ℕ) (r : ℕ) : Type 0 where
  pub normals : ns' ≡ changed (map neg) c ns
  pub indices : is' ≡ changed swapped c is
  pub count : r ≡ cond (eqb coloured c) 1 0

-- what `reverse_rows` asks: rows of whole triangles that fill the slices, and a colour for each row from `colours` on
pub record Reversible (table : List ℕ) (ns : List Float) (is W : List ℕ) (colours : ℕ) : Type 0 where
  pub rows : WholeRows table
  pub threes : (k : ℕ) → k < length (rows_of table) → (row_at table k).indices % 3 ≡ 0
  pub vertices : all_vertices (rows_of table) ≤ 262144
  pub indices : all_indices (rows_of table) ≤ 786432
  pub all_normals : length ns ≡ 3 * all_vertices (rows_of table)
  pub all_indices_lem : length is ≡ all_indices (rows_of table)
  pub room : colours + length (rows_of table) ≤ length W

-- what it ensures: the slices row by row as their colours say, and how many rows are coloured
pub record Reversed (cs table : List ℕ) (ns : List Float) (is : List ℕ) (ns' : List Float) (is' : List ℕ) (turned : ℕ) : Type 0 where
  pub normals : ns' ≡ changed_rows (map neg) coordinates cs (rows_of table) ns
  pub indices : is' ≡ changed_rows swapped index_count cs (rows_of table) is
  pub count : turned ≡ count_if (eqb coloured) cs
