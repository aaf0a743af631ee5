-- A body copied: its patches laid end to end are its slices again, and writing it leaves each slice with that front. Assumes nothing.
use Rattle.std.specs.Prelude.{◌≡◌, refl, ℕ, ◌+◌, ◌*◌, ◌≤◌, length, take, drop, Float}
use Rattle.std.proofs.Common.{ap, ◌∙◌, arith, length-drop, take-append-drop}
use mathlib.Core.List.{List, [], ◌∷◌, ◌++◌, map, flat_map}
use Rattle.lists.specs.Lists.{sum_of, written}
use Rattle.body_rows.specs.Body.{row_width, Row, rows_of, table_of, patches_of, all_vertices, all_indices}
use Rattle.body_checks.specs.Accepted.{Passed}
use Rattle.stitch_definition.specs.Slices.{StitchSlices, AfterStitch, write_body}

-- ---- what the code asks and ensures

-- each slice to write is at least as long as what is copied to it
pub record BodyRoom (table : List ℕ) (ps ns : List Float) (is : List ℕ) (table₀ : List ℕ) (ps₀ ns₀ : List Float) (is₀ : List ℕ) : Type 0 where
  pub rows : length table ≤ length table₀
  pub positions : length ps ≤ length ps₀
  pub normals : length ns ≤ length ns₀
  pub indices : length is ≤ length is₀

-- what the slices to write hold, from what they held
pub record BodyCopied (table : List ℕ) (ps ns : List Float) (is : List ℕ) (table₀ : List ℕ) (ps₀ ns₀ : List Float) (is₀ : List ℕ) (table₁ : List ℕ) (ps₁ ns₁ : List Float) (is₁ : List ℕ) : Type 0 where
  pub rows : table₁ ≡ written table table₀
  pub positions : ps₁ ≡ written ps ps₀
  pub normals : ns₁ ≡ written ns ns₀
  pub indices : is₁ ≡ written is is₀

-- ---- the patches are the slices again

no_items : {A : Type 0} (xs : List A) → length xs ≡ 0 → [] ≡ xs
no_items [] e = refl
no_items (x ∷ xs) e = absurd (omega arith)

-- what is left of a slice for the rows that are left
left_over : {A : Type 0} (n m : ℕ) (xs : List A) → length xs ≡ n + m → length (drop n xs) ≡ m
left_over n m xs h = simp length-drop (omega arith)

-- the patches' rows
pub flat_rows : (rows : List Row) (ps ns : List Float) (is : List ℕ) → map (λ p. p.row) (patches_of rows ps ns is) ≡ rows
unfolding patches_of
flat_rows [] ps ns is = refl
flat_rows (r ∷ rs) ps ns is = ap (λ (xs : List Row). r ∷ xs) (flat_rows rs (drop (3 * r.vertices) ps) (drop (3 * r.vertices) ns) (drop r.indices is))

-- their positions
pub flat_positions : (rows : List Row) (ps ns : List Float) (is : List ℕ) → length ps ≡ 3 * all_vertices rows → flat_map (λ p. p.positions) (patches_of rows ps ns is) ≡ ps
unfolding flat_map patches_of all_vertices sum_of
flat_positions [] ps ns is h = no_items ps h
flat_positions (r ∷ rs) ps ns is h =
    let v = 3 * r.vertices in
    ap (λ (xs : List Float). take v ps ++ xs) (flat_positions rs (drop v ps) (drop v ns) (drop r.indices is) (left_over v (3 * all_vertices rs) ps (omega arith)))
    ∙ take-append-drop v ps

-- their normals
pub flat_normals : (rows : List Row) (ps ns : List Float) (is : List ℕ) → length ns ≡ 3 * all_vertices rows → flat_map (λ p. p.normals) (patches_of rows ps ns is) ≡ ns
unfolding flat_map patches_of all_vertices sum_of
flat_normals [] ps ns is h = no_items ns h
flat_normals (r ∷ rs) ps ns is h =
    let v = 3 * r.vertices in
    ap (λ (xs : List Float). take v ns ++ xs) (flat_normals rs (drop v ps) (drop v ns) (drop r.indices is) (left_over v (3 * all_vertices rs) ns (omega arith)))
    ∙ take-append-drop v ns

-- their indices
pub flat_indices : (rows : List Row) (ps ns : List Float) (is : List ℕ) → length is ≡ all_indices rows → flat_map (λ p. p.indices) (patches_of rows ps ns is) ≡ is
unfolding flat_map patches_of all_indices sum_of
flat_indices [] ps ns is h = no_items is h
flat_indices (r ∷ rs) ps ns is h =
    let v = 3 * r.vertices in
    ap (λ (xs : List ℕ). take r.indices is ++ xs) (flat_indices rs (drop v ps) (drop v ns) (drop r.indices is) (left_over r.indices (all_indices rs) is h))
    ∙ take-append-drop r.indices is

-- the table of a table's rows
pub flat_table : (table : List ℕ) → length table ≡ row_width * length (rows_of table) → table_of (rows_of table) ≡ table
unfolding rows_of table_of
flat_table [] h = refl
flat_table (s ∷ []) h = absurd (omega arith)
flat_table (s ∷ f ∷ []) h = absurd (omega arith)
flat_table (s ∷ f ∷ o ∷ []) h = absurd (omega arith)
flat_table (s ∷ f ∷ o ∷ v ∷ []) h = absurd (omega arith)
flat_table (s ∷ f ∷ o ∷ v ∷ i ∷ []) h = absurd (omega arith)
flat_table (s ∷ f ∷ o ∷ v ∷ i ∷ b ∷ rest) h = ap (λ (xs : List ℕ). s ∷ f ∷ o ∷ v ∷ i ∷ b ∷ xs) (flat_table rest (omega arith))

-- ---- the copy

-- a body copied to the slices
unfoldable pub copied : List ℕ → List Float → List Float → List ℕ → StitchSlices → AfterStitch
copied table ps ns is out =
    record {
      refusal = 0;
      vertices = all_vertices (rows_of table);
      indices = all_indices (rows_of table);
      splits = 0;
      slices = record {
        table = written table out.table;
        positions = written ps out.positions;
        normals = written ns out.normals;
        indices = written is out.indices;
        work = out.work;
      };
    }

-- Writing an accepted body's patches copies its table and slices.
pub copy_is : (table : List ℕ) (ps ns : List Float) (is : List ℕ) {words : ℕ} (out : StitchSlices) → Passed table ps ns is words
    → write_body (map (λ p. p.row) (patches_of (rows_of table) ps ns is)) (record { patches = patches_of (rows_of table) ps ns is; splits = 0 }) out ≡ copied table ps ns is out
unfolding write_body copied
copy_is table ps ns is out p =
    let rows = rows_of table in
    let patches = patches_of rows ps ns is in
    let same_rows = flat_rows rows ps ns is in
    ap (λ (rs : List Row). write_body rs (record { patches = patches; splits = 0 }) out) same_rows
    ∙ (λ j. record {
      refusal = 0;
      vertices = all_vertices rows;
      indices = all_indices rows;
      splits = 0;
      slices = record {
        table = written (flat_table table p.whole j) out.table;
        positions = written (flat_positions rows ps ns is p.all_positions j) out.positions;
        normals = written (flat_normals rows ps ns is p.all_normals j) out.normals;
        indices = written (flat_indices rows ps ns is p.all_indices_lem j) out.indices;
        work = out.work;
      };
    })
