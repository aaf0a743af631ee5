-- A body's patches, each as long as its row says, laid flat in slices and read again. Assumes nothing.
use Rattle.std.specs.Prelude.{◌≡◌, refl, ℕ, ◌*◌, length, drop, Float}
use Rattle.std.proofs.Common.{ap, ◌∙◌, arith, length-append, length-drop, take_at, drop_at, length-take-le}
use mathlib.Core.List.{List, [], ◌∷◌, map, flat_map}
use Rattle.lists.specs.Lists.{sum_of}
use Rattle.lists.specs.Each.{Each}
use Rattle.body_rows.specs.Body.{Row, Patch, rows_of, table_of, patches_of, all_vertices, all_indices}
use Rattle.body_rows.specs.Patches.{left_length}
use Rattle.body_row_structs.specs.FaceRows.{table_rows}

-- ---- the patches of a body

-- a patch as its row says
pub record Whole (p : Patch) : Type 0 where
  pub indices : length p.indices ≡ p.row.indices
  pub positions : length p.positions ≡ 3 * p.row.vertices
  pub normals : length p.normals ≡ 3 * p.row.vertices

-- patches of slices that are as long as the rows say
pub patches_whole : (rows : List Row) (ps ns : List Float) (is : List ℕ) → length ps ≡ 3 * all_vertices rows → length ns ≡ 3 * all_vertices rows → length is ≡ all_indices rows
    → Each Whole (patches_of rows ps ns is)
unfolding patches_of all_vertices all_indices sum_of
patches_whole [] ps ns is a b c = tt
patches_whole (r ∷ rs) ps ns is a b c = (
  record {
    indices = length-take-le r.indices is (omega arith);
    positions = length-take-le (3 * r.vertices) ps (omega arith);
    normals = length-take-le (3 * r.vertices) ns (omega arith);
  },
  patches_whole rs (drop (3 * r.vertices) ps) (drop (3 * r.vertices) ns) (drop r.indices is) (left_length r.vertices _ ps a) (left_length r.vertices _ ns b)
      (omega (arith, length-drop r.indices is)),
)

-- ---- a body laid flat

-- the rows of some patches
abbrev pub rows_in : List Patch → List Row
rows_in patches = map (λ p. p.row) patches

-- their positions
abbrev pub positions_in : List Patch → List Float
positions_in patches = flat_map (λ p. p.positions) patches

-- their normals
abbrev pub normals_in : List Patch → List Float
normals_in patches = flat_map (λ p. p.normals) patches

-- their indices
abbrev pub indices_in : List Patch → List ℕ
indices_in patches = flat_map (λ p. p.indices) patches

-- Patches as their rows say, laid flat, are read again.
pub patches_again : (patches : List Patch) → Each Whole patches → patches_of (rows_in patches) (positions_in patches) (normals_in patches) (indices_in patches) ≡ patches
unfolding patches_of flat_map
patches_again [] w = refl
patches_again (p ∷ ps) w =
    let v = 3 * p.row.vertices in
    let n = p.row.indices in
    let P = positions_in ps in
    let N = normals_in ps in
    let I = indices_in ps in
    (λ t.
    record {
      row = p.row;
      positions = take_at p.positions P v w.0.positions t;
      normals = take_at p.normals N v w.0.normals t;
      indices = take_at p.indices I n w.0.indices t;
    }
    ∷ patches_of (rows_in ps) (drop_at p.positions P v w.0.positions t) (drop_at p.normals N v w.0.normals t) (drop_at p.indices I n w.0.indices t))
    ∙ ap (λ (l : List Patch). p ∷ l) (patches_again ps w.1)

-- So are they where the rows are read from their table.
pub body_again : (patches : List Patch) → Each Whole patches → patches_of (rows_of (table_of (rows_in patches))) (positions_in patches) (normals_in patches) (indices_in patches) ≡ patches
body_again patches w =
    ap (λ (rows : List Row). patches_of rows (positions_in patches) (normals_in patches) (indices_in patches)) (table_rows (rows_in patches)) ∙ patches_again patches w

-- how long they are laid flat
pub flat_positions : (patches : List Patch) → Each Whole patches → length (positions_in patches) ≡ 3 * all_vertices (rows_in patches)
unfolding flat_map all_vertices sum_of
flat_positions [] w = refl
flat_positions (p ∷ ps) w = omega (arith, length-append p.positions (positions_in ps), w.0.positions, flat_positions ps w.1)

-- so are normals
pub flat_normals : (patches : List Patch) → Each Whole patches → length (normals_in patches) ≡ 3 * all_vertices (rows_in patches)
unfolding flat_map all_vertices sum_of
flat_normals [] w = refl
flat_normals (p ∷ ps) w = omega (arith, length-append p.normals (normals_in ps), w.0.normals, flat_normals ps w.1)

-- and indices
pub flat_indices : (patches : List Patch) → Each Whole patches → length (indices_in patches) ≡ all_indices (rows_in patches)
unfolding flat_map all_indices sum_of
flat_indices [] w = refl
flat_indices (p ∷ ps) w = omega (arith, length-append p.indices (indices_in ps), w.0.indices, flat_indices ps w.1)
