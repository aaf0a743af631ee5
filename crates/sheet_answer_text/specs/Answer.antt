-- What is printed: the mesh, the counts, or only the refusal. Assumes nothing.
use Rattle.std.specs.Prelude.{cond, List, [], ◌∷◌, ◌++◌, map, ◌≡◌, ℕ, ◌*◌, length, take, drop, Float}
use Rattle.float_steps.specs.Floats.{bits32}
use Rattle.mesh_acceptance.specs.Acceptance.{failure_width}
use Rattle.mesh_layout.specs.Mesh.{part_width, range_width}
use Rattle.sheet_digits.specs.Bytes.{bytes}
use Rattle.sheet_lines.specs.Forms.{Piece, Word, line, numbers, triangle_form}
use Rattle.sheet_answer_rows.specs.Rows.{failure_lines, range_lines, threes, vertex_lines}
use Rattle.sheet_answer_text.specs.declared.Sizes.{Sizes}
use Rattle.sheet_answer_text.specs.declared.Tallies.{Tallies}

-- ---- the forms that are printed only

-- mesh: vertices, indices
abbrev pub mesh_form : List Piece
mesh_form = Word (bytes "(mesh") ∷ numbers 2

-- part: material, start, count
abbrev pub part_form : List Piece
part_form = Word (bytes "(part") ∷ numbers 3

-- turned rows
abbrev pub turned_form : List Piece
turned_form = Word (bytes "(turned") ∷ numbers 1

-- how often a contradicting pair was met
abbrev pub against_form : List Piece
against_form = Word (bytes "(against") ∷ numbers 1

-- splits
abbrev pub split_form : List Piece
split_form = Word (bytes "(split") ∷ numbers 1

-- accepted rows
abbrev pub ok_form : List Piece
ok_form = Word (bytes "(ok") ∷ numbers 1

-- edges of the mesh
abbrev pub edges_form : List Piece
edges_form = Word (bytes "(edges") ∷ numbers 1

-- edges of one use
abbrev pub open_form : List Piece
open_form = Word (bytes "(open") ∷ numbers 1

-- edges of more than two uses
abbrev pub over_form : List Piece
over_form = Word (bytes "(over") ∷ numbers 1

-- 1 if closed, else 0
abbrev pub closed_form : List Piece
closed_form = Word (bytes "(closed") ∷ numbers 1

-- the number of a refusal
abbrev pub refused_form : List Piece
refused_form = Word (bytes "(refused") ∷ numbers 1

-- the mesh: its size, vertices, parts, triangles, ranges, and failures after the ranges; of each slice its front
unfoldable pub mesh_text : Sizes → List Float → List Float → List ℕ → List ℕ → List ℕ → List ℕ → List ℕ
mesh_text z ps ns is parts ranges failures =
    line mesh_form (z.vertices ∷ z.indices ∷ [])
    ++ vertex_lines (map bits32 (take (3 * z.vertices) ps)) (map bits32 (take (3 * z.vertices) ns))
    ++ threes part_form (take (part_width * z.parts) parts)
    ++ threes triangle_form (take z.indices is)
    ++ range_lines (take (range_width * z.ranges) ranges)
    ++ failure_lines (take (failure_width * z.failures) failures)

-- the counts, in the order of the paper's example
unfoldable pub count_text : Tallies → List ℕ
count_text t =
    line turned_form (t.turned ∷ [])
    ++ line against_form (t.against ∷ [])
    ++ line split_form (t.split ∷ [])
    ++ line ok_form (t.ok ∷ [])
    ++ line edges_form (t.edges ∷ [])
    ++ line open_form (t.opens ∷ [])
    ++ line over_form (t.overs ∷ [])
    ++ line closed_form (cond t.closed 1 0 ∷ [])

-- A refusal prints only `(refused n)`.
unfoldable pub refusal_line : ℕ → List ℕ
refusal_line n = line refused_form (n ∷ [])

-- A text was written into E, cut off where E ends; W is what stands there now, and r how many bytes were written.
pub record Written (E text W : List ℕ) (r : ℕ) : Type 0 where
  pub out : W ≡ take (length E) text ++ drop (length text) E
  pub count : r ≡ length (take (length E) text)
