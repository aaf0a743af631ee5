-- How long an answer is at the most, by the lengths of the slices that it is printed from. Assumes nothing.
use Rattle.std.specs.Prelude.{Bool, true, false, cond, List, [], ◌∷◌, ◌++◌, map, ◌≡◌, refl, ℕ, zero, suc, ◌+◌, ◌*◌, ◌^◌, ◌≤◌, ltb, eqb, Float, length, take}
use Rattle.std.proofs.Common.{ap, arith, length-append, length-take}
use Rattle.std.proofs.lemmas.List.{length-map}
use Rattle.mesh_acceptance.specs.Acceptance.{failure_width}
use Rattle.mesh_layout.specs.Mesh.{part_width, range_width}
use Rattle.float_steps.specs.Floats.{bits32}
use Rattle.sheet_lines.specs.Forms.{Piece, Word, Bits, Number, print, line, numbers, vertex_form, triangle_form}
use Rattle.sheet_lines.specs.Lengths.{longest}
use Rattle.sheet_lines.specs.Printed.{line_length}
use Rattle.sheet_answer_text.specs.declared.Sizes.{Sizes}
use Rattle.sheet_answer_text.specs.declared.Tallies.{Tallies}
use Rattle.sheet_answer_rows.specs.Rows.{empty_form, escape_form, failure_line, failure_lines, range_form, range_lines, threes, upstream_form, vertex_lines}
use Rattle.sheet_answer_text.specs.Answer.{
  against_form,
  closed_form,
  count_text,
  edges_form,
  mesh_form,
  mesh_text,
  ok_form,
  open_form,
  over_form,
  part_form,
  refusal_line,
  refused_form,
  split_form,
  turned_form,
}

-- ---- a line for every row

threes_length : (ps : List Piece) (ns : List ℕ) → longest 20 ps ≤ 70 → 3 * length (threes ps ns) ≤ 71 * length ns
unfolding threes
threes_length ps [] h = omega arith
threes_length ps (a ∷ []) h = omega arith
threes_length ps (a ∷ b ∷ []) h = omega arith
threes_length ps (a ∷ b ∷ c ∷ ns) h =
    omega (arith, length-append (line ps (a ∷ b ∷ c ∷ [])) (threes ps ns), line_length ps (a ∷ b ∷ c ∷ []), threes_length ps ns h)

vertices_length : (ps ns : List ℕ) → 3 * length (vertex_lines ps ns) ≤ 66 * length ps
unfolding vertex_lines
vertices_length [] ns = omega arith
vertices_length (x ∷ []) ns = omega arith
vertices_length (x ∷ y ∷ []) ns = omega arith
vertices_length (x ∷ y ∷ z ∷ ps) [] = omega arith
vertices_length (x ∷ y ∷ z ∷ ps) (a ∷ []) = omega arith
vertices_length (x ∷ y ∷ z ∷ ps) (a ∷ b ∷ []) = omega arith
vertices_length (x ∷ y ∷ z ∷ ps) (a ∷ b ∷ c ∷ ns) =
    let l : List ℕ = line vertex_form (x ∷ y ∷ z ∷ a ∷ b ∷ c ∷ []) in
    let few : length l ≤ 66 = line_length vertex_form (x ∷ y ∷ z ∷ a ∷ b ∷ c ∷ []) in
    omega (arith, length-append l (vertex_lines ps ns), vertices_length ps ns)

ranges_length : (ns : List ℕ) → range_width * length (range_lines ns) ≤ 92 * length ns
unfolding range_lines numbers
ranges_length [] = omega arith
ranges_length (f ∷ []) = omega arith
ranges_length (f ∷ b ∷ []) = omega arith
ranges_length (f ∷ b ∷ m ∷ []) = omega arith
ranges_length (f ∷ b ∷ m ∷ n ∷ rest) =
    let l : List ℕ = line range_form (f ∷ b ∷ m ∷ n ∷ []) in
    omega (arith, length-append l (range_lines rest), line_length range_form (f ∷ b ∷ m ∷ n ∷ []), ranges_length rest)

failure_length : (face bin n reach span : ℕ) → length (failure_line face bin n reach span) ≤ 94
unfolding failure_line
failure_length face bin n reach span = go (eqb n 0) (eqb n 256)
  where
    go : (b d : Bool) → length {A = ℕ} (elim b as (λ x. List ℕ) [
      | true ↦ line empty_form (face ∷ bin ∷ [])
      | false ↦ elim d as
          (λ x. List ℕ) [ true ↦ line escape_form (face ∷ bin ∷ reach ∷ span ∷ []) | false ↦ line upstream_form (face ∷ bin ∷ n ∷ []) ]
    ]) ≤ 94
    go true d = omega (arith, line_length empty_form (face ∷ bin ∷ []))
    go false true = omega (arith, line_length escape_form (face ∷ bin ∷ reach ∷ span ∷ []))
    go false false = omega (arith, line_length upstream_form (face ∷ bin ∷ n ∷ []))

failures_length : (ns : List ℕ) → failure_width * length (failure_lines ns) ≤ 94 * length ns
unfolding failure_lines
failures_length [] = omega arith
failures_length (f ∷ []) = omega arith
failures_length (f ∷ b ∷ []) = omega arith
failures_length (f ∷ b ∷ n ∷ []) = omega arith
failures_length (f ∷ b ∷ n ∷ r ∷ []) = omega arith
failures_length (f ∷ b ∷ n ∷ r ∷ s ∷ rest) = omega (arith, length-append (failure_line f b n r s) (failure_lines rest), failure_length f b n r s, failures_length rest)

-- ---- the whole

-- how many bytes the lines of a mesh in slices of these lengths take at the most
unfoldable pub mesh_bytes : ℕ → ℕ → ℕ → ℕ → ℕ → ℕ
mesh_bytes positions indices parts ranges failures = 22 * positions + 24 * (indices + parts) + 23 * ranges + 19 * failures

count_length : (t : Tallies) → length (count_text t) ≤ 240
unfolding count_text numbers
count_length t =
    let a = line turned_form (t.turned ∷ []) in
    let b = line against_form (t.against ∷ []) in
    let c = line split_form (t.split ∷ []) in
    let d = line ok_form (t.ok ∷ []) in
    let e = line edges_form (t.edges ∷ []) in
    let f = line open_form (t.opens ∷ []) in
    let g = line over_form (t.overs ∷ []) in
    let h = line closed_form (cond t.closed 1 0 ∷ []) in
    omega (
      arith,
      length-append a b,
      length-append (a ++ b) c,
      length-append (a ++ b ++ c) d,
      length-append (a ++ b ++ c ++ d) e,
      length-append (a ++ b ++ c ++ d ++ e) f,
      length-append (a ++ b ++ c ++ d ++ e ++ f) g,
      length-append (a ++ b ++ c ++ d ++ e ++ f ++ g) h,
      line_length turned_form (t.turned ∷ []),
      line_length against_form (t.against ∷ []),
      line_length split_form (t.split ∷ []),
      line_length ok_form (t.ok ∷ []),
      line_length edges_form (t.edges ∷ []),
      line_length open_form (t.opens ∷ []),
      line_length over_form (t.overs ∷ []),
      line_length closed_form (cond t.closed 1 0 ∷ []),
    )

mesh_length : (z : Sizes) (ps ns : List Float) (is parts ranges failures : List ℕ)
    → length (mesh_text z ps ns is parts ranges failures) ≤ mesh_bytes (length ps) (length is) (length parts) (length ranges) (length failures) + 264
unfolding mesh_text numbers mesh_bytes
mesh_length z ps ns is parts ranges failures =
    let n = 3 * z.vertices in
    let a = line mesh_form (z.vertices ∷ z.indices ∷ []) in
    let b = vertex_lines (map bits32 (take n ps)) (map bits32 (take n ns)) in
    let c = threes part_form (take (part_width * z.parts) parts) in
    let d = threes triangle_form (take z.indices is) in
    let e = range_lines (take (range_width * z.ranges) ranges) in
    let f = failure_lines (take (failure_width * z.failures) failures) in
    let few_vertices : length b ≤ 22 * length ps = omega (arith, vertices_length (map bits32 (take n ps)) (map bits32 (take n ns)), length-map (take n ps) bits32, length-take n ps) in
    let few_parts : length c ≤ 24 * length parts = omega (arith, threes_length part_form (take (part_width * z.parts) parts) (omega arith), length-take (part_width * z.parts) parts) in
    let few_triangles : length d ≤ 24 * length is = omega (arith, threes_length triangle_form (take z.indices is) (omega arith), length-take z.indices is) in
    let few_ranges : length e ≤ 23 * length ranges = omega (arith, ranges_length (take (range_width * z.ranges) ranges), length-take (range_width * z.ranges) ranges) in
    let few_failures : length f ≤ 19 * length failures = omega (arith, failures_length (take (failure_width * z.failures) failures), length-take (failure_width * z.failures) failures) in
    omega (
      arith,
      length-append a b,
      length-append (a ++ b) c,
      length-append (a ++ b ++ c) d,
      length-append (a ++ b ++ c ++ d) e,
      length-append (a ++ b ++ c ++ d ++ e) f,
      line_length mesh_form (z.vertices ∷ z.indices ∷ []),
    )

-- A mesh and its counts take at most 504 bytes more than its lines.
pub answer_length : (z : Sizes) (ps ns : List Float) (is parts ranges failures : List ℕ) (t : Tallies)
    → length (mesh_text z ps ns is parts ranges failures ++ count_text t) ≤ mesh_bytes (length ps) (length is) (length parts) (length ranges) (length failures) + 504
answer_length z ps ns is parts ranges failures t =
    omega (arith, length-append (mesh_text z ps ns is parts ranges failures) (count_text t), mesh_length z ps ns is parts ranges failures, count_length t)

-- A refusal takes no more than 504.
pub refusal_length : (n : ℕ) → length (refusal_line n) ≤ 504
unfolding refusal_line numbers
refusal_length n = omega (arith, line_length refused_form (n ∷ []))
