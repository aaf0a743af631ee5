-- Both round trips of STL files: a mesh written and read, what was read written again, and another maker's file rewritten and read. Assumes nothing.
use Rattle.std.specs.Prelude.{◌≡◌, refl, Bool, false, not, cond, ℕ, ◌+◌, ◌*◌, ◌/◌, ◌<◌, ◌≤◌, length, drop, replicate, ltb, eqb, Float}
use Rattle.std.proofs.Common.{sym, ap, ◌∙◌, subst, arith}
use mathlib.Core.List.{List, [], ◌∷◌, map, flat_map}
use Rattle.std.proofs.Math.ListN.{length-drop}
use borrow.Author.Tests.{le-ltb, eqb-true, eq-eqb, not-false}
use Rattle.lists.specs.Lists.{any}
use Rattle.lists.specs.Both.{or_right}
use Rattle.float_steps.specs.Floats.{f32, bits32}
use Rattle.point_rules.specs.Points.{clamps}
use Rattle.body_rows.specs.Body.{Triangle, triangles_of, first_failing}
use Rattle.body_patch_checks.specs.PatchTests.{not_finite}
use Rattle.stl_definition.specs.File.{head_bytes, facet_bytes, corners, corners_of, file_of, triangle_count}
use Rattle.stl_definition.specs.Write.{Held, in_two, mesh_checks, AfterWrite, write_of}
use Rattle.stl_definition.specs.Read.{AfterRead, ReadSlices, count_of, facet_corners, file_corners, most_triangles, numbers_from}
use Rattle.stl_definition.specs.Read.{corner_not_finite, no_room, read_of, refuse_read, write_corners, wrong_length}
use Rattle.stl_definition.specs.TestLaws.{neither}
use Rattle.stl_definition.specs.ByteLaws.{F32s, each_f32, f32s_each}
use Rattle.stl_definition.specs.FileLaws.{triangles_third, file_length_lem, file_count, file_corners_lem, facets_f32, facets_nine}
use Rattle.stl_definition.specs.CornerLaws.{corners_again, numbers_length, same_file}
use Rattle.stl_definition.specs.RowLaws.{Passed, row_passed, row_checks}
use Rattle.stl_definition.specs.CallLaws.{file_left, write_passes, write_leaves, write_same, Readable, Reads, read_passes, read_leaves, too_many, read_same}
use Rattle.stl_definition.specs.CallLaws.{mesh_left, indices_left, rewrite_of, mesh_left_lem, indices_left_lem}
use Rattle.stl_definition.specs.FiniteLaws.{corners_none, read_sound}

-- ---- our own files

-- what a mesh that passes has
passed : (h : Held) (is : List ℕ) → first_failing (mesh_checks h is) ≡ 0 → Passed h.count h.positions h.normals is
unfolding mesh_checks
passed h is e = row_passed h.count h.positions h.normals is e

-- the length of a file is what its count says
file_whole : (h : Held) (is : List ℕ) → triangle_count is < 4294967296 → wrong_length (file_of 3 h.positions is) ≡ false
unfolding wrong_length
file_whole h is small =
    let file = file_of 3 h.positions is in
    let l = file_length_lem 3 h.positions is in
    let c = file_count 3 h.positions is small in
    neither (ltb (length file) head_bytes) (not (eqb (length file) (head_bytes + facet_bytes * count_of file))) (le-ltb (length file) head_bytes (omega arith))
    (ap not (eq-eqb (length file) (head_bytes + facet_bytes * count_of file) (omega arith)))

-- Up to 32,000 triangles, the file of a mesh that passes can be read.
pub file_readable : (h : Held) (is : List ℕ) → F32s h.positions → first_failing (mesh_checks h is) ≡ 0 → triangle_count is ≤ most_triangles → Readable (file_of 3 h.positions is)
unfolding corner_not_finite
file_readable h is f e n =
    let p = passed h is e in
    let small : triangle_count is < 4294967296 = omega arith in
    let c = file_count 3 h.positions is small in
    record {
      whole = file_whole h is small;
      few = omega arith;
      all_finite =
          ap (any not_finite) (file_corners_lem 3 h.positions is (each_f32 h.positions f) small)
          ∙ corners_none not_finite h.positions h.count p.sound.all_positions p.sound.positions is p.sound.inside;
    }

-- nine floats to a triangle
pub corners_length : (stride : ℕ) (vs : List Float) (ts : List Triangle) → length (flat_map (corners stride vs) ts) ≡ 9 * length ts
unfolding flat_map
corners_length stride vs [] = refl
corners_length stride vs (t ∷ ts) = let e = corners_length stride vs ts in omega arith

corners_nine : (h : Held) (is : List ℕ) → length (corners_of 3 h.positions is) ≡ 9 * triangle_count is
unfolding corners_of
corners_nine h is = omega (arith, corners_length 3 h.positions (triangles_of is), triangles_third is)

-- Finite corners, with normals of zero and indices in turn, are refused by the writer's checks exactly where a cell is clamped.
read_passes_24 : (n : ℕ) (xs : List Float) → n ≤ 32000 → length xs ≡ 9 * n → any not_finite xs ≡ false
    → first_failing (mesh_checks (in_two xs (replicate (9 * n) (f32 0))) (numbers_from 0 (3 * n))) ≡ cond (any clamps xs) 24 0
unfolding mesh_checks
read_passes_24 n xs few nine all_finite = row_checks (length xs / 3) xs (replicate (9 * n) (f32 0)) (numbers_from 0 (3 * n)) (read_sound n xs few nine all_finite)

-- Of more than 32,000 triangles our own file is refused with 73.
pub read_many : (h : Held) (is out : List ℕ) (lent : ReadSlices) → (write_of h is out).refusal ≡ 0 → most_triangles < triangle_count is
    → read_of (file_left (write_of h is out)) lent ≡ refuse_read 73 lent
read_many h is out lent e n =
    let p = passed h is (write_passes h is out e) in
    let file = file_of 3 h.positions is in
    let small : triangle_count is < 4294967296 = omega arith in
    let c = file_count 3 h.positions is small in
    ap (λ (b : List ℕ). read_of b lent) (write_leaves h is out e) ∙ too_many file lent (file_whole h is small) (omega arith)

module _ (h : Held) (is out : List ℕ) (f : F32s h.positions) (accepted : (write_of h is out).refusal ≡ 0) (few : triangle_count is ≤ most_triangles) where
  readable : Readable (file_left (write_of h is out))
  readable = subst Readable (sym (write_leaves h is out accepted)) (file_readable h is f (write_passes h is out accepted) few)

  count_left : count_of (file_left (write_of h is out)) ≡ triangle_count is
  count_left = ap count_of (write_leaves h is out accepted) ∙ file_count 3 h.positions is (omega arith)

  corners_left : file_corners (file_left (write_of h is out)) ≡ corners_of 3 h.positions is
  corners_left = ap file_corners (write_leaves h is out accepted) ∙ file_corners_lem 3 h.positions is (each_f32 h.positions f) (omega arith)

  module _ (lent : ReadSlices) (room : no_room (triangle_count is) lent ≡ false) where
    -- Reading our own file returns the corners of the mesh triangle by triangle; with enough room there is no refusal.
    pub read_written : read_of (file_left (write_of h is out)) lent ≡ write_corners (triangle_count is) (corners_of 3 h.positions is) lent
    read_written =
        read_leaves (file_left (write_of h is out)) lent (record { readable = readable; room = ap (λ (n : ℕ). no_room n lent) count_left ∙ room })
        ∙ (λ i. write_corners (count_left i) (corners_left i) lent)

    -- that is, their bits
    pub read_bits : map bits32 (mesh_left (read_of (file_left (write_of h is out)) lent)).positions ≡ map bits32 (corners_of 3 h.positions is)
    read_bits =
        ap (λ (r : AfterRead). map bits32 (mesh_left r).positions) read_written
        ∙ ap (λ (g : Held). map bits32 g.positions) (mesh_left_lem (triangle_count is) (corners_of 3 h.positions is) lent (corners_nine h is))

    -- Writing that again returns the same file, whatever slice is lent.
    pub write_again : (out₂ : List ℕ) → rewrite_of (read_of (file_left (write_of h is out)) lent) out₂ ≡ write_of h is out₂
    write_again out₂ =
        let n = triangle_count is in
        let xs = corners_of 3 h.positions is in
        let nine = corners_nine h is in
        let p = passed h is (write_passes h is out accepted) in
        ap (λ (r : AfterRead). rewrite_of r out₂) read_written
        ∙ (λ i. write_of (mesh_left_lem n xs lent nine i) (indices_left_lem n xs lent nine i) out₂)
        ∙ write_same (in_two xs (replicate (9 * n) (f32 0))) h (numbers_from 0 (3 * n)) is out₂
        (read_passes_24 n xs few nine (corners_none not_finite h.positions h.count p.sound.all_positions p.sound.positions is p.sound.inside)
        ∙ ap (λ (b : Bool). cond b 24 0) (corners_none clamps h.positions h.count p.sound.all_positions p.unclamped is p.sound.inside))
        (write_passes h is out accepted)
        (omega (arith, numbers_length 0 (3 * n)))
        (same_file 3 3 xs h.positions (numbers_from 0 (3 * n)) is (omega (arith, numbers_length 0 (3 * n))) (corners_again xs n nine))

-- ---- any file

module _ (file : List ℕ) (lent : ReadSlices) (accepted : (read_of file lent).refusal ≡ 0) where
  -- the file passes the checks,
  reads : Reads file lent
  reads = read_passes file lent accepted

  -- it is as long as its count says,
  pub file_long : length file ≡ head_bytes + facet_bytes * count_of file
  unfolding wrong_length
  file_long =
      let n = head_bytes + facet_bytes * count_of file in
      eqb-true (length file) n (not-false (eqb (length file) n) (or_right (ltb (length file) head_bytes) (not (eqb (length file) n)) reads.readable.whole))

  -- its corners are nine floats a triangle,
  pub file_nine : length (file_corners file) ≡ 9 * count_of file
  unfolding file_corners
  file_nine = facets_nine (count_of file) (drop head_bytes file) (omega (arith, length-drop head_bytes file, file_long))

  -- f32s
  file_f32 : F32s (file_corners file)
  unfolding file_corners
  file_f32 = f32s_each (facet_corners (count_of file) (drop head_bytes file)) (facets_f32 (count_of file) (drop head_bytes file))

  -- What was read: the corners, with normals of zero and indices in turn.
  pub mesh_read : mesh_left (read_of file lent) ≡ in_two (file_corners file) (replicate (9 * count_of file) (f32 0))
  mesh_read = ap mesh_left (read_leaves file lent reads) ∙ mesh_left_lem (count_of file) (file_corners file) lent file_nine

  pub indices_read : indices_left (read_of file lent) ≡ numbers_from 0 (3 * count_of file)
  indices_read = ap indices_left (read_leaves file lent reads) ∙ indices_left_lem (count_of file) (file_corners file) lent file_nine

  -- The writer's checks refuse it with 24 where a corner's cell is clamped, and else with nothing.
  pub rewrite_checks : first_failing (mesh_checks (mesh_left (read_of file lent)) (indices_left (read_of file lent))) ≡ cond (any clamps (file_corners file)) 24 0
  unfolding corner_not_finite
  rewrite_checks =
      (λ i. first_failing (mesh_checks (mesh_read i) (indices_read i)))
      ∙ read_passes_24 (count_of file) (file_corners file) reads.readable.few file_nine reads.readable.all_finite

  -- Reading the rewritten file is reading the file: the same corners, into whatever slices.
  pub read_again : (out : List ℕ) → (rewrite_of (read_of file lent) out).refusal ≡ 0 → (lent₂ : ReadSlices)
      → read_of (file_left (rewrite_of (read_of file lent) out)) lent₂ ≡ read_of file lent₂
  read_again out e lent₂ =
      let h = in_two (file_corners file) (replicate (9 * count_of file) (f32 0)) in
      let is = numbers_from 0 (3 * count_of file) in
      let same : rewrite_of (read_of file lent) out ≡ write_of h is out = λ i. write_of (mesh_read i) (indices_read i) out in
      let q : (write_of h is out).refusal ≡ 0 = sym (ap (λ (w : AfterWrite). w.refusal) same) ∙ e in
      let n : triangle_count is ≡ count_of file = omega (arith, numbers_length 0 (3 * count_of file)) in
      let few : triangle_count is ≤ 32000 = omega (arith, reads.readable.few) in
      ap (λ (w : AfterWrite). read_of (file_left w) lent₂) same
      ∙ read_same (file_left (write_of h is out)) file lent₂ (readable h is out file_f32 q few) reads.readable (count_left h is out file_f32 q few ∙ n)
      (corners_left h is out file_f32 q few ∙ corners_again (file_corners file) (count_of file) file_nine)
