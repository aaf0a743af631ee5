-- The two calls: where they are accepted, what is left then, and when two of them come to the same. Assumes nothing.
use Rattle.std.specs.Prelude.{◌≡◌, replicate, ltb, eqb, Float}
use Rattle.std.proofs.Math.Path.{refl, sym, ap}
use Rattle.std.proofs.Common.{◌∙◌, arith}
use Rattle.std.proofs.Math.Bool.{Bool, true, false}
use mathlib.Core.List.{List, [], ◌∷◌, ◌++◌}
use Prim.Native.Nat.{ℕ, zero, suc, ◌+◌, ◌*◌, ◌<◌, ◌≤◌}
use Rattle.std.proofs.Math.ListN.{length, take, drop}
use Rattle.std.proofs.lemmas.List.{length-replicate}
use Rattle.std.proofs.Math.Seq.{take_at}
use borrow.Author.Tests.{ltb-false, le-ltb, lt-ltb, eqb-true}
use Rattle.lists.specs.Lists.{all, written}
use Rattle.float_steps.specs.Floats.{f32}
use Rattle.body_rows.specs.Body.{check, first_failing}
use Rattle.body_rows.specs.Checks.{clear_first, first_here, first_next, first_none, first_stop, first_on, numbered}
use Rattle.stl_definition.specs.File.{head_bytes, facet_bytes, file_of, file_length, triangle_count}
use Rattle.stl_definition.specs.Write.{Held, in_two, mesh_checks, write_checks, file_too_long, AfterWrite, write_of}
use Rattle.stl_definition.specs.Read.{count_of, file_corners, ReadSlices, wrong_length, corner_not_finite, no_room, read_checks, numbers_from, AfterRead, write_corners, refuse_read, read_of}
use Rattle.stl_definition.specs.FileLaws.{file_length_lem}
use Rattle.stl_definition.specs.CornerLaws.{numbers_length}
use Rattle.stl_definition.specs.RowLaws.{row_numbered}

-- ---- the writer

-- the file at the front of the slice that the writer was lent
abbrev pub file_left : AfterWrite → List ℕ
file_left w = take w.length w.bytes

module _ (h : Held) (is : List ℕ) where
  -- each check of the mesh has a number above 0
  mesh_numbered : all numbered (mesh_checks h is) ≡ true
  unfolding mesh_checks
  mesh_numbered = row_numbered h.count h.positions h.normals is

  -- of a mesh that passes, the slice's length decides
  pub room_decides : (room : ℕ) → first_failing (mesh_checks h is) ≡ 0 → first_failing (write_checks h is room) ≡ first_failing (check file_too_long (ltb room (file_length is)) ∷ [])
  unfolding write_checks
  room_decides room e = sym (first_on (mesh_checks h is) (check file_too_long (ltb room (file_length is)) ∷ []) mesh_numbered e)

  -- a mesh that was written passes
  mesh_passes : (room : ℕ) → first_failing (write_checks h is room) ≡ 0 → first_failing (mesh_checks h is) ≡ 0
  unfolding write_checks
  mesh_passes room e = go (first_failing (mesh_checks h is)) refl
    where
      go : (k : ℕ) → first_failing (mesh_checks h is) ≡ k → first_failing (mesh_checks h is) ≡ 0
      go zero q = q
      go (suc k) q = first_stop (mesh_checks h is) (check file_too_long (ltb room (file_length is)) ∷ []) (λ z. omega arith) ∙ e

  module _ (out : List ℕ) where
    -- the writer accepts where no check fails
    write_clear : (write_of h is out).refusal ≡ 0 → first_failing (write_checks h is (length out)) ≡ 0
    unfolding write_of
    write_clear e = go (first_failing (write_checks h is (length out))) (eqb (first_failing (write_checks h is (length out))) 0) refl e
      where
        at : Bool → ℕ → AfterWrite
        at b n = elim b [
          | true ↦ record { refusal = 0; length = file_length is; bytes = written (file_of 3 h.positions is) out }
          | false ↦ record { refusal = n; length = 0; bytes = out }
        ]

        go : (n : ℕ) (b : Bool) → eqb n 0 ≡ b → (at b n).refusal ≡ 0 → n ≡ 0
        go n true q r = eqb-true n 0 q
        go n false q r = r

    -- what it leaves then
    write_accepts : first_failing (write_checks h is (length out)) ≡ 0
        → write_of h is out ≡ record { refusal = 0; length = file_length is; bytes = written (file_of 3 h.positions is) out }
    unfolding write_of
    write_accepts e =
        λ i. elim (eqb (e i) 0) [
          | true ↦ record { refusal = 0; length = file_length is; bytes = written (file_of 3 h.positions is) out }
          | false ↦ record { refusal = e i; length = 0; bytes = out }
        ]

    -- a mesh that the writer accepts passes the checks to 24,
    pub write_passes : (write_of h is out).refusal ≡ 0 → first_failing (mesh_checks h is) ≡ 0
    write_passes e = mesh_passes (length out) (write_clear e)

    -- and its file is what the writer left
    pub write_leaves : (write_of h is out).refusal ≡ 0 → file_left (write_of h is out) ≡ file_of 3 h.positions is
    unfolding written
    write_leaves e =
        ap file_left (write_accepts (write_clear e))
        ∙ take_at (file_of 3 h.positions is) (drop (length (file_of 3 h.positions is)) out) (file_length is) (file_length_lem 3 h.positions is)

    -- a mesh that passes is written to a slice that is long enough
    pub write_fits : first_failing (mesh_checks h is) ≡ 0 → file_length is ≤ length out → (write_of h is out).refusal ≡ 0
    write_fits e l =
        ap (λ (w : AfterWrite). w.refusal)
        (write_accepts (room_decides (length out) e ∙ sym (first_none ∙ first_next file_too_long [] (le-ltb (length out) (file_length is) l))))

-- two meshes that pass, with the same file, are written alike
pub write_same : (g h : Held) (js is out : List ℕ) → first_failing (mesh_checks g js) ≡ 0 → first_failing (mesh_checks h is) ≡ 0 → triangle_count js ≡ triangle_count is
    → file_of 3 g.positions js ≡ file_of 3 h.positions is → write_of g js out ≡ write_of h is out
unfolding write_of
write_same g h js is out p q n f =
    λ i. elim (eqb (number i) 0) [
      | true ↦ record { refusal = 0; length = head_bytes + facet_bytes * n i; bytes = written (f i) out }
      | false ↦ record { refusal = number i; length = 0; bytes = out }
    ]
  where
    number : first_failing (write_checks g js (length out)) ≡ first_failing (write_checks h is (length out))
    number =
        room_decides g js (length out) p
        ∙ ap (λ (k : ℕ). first_failing (check file_too_long (ltb (length out) (head_bytes + facet_bytes * k)) ∷ [])) n
        ∙ sym (room_decides h is (length out) q)

-- ---- the reader

-- what the checks to 74 ask of a file
pub record Readable (file : List ℕ) : Type 0 where
  pub whole : wrong_length file ≡ false
  pub few : count_of file ≤ 32000
  pub all_finite : corner_not_finite file ≡ false

-- of such a file, the slices decide
pub slices_decide : (file : List ℕ) (out : ReadSlices) → Readable file → first_failing (read_checks file out) ≡ first_failing (check 75 (no_room (count_of file) out) ∷ [])
unfolding read_checks
slices_decide file out r =
    let last = check 75 (no_room (count_of file) out) ∷ [] in
    sym
    (first_next 74 last r.all_finite ∙ first_next 73 (check 74 (corner_not_finite file) ∷ last) (le-ltb 32000 (count_of file) r.few)
    ∙ first_next 72 (check 73 (ltb 32000 (count_of file)) ∷ check 74 (corner_not_finite file) ∷ last) r.whole)

-- a file that is read, and the slices
pub record Reads (file : List ℕ) (out : ReadSlices) : Type 0 where
  pub readable : Readable file
  pub room : no_room (count_of file) out ≡ false

module _ (file : List ℕ) (out : ReadSlices) where
  read_clear : (read_of file out).refusal ≡ 0 → first_failing (read_checks file out) ≡ 0
  unfolding read_of refuse_read write_corners
  read_clear e = go (first_failing (read_checks file out)) (eqb (first_failing (read_checks file out)) 0) refl e
    where
      at : Bool → ℕ → AfterRead
      at b n = elim b [ true ↦ write_corners (count_of file) (file_corners file) out | false ↦ refuse_read n out ]

      go : (n : ℕ) (b : Bool) → eqb n 0 ≡ b → (at b n).refusal ≡ 0 → n ≡ 0
      go n true q r = eqb-true n 0 q
      go n false q r = r

  -- what the reader accepts
  pub read_passes : (read_of file out).refusal ≡ 0 → Reads file out
  unfolding read_checks
  read_passes e =
      let c72 = clear_first 71 _ _ (read_clear e) in
      let c73 = clear_first 72 _ _ c72.rest in
      let c74 = clear_first 73 _ _ c73.rest in
      let c75 = clear_first 74 _ _ c74.rest in
      record { readable = record { whole = c72.here; few = ltb-false 32000 (count_of file) c73.here; all_finite = c74.here }; room = c75.here }

  -- what it leaves then
  pub read_leaves : Reads file out → read_of file out ≡ write_corners (count_of file) (file_corners file) out
  unfolding read_of
  read_leaves r = λ i. elim (eqb (number i) 0) [ true ↦ write_corners (count_of file) (file_corners file) out | false ↦ refuse_read (number i) out ]
    where
      number : first_failing (read_checks file out) ≡ 0
      number = slices_decide file out r.readable ∙ sym (first_none ∙ first_next 75 [] r.room)

  -- A count above 32,000 of a file whose length is right is refused with 73, whatever its corners and the slices.
  pub too_many : wrong_length file ≡ false → 32000 < count_of file → read_of file out ≡ refuse_read 73 out
  unfolding read_of read_checks
  too_many w n = λ i. elim (eqb (number i) 0) [ true ↦ write_corners (count_of file) (file_corners file) out | false ↦ refuse_read (number i) out ]
    where
      number : first_failing (read_checks file out) ≡ 73
      number =
          let rest = check 74 (corner_not_finite file) ∷ check 75 (no_room (count_of file) out) ∷ [] in
          sym (first_here 73 rest (lt-ltb 32000 (count_of file) n) ∙ first_next 72 (check 73 (ltb 32000 (count_of file)) ∷ rest) w)

-- two files that can be read, with the same corners, are read alike
pub read_same : (file other : List ℕ) (out : ReadSlices) → Readable file → Readable other → count_of file ≡ count_of other → file_corners file ≡ file_corners other → read_of file out ≡ read_of other out
unfolding read_of
read_same file other out r s n c =
    λ i. elim (eqb (number i) 0) [ true ↦ write_corners (n i) (c i) out | false ↦ refuse_read (number i) out ]
  where
    number : first_failing (read_checks file out) ≡ first_failing (read_checks other out)
    number = slices_decide file out r ∙ ap (λ (k : ℕ). first_failing (check 75 (no_room k out) ∷ [])) n ∙ sym (slices_decide other out s)

-- ---- what was read, as a mesh to write

-- its positions and normals
abbrev pub mesh_left : AfterRead → Held
mesh_left r = in_two (take (3 * r.vertices) r.slices.positions) (take (3 * r.vertices) r.slices.normals)

-- its indices
abbrev pub indices_left : AfterRead → List ℕ
indices_left r = take r.indices r.slices.indices

-- what was read, written
abbrev pub rewrite_of : AfterRead → List ℕ → AfterWrite
rewrite_of r out = write_of (mesh_left r) (indices_left r) out

module _ (n : ℕ) (xs : List Float) (out : ReadSlices) (nine : length xs ≡ 9 * n) where
  -- are the corners, with normals of zero
  pub mesh_left_lem : mesh_left (write_corners n xs out) ≡ in_two xs (replicate (9 * n) (f32 0))
  unfolding write_corners written
  mesh_left_lem = λ i. in_two (here i) (zeros i)
    where
      here : take (3 * (3 * n)) (xs ++ drop (length xs) out.positions) ≡ xs
      here = take_at xs (drop (length xs) out.positions) (3 * (3 * n)) (omega arith)

      zeros : take (3 * (3 * n)) (replicate (9 * n) (f32 0) ++ drop (length (replicate (9 * n) (f32 0))) out.normals) ≡ replicate (9 * n) (f32 0)
      zeros = take_at (replicate (9 * n) (f32 0)) (drop (length (replicate (9 * n) (f32 0))) out.normals) (3 * (3 * n)) (omega (arith, length-replicate (9 * n) (f32 0)))

  -- and indices in turn
  pub indices_left_lem : indices_left (write_corners n xs out) ≡ numbers_from 0 (3 * n)
  unfolding write_corners written
  indices_left_lem = take_at (numbers_from 0 (3 * n)) (drop (length (numbers_from 0 (3 * n))) out.indices) (3 * n) (numbers_length 0 (3 * n))
