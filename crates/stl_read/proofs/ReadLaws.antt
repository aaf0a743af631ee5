-- The reader's checks and answers. Assumes nothing.
use mathlib.Core.Path.{◌≡◌, refl, sym, ap, ◌∙◌, subst}
use mathlib.Core.Bool.{Bool, true, false, not, ◌||◌}
use mathlib.Core.List.{List, [], ◌∷◌}
use Prim.Native.Nat.{ℕ, ◌+◌, ◌*◌, ◌≤◌, ◌<◌}
use native.Mathlib.Omega.{arith}
use lib.Dec.{eqb, ltb}
use lib.Ieee.{Float}
use lib.ListN.{drop, get_or, length, replicate}
use mir.Syntax.{w8}
use mir.Val.{Fits}
use borrow.Author.Tests.{eq-eqb, eqb-true, le-ltb, lt-ltb, ltb-false, ne_eqb, not-false}
use Rattle.lists.specs.Lists.{any, written}
use Rattle.lists.specs.Both.{or_left, or_right}
use Rattle.float_steps.specs.Floats.{f32}
use Rattle.body_patch_checks.specs.PatchTests.{not_finite}
use Rattle.body_rows.specs.Body.{check, first_failing, row_width}
use Rattle.body_rows.specs.Checks.{clear_first, first_here, first_next, first_none, first_stop}
use Rattle.slice_append.specs.Appended.{Appended, appended_written}
use Rattle.std.specs.Prelude.{Result, Ok, Err}
use Rattle.stl_definition.specs.Answers.{left_read, slices}
use Rattle.stl_definition.specs.CallLaws.{Readable, slices_decide}
use Rattle.stl_definition.specs.File.{facet_bytes, head_bytes, header_bytes}
use Rattle.stl_definition.specs.Promises.{WritesBack, writes_back}
use Rattle.stl_definition.specs.Read.{AfterRead, ReadSlices, corner_not_finite, count_of, facet_corners, file_corners, most_triangles}
use Rattle.stl_definition.specs.Read.{no_room, numbers_from, read_checks, read_of, refuse_read, write_corners, wrong_length}
use Rattle.stl_definition.specs.StepLaws.{count_at_lem, word_at}
use Rattle.stl_definition.specs.TestLaws.{neither}
use Rattle.stl_definition.specs.Write.{one_row}
use Rattle.stl_read.specs.Ready.{Holds, MeshPut, MeshReady, file_checks, fitted}

-- ---- 72 to 74

-- the file is shorter than its head
pub shorter_72 : (file : List ℕ) → length file < head_bytes → 72 ≡ first_failing (file_checks file)
unfolding file_checks wrong_length
shorter_72 file h =
    first_here 72 _ (ap (λ (b : Bool). b || not (eqb (length file) (head_bytes + facet_bytes * count_of file))) (lt-ltb (length file) head_bytes h))

module _ (file : List ℕ) (head : head_bytes ≤ length file) {n : ℕ} (e : n ≡ word_at file header_bytes) where
  -- the word behind the header is the count
  count_is : n ≡ count_of file
  count_is = e ∙ sym (count_at_lem file)

  -- its length is another than its count says
  pub other_72 : (length file ≡ head_bytes + facet_bytes * n → ⊥) → 72 ≡ first_failing (file_checks file)
  unfolding file_checks wrong_length
  other_72 h =
      let c = count_is in
      first_here 72 _
      ((λ i. le-ltb (length file) head_bytes head i || not (ne_eqb (length file) (head_bytes + facet_bytes * count_of file) (λ q. h (q ∙ ap (λ (k : ℕ). head_bytes + facet_bytes * k) (sym c))) i)))

  module _ (long : length file ≡ head_bytes + facet_bytes * n) where
    -- it is what its count says
    whole : wrong_length file ≡ false
    unfolding wrong_length
    whole =
        neither (ltb (length file) head_bytes) (not (eqb (length file) (head_bytes + facet_bytes * count_of file))) (le-ltb (length file) head_bytes head)
        (ap not (eq-eqb (length file) (head_bytes + facet_bytes * count_of file) (long ∙ ap (λ (k : ℕ). head_bytes + facet_bytes * k) count_is)))

    -- there are too many triangles
    pub many_73 : most_triangles < n → 73 ≡ first_failing (file_checks file)
    unfolding file_checks
    many_73 h = first_here 73 _ (ap (ltb most_triangles) (sym count_is) ∙ lt-ltb most_triangles n h) ∙ first_next 72 _ whole

    -- there aren't
    pub few_hold : n ≤ most_triangles → Holds file n
    few_hold h = record { long = omega arith; few = h }

    module _ (few : n ≤ most_triangles) {b : Bool} (eb : b ≡ any not_finite (facet_corners n (drop head_bytes file))) where
      -- whether a corner isn't finite
      corner_is : b ≡ corner_not_finite file
      unfolding corner_not_finite file_corners
      corner_is = eb ∙ ap (λ (k : ℕ). any not_finite (facet_corners k (drop head_bytes file))) count_is

      few_next : ltb most_triangles (count_of file) ≡ false
      few_next = ap (ltb most_triangles) (sym count_is) ∙ le-ltb most_triangles n few

      pub corner_74 : b ≡ true → 74 ≡ first_failing (file_checks file)
      unfolding file_checks
      corner_74 q = first_here 74 _ (sym corner_is ∙ q) ∙ first_next 73 _ few_next ∙ first_next 72 _ whole

      pub none_fails : b ≡ false → 0 ≡ first_failing (file_checks file)
      unfolding file_checks
      none_fails q = first_none ∙ first_next 74 _ (sym corner_is ∙ q) ∙ first_next 73 _ few_next ∙ first_next 72 _ whole

-- ---- 75

-- a file that passes these
pub readable : (file : List ℕ) {n : ℕ} → n ≡ first_failing (file_checks file) → n ≡ 0 → Readable file
unfolding file_checks
readable file e z =
    let c72 = clear_first 71 _ _ (sym e ∙ z) in
    let c73 = clear_first 72 _ _ c72.rest in
    let c74 = clear_first 73 _ _ c73.rest in
    record { whole = c72.here; few = ltb-false most_triangles (count_of file) c73.here; all_finite = c74.here }

-- is as long as its count says
pub readable_long : (file : List ℕ) → Readable file → length file ≡ head_bytes + facet_bytes * count_of file
unfolding wrong_length
readable_long file r =
    let n = head_bytes + facet_bytes * count_of file in
    eqb-true (length file) n (not-false (eqb (length file) n) (or_right (ltb (length file) head_bytes) (not (eqb (length file) n)) r.whole))

-- so its count is there
pub count_there : (file : List ℕ) → Readable file → header_bytes + 4 ≤ length file
count_there file r = omega (arith, readable_long file r)

module _ (file : List ℕ) (r : Readable file) {n : ℕ} (e : n ≡ word_at file header_bytes) where
  counted : n ≡ count_of file
  counted = e ∙ sym (count_at_lem file)

  pub few_read : n ≤ most_triangles
  few_read = subst (λ (k : ℕ). k ≤ most_triangles) (sym counted) r.few

  pub holds : Holds file n
  holds = let c = counted in record { long = omega (arith, readable_long file r); few = few_read }

  module _ (out : ReadSlices) {b : Bool}
      (eb : b ≡ (ltb (length out.table) row_width || ltb (length out.positions) (9 * n) || ltb (length out.normals) (9 * n) || ltb (length out.indices) (3 * n))) where
    room_is : b ≡ no_room (count_of file) out
    unfolding no_room
    room_is = eb ∙ ap (λ (k : ℕ). ltb (length out.table) row_width || ltb (length out.positions) (9 * k) || ltb (length out.normals) (9 * k) || ltb (length out.indices) (3 * k)) counted

    -- what is left by that
    at : Bool → AfterRead
    at t = elim t [ true ↦ refuse_read 75 out | false ↦ write_corners (count_of file) (file_corners file) out ]

    -- the slices are too short
    pub short_left : b ≡ true → left_read (Err 75) out ≡ fitted file out
    unfolding fitted refuse_read at
    short_left q = ap at (sym (sym room_is ∙ q))

    -- they have room
    pub mesh_ready : b ≡ false → MeshReady file n out
    mesh_ready q =
        let x = ltb (length out.table) row_width in
        let y = ltb (length out.positions) (9 * n) in
        let z = ltb (length out.normals) (9 * n) in
        let w = ltb (length out.indices) (3 * n) in
        let all = sym eb ∙ q in
        let xyz = or_left (x || y || z) w all in
        let xy = or_left (x || y) z xyz in
        record {
          holds = holds;
          rows = ltb-false (length out.table) row_width (or_left x y xy);
          positions = ltb-false (length out.positions) (9 * n) (or_right x y xy);
          normals = ltb-false (length out.normals) (9 * n) (or_right (x || y) z xyz);
          indices = ltb-false (length out.indices) (3 * n) (or_right (x || y || z) w all);
        }

    pub mesh_left_lem : b ≡ false → {v : ℕ} {new : ReadSlices} → MeshPut file n out new v → left_read (Ok v) new ≡ fitted file out
    unfolding fitted write_corners file_corners at
    mesh_left_lem q p =
        (λ i. left_read (Ok (p.count i)) (p.left i))
        ∙ (λ i. write_corners (counted i) (facet_corners (counted i) (drop head_bytes file)) out)
        ∙ ap at (sym (sym room_is ∙ q))

-- the row, the corners, zeros and numbers are what was read
pub mesh_put : (file : List ℕ) (n : ℕ) (T T' : List ℕ) (P P' N N' : List Float) (I I' : List ℕ) {x : Float} → Appended 0 (one_row (3 * n) (3 * n)) T T'
    → Appended 0 (facet_corners n (drop head_bytes file)) P P' → Appended 0 (replicate (9 * n) x) N N' → x ≡ f32 0 → Appended 0 (numbers_from 0 (3 * n)) I I'
    → MeshPut file n (slices T P N I) (slices T' P' N' I') (3 * n)
unfolding write_corners
mesh_put file n T T' P P' N N' I I' t p z e i =
    record {
      count = refl;
      left =
          λ j. slices (appended_written t j) (appended_written p j) ((appended_written z ∙ ap (λ (y : Float). written (replicate (9 * n) y) N) e) j) (appended_written i j);
    }

-- ---- the answers

module _ (file : List ℕ) (out : ReadSlices) {n : ℕ} (en : n ≡ first_failing (file_checks file)) where
  -- what a number of a check leads to
  answer : ℕ → AfterRead
  answer m = elim (eqb m 0) [ true ↦ write_corners (count_of file) (file_corners file) out | false ↦ refuse_read m out ]

  -- a file that does not pass
  pub read_refused : (n ≡ 0 → ⊥) → left_read (Err n) out ≡ read_of file out
  unfolding read_of refuse_read answer read_checks file_checks
  read_refused f =
      let e : n ≡ first_failing (read_checks file out) = en ∙ first_stop (file_checks file) (check 75 (no_room (count_of file) out) ∷ []) (λ q. f (en ∙ q)) in
      ap (λ (b : Bool). elim b [ true ↦ write_corners (count_of file) (file_corners file) out | false ↦ refuse_read n out ]) (sym (ne_eqb n 0 f)) ∙ ap answer e

  -- promises nothing
  pub refused_back : {r : AfterRead} → (n ≡ 0 → ⊥) → n ≡ 0 → WritesBack file r
  refused_back f z = absurd (f z)

  -- one that does
  is_fitted : n ≡ 0 → fitted file out ≡ read_of file out
  unfolding read_of fitted answer first_failing
  is_fitted z = sym (ap answer (slices_decide file out (readable file en z)) ∙ last (no_room (count_of file) out))
    where
      last : (b : Bool) → answer (first_failing (check 75 b ∷ [])) ≡ elim b [ true ↦ refuse_read 75 out | false ↦ write_corners (count_of file) (file_corners file) out ]
      last true = refl
      last false = refl

  pub read_left : n ≡ 0 → (r : Result ℕ ℕ) (new : ReadSlices) → left_read r new ≡ fitted file out → left_read r new ≡ read_of file out
  read_left z r new e = e ∙ is_fitted z

  -- can be written again
  pub read_back : ((i : ℕ) → Fits w8 (get_or file i 0)) → n ≡ 0 → (r : Result ℕ ℕ) (new : ReadSlices) → left_read r new ≡ fitted file out → (left_read r new).refusal ≡ 0 → WritesBack file (left_read r new)
  read_back b z r new e q =
      let same = read_left z r new e in
      subst (WritesBack file) (sym same) (writes_back file out (λ i h. omega (arith, b i)) (sym (ap (λ (a : AfterRead). a.refusal) same) ∙ q))
