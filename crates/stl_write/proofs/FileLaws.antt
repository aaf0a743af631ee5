-- The triangles written in turn behind the head of a file, and what the writer answers. Assumes nothing.
use mathlib.Core.Path.{◌≡◌, refl, sym, ap, ◌∙◌, subst}
use mathlib.Core.Bool.{Bool, true, false}
use mathlib.Core.List.{List, [], ◌∷◌, ◌++◌}
use Prim.Native.Nat.{ℕ, ◌+◌, ◌*◌, ◌/◌, ◌≤◌, ◌<◌}
use native.Mathlib.Omega.{arith}
use lib.Dec.{eqb, leb, ltb}
use lib.Ieee.{Float}
use lib.ListN.{length, get_or, replicate}
use borrow.Author.Tests.{leb-false, le-ltb, lt-ltb, ne_eqb}
use Rattle.lists.specs.Lists.{written}
use Rattle.lists.specs.Any.{any_none}
use Rattle.point_rules.specs.Points.{little_endian}
use Rattle.body_rows.specs.Body.{check, first_failing}
use Rattle.body_rows.specs.Checks.{first_stop}
use Rattle.body_refusals.specs.BodyChecks.{lone_checks}
use Rattle.slice_append.specs.Appended.{Appended, appended_then, appended_written}
use Rattle.std.specs.Prelude.{Result, Ok, Err}
use Rattle.stl_definition.specs.Answers.{left_written}
use Rattle.stl_definition.specs.Bytes.{word}
use Rattle.stl_definition.specs.ByteLaws.{F32s}
use Rattle.stl_definition.specs.CallLaws.{file_left, room_decides}
use Rattle.stl_definition.specs.File.{corners, facet, facet_bytes, file_length, file_of, head_bytes, header_bytes, triangle_count}
use Rattle.stl_definition.specs.FileLaws.{facet_length}
use Rattle.stl_definition.specs.FrontLaws.{Front, front_none, front_more, front_all}
use Rattle.stl_definition.specs.Promises.{ReadsBack, reads_back}
use Rattle.stl_definition.specs.RowLaws.{row_passed}
use Rattle.stl_definition.specs.StepLaws.{facets_front, facets_none, facets_more, facets_all, facets_front_length, triangle_at, two_alone}
use Rattle.stl_definition.specs.Write.{AfterWrite, file_too_long, in_two, mesh_checks, write_checks, write_of}
use Rattle.stl_write.specs.Ready.{Checked, Inside, Writable, fitted}

-- ---- triangles in turn

-- a slice as long as one with room has room
pub writable_still : {ps : List Float} {is E W : List ℕ} → Writable ps is E → length W ≡ length E → Writable ps is W
writable_still w e = record { checked = w.checked; room = omega (arith, w.room) }

-- the corners of triangle t are there
pub triangle_inside : {ps : List Float} {is E : List ℕ} (t : ℕ) → Writable ps is E → t < triangle_count is
    → Inside ps (get_or is (3 * t) 0) (get_or is (3 * t + 1) 0) (get_or is (3 * t + 2) 0)
triangle_inside {ps} {is} t w h =
    record {
      first = w.checked.inside (3 * t) (omega arith);
      second = w.checked.inside (3 * t + 1) (omega arith);
      third = w.checked.inside (3 * t + 2) (omega arith);
    }

-- behind the head of the file t triangles are written: E became W
abbrev pub Facets : List Float → List ℕ → ℕ → List ℕ → List ℕ → Type 0
Facets ps is t E W = Front head_bytes (facets_front 3 ps is) (triangle_count is) t E W

-- none is yet
pub none_put : (ps : List Float) (is E : List ℕ) → Facets ps is 0 E E
none_put ps is E = front_none head_bytes (facets_front 3 ps is) (triangle_count is) E (facets_none 3 ps is)

-- there is room for the next
pub still_room : {ps : List Float} {is E W : List ℕ} {t : ℕ} → Writable ps is E → Facets ps is t E W → Writable ps is W
still_room w f = writable_still w f.long

-- one more is
pub one_put : {ps : List Float} {is E W W' : List ℕ} {t : ℕ} → Writable ps is E → Facets ps is t E W → t < triangle_count is
    → Appended (head_bytes + facet_bytes * t) (facet (corners 3 ps (triangle_at is t))) W W' → Facets ps is (t + 1) E W'
one_put {ps} {is} {E} {t = t} w f h a =
    front_more f h (facets_more 3 ps is t h) (omega (arith, facets_front_length 3 ps is t f.low))
    (omega (arith, w.room, facet_length (corners 3 ps (triangle_at is t)) refl)) a

-- all are
pub all_put : (ps : List Float) (is : List ℕ) {E W : List ℕ} {t : ℕ} → Facets ps is t E W → triangle_count is ≤ t → Appended head_bytes (facets_front 3 ps is (triangle_count is)) E W
all_put ps is f h = front_all f h

-- ---- the file

-- the header and the count
pub head_put : (n : ℕ) {E A W : List ℕ} → Appended 0 (replicate header_bytes 0) E A → Appended header_bytes (word n) A W → Appended 0 (replicate header_bytes 0 ++ word n) E W
head_put n p q = appended_then p refl q

-- and the triangles
pub file_put : (ps : List Float) (is : List ℕ) {E A W : List ℕ} → Appended 0 (replicate header_bytes 0 ++ word (triangle_count is)) E A
    → Appended head_bytes (facets_front 3 ps is (triangle_count is)) A W → W ≡ written (file_of 3 ps is) E
unfolding little_endian
file_put ps is {E} {A} {W} p q =
    appended_written (subst (λ (l : List ℕ). Appended 0 l E W) (facets_all 3 ps is (triangle_count is) (omega arith)) (appended_then p refl q))

-- ---- the answers

-- a slice too short
pub short_left : (ps : List Float) (is E : List ℕ) → length E < file_length is → left_written (Err file_too_long) E ≡ fitted ps is E
unfolding fitted
short_left ps is E h = rw (lt-ltb (length E) (file_length is) h, fitted)

-- one with room
pub file_left_lem : (ps : List Float) (is E : List ℕ) {W : List ℕ} → file_length is ≤ length E → W ≡ written (file_of 3 ps is) E → left_written (Ok (file_length is)) W ≡ fitted ps is E
unfolding fitted
file_left_lem ps is E h e = ap (λ (l : List ℕ). left_written (Ok (file_length is)) l) e ∙ rw (le-ltb (length E) (file_length is) h, fitted)

module _ (ps ns : List Float) (is : List ℕ) {n : ℕ} (en : n ≡ first_failing (lone_checks ps ns is)) where
  -- the checks of the mesh
  checks_are : n ≡ first_failing (mesh_checks (in_two ps ns) is)
  checks_are = en ∙ ap first_failing (sym (two_alone ps ns is))

  -- a mesh that passes them
  pub mesh_checked : n ≡ 0 → Checked ps is
  unfolding mesh_checks
  mesh_checked z =
      let p = row_passed (length ps / 3) ps ns is (sym checks_are ∙ z) in
      record {
        inside = λ k h. let l = leb-false (length ps / 3) (get_or is k 0) (any_none (λ i. leb (length ps / 3) i) is 0 p.sound.inside k h) in omega (arith, p.sound.all_positions);
        few = p.sound.indices;
      }

  -- its file is written, or 71 answered
  is_fitted : n ≡ 0 → (E : List ℕ) → fitted ps is E ≡ write_of (in_two ps ns) is E
  unfolding write_of fitted first_failing
  is_fitted z E =
      sym
      ((λ i. at (room_decides (in_two ps ns) is (length E) (sym checks_are ∙ z) i)) ∙ last (ltb (length E) (file_length is)))
    where
      at : ℕ → AfterWrite
      at m = elim (eqb m 0) [
        | true ↦ record { refusal = 0; length = file_length is; bytes = written (file_of 3 ps is) E }
        | false ↦ record { refusal = m; length = 0; bytes = E }
      ]

      last : (b : Bool) → at (first_failing (check file_too_long b ∷ [])) ≡ elim b [
        | true ↦ record { refusal = file_too_long; length = 0; bytes = E }
        | false ↦ record { refusal = 0; length = file_length is; bytes = written (file_of 3 ps is) E }
      ]
      last true = refl
      last false = refl

  pub mesh_left_lem : n ≡ 0 → (r : Result ℕ ℕ) (E W : List ℕ) → left_written r W ≡ fitted ps is E → left_written r W ≡ write_of (in_two ps ns) is E
  mesh_left_lem z r E W e = e ∙ is_fitted z E

  -- what was written reads back
  pub mesh_back : F32s ps → n ≡ 0 → (r : Result ℕ ℕ) (E W : List ℕ) → left_written r W ≡ fitted ps is E → (left_written r W).refusal ≡ 0 → ReadsBack ps ns is (file_left (left_written r W))
  mesh_back f z r E W e q =
      let same = mesh_left_lem z r E W e in
      subst (λ (w : AfterWrite). ReadsBack ps ns is (file_left w)) (sym same) (reads_back ps ns is E f (sym (ap (λ (w : AfterWrite). w.refusal) same) ∙ q))

  -- a mesh that does not pass
  pub mesh_refused : (E : List ℕ) → (n ≡ 0 → ⊥) → left_written (Err n) E ≡ write_of (in_two ps ns) is E
  unfolding write_of write_checks
  mesh_refused E f =
      let e : n ≡ first_failing (write_checks (in_two ps ns) is (length E)) = checks_are ∙ first_stop (mesh_checks (in_two ps ns) is) _ (λ q. f (checks_are ∙ q)) in
      ap (λ (b : Bool). at b n) (sym (ne_eqb n 0 f)) ∙ ap (λ (m : ℕ). at (eqb m 0) m) e
    where
      at : Bool → ℕ → AfterWrite
      at b m = elim b [
        | true ↦ record { refusal = 0; length = file_length is; bytes = written (file_of 3 ps is) E }
        | false ↦ record { refusal = m; length = 0; bytes = E }
      ]

  -- promises nothing
  pub refused_back : {file : List ℕ} → (n ≡ 0 → ⊥) → n ≡ 0 → ReadsBack ps ns is file
  refused_back f z = absurd (f z)
