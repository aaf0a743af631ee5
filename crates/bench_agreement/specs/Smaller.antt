-- A sheet that was read within larger limits, finished in the slices of smaller ones: what is printed is the same, unless it is refused with 52 or 32. Assumes nothing.
use Rattle.std.specs.Prelude.{Bool, true, false, List, [], ◌∷◌, ◌≡◌, refl, ℕ, ◌+◌, ◌*◌, eqb, length, take}
use Rattle.std.proofs.Common.{append-nil, ◌∙◌, arith}
use Rattle.std.proofs.Math.Path.{sym, ap}
use Rattle.std.proofs.Math.ListN.{length-take}
use Rattle.body_rows.specs.Body.{row_width}
use Rattle.sheet_line_order.specs.declared.Limits.{Limits}
use Rattle.sheet_line_order.specs.Reading.{patterns}
use Rattle.sheet_reader_state.specs.declared.Reader.{Reader}
use Rattle.sheet_reader_state.specs.Limits.{Limited, SheetRoom, counts_hold, limited, room_holds}
use Rattle.sheet_reader_state.specs.Slices.{Lent, in_limits, lent, of_bodies, patterns_of}
use Rattle.sheet_answer_text.specs.Answer.{refusal_line}
use Rattle.bench_definition.specs.Finish.{Sheet, finish}
use Rattle.sheet_meaning.specs.Answered.{answer_in}
use Rattle.sheet_meaning.specs.Bench.{printed}
use Rattle.sheet_meaning.specs.Meaning.{meant}
use Rattle.bench_agreement.specs.Answers.{pick}
use Rattle.bench_agreement.specs.Within.{Spacious, Within}
use Rattle.bench_agreement.specs.Finishing.{finish_said}
use Rattle.bench_agreement.specs.Stitching.{with_faces}

-- the reader with other limits
abbrev pub reader_in : Limits → Reader → Reader
reader_in limits r =
    record {
      limits = limits;
      refusal = r.refusal;
      place = r.place;
      rows = r.rows;
      vertices = r.vertices;
      indices = r.indices;
      default = r.default;
      sag = r.sag;
      minx = r.minx;
      miny = r.miny;
      minz = r.minz;
      maxx = r.maxx;
      maxy = r.maxy;
      maxz = r.maxz;
    }

-- the same with its slices
abbrev pub lent_in : Limits → Lent → Lent
lent_in limits l = lent (reader_in limits l.reader) l.table l.positions l.normals l.indices l.materials

-- whether a reader and its slices are within its limits
abbrev within : Lent → Bool
within l = in_limits l.reader (length l.table) (length l.positions) (length l.normals) (length l.indices) (length l.materials)

-- the sheet without another material is the sheet
no_faces : (x : Sheet) → with_faces 0 x ≡ x
no_faces x =
    ap
    (λ (ms : List ℕ). record { box = x.box; sag = x.sag; default = x.default; materials = ms; table = x.table; positions = x.positions; normals = x.normals; indices = x.indices })
    (append-nil x.materials)

-- the sheet that was read, with the materials of the faces to n
abbrev sheet_to : Lent → ℕ → Sheet
sheet_to l n =
    let r = l.reader in
    meant (patterns
    (r.minx ∷ r.miny ∷ r.minz ∷ r.maxx ∷ r.maxy ∷ r.maxz ∷ [])
    r.sag
    r.default
    (take (n + 1) l.materials)
    (take (row_width * r.rows) l.table)
    (take (3 * r.vertices) l.positions)
    (take (3 * r.vertices) l.normals)
    (take r.indices l.indices))

-- texts by three tests: whether nothing was refused, and whether the one and the other has room
by_tests : (b c d : Bool) (x y z : List ℕ) → (c ≡ true → d ≡ true) → (c ≡ true → (y ≡ refusal_line 32 → ⊥) → x ≡ y) → (pick b (pick c y (refusal_line 52)) z ≡ refusal_line 52 → ⊥)
    → (pick b (pick c y (refusal_line 52)) z ≡ refusal_line 32 → ⊥) → pick b (pick d x (refusal_line 52)) z ≡ pick b (pick c y (refusal_line 52)) z
by_tests false c d x y z f g h k = refl
by_tests true false d x y z f g h k = absurd (h refl)
by_tests true true true x y z f g h k = g refl k
by_tests true true false x y z f g h k = absurd (apart (f refl))
  where
    apart : false ≡ true → ⊥
    apart r = let z : ◌≡◌ {A = ℕ} 0 1 = cc in omega arith

module _ (small large : Limits) (w : Within small large) (spacious : Spacious small) (faces : small.face ≡ large.face) (bodies : of_bodies large ≡ true) (l : Lent) (e : l.reader.limits ≡ large)
    (room : SheetRoom large (length l.table) (length l.positions) (length l.normals) (length l.indices) (length l.materials)) where
  -- the sheet that was read
  abbrev sheet : Sheet
  sheet = meant (patterns_of l)

  -- within the smaller limits is within the larger
  larger : within (lent_in small l) ≡ true → within l ≡ true
  unfolding in_limits
  larger q =
      let r : Reader = l.reader in
      let v : Limited (reader_in small r) (length l.table) (length l.positions) (length l.normals) (length l.indices) (length l.materials) =
      limited (reader_in small r) (length l.table) (length l.positions) (length l.normals) (length l.indices) (length l.materials) q in
      rw (
        e,
        bodies,
        room_holds large (length l.table) (length l.positions) (length l.normals) (length l.indices) (length l.materials) room,
        counts_hold large r.rows r.vertices r.indices (omega (arith, v.rows, w.rows)) (omega (arith, v.vertices, w.vertices)) (omega (arith, v.counted, w.indices)),
      )

  -- a sheet within the smaller limits is finished alike
  finished_same : within (lent_in small l) ≡ true → (printed (finish small sheet) ≡ refusal_line 32 → ⊥) → printed (finish l.reader.limits sheet) ≡ printed (finish small sheet)
  unfolding meant
  finished_same q h =
      let r : Reader = l.reader in
      let v : Limited (reader_in small r) (length l.table) (length l.positions) (length l.normals) (length l.indices) (length l.materials) =
      limited (reader_in small r) (length l.table) (length l.positions) (length l.normals) (length l.indices) (length l.materials) q in
      ap (λ (m : Limits). printed (finish m sheet)) e ∙ ap (λ (x : Sheet). printed (finish large x)) (sym (no_faces sheet))
      ∙ finish_said small large w spacious sheet 0
      (omega (arith, length-take (row_width * r.rows) l.table, v.rows))
      (omega (arith, length-take (3 * r.vertices) l.positions, v.vertices))
      (omega (arith, length-take r.indices l.indices, v.counted)) h

  -- the sheet is the same by both
  same_sheet : meant (patterns_of (lent_in small l)) ≡ sheet
  same_sheet = ap (sheet_to l) (faces ∙ ap (λ (m : Limits). m.face) (sym e))

  -- What is printed in the slices of the smaller limits is what is printed in those of the larger, unless it is 52 or 32.
  pub answer_same : (answer_in (lent_in small l) ≡ refusal_line 52 → ⊥) → (answer_in (lent_in small l) ≡ refusal_line 32 → ⊥) → answer_in l ≡ answer_in (lent_in small l)
  unfolding answer_in
  answer_same read stitched =
      by_tests (eqb l.reader.refusal 0) (within (lent_in small l)) (within l) (printed (finish l.reader.limits sheet)) (printed (finish small (meant (patterns_of (lent_in small l)))))
      (refusal_line l.reader.refusal) larger
      (λ q k. finished_same q (λ z. k (here ∙ z)) ∙ sym here) read stitched
    where
      here : printed (finish small (meant (patterns_of (lent_in small l)))) ≡ printed (finish small sheet)
      here = ap (λ (x : Sheet). printed (finish small x)) same_sheet
