-- The text of the three calls is what the definition prints of a sheet. Assumes nothing.
use Rattle.std.specs.Prelude.{Bool, true, false, ◌&&◌, List, map, ◌≡◌, refl, ℕ, ◌*◌, eqb, length, take}
use Rattle.std.proofs.Common.{sym, ◌∙◌, ap, subst, arith}
use Rattle.float_steps.specs.Floats.{f32}
use Rattle.sheet_answer_text.specs.Answer.{refusal_line}
use Rattle.point_rules.specs.Points.{key}
use Rattle.turn_definition.specs.Orient.{AfterTurn, turn_of}
use Rattle.stitch_definition.specs.Slices.{AfterStitch}
use Rattle.stitch_definition.specs.Stitch.{stitch_of}
use Rattle.mesh_definition.specs.Assemble.{assemble_of}
use Rattle.sheet_line_order.specs.declared.Limits.{Limits}
use Rattle.bench_definition.specs.Finish.{Sheet, Outcome, Refused, Finished, area, mesh_slices, stitch_slices, assemble_next, stitch_next, finish}
use Rattle.lists.specs.Both.{and_left, and_right}
use Rattle.sheet_reader_state.specs.declared.Reader.{Reader}
use Rattle.sheet_reader_state.specs.Limits.{SheetRoom, limited, room_holds}
use Rattle.sheet_reader_state.specs.Slices.{Lent, counts_in, in_limits, of_bodies, patterns_of, room_for}
use Rattle.sheet_meaning.specs.Answered.{answer_in}
use Rattle.sheet_meaning.specs.Bench.{printed}
use Rattle.sheet_meaning.specs.Meaning.{meant}
use Rattle.sheet_meaning.specs.Printing.{mesh_lines, count_lines}
use Rattle.bench_finish.specs.Answer.{BodyRoom, answer_with, body_text}
use Rattle.bench_call_texts.specs.Texts.{assembled_text, finished_text, mesh_printed, stitch_printed, stitched_text, turn_printed}

either : (b : Bool) (o : Outcome) (n : ℕ) → printed (elim b as (λ x. Outcome) [ true ↦ o | false ↦ Refused n ]) ≡ elim b as (λ x. List ℕ) [ true ↦ printed o | false ↦ refusal_line n ]
unfolding printed
either true o n = refl
either false o n = refl

one_more : (b : Bool) (x y z : List ℕ) → x ≡ y → ◌≡◌ {A = List ℕ} (elim b as (λ c. List ℕ) [ true ↦ x | false ↦ z ]) (elim b as (λ c. List ℕ) [ true ↦ y | false ↦ z ])
one_more true x y z e = e
one_more false x y z e = refl

printed_assemble : (limits : Limits) (x : Sheet) (t : AfterTurn) (s : AfterStitch) → printed (assemble_next limits x t s)
    ≡ assembled_text (take (length x.table) s.slices.table) (take (3 * s.vertices) s.slices.positions) (take (3 * s.vertices) s.slices.normals) (take s.indices s.slices.indices)
    x.box x.materials x.default (record { turned = t.turned; against = t.against }) s.splits (mesh_slices limits s.slices.work)
unfolding assemble_next printed assembled_text mesh_printed mesh_lines count_lines
printed_assemble limits x t s =
    let a = assemble_of (take (length x.table) s.slices.table) (take (3 * s.vertices) s.slices.positions) (take (3 * s.vertices) s.slices.normals)
    (take s.indices s.slices.indices) x.box x.materials x.default (mesh_slices limits s.slices.work) in
    either (eqb a.refusal 0) (Finished t s a) a.refusal

printed_stitch : (limits : Limits) (x : Sheet) (t : AfterTurn) → printed (stitch_next limits x t)
    ≡ stitched_text x.table (map f32 x.positions) t.normals t.indices x.sag x.box x.materials x.default (record { turned = t.turned; against = t.against })
    (stitch_slices limits)
    (mesh_slices limits) t.work
unfolding stitch_next stitched_text stitch_printed
printed_stitch limits x t =
    let s = stitch_of key x.table (map f32 x.positions) t.normals t.indices x.sag (stitch_slices limits t.work) in
    either (eqb s.refusal 0) (assemble_next limits x t s) s.refusal
    ∙ one_more (eqb s.refusal 0) (printed (assemble_next limits x t s))
    (assembled_text (take (length x.table) s.slices.table) (take (3 * s.vertices) s.slices.positions) (take (3 * s.vertices) s.slices.normals)
    (take s.indices s.slices.indices) x.box x.materials x.default (record { turned = t.turned; against = t.against }) s.splits
    (mesh_slices limits s.slices.work)) (refusal_line s.refusal)
    (printed_assemble limits x t s)

-- What the program is to print of a sheet is the text of the three calls on its floats.
pub printed_finish : (limits : Limits) (x : Sheet) → printed (finish limits x)
    ≡ finished_text x.table (map f32 x.positions) (map f32 x.normals) x.indices x.sag x.box x.materials x.default
    (stitch_slices limits) (mesh_slices limits) (area limits)
unfolding finish finished_text turn_printed
printed_finish limits x =
    let t = turn_of key x.table (map f32 x.positions) (map f32 x.normals) x.indices (area limits) in
    either (eqb t.refusal 0) (stitch_next limits x t) t.refusal
    ∙ one_more (eqb t.refusal 0) (printed (stitch_next limits x t))
    (stitched_text x.table (map f32 x.positions) t.normals t.indices x.sag x.box x.materials x.default (record { turned = t.turned; against = t.against })
    (stitch_slices limits) (mesh_slices limits) t.work) (refusal_line t.refusal) (printed_stitch limits x t)

-- slices with room for the body of a sheet within the limits are long enough
room_too : (r : Reader) (t p n i m a b c : ℕ) → in_limits r t p n i m ≡ true → BodyRoom r.limits a b c → in_limits r t a b c m ≡ true
unfolding in_limits
room_too r t p n i m a b c e v =
    let l : Limits = r.limits in
    let room : SheetRoom l t p n i m = (limited r t p n i m e).room in
    let e1 = and_right (of_bodies l) _ e in
    rw (
      and_left (of_bodies l) (room_for l t p n i m && counts_in l r.rows r.vertices r.indices) e,
      room_holds l t a b c m (record { table = room.table; positions = v.positions; normals = v.normals; indices = v.indices; materials = room.materials }),
      and_right (room_for l t p n i m) (counts_in l r.rows r.vertices r.indices) e1,
    )

-- a text by a test that comes out true where another does
either_room : (b c : Bool) (x y z : List ℕ) → (b ≡ true → c ≡ true) → x ≡ y
    → ◌≡◌ {A = List ℕ} (elim b as (λ d. List ℕ) [ true ↦ elim c as (λ d. List ℕ) [ true ↦ x | false ↦ z ] | false ↦ z ]) (elim b as (λ d. List ℕ) [ true ↦ y | false ↦ z ])
either_room false c x y z h e = refl
either_room true true x y z h e = e
either_room true false x y z h e = absurd (apart (h refl))
  where
    apart : false ≡ true → ⊥
    apart r = let z : ◌≡◌ {A = ℕ} 0 1 = cc in omega arith

-- What is printed of a reader and its slices, with room for the body, is what the program of the reader's limits is to print of them.
pub answer_with_lem : (limits : Limits) (p n i : ℕ) (l : Lent) → l.reader.limits ≡ limits → BodyRoom limits p n i
    → answer_with p n i (stitch_slices limits) (mesh_slices limits) (area limits) l ≡ answer_in l
unfolding answer_with answer_in
answer_with_lem limits p n i l e room =
    let r : Reader = l.reader in
    let x : Sheet = meant (patterns_of l) in
    let body : body_text (stitch_slices limits) (mesh_slices limits) (area limits) x ≡ printed (finish r.limits x) =
    sym (printed_finish limits x) ∙ ap (λ (m : Limits). printed (finish m x)) (sym e) in
    let own : BodyRoom r.limits p n i = subst (λ (m : Limits). BodyRoom m p n i) (sym e) room in
    one_more (eqb r.refusal 0) _ _ _
    (either_room (in_limits r (length l.table) (length l.positions) (length l.normals) (length l.indices) (length l.materials))
    (in_limits r (length l.table) p n i (length l.materials)) _ _ (refusal_line 52)
    (λ q. room_too r (length l.table) (length l.positions) (length l.normals) (length l.indices) (length l.materials) p n i q own) body)
