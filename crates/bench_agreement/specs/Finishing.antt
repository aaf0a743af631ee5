-- What is printed of a sheet within the smaller program's limits, turned, stitched and assembled: the same by both, unless the smaller refuses it with 32. Assumes nothing.
use Rattle.std.specs.Prelude.{Bool, true, false, List, map, ◌≡◌, refl, ℕ, ◌*◌, ◌≤◌, eqb, length}
use Rattle.std.proofs.Common.{sym, ◌∙◌, ap, arith}
use Rattle.std.proofs.lemmas.List.{length-map}
use Rattle.float_steps.specs.Floats.{f32}
use Rattle.point_rules.specs.Rule.{names}
use Rattle.point_rules.specs.Points.{key}
use Rattle.join_definition.specs.Join.{joined}
use Rattle.body_rows.specs.Body.{cleared, first_failing, patches_of, row_width, rows_of}
use Rattle.turn_definition.specs.Orient.{AfterTurn, refuse_turn, turn_body, turn_of, walks_of}
use Rattle.sheet_line_order.specs.declared.Limits.{Limits}
use Rattle.sheet_answer_text.specs.Answer.{refusal_line}
use Rattle.bench_definition.specs.Finish.{Outcome, Refused, Sheet, area, finish, stitch_next}
use Rattle.sheet_meaning.specs.Bench.{printed}
use Rattle.bench_agreement.specs.Answers.{or_unless, or_refusal, pick, refusal_printed}
use Rattle.bench_agreement.specs.Within.{Spacious, Within}
use Rattle.body_checks.specs.Accepted.{clean_before, checks_before}
use Rattle.body_refusals.specs.BodyChecks.{before_work}
use Rattle.bench_agreement.specs.Bodies.{Fitting, area_enough, cleared_length, fitting, fitting_large}
use Rattle.bench_agreement.specs.Stitching.{stitch_said, with_faces}

-- what the calls give, by turn's answer
abbrev after : Limits → Sheet → AfterTurn → Outcome
after l x t = pick (eqb t.refusal 0) (stitch_next l x t) (Refused t.refusal)

-- the body turned, with this work area
abbrev turned_of : Sheet → List ℕ → AfterTurn
turned_of x work =
    let ps = map f32 x.positions in
    let patches = patches_of (rows_of x.table) ps (map f32 x.normals) x.indices in
    turn_body (rows_of x.table) patches (walks_of patches (joined (names key ps))) work

-- the first check of the body that fails
abbrev first_of : Sheet → ℕ
first_of x = first_failing (before_work x.table (map f32 x.positions) (map f32 x.normals) x.indices)

turned_said : (l : Limits) (x : Sheet) (work : List ℕ) → printed (after l x (turned_of x work)) ≡ printed (stitch_next l x (turned_of x work))
unfolding turn_body
turned_said l x work = refl

turned_text : (l : Limits) (x : Sheet) → (first_of x ≡ 0 → Fitting l (rows_of x.table)) → printed (finish l x) ≡ or_refusal (first_of x) (printed (stitch_next l x (turned_of x (area l))))
unfolding finish turn_of refuse_turn
turned_text l x room =
    let ps = map f32 x.positions in
    let ns = map f32 x.normals in
    ap (λ (k : ℕ). printed (after l x (pick (eqb k 0) (turned_of x (area l)) (refuse_turn k ns x.indices (area l)))))
    (checks_before x.table ps ns x.indices (length (area l)) (λ e. area_enough l (rows_of x.table) (room e)))
    ∙ go (first_of x) (eqb (first_of x) 0) refl
  where
    go : (k : ℕ) (b : Bool) → eqb k 0 ≡ b → printed (after l x (pick b (turned_of x (area l)) (refuse_turn k (map f32 x.normals) x.indices (area l))))
        ≡ pick b (printed (stitch_next l x (turned_of x (area l)))) (refusal_line k)
    go k true q = turned_said l x (area l)
    go k false q = refusal_printed _ k q

-- ---- by both programs

module _ (small large : Limits) (w : Within small large) (spacious : Spacious small) (x : Sheet) (n : ℕ) (few_rows : length x.table ≤ row_width * small.rows)
    (few_vertices : length x.positions ≤ 3 * small.vertices)
    (few_indices : length x.indices ≤ small.indices) where
  -- the body has room
  room : first_of x ≡ 0 → Fitting small (rows_of x.table)
  room e =
      let ps = map f32 x.positions in
      let ns = map f32 x.normals in
      fitting small x.table ps ns x.indices (clean_before x.table ps ns x.indices e).tabled few_rows
      (omega (arith, length-map x.positions f32, few_vertices, spacious.vertices)) (omega (arith, few_indices, spacious.indices))

  -- and is stitched alike
  turned_same : first_of x ≡ 0 → (printed (stitch_next small x (turned_of x (area small))) ≡ refusal_line 32 → ⊥)
      → printed (stitch_next large (with_faces n x) (turned_of x (area large))) ≡ printed (stitch_next small x (turned_of x (area small)))
  unfolding turn_body
  turned_same e h =
      let rows = rows_of x.table in
      let t = turned_of x (area small) in
      let fits = room e in
      stitch_said small large w x n t.turned t.against t.normals t.indices (cleared rows (area small)) (cleared rows (area large)) few_rows fits
      (cleared_length rows (area small) (area_enough small rows fits))
      (cleared_length rows (area large) (area_enough large rows (fitting_large small large rows w fits))) h

  -- A sheet within the smaller program's limits is finished and printed alike, unless the smaller refuses it with 32.
  pub finish_said : (printed (finish small x) ≡ refusal_line 32 → ⊥) → printed (finish large (with_faces n x)) ≡ printed (finish small x)
  finish_said h =
      let here = turned_text small x room in
      turned_text large (with_faces n x) (λ e. fitting_large small large (rows_of x.table) w (room e))
      ∙ or_unless (first_of x) 32 (printed (stitch_next large (with_faces n x) (turned_of x (area large)))) (printed (stitch_next small x (turned_of x (area small)))) turned_same (λ e. h (here ∙ e))
      ∙ sym here
