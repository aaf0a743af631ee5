-- What is printed of a turned body that has room in the smaller program, stitched and assembled: the same by both, unless the smaller refuses the stitched body with 32. Assumes nothing.
use Rattle.std.specs.Prelude.{Bool, ◌||◌, cond, ◌≡◌, ℕ, ◌*◌, ◌≤◌, ltb, length, take, Float}
use Rattle.std.proofs.Math.Bool.{true, false}
use mathlib.Core.List.{List, ◌++◌, flat_map, map}
use Rattle.std.proofs.Math.Path.{refl, ap}
use Rattle.std.proofs.Common.{sym, ◌∙◌, arith, le-ltb, ltb-false}
use Rattle.std.proofs.Math.Dec.{eqb}
use Rattle.std.proofs.Math.ListN.{replicate, length-take}
use Rattle.std.proofs.lemmas.List.{length-replicate}
use Rattle.lists.specs.Both.{or_left, or_right}
use Rattle.lists.specs.Lists.{written}
use Rattle.float_steps.specs.Floats.{f32}
use Rattle.point_rules.specs.Rule.{names}
use Rattle.point_rules.specs.Points.{key}
use Rattle.body_rows.specs.Body.{Row, all_indices, all_vertices, cleared, first_failing, patches_of, row_width, rows_of, table_of}
use Rattle.body_refusals.specs.TableChecks.{too_large}
use Rattle.patch_geometry.specs.Geometry.{zero64}
use Rattle.turn_definition.specs.Orient.{AfterTurn}
use Rattle.stitch_definition.specs.StitchedBody.{StitchedBody}
use Rattle.stitch_definition.specs.Slices.{AfterStitch, StitchSlices, cleared_slices, refuse_stitch, stitch_checks, stitch_or_refuse, write_body}
use Rattle.stitch_definition.specs.Stitch.{stitch_body, stitch_of}
use Rattle.stitch_result_checks.specs.Results.{ResultFits, result_fits, result_checks, stitch_checks_lem, too_short}
use Rattle.mesh_definition.specs.Assemble.{assemble_of}
use Rattle.sheet_line_order.specs.declared.Limits.{Limits}
use Rattle.sheet_answer_text.specs.Answer.{refusal_line}
use Rattle.bench_definition.specs.Finish.{Outcome, Refused, Sheet, area, assemble_next, mesh_slices, stitch_next, stitch_slices}
use Rattle.sheet_meaning.specs.Bench.{printed}
use Rattle.bench_agreement.specs.Answers.{or_same, or_unless, or_refusal, pick, refusal_printed}
use Rattle.bench_agreement.specs.Within.{Within}
use Rattle.bench_agreement.specs.Fronts.{written_front}
use Rattle.body_checks.specs.Accepted.{checks_before}
use Rattle.body_refusals.specs.BodyChecks.{before_work}
use Rattle.bench_agreement.specs.Bodies.{Fitting, area_enough, cleared_length, fitting_large}
use Rattle.bench_agreement.specs.Assembling.{assemble_said, ended}

-- ---- 33, then 32

-- slices that suffice suffice if they are longer
short_less : (v i f t p n x t' p' n' x' : ℕ) → t ≤ t' → p ≤ p' → n ≤ n' → x ≤ x' → too_short v i f t p n x ≡ false → too_short v i f t' p' n' x' ≡ false
unfolding too_short
short_less v i f t p n x t' p' n' x' lt lp ln lx e =
    let three = or_left (ltb t (row_width * f) || ltb p (3 * v) || ltb n (3 * v)) (ltb x i) e in
    let two = or_left (ltb t (row_width * f) || ltb p (3 * v)) (ltb n (3 * v)) three in
    let a = ltb-false t (row_width * f) (or_left (ltb t (row_width * f)) (ltb p (3 * v)) two) in
    let b = ltb-false p (3 * v) (or_right (ltb t (row_width * f)) (ltb p (3 * v)) two) in
    let c = ltb-false n (3 * v) (or_right (ltb t (row_width * f) || ltb p (3 * v)) (ltb n (3 * v)) three) in
    let d = ltb-false x i (or_right (ltb t (row_width * f) || ltb p (3 * v) || ltb n (3 * v)) (ltb x i) e) in
    rw (le-ltb t' (row_width * f) (omega arith), le-ltb p' (3 * v) (omega arith), le-ltb n' (3 * v) (omega arith), le-ltb x' i (omega arith))

-- the refusal by the two tests
abbrev by_tests : Bool → Bool → ℕ
by_tests large short = cond large 33 (cond short 32 0)

-- longer slices refuse nothing else than 32
results_same : (v i f t p n x t' p' n' x' : ℕ) → t ≤ t' → p ≤ p' → n ≤ n' → x ≤ x' → (first_failing (result_checks v i f t p n x) ≡ 32 → ⊥)
    → first_failing (result_checks v i f t' p' n' x') ≡ first_failing (result_checks v i f t p n x)
unfolding result_checks first_failing
results_same v i f t p n x t' p' n' x' lt lp ln lx h = go (too_large v i) (too_short v i f t p n x) (too_short v i f t' p' n' x') (short_less v i f t p n x t' p' n' x' lt lp ln lx) h
  where
    go : (large a b : Bool) → (a ≡ false → b ≡ false) → (by_tests large a ≡ 32 → ⊥) → by_tests large b ≡ by_tests large a
    go true a b g k = refl
    go false true b g k = absurd (k refl)
    go false false b g k = ap (by_tests false) (g refl)

-- the first check of a stitched body that fails, in the slices of a program
abbrev result_in : Limits → List Row → ℕ
result_in l rows =
    first_failing (result_checks (all_vertices rows) (all_indices rows) (length rows) (row_width * l.rows) (3 * l.result_vertices) (3 * l.result_vertices) l.result_indices)

result_is : (l : Limits) (rows body : List Row) (work : List ℕ) → first_failing (stitch_checks body (cleared_slices rows (stitch_slices l work))) ≡ result_in l body
unfolding cleared_slices stitch_slices
result_is l rows body work =
    let table = length-replicate {A = ℕ} (row_width * l.rows) 0 in
    let positions = length-replicate {A = Float} (3 * l.result_vertices) zero64 in
    let indices = length-replicate {A = ℕ} l.result_indices 0 in
    ap first_failing (stitch_checks_lem body (cleared_slices rows (stitch_slices l work)))
    ∙ (λ j. first_failing (result_checks (all_vertices body) (all_indices body) (length body) (table j) (positions j) (positions j) (indices j)))

-- ---- what is printed

-- what the calls give, by stitch's answer
abbrev after : Limits → Sheet → AfterTurn → AfterStitch → Outcome
after l x t s = pick (eqb s.refusal 0) (assemble_next l x t s) (Refused s.refusal)

-- texts that are the same where no check fails, of the body (k) or of the stitched body (m); where the smaller program does not refuse with 32, the larger's m is its own
said_same : (k m m' : ℕ) (x x' : List ℕ) → ((m ≡ 32 → ⊥) → m' ≡ m) → (m ≡ 0 → x' ≡ x) → (or_refusal k (or_refusal m x) ≡ refusal_line 32 → ⊥)
    → or_refusal k (or_refusal m' x') ≡ or_refusal k (or_refusal m x)
said_same k m m' x x' f g =
    or_unless k 32 (or_refusal m' x') (or_refusal m x) (λ z h. ap (λ (i : ℕ). or_refusal i x') (f (λ e. h (ap (λ (i : ℕ). or_refusal i x) e))) ∙ or_same m x' x g)

-- what turn leaves of a body that it accepts
abbrev pub turned_to : ℕ → ℕ → List Float → List ℕ → List ℕ → AfterTurn
turned_to turned against ns is work = record { refusal = 0; turned = turned; against = against; normals = ns; indices = is; work = work }

-- a sheet with n more faces that have no material of their own
abbrev pub with_faces : ℕ → Sheet → Sheet
with_faces n x =
    record {
      box = x.box;
      sag = x.sag;
      default = x.default;
      materials = x.materials ++ replicate n 0;
      table = x.table;
      positions = x.positions;
      normals = x.normals;
      indices = x.indices;
    }

module _ (l : Limits) (x : Sheet) (t : AfterTurn) (s : StitchedBody) (rows : List Row) (work : List ℕ) where
  abbrev rows_after : List Row
  rows_after = map (λ p. p.row) s.patches

  abbrev slices : StitchSlices
  slices = cleared_slices rows (stitch_slices l work)

  written_said : printed (after l x t (write_body rows_after s slices)) ≡ printed (assemble_next l x t (write_body rows_after s slices))
  unfolding write_body
  written_said = refl

  result_said : printed (after l x t (stitch_or_refuse s slices)) ≡ or_refusal (result_in l rows_after) (printed (assemble_next l x t (write_body rows_after s slices)))
  unfolding stitch_or_refuse refuse_stitch
  result_said =
      ap (λ (m : ℕ). printed (after l x t (pick (eqb m 0) (write_body rows_after s slices) (refuse_stitch m slices)))) (result_is l rows rows_after work)
      ∙ go (result_in l rows_after) (eqb (result_in l rows_after) 0) refl
    where
      go : (m : ℕ) (b : Bool) → eqb m 0 ≡ b → printed (after l x t (pick b (write_body rows_after s slices) (refuse_stitch m slices)))
          ≡ pick b (printed (assemble_next l x t (write_body rows_after s slices))) (refusal_line m)
      go m true q = written_said
      go m false q = refusal_printed _ m q

-- the body stitched
abbrev stitched_of : Sheet → List Float → List ℕ → StitchedBody
stitched_of x ns is = let ps = map f32 x.positions in stitch_body x.sag (names key ps) (patches_of (rows_of x.table) ps ns is)

-- its rows
abbrev stitched_rows : Sheet → List Float → List ℕ → List Row
stitched_rows x ns is = map (λ p. p.row) (stitched_of x ns is).patches

-- what stitch leaves of a body that it accepts
abbrev stitched_to : Limits → Sheet → List Float → List ℕ → List ℕ → AfterStitch
stitched_to l x ns is work = write_body (stitched_rows x ns is) (stitched_of x ns is) (cleared_slices (rows_of x.table) (stitch_slices l work))

module _ (l : Limits) (x : Sheet) (turned against : ℕ) (ns : List Float) (is work : List ℕ) where
  abbrev t : AfterTurn
  t = turned_to turned against ns is work

  -- the first check of the turned body that fails
  abbrev first : ℕ
  first = first_failing (before_work x.table (map f32 x.positions) ns is)

  stitched_text_lem : Fitting l (rows_of x.table) → length work ≡ length (area l)
      → printed (stitch_next l x t) ≡ or_refusal first (or_refusal (result_in l (stitched_rows x ns is)) (printed (assemble_next l x t (stitched_to l x ns is work))))
  unfolding stitch_next stitch_of stitch_slices refuse_stitch
  stitched_text_lem room long =
      ap
      (λ (k : ℕ). printed (after l x t (pick (eqb k 0) (stitch_or_refuse (stitched_of x ns is) (cleared_slices (rows_of x.table) (stitch_slices l work))) (refuse_stitch k (stitch_slices l work)))))
      (checks_before x.table (map f32 x.positions) ns is (length work) (λ e. omega (arith, area_enough l (rows_of x.table) room)))
      ∙ go first (eqb first 0) refl
    where
      go : (k : ℕ) (b : Bool) → eqb k 0 ≡ b
          → printed (after l x t (pick b (stitch_or_refuse (stitched_of x ns is) (cleared_slices (rows_of x.table) (stitch_slices l work))) (refuse_stitch k (stitch_slices l work))))
          ≡ pick b (or_refusal (result_in l (stitched_rows x ns is)) (printed (assemble_next l x t (stitched_to l x ns is work)))) (refusal_line k)
      go k true q = result_said l x t (stitched_of x ns is) (rows_of x.table) work
      go k false q = refusal_printed _ k q

-- ---- in the slices of both programs

-- what assemble is handed of the stitched body: the fronts of the slices that stitch was lent
module _ (l : Limits) (x : Sheet) (ns : List Float) (is : List ℕ) where
  abbrev table_in : List ℕ
  table_in = take (length x.table) (written (table_of (stitched_rows x ns is)) (replicate (row_width * l.rows) 0))

  abbrev positions_in : List Float
  positions_in = take (3 * all_vertices (stitched_rows x ns is)) (written (flat_map (λ p. p.positions) (stitched_of x ns is).patches) (replicate (3 * l.result_vertices) zero64))

  abbrev normals_in : List Float
  normals_in = take (3 * all_vertices (stitched_rows x ns is)) (written (flat_map (λ p. p.normals) (stitched_of x ns is).patches) (replicate (3 * l.result_vertices) zero64))

  abbrev indices_in : List ℕ
  indices_in = take (all_indices (stitched_rows x ns is)) (written (flat_map (λ p. p.indices) (stitched_of x ns is).patches) (replicate l.result_indices 0))

module _ (small large : Limits) (w : Within small large) (x : Sheet) (n turned against : ℕ) (ns : List Float) (is before after' : List ℕ) (few : length x.table ≤ row_width * small.rows)
    (room : Fitting small (rows_of x.table)) (long : length before ≡ length (area small)) (long' : length after' ≡ length (area large)) where
  abbrev rows' : List Row
  rows' = stitched_rows x ns is

  -- the stitched body has room in the smaller program
  module _ (f : ResultFits (all_vertices rows') (all_indices rows') (length rows') (row_width * small.rows) (3 * small.result_vertices) (3 * small.result_vertices) small.result_indices) where
    more : 3 * all_vertices rows' ≤ 3 * large.result_vertices
    more = omega (arith, f.room_positions, w.result_vertices)

    same_table : table_in large x ns is ≡ table_in small x ns is
    same_table = written_front 0 (table_of rows') (length x.table) (row_width * large.rows) (row_width * small.rows) (omega (arith, w.rows)) few

    same_positions : positions_in large x ns is ≡ positions_in small x ns is
    same_positions = written_front zero64 _ (3 * all_vertices rows') (3 * large.result_vertices) (3 * small.result_vertices) more f.room_positions

    same_normals : normals_in large x ns is ≡ normals_in small x ns is
    same_normals = written_front zero64 _ (3 * all_vertices rows') (3 * large.result_vertices) (3 * small.result_vertices) more f.room_positions

    same_indices : indices_in large x ns is ≡ indices_in small x ns is
    same_indices = written_front 0 _ (all_indices rows') large.result_indices small.result_indices (omega (arith, f.room_indices, w.result_indices)) f.room_indices

    -- and is assembled alike
    stitched_same : printed (assemble_next large (with_faces n x) (turned_to turned against ns is after') (stitched_to large x ns is after'))
        ≡ printed (assemble_next small x (turned_to turned against ns is before) (stitched_to small x ns is before))
    unfolding assemble_next write_body cleared_slices stitch_slices
    stitched_same =
        (λ j. printed (ended (turned_to turned against ns is after') (stitched_to large x ns is after') (assemble_of (same_table j) (same_positions j) (same_normals j) (same_indices j) x.box
        (x.materials ++ replicate n 0) x.default (mesh_slices large (cleared (rows_of x.table) after')))))
        ∙ assemble_said small large w x.box x.materials n x.default (table_in small x ns is) (positions_in small x ns is) (normals_in small x ns is) (indices_in small x ns is)
        (cleared (rows_of x.table) before) (cleared (rows_of x.table) after') (turned_to turned against ns is before) (turned_to turned against ns is after') (stitched_to small x ns is before)
        (stitched_to large x ns is after') refl refl refl (omega (arith, length-take (length x.table) (written (table_of rows') (replicate (row_width * small.rows) 0))))
        (omega (arith, length-take (3 * all_vertices rows') (written (flat_map (λ p. p.positions) (stitched_of x ns is).patches) (replicate (3 * small.result_vertices) zero64)), f.room_positions))
        (omega (arith, length-take (all_indices rows') (written (flat_map (λ p. p.indices) (stitched_of x ns is).patches) (replicate small.result_indices 0)), f.room_indices))
        (cleared_length (rows_of x.table) before (omega (arith, area_enough small (rows_of x.table) room)) ∙ long)
        (cleared_length (rows_of x.table) after' (omega (arith, area_enough large (rows_of x.table) (fitting_large small large (rows_of x.table) w room))) ∙ long')

  -- A turned body with room in the smaller program is stitched, assembled and printed alike, unless the smaller refuses it with 32.
  pub stitch_said : (printed (stitch_next small x (turned_to turned against ns is before)) ≡ refusal_line 32 → ⊥)
      → printed (stitch_next large (with_faces n x) (turned_to turned against ns is after')) ≡ printed (stitch_next small x (turned_to turned against ns is before))
  stitch_said h =
      let v = all_vertices rows' in
      let here = stitched_text_lem small x turned against ns is before room long in
      let three : 3 * small.result_vertices ≤ 3 * large.result_vertices = omega (arith, w.result_vertices) in
      let results : (result_in small rows' ≡ 32 → ⊥) → result_in large rows' ≡ result_in small rows' =
      results_same v (all_indices rows') (length rows') (row_width * small.rows) (3 * small.result_vertices) (3 * small.result_vertices) small.result_indices
      (row_width * large.rows) (3 * large.result_vertices) (3 * large.result_vertices) large.result_indices
      (omega (arith, w.rows)) three three w.result_indices in
      stitched_text_lem large (with_faces n x) turned against ns is after' (fitting_large small large (rows_of x.table) w room) long'
      ∙ said_same (first_failing (before_work x.table (map f32 x.positions) ns is)) (result_in small rows') (result_in large rows') _ _ results
      (λ e. stitched_same (result_fits v (all_indices rows') (length rows') (row_width * small.rows) (3 * small.result_vertices) (3 * small.result_vertices) small.result_indices e))
      (λ e. h (here ∙ e))
      ∙ sym here
