-- How long the arrays of a program are, by its limits. Assumes nothing.
use Rattle.std.specs.Prelude.{true, List, ◌≡◌, refl, ℕ, ◌+◌, ◌*◌, ◌≤◌, ◌<◌, Float, length, replicate}
use Rattle.std.proofs.Common.{◌∙◌, sym, subst, arith, length-take}
use Rattle.std.proofs.Math.Path.{ap}
use Rattle.std.proofs.Math.ListN.{length-replicate}
use Rattle.float_steps.specs.Floats.{f32}
use Rattle.body_rows.specs.Body.{row_width}
use Rattle.mesh_acceptance.specs.Acceptance.{failure_width}
use Rattle.mesh_layout.specs.Mesh.{part_width, range_width}
use Rattle.sheet_line_order.specs.declared.Limits.{Limits}
use Rattle.sheet_reader_state.specs.declared.Reader.{Reader}
use Rattle.sheet_reader_state.specs.Slices.{Lent, lent, of_bodies}
use Rattle.patch_geometry.specs.Geometry.{zero64}
use Rattle.sheet_answer_text.specs.Answer.{refusal_line}
use Rattle.sheet_answer_text.specs.Evaluation.{evaluation}
use Rattle.sheet_answer_text.specs.Longest.{mesh_bytes}
use Rattle.sheet_meaning.specs.Answered.{answer_in}
use Rattle.sheet_meaning.specs.Bench.{program}
use Rattle.bench_definition.specs.Finish.{area, mesh_slices, stitch_slices}
use Rattle.bench_call_texts.specs.Zeros.{zero_same}
use Rattle.bench_call_texts.specs.Told.{Told}
use Rattle.bench_call_texts.specs.Texts.{bytes_in, mesh_in, stitch_in}
use Rattle.bench_finish.specs.Answer.{answer_with}
use Rattle.bench_agreement.specs.Within.{Spacious, Within}
use Rattle.bench_agreement.specs.Smaller.{answer_same, lent_in, reader_in}
use Rattle.bench_feed.specs.Feeding.{Answered}
use Rattle.bench_run.specs.Run.{Arrays, FinishedIn, FinishedShort, Ran, arrays_told, refusal_bytes}

-- as many zeros
abbrev pub zeros : ℕ → List ℕ
zeros n = replicate n 0

-- as many zeros
abbrev pub floats : ℕ → List Float
floats n = replicate n (f32 0)

-- The lengths of a program's arrays: for a line; for a sheet's table, coordinates, indices and materials; for the stitched body and the mesh their coordinates
-- and indices; for parts, ranges and failures; and the work area.
pub record Lengths (limits : Limits) (line table coordinates indices materials results corners parts ranges failures words : ℕ) : Type 0 where
  pub few : of_bodies limits ≡ true
  pub longest : 108 ≤ line
  pub table_is : table ≡ row_width * limits.rows
  pub coordinates_are : coordinates ≡ 3 * limits.vertices
  pub indices_are : indices ≡ limits.indices
  pub materials_are : materials ≡ limits.face + 1
  pub results_are : results ≡ 3 * limits.result_vertices
  pub corners_are : corners ≡ limits.result_indices
  pub parts_are : parts ≡ part_width * limits.rows
  pub ranges_are : ranges ≡ range_width * limits.rows
  pub failures_are : failures ≡ failure_width * limits.rows
  pub words_are : words ≡ 16 * limits.result_indices + 16 * limits.rows + 4 * limits.result_vertices

-- ---- longer than a refusal

refusal_52 : length (refusal_line 52) ≡ refusal_bytes
unfolding evaluation
refusal_52 = refl

refusal_32 : length (refusal_line 32) ≡ refusal_bytes
unfolding evaluation
refusal_32 = refl

no_refusal : (n lines : ℕ) (E text W : List ℕ) (r : ℕ) → length (refusal_line n) ≡ refusal_bytes → Told lines E text W r → refusal_bytes < r → text ≡ refusal_line n → ⊥
no_refusal n lines E text W r e v long z = omega (arith, v.written.count, length-take (length E) text, ap length z)

-- an answer that has few bytes by the smaller limits has few by the larger
wider : (small large : Limits) → Within small large → (E text W : List ℕ) (r : ℕ) → Told (bytes_in (mesh_slices small)) E text W r → Told (bytes_in (mesh_slices large)) E text W r
unfolding mesh_slices mesh_bytes
wider small large w E text W r v =
    record {
      written = v.written;
      few =
          omega (
            arith,
            v.few,
            w.result_vertices,
            w.result_indices,
            w.rows,
            length-replicate (3 * small.result_vertices) zero64,
            length-replicate (3 * large.result_vertices) zero64,
            length-replicate {A = ℕ} small.result_indices 0,
            length-replicate {A = ℕ} large.result_indices 0,
            length-replicate {A = ℕ} (part_width * small.rows) 0,
            length-replicate {A = ℕ} (part_width * large.rows) 0,
            length-replicate {A = ℕ} (range_width * small.rows) 0,
            length-replicate {A = ℕ} (range_width * large.rows) 0,
            length-replicate {A = ℕ} (failure_width * small.rows) 0,
            length-replicate {A = ℕ} (failure_width * large.rows) 0,
          );
    }

-- ---- arrays

module _ (limits : Limits) (line table coordinates indices materials results corners parts ranges failures words : ℕ)
    (v : Lengths limits line table coordinates indices materials results corners parts ranges failures words) where
  -- Arrays of those lengths, all zero, are as the program holds them.
  pub arrays : Arrays limits (zeros line) (zeros table) (zeros coordinates) (zeros coordinates) (zeros indices) (zeros materials) (length (floats coordinates)) (length (floats coordinates))
      (length (zeros indices)) (stitch_in (zeros table) (floats results) (floats results) (zeros corners))
      (mesh_in (floats results) (floats results) (zeros corners) (zeros parts) (zeros ranges) (zeros failures)) (zeros words)
  unfolding stitch_slices mesh_slices area
  arrays =
      record {
        few = v.few;
        longest = omega (arith, v.longest, length-replicate {A = ℕ} line 0);
        room =
            record {
              table = omega (arith, v.table_is, length-replicate {A = ℕ} table 0);
              positions = omega (arith, v.coordinates_are, length-replicate {A = ℕ} coordinates 0);
              normals = omega (arith, v.coordinates_are, length-replicate {A = ℕ} coordinates 0);
              indices = omega (arith, v.indices_are, length-replicate {A = ℕ} indices 0);
              materials = omega (arith, v.materials_are, length-replicate {A = ℕ} materials 0);
            };
        body =
            record {
              positions = omega (arith, v.coordinates_are, length-replicate coordinates (f32 0));
              normals = omega (arith, v.coordinates_are, length-replicate coordinates (f32 0));
              indices = omega (arith, v.indices_are, length-replicate {A = ℕ} indices 0);
            };
        stitched = λ j. stitch_in (zeros (v.table_is j)) (replicate (v.results_are j) (zero_same j)) (replicate (v.results_are j) (zero_same j)) (zeros (v.corners_are j));
        mesh =
            λ j. mesh_in (replicate (v.results_are j) (zero_same j)) (replicate (v.results_are j) (zero_same j)) (zeros (v.corners_are j)) (zeros (v.parts_are j))
            (zeros (v.ranges_are j)) (zeros (v.failures_are j));
        words = ap zeros v.words_are;
      }

  -- What was printed in such arrays is what the program of these limits is to print of some text.
  pub ran_answered : (l : Limits) → l ≡ limits → (E W : List ℕ) (r : ℕ)
      → Ran l (zeros line) (zeros table) (zeros coordinates) (zeros coordinates) (zeros indices) (zeros materials) (length (floats coordinates)) (length (floats coordinates))
      (length (zeros indices)) (stitch_in (zeros table) (floats results) (floats results) (zeros corners))
      (mesh_in (floats results) (floats results) (zeros corners) (zeros parts) (zeros ranges) (zeros failures)) (zeros words) E W r
      → Answered limits E W r
  ran_answered l e E W r x =
      let y : Ran limits (zeros line) (zeros table) (zeros coordinates) (zeros coordinates) (zeros indices) (zeros materials) (length (floats coordinates)) (length (floats coordinates))
      (length (zeros indices)) (stitch_in (zeros table) (floats results) (floats results) (zeros corners))
      (mesh_in (floats results) (floats results) (zeros corners) (zeros parts) (zeros ranges) (zeros failures)) (zeros words) E W r =
      subst (λ (m : Limits). Ran m (zeros line) (zeros table) (zeros coordinates) (zeros coordinates) (zeros indices) (zeros materials) (length (floats coordinates)) (length (floats coordinates))
      (length (zeros indices)) (stitch_in (zeros table) (floats results) (floats results) (zeros corners))
      (mesh_in (floats results) (floats results) (zeros corners) (zeros parts) (zeros ranges) (zeros failures)) (zeros words) E W r) e x in
      y.says arrays

  -- what is printed of a sheet in such arrays is what the program of these limits is to print of it
  sheet_told : (l : Lent) → l.reader.limits ≡ limits → (E W : List ℕ) (r : ℕ)
      → Told (bytes_in (mesh_in (floats results) (floats results) (zeros corners) (zeros parts) (zeros ranges) (zeros failures))) E
      (answer_with (length (floats coordinates)) (length (floats coordinates)) (length (zeros indices)) (stitch_in (zeros table) (floats results) (floats results) (zeros corners))
      (mesh_in (floats results) (floats results) (zeros corners) (zeros parts) (zeros ranges) (zeros failures)) (zeros words) l) W r
      → Told (bytes_in (mesh_slices limits)) E (answer_in l) W r
  sheet_told l e E W r v =
      arrays_told limits (zeros line) (zeros table) (zeros coordinates) (zeros coordinates) (zeros indices) (zeros materials) (length (floats coordinates)) (length (floats coordinates))
      (length (zeros indices)) (stitch_in (zeros table) (floats results) (floats results) (zeros corners))
      (mesh_in (floats results) (floats results) (zeros corners) (zeros parts) (zeros ranges) (zeros failures)) (zeros words) l E W r arrays e v

  -- A sheet that was read is finished in such arrays.
  pub finished_in : (l : Lent) (E W : List ℕ) (r : ℕ)
      → Told (bytes_in (mesh_in (floats results) (floats results) (zeros corners) (zeros parts) (zeros ranges) (zeros failures))) E
      (answer_with (length (floats coordinates)) (length (floats coordinates)) (length (zeros indices)) (stitch_in (zeros table) (floats results) (floats results) (zeros corners))
      (mesh_in (floats results) (floats results) (zeros corners) (zeros parts) (zeros ranges) (zeros failures)) (zeros words) l) W r
      → FinishedIn limits l E W r
  finished_in l E W r v =
      record {
        says = λ x. record { text = x.text; told = subst (λ (y : List ℕ). Told (bytes_in (mesh_slices limits)) E y W r) x.same (sheet_told l x.within E W r v) };
      }

  -- A sheet that was read within larger limits is finished in such arrays, if more than a refusal is printed.
  pub finished_short : (large : Limits) → Within limits large → Spacious limits → limits.face ≡ large.face → of_bodies large ≡ true → (m : Limits) → m ≡ limits → (l : Lent) (t : Reader)
      → t ≡ reader_in m l.reader → (E W : List ℕ) (r : ℕ)
      → Told (bytes_in (mesh_in (floats results) (floats results) (zeros corners) (zeros parts) (zeros ranges) (zeros failures))) E
      (answer_with (length (floats coordinates)) (length (floats coordinates)) (length (zeros indices)) (stitch_in (zeros table) (floats results) (floats results) (zeros corners))
      (mesh_in (floats results) (floats results) (zeros corners) (zeros parts) (zeros ranges) (zeros failures)) (zeros words)
      (lent t l.table l.positions l.normals l.indices l.materials)) W r
      → FinishedShort large l E W r
  finished_short large w spacious faces bodies m q l t e E W r v =
      let same : lent t l.table l.positions l.normals l.indices l.materials ≡ lent_in limits l =
      ap (λ (s : Reader). lent s l.table l.positions l.normals l.indices l.materials) (e ∙ ap (λ (k : Limits). reader_in k l.reader) q) in
      let told : Told (bytes_in (mesh_slices limits)) E (answer_in (lent_in limits l)) W r =
      subst (λ (k : Lent). Told (bytes_in (mesh_slices limits)) E (answer_in k) W r) same
      (sheet_told (lent t l.table l.positions l.normals l.indices l.materials) (ap (λ (s : Reader). s.limits) e ∙ q) E W r v) in
      record {
        says = λ x room long.
            let text : answer_in l ≡ answer_in (lent_in limits l) =
            answer_same limits large w spacious faces bodies l x.within room (λ z. no_refusal 52 _ E _ W r refusal_52 told long z) (λ z. no_refusal 32 _ E _ W r refusal_32 told long z) in
            record {
              text = x.text;
              told = wider limits large w E (program large x.text) W r (subst (λ (y : List ℕ). Told (bytes_in (mesh_slices limits)) E y W r) (sym text ∙ x.same) told);
            };
      }
