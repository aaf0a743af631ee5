-- What stitching an accepted body asks and leaves, and that the checks of the result decide. Assumes nothing.
use Rattle.stitch_definition.specs.declared.Sizes.{Sizes}
use Rattle.std.specs.Prelude.{◌≡◌, Bool, ℕ, ◌+◌, ◌*◌, length, drop, Float, Result, Ok, Err}
use Rattle.std.proofs.Common.{sym, ◌∙◌, arith, eq-eqb, ne_eqb}
use Rattle.std.proofs.Math.Path.{ap}
use Rattle.std.proofs.Math.Bool.{true, false}
use mathlib.Core.List.{List, map, flat_map}
use Rattle.lists.specs.Lists.{written}
use Rattle.body_rows.specs.Body.{Row, rows_of, table_of, all_vertices, all_indices, first_failing, work_needed}
use Rattle.body_checks.specs.Accepted.{Passed}
use Rattle.stitch_definition.specs.Slices.{stitch_checks, write_body, refuse_stitch, stitch_or_refuse}
use Rattle.stitch_definition.specs.StitchedBody.{StitchedBody}
use Rattle.stitch_result_checks.specs.Results.{result_checks, stitch_checks_lem}
use Rattle.stitch_definition.specs.Answers.{slices_of, left_stitch, stitch_answered}

-- what stitching an accepted body leaves, whatever the work area holds in the end
pub record BodyStitched (s : StitchedBody) (R R' : List ℕ) (P P' N N' : List Float) (I I' : List ℕ) (needed : ℕ) (W E : List ℕ) (r : Result Sizes ℕ) : Type 0 where
  pub same : (work : List ℕ) → left_stitch r (slices_of R' P' N' I' work) ≡ stitch_answered (stitch_or_refuse s (slices_of R P N I work))
  pub rest : drop needed E ≡ drop needed W

-- ---- the checks of the result decide

module _ (s : StitchedBody) {rows : List Row} (er : map (λ p. p.row) s.patches ≡ rows) (R : List ℕ) (P N : List Float) (I work : List ℕ) {refusal v i m : ℕ} (ev : v ≡ all_vertices rows)
    (ei : i ≡ all_indices rows) (em : m ≡ length rows)
    (ef : refusal ≡ first_failing (result_checks v i m (length R) (length P) (length N) (length I))) where
  checked : refusal ≡ first_failing (stitch_checks (map (λ p. p.row) s.patches) (slices_of R P N I work))
  checked =
      ef
      ∙ (λ j. first_failing (result_checks (ev j) (ei j) (em j) (length R) (length P) (length N) (length I)))
      ∙ sym (ap first_failing (stitch_checks_lem rows (slices_of R P N I work)))
      ∙ ap (λ (rs : List Row). first_failing (stitch_checks rs (slices_of R P N I work))) (sym er)

  -- the definition refuses, or writes
  or_refused : (refusal ≡ 0 → ⊥) → stitch_or_refuse s (slices_of R P N I work)
      ≡ refuse_stitch (first_failing (stitch_checks (map (λ p. p.row) s.patches) (slices_of R P N I work))) (slices_of R P N I work)
  unfolding stitch_or_refuse
  or_refused n = rw (ne_eqb (first_failing (stitch_checks (map (λ p. p.row) s.patches) (slices_of R P N I work))) 0 (λ q. n (checked ∙ q)), stitch_or_refuse)

  or_written : refusal ≡ 0 → stitch_or_refuse s (slices_of R P N I work) ≡ write_body (map (λ p. p.row) s.patches) s (slices_of R P N I work)
  unfolding stitch_or_refuse
  or_written z = rw (eq-eqb (first_failing (stitch_checks (map (λ p. p.row) s.patches) (slices_of R P N I work))) 0 (sym checked ∙ z), stitch_or_refuse)

  -- the result is refused
  pub result_refused : (refusal ≡ 0 → ⊥) → left_stitch (Err refusal) (slices_of R P N I work) ≡ stitch_answered (stitch_or_refuse s (slices_of R P N I work))
  unfolding refuse_stitch
  result_refused n =
      ap (λ (b : Bool). left_stitch (elim b [ true ↦ Ok (record { vertices = 0; indices = 0; splits = 0 }) | false ↦ Err refusal ]) (slices_of R P N I work)) (sym (ne_eqb refusal 0 n))
      ∙ ap (λ (k : ℕ). stitch_answered (refuse_stitch k (slices_of R P N I work))) checked
      ∙ ap stitch_answered (sym (or_refused n))

  -- or written
  pub result_written : {R' : List ℕ} {P' N' : List Float} {I' : List ℕ} {splits : ℕ} → refusal ≡ 0 → splits ≡ s.splits → R' ≡ written (table_of rows) R
      → P' ≡ written (flat_map (λ p. p.positions) s.patches) P
      → N' ≡ written (flat_map (λ p. p.normals) s.patches) N → I' ≡ written (flat_map (λ p. p.indices) s.patches) I
      → left_stitch (Ok (record { vertices = v; indices = i; splits = splits })) (slices_of R' P' N' I' work) ≡ stitch_answered (stitch_or_refuse s (slices_of R P N I work))
  unfolding write_body
  result_written {R'} {P'} {N'} {I'} {splits} z es eR eP eN eI =
      (λ j. left_stitch (Ok (record { vertices = (ev ∙ ap all_vertices (sym er)) j; indices = (ei ∙ ap all_indices (sym er)) j; splits = es j }))
      (slices_of ((eR ∙ ap (λ (rs : List Row). written (table_of rs) R) (sym er)) j) (eP j) (eN j) (eI j) work))
      ∙ ap stitch_answered (sym (or_written z))

-- what stitching an accepted body asks: v vertices, m rows and the slices of a body that passed its checks
pub record StitchReady (table : List ℕ) (ps ns : List Float) (is W : List ℕ) (v m : ℕ) : Type 0 where
  pub passed : Passed table ps ns is (length W)
  pub vertices : v ≡ all_vertices (rows_of table)
  pub rows : m ≡ length (rows_of table)

-- the words that 31 counts, by the counts
pub words_needed : {table : List ℕ} {ps ns : List Float} {is W : List ℕ} {v m : ℕ} → StitchReady table ps ns is W v m → work_needed (rows_of table) ≡ 16 * length is + 16 * m + 4 * v
unfolding work_needed
words_needed g = omega (arith, g.passed.all_indices_lem, g.vertices, g.rows)
