-- What is printed of a sheet that was read into slices, in lent slices. Assumes nothing.
use Rattle.std.specs.Prelude.{true, false, List, map, ℕ, ◌*◌, ◌≤◌, length, eqb}
use Rattle.float_steps.specs.Floats.{f32}
use Rattle.sheet_answer_text.specs.Answer.{refusal_line}
use Rattle.bench_definition.specs.Finish.{Sheet}
use Rattle.sheet_line_order.specs.declared.Limits.{Limits}
use Rattle.sheet_reader_state.specs.Slices.{Lent, in_limits, patterns_of}
use Rattle.sheet_meaning.specs.Meaning.{meant}
use Rattle.bench_call_texts.specs.Texts.{MeshRoom, StitchRoom, finished_text}

-- slices of these lengths have room for the body of a sheet within the limits
pub record BodyRoom (limits : Limits) (p n i : ℕ) : Type 0 where
  pub positions : 3 * limits.vertices ≤ p
  pub normals : 3 * limits.vertices ≤ n
  pub indices : limits.indices ≤ i

-- what is printed of a sheet's body
abbrev pub body_text : StitchRoom → MeshRoom → List ℕ → Sheet → List ℕ
body_text into out work x = finished_text x.table (map f32 x.positions) (map f32 x.normals) x.indices x.sag x.box x.materials x.default into out work

-- what is printed of a reader and its slices, the body's being of lengths p, n and i: the finished sheet, or only the refusal; a reader that counts more than
-- the limits, and slices too short for them, are refused with 52
unfoldable pub answer_with : ℕ → ℕ → ℕ → StitchRoom → MeshRoom → List ℕ → Lent → List ℕ
answer_with p n i into out work l =
    let r = l.reader in
    elim (eqb r.refusal 0) [
      | true ↦ elim (in_limits r (length l.table) (length l.positions) (length l.normals) (length l.indices) (length l.materials)) [
        | true ↦ elim (in_limits r (length l.table) p n i (length l.materials)) [ true ↦ body_text into out work (meant (patterns_of l)) | false ↦ refusal_line 52 ]
        | false ↦ refusal_line 52
      ]
      | false ↦ refusal_line r.refusal
    ]
