-- What the program prints of a sheet that was read into slices. Assumes nothing.
use Rattle.std.specs.Prelude.{true, false, List, ℕ, length, eqb}
use Rattle.sheet_answer_text.specs.Answer.{refusal_line}
use Rattle.bench_definition.specs.Finish.{finish}
use Rattle.sheet_reader_state.specs.Slices.{Lent, in_limits, patterns_of}
use Rattle.sheet_meaning.specs.Meaning.{meant}
use Rattle.sheet_meaning.specs.Bench.{printed}

-- what the program prints of a reader and its slices: the finished sheet, or only the refusal; a reader that counts more than the limits is refused with 52
unfoldable pub answer_in : Lent → List ℕ
answer_in l =
    let r = l.reader in
    elim (eqb r.refusal 0) [
      | true ↦ elim (in_limits r (length l.table) (length l.positions) (length l.normals) (length l.indices) (length l.materials)) [
        | true ↦ printed (finish r.limits (meant (patterns_of l)))
        | false ↦ refusal_line 52
      ]
      | false ↦ refusal_line r.refusal
    ]
