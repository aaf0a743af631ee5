-- A claim that says `unfolding evaluation` has every definition of this crate and of those below it computed. Assumes nothing.
use Rattle.std.specs.Prelude.{ℕ}
use Rattle.sheet_digits.specs.Evaluation as Digits
use Rattle.sheet_lines.specs.Forms.{print, line, after_word, spaced, read, numbers, form, line_among, line_of}

-- every definition that computes
unfoldable pub evaluation : ℕ
unfolding Digits.evaluation print line after_word spaced read numbers form line_among line_of
evaluation = 0
