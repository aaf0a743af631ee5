-- No printed line is longer than 17 bytes, so a program may print into so many. Assumes nothing.
use Rattle.std.specs.Prelude.{◌≤◌, length, Option, Some, None}
use Rattle.std.proofs.Common.{arith}
use Rattle.sheet_digits.specs.Digits.{digits}
use Rattle.float_step_lines.specs.declared.Reply.{Reply}
use Rattle.float_step_lines.specs.declared.Reply.TheVariants.{Long, Short}
use Rattle.float_step_lines.specs.Lines.{printed}

pub printed_length : (r : Option Reply) → length (printed r) ≤ 17
unfolding printed digits
printed_length (Some (Long b)) = omega arith
printed_length (Some (Short b)) = omega arith
printed_length None = omega arith
