-- `put_bits` meets its contract. Assumes nothing.
use Rattle.sheet_digit_writing.specs.Wrote.{wrote_then}
use borrow.Author.Rules.{rules}
use Rattle.float_step_lines.proofs.put_bits.Goals as goal

pub returns : goal.returns
returns c = search (rules, wrote_then)
