-- `byte_at` meets its contract. Assumes nothing.
use native.Mathlib.Omega.{arith}
use borrow.Author.Rules.{rules}
use Rattle.stl_read.proofs.words.byte_at.Goals as goal

pub overflow_cast-result : goal.overflow_cast-result
overflow_cast-result c = omega (arith, c.shared_slice_known-1.given c.args.p)

pub returns : goal.returns
returns c = record { value = search rules; small = omega (arith, c.shared_slice_known-1.given c.args.p) }
