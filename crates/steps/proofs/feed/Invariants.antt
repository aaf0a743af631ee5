-- `steps::feed` is safe and ends, and the count that it answers is within the line. Assumes nothing.
use Rattle.std.proofs.Common.{◌≡◌, ◌-◌, ◌≤◌, length}
use Rattle.steps.proofs.feed.Given as goal

abbrev pub invariant-loop-c : goal.invariant-loop-c
invariant-loop-c g l = (length l.line ≡ length l.initial.line) × (l.k ≤ length l.line)
