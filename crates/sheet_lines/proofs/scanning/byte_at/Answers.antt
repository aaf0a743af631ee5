-- `byte_at` meets its contract. Assumes nothing.
use Rattle.sheet_lines.proofs.PieceLaws.{byte_end, byte_other, byte_there}
use Rattle.sheet_lines.proofs.scanning.byte_at.Goals as goal

pub returns-in_err-c : goal.returns-in_err-c
returns-in_err-c c = rw c.from_residual.ensures (byte_end _ _ _ c.in_err-c.ensures.lookup.3)

pub returns-then-c-p : goal.returns-then-c-p
returns-then-c-p c = byte_other _ _ _ _ c.in_ok-c.ensures.lookup.3 c.if-c-p.true

pub returns : goal.returns
returns c = byte_there _ _ _ _ c.in_ok-c.ensures.lookup.3 c.if-c-p.false
