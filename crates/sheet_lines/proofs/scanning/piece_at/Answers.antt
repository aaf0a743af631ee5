-- `piece_at` meets its contract. Assumes nothing.
use Rattle.sheet_lines.proofs.PieceLaws.{byte_as, no_space, space_then}
use borrow.Author.Rules.{rules}
use Rattle.sheet_lines.proofs.scanning.piece_at.Goals as goal

pub returns-then-numbers_of-eq0 : goal.returns-then-numbers_of-eq0
returns-then-numbers_of-eq0 c = search (rules, byte_as)

pub returns-in_err-space : goal.returns-in_err-space
returns-in_err-space c = rw c.from_residual.ensures (no_space _ _ _ _ c.numbers_of.ensures c.if-numbers_of-eq0.false c.in_err-space.ensures)

pub returns : goal.returns
returns c = space_then _ _ _ _ c.numbers_of.ensures c.if-numbers_of-eq0.false _ _ c.in_ok-space.ensures c.number_at.ensures
