-- `reverse_row` meets its contract. Assumes nothing.
use Rattle.turn_reversal.proofs.ReverseLaws.{row_kept, row_turned}
use Rattle.turn_reversal.proofs.reverse.reverse_row.Goals as goal

pub returns-then-colour-eq-COLOURED : goal.returns-then-colour-eq-COLOURED
returns-then-colour-eq-COLOURED c = search row_turned

pub returns : goal.returns
returns c = search row_kept
