-- `opening_line_of` meets its contract. Assumes nothing.
use Rattle.sheet_lines.specs.Counted.{count_in}
use Rattle.sheet_lines.specs.Pattern.{opening, piece}
use Rattle.sheet_lines.specs.declared.Kind.TheVariants.{Face, FaceBin, Fail, FailBin}
use Rattle.sheet_lines.proofs.KindLaws.{past_all, past_here, past_more, past_none}
use borrow.Author.Rules.{rules}
use Rattle.sheet_lines.proofs.kinds.opening_line_of.Goals as goal

pub scan-requires : goal.scan-requires
unfolding count_in piece
scan-requires c = search rules

pub returns-then-scan : goal.returns-then-scan
returns-then-scan c = past_here Face (past_none _ opening) c.scan.ensures c.if-scan.true

pub scan-requires-2 : goal.scan-requires-2
unfolding count_in piece
scan-requires-2 c = search rules

pub returns-then-scan-2 : goal.returns-then-scan-2
returns-then-scan-2 c = past_here FaceBin (past_more Face (past_none _ opening) c.scan.ensures c.if-scan.false) c.scan-2.ensures c.if-scan-2.true

pub scan-requires-3 : goal.scan-requires-3
unfolding count_in piece
scan-requires-3 c = search rules

pub returns-then-scan-3 : goal.returns-then-scan-3
returns-then-scan-3 c = past_here Fail (past_more FaceBin (past_more Face (past_none _ opening) c.scan.ensures c.if-scan.false) c.scan-2.ensures c.if-scan-2.false) c.scan-3.ensures c.if-scan-3.true

pub scan-requires-4 : goal.scan-requires-4
unfolding count_in piece
scan-requires-4 c = search rules

pub returns-then-scan-4 : goal.returns-then-scan-4
returns-then-scan-4 c = past_here FailBin (past_more Fail (past_more FaceBin (past_more Face (past_none _ opening) c.scan.ensures c.if-scan.false) c.scan-2.ensures c.if-scan-2.false) c.scan-3.ensures c.if-scan-3.false) c.scan-4.ensures c.if-scan-4.true

pub returns : goal.returns
returns c = past_all _ _ opening (past_more FailBin (past_more Fail (past_more FaceBin (past_more Face (past_none _ opening) c.scan.ensures c.if-scan.false) c.scan-2.ensures c.if-scan-2.false) c.scan-3.ensures c.if-scan-3.false) c.scan-4.ensures c.if-scan-4.false)
