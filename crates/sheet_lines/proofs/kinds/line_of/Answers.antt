-- `line_of` meets its contract. Assumes nothing.
use Rattle.sheet_lines.specs.Counted.{count_in}
use Rattle.sheet_lines.specs.Pattern.{later, piece}
use Rattle.sheet_lines.specs.declared.Kind.TheVariants.{Box, Sag, NoDefault, Default}
use Rattle.sheet_lines.proofs.KindLaws.{kinds, of_any, past_here, past_more, past_none, past_rest}
use borrow.Author.Rules.{rules}
use Rattle.sheet_lines.proofs.kinds.line_of.Goals as goal

pub scan-requires : goal.scan-requires
unfolding count_in piece
scan-requires c = search rules

pub returns-then-scan : goal.returns-then-scan
returns-then-scan c = of_any _ _ (past_here Box (past_none _ kinds) c.scan.ensures c.if-scan.true)

pub scan-requires-2 : goal.scan-requires-2
unfolding count_in piece
scan-requires-2 c = search rules

pub returns-then-scan-2 : goal.returns-then-scan-2
returns-then-scan-2 c = of_any _ _ (past_here Sag (past_more Box (past_none _ kinds) c.scan.ensures c.if-scan.false) c.scan-2.ensures c.if-scan-2.true)

pub scan-requires-3 : goal.scan-requires-3
unfolding count_in piece
scan-requires-3 c = search rules

pub returns-then-scan-3 : goal.returns-then-scan-3
returns-then-scan-3 c = of_any _ _ (past_here NoDefault (past_more Sag (past_more Box (past_none _ kinds) c.scan.ensures c.if-scan.false) c.scan-2.ensures c.if-scan-2.false) c.scan-3.ensures c.if-scan-3.true)

pub scan-requires-4 : goal.scan-requires-4
unfolding count_in piece
scan-requires-4 c = search rules

pub returns-then-scan-4 : goal.returns-then-scan-4
returns-then-scan-4 c = of_any _ _ (past_here Default (past_more NoDefault (past_more Sag (past_more Box (past_none _ kinds) c.scan.ensures c.if-scan.false) c.scan-2.ensures c.if-scan-2.false) c.scan-3.ensures c.if-scan-3.false) c.scan-4.ensures c.if-scan-4.true)

pub returns : goal.returns
returns c = of_any _ _ (past_rest kinds later _ _ (past_more Default (past_more NoDefault (past_more Sag (past_more Box (past_none _ kinds) c.scan.ensures c.if-scan.false) c.scan-2.ensures c.if-scan-2.false) c.scan-3.ensures c.if-scan-3.false) c.scan-4.ensures c.if-scan-4.false) c.later_line_of.ensures)
