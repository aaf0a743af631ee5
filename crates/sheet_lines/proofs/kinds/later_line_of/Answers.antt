-- `later_line_of` meets its contract. Assumes nothing.
use Rattle.sheet_lines.specs.Counted.{count_in}
use Rattle.sheet_lines.specs.Pattern.{later, opening, piece}
use Rattle.sheet_lines.specs.declared.Kind.TheVariants.{Material, Vertex, Triangle}
use Rattle.sheet_lines.proofs.KindLaws.{past_here, past_more, past_none, past_rest}
use borrow.Author.Rules.{rules}
use Rattle.sheet_lines.proofs.kinds.later_line_of.Goals as goal

pub scan-requires : goal.scan-requires
unfolding count_in piece
scan-requires c = search rules

pub returns-then-scan : goal.returns-then-scan
returns-then-scan c = past_here Material (past_none _ later) c.scan.ensures c.if-scan.true

pub scan-requires-2 : goal.scan-requires-2
unfolding count_in piece
scan-requires-2 c = search rules

pub returns-then-scan-2 : goal.returns-then-scan-2
returns-then-scan-2 c = past_here Vertex (past_more Material (past_none _ later) c.scan.ensures c.if-scan.false) c.scan-2.ensures c.if-scan-2.true

pub scan-requires-3 : goal.scan-requires-3
unfolding count_in piece
scan-requires-3 c = search rules

pub returns-then-scan-3 : goal.returns-then-scan-3
returns-then-scan-3 c = past_here Triangle (past_more Vertex (past_more Material (past_none _ later) c.scan.ensures c.if-scan.false) c.scan-2.ensures c.if-scan-2.false) c.scan-3.ensures c.if-scan-3.true

pub returns : goal.returns
returns c = past_rest later opening _ _ (past_more Triangle (past_more Vertex (past_more Material (past_none _ later) c.scan.ensures c.if-scan.false) c.scan-2.ensures c.if-scan-2.false) c.scan-3.ensures c.if-scan-3.false) c.opening_line_of.ensures
