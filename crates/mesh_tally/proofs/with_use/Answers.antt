-- `with_use` meets its contract. Assumes nothing.
use Rattle.mesh_tally.proofs.TallyLaws.{use_equal, use_first, use_later}
use mathlib.Core.Path.{sym, ◌∙◌}
use Rattle.mesh_tally.proofs.with_use.Goals as goal

pub returns-then-w-at-eq-EQUAL_ENDS : goal.returns-then-w-at-eq-EQUAL_ENDS
returns-then-w-at-eq-EQUAL_ENDS c = sym (use_equal _ _ _ _ _ c.if-w-at-eq-EQUAL_ENDS.true)

pub returns-then-w-at : goal.returns-then-w-at
returns-then-w-at c = c.with_edge.ensures ∙ sym (use_first _ _ _ _ _ c.if-w-at-eq-EQUAL_ENDS.false c.if-w-at.true)

pub returns : goal.returns
returns c = sym (use_later _ _ _ _ _ c.if-w-at-eq-EQUAL_ENDS.false c.if-w-at.false)
