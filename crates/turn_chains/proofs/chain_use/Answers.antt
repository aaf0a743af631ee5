-- `turn_chains::chain_use` meets its contract, by its two tests. Assumes nothing.
use Rattle.turn_chains.proofs.Chaining.{use_skip, use_there, use_same, pair_there, use_linked}
use Rattle.turn_chains.proofs.chain_use.Goals as goal

pub returns-then-w-runs-eq-EQUAL_ENDS : goal.returns-then-w-runs-eq-EQUAL_ENDS
returns-then-w-runs-eq-EQUAL_ENDS c = use_skip c.requires (rw c.runs.ensures at c.if-w-runs-eq-EQUAL_ENDS.true)

pub far_row-b-requires : goal.far_row-b-requires
far_row-b-requires c = search use_there

pub returns-then-a-b : goal.returns-then-a-b
returns-then-a-b c = use_same c.requires c.far_row-b.ensures (rw c.use_rows.ensures at c.if-a-b.true)

pub link_pair-requires : goal.link_pair-requires
link_pair-requires c = rw c.use_rows.ensures (pair_there c.requires c.far_row-b.ensures)

pub returns : goal.returns
returns c =
    use_linked c.requires c.far_row-b.ensures (rw c.runs.ensures at c.if-w-runs-eq-EQUAL_ENDS.false) (rw c.use_rows.ensures at c.if-a-b.false)
    (rw c.use_rows.ensures at c.link_pair.ensures)
