-- `turn_visit::visit_row` meets its contract: what is left of the chain, visited from here, is the whole visit. Assumes nothing.
use Rattle.turn_visit.proofs.Visiting.{visiting_none, use_there, want_there, link_there, meet_there, visiting_less, visiting_more, visiting_all}
use Rattle.turn_visit.proofs.visit_row.Goals as goal

pub loop-p-init : goal.loop-p-init
loop-p-init c = rw (c.colours.ensures, c.heads.ensures) (visiting_none c.requires)

pub other_row-y-requires : goal.other_row-y-requires
other_row-y-requires c = search use_there

pub wanted-want-requires : goal.wanted-want-requires
wanted-want-requires c = want_there c.loop-p.invariant c.loop-p-test.true

pub next_link-p-requires : goal.next_link-p-requires
next_link-p-requires c = link_there c.loop-p.invariant c.loop-p-test.true

pub meet_row-tally-requires : goal.meet_row-tally-requires
meet_row-tally-requires c = meet_there c.loop-p.invariant c.loop-p-test.true c.requires c.other_row-y.ensures c.wanted-want.ensures

pub loop-p-smaller : goal.loop-p-smaller
loop-p-smaller c = search visiting_less

pub loop-p-preserved : goal.loop-p-preserved
loop-p-preserved c = search visiting_more

pub returns : goal.returns
returns c = search visiting_all
