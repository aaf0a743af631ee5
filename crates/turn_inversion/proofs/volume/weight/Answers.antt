-- `weight` meets its contract. Assumes nothing.
use Rattle.turn_inversion.proofs.VolumeLaws.{weight_yes, weight_no}
use Rattle.turn_walk.specs.Group.{colours_of}
use Rattle.turn_inversion.proofs.volume.weight.Goals as goal

pub returns-then-colour-c : goal.returns-then-colour-c
returns-then-colour-c c =
    let s = c.args in
    weight_yes s.rows.now (colours_of s.regions.uses s.regions.rows s.w.now) s.x c.colour.ensures c.if-colour-c.true c.indices.ensures

pub returns : goal.returns
returns c =
    let s = c.args in
    weight_no s.rows.now (colours_of s.regions.uses s.regions.rows s.w.now) s.x c.colour.ensures c.if-colour-c.false
