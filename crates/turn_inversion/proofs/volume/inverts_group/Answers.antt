-- `inverts_group` meets its contract. Assumes nothing.
use mathlib.Core.Path.{◌∙◌}
use native.Mathlib.Omega.{arith}
use Rattle.body_rows.specs.Patches.{shapes}
use Rattle.turn_walk.specs.Group.{queue_of, colours_of}
use Rattle.turn_inversion.proofs.InvertLaws.{indices_on_is, inverts_below, inverts_above, inverts_zero}
use Rattle.turn_inversion.proofs.volume.inverts_group.Goals as goal

pub returns-then-v : goal.returns-then-v
returns-then-v c =
    let a = c.args in
    inverts_below (shapes a.rows.now a.positions.now a.indices.now) (colours_of a.regions.uses a.regions.rows a.w.now) (queue_of a.regions.uses a.regions.rows a.t a.w.now) c.group_volume-v.ensures c.if-v.true

pub returns-then-v-2 : goal.returns-then-v-2
returns-then-v-2 c =
    let a = c.args in
    inverts_above (shapes a.rows.now a.positions.now a.indices.now) (colours_of a.regions.uses a.regions.rows a.w.now) (queue_of a.regions.uses a.regions.rows a.t a.w.now) c.group_volume-v.ensures c.if-v.false c.if-v-2.true

pub weigh-plain-requires : goal.weigh-plain-requires
weigh-plain-requires c =
    let p = c.requires in
    record { rows = p.given.rows; count = p.given.count; room = omega (arith, p.given.room); queue = p.queue }

pub weigh-coloured-requires : goal.weigh-coloured-requires
weigh-coloured-requires c =
    let p = c.requires in
    record { rows = p.given.rows; count = p.given.count; room = omega (arith, p.given.room); queue = p.queue }

pub returns : goal.returns
returns c =
    let a = c.args in
    let p = c.requires in
    inverts_zero (shapes a.rows.now a.positions.now a.indices.now) (colours_of a.regions.uses a.regions.rows a.w.now) (queue_of a.regions.uses a.regions.rows a.t a.w.now) c.group_volume-v.ensures c.if-v.false c.if-v-2.false (c.weigh-plain.ensures ∙ indices_on_is p 1) (c.weigh-coloured.ensures ∙ indices_on_is p 2)
