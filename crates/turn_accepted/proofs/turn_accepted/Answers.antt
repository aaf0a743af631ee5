-- `turn_accepted` meets its contract. Assumes nothing.
use Rattle.body_checks.specs.Cleared.{clearable}
use Rattle.turn_accepted.proofs.AcceptedLaws.{colourable, reversible, accepted_turned}
use mathlib.Core.Path.{refl}
use native.Mathlib.Omega.{arith}
use Rattle.turn_accepted.proofs.turn_accepted.Goals as goal

pub colour_rows-against-requires : goal.colour_rows-against-requires
colour_rows-against-requires c =
    colourable _ c.requires c.total_vertices-v.ensures c.row_count-m.ensures refl

pub reverse_rows-turned-requires : goal.reverse_rows-turned-requires
reverse_rows-turned-requires c = search reversible

pub clear_words-requires : goal.clear_words-requires
clear_words-requires c = search clearable

pub returns : goal.returns
returns c =
    accepted_turned _ c.requires c.total_vertices-v.ensures c.row_count-m.ensures refl (omega arith) c.colour_rows-against.ensures c.reverse_rows-turned.ensures c.clear_words.ensures
