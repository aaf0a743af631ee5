-- `join_points::vertices::write_words` meets its contract. Assumes nothing.
use Rattle.join_points.proofs.Rules.{fit_within, fit_more, fit_all}
use Rattle.join_points.proofs.Loops.{written_none}
use Prim.Native.Nat.{◌-◌}
use Rattle.join_points.proofs.vertices.write_words.Goals as goal

pub loop-i-init : goal.loop-i-init
loop-i-init c = search written_none

pub word_at-requires : goal.word_at-requires
word_at-requires c = search fit_within

pub loop-i-preserved : goal.loop-i-preserved
loop-i-preserved c = search fit_more

pub returns : goal.returns
returns c = search fit_all
