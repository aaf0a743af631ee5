-- `turn_chains::link_pair` meets its contract: its four stores are those of the definition. Assumes nothing.
use lib.ListN.{length-set}
use mathlib.Core.Path.{refl}
use native.Mathlib.Omega.{arith}
use Rattle.turn_chains.proofs.link_pair.Goals as goal

pub bounds-w-far_links : goal.bounds-w-far_links
bounds-w-far_links c = simp length-set (omega arith)

pub bounds-w-heads-3 : goal.bounds-w-heads-3
bounds-w-heads-3 c = simp length-set (omega arith)

pub bounds-w-heads-4 : goal.bounds-w-heads-4
bounds-w-heads-4 c = simp length-set (omega arith)

pub returns : goal.returns
returns c = rw (c.own_links.ensures, c.far_links.ensures, c.heads-heads.ensures) refl
