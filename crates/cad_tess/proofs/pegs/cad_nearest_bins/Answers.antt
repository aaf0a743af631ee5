-- `cad_nearest_bins` meets its contract. Assumes nothing.
use Rattle.cad_tess.proofs.PegLaws.{peg_left, peg_told}
use borrow.Author.Rules.{rules}
use Rattle.cad_tess.proofs.pegs.cad_nearest_bins.Goals as goal

pub returns : goal.returns
returns c = search (rules, peg_told, peg_left)
