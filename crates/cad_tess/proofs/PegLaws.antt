-- The laws of the call of a peg: the struct and the list are the definition's. Assumes nothing.
use mathlib.Core.List.{List}
use mathlib.Core.Path.{◌≡◌, ap, ◌∙◌}
use Prim.Native.Nat.{ℕ}
use lib.IntN.{ℤ}
use lib.ListN.{length}
use lib.Ieee.{Float}
use mir.Syntax.{w64}
use mir.Val.{SFits}
use mir.ValLaws.{to_z-of_z}
use Rattle.signed_numbers.specs.Bits.{read}
use Rattle.std.specs.Prelude.{Result}
use Rattle.plan_definition.specs.Places.{Place}
use Rattle.peg_definition.specs.Answers.{peg_answer}
use Rattle.peg_definition.specs.Peg.{bins_after, lookup_of}
use Rattle.peg.specs.Answer.{PegFound, at}
use Rattle.cad_answers.specs.declared.pegs.CadNearestBins.{CadNearestBins}
use Rattle.cad_answers.specs.Pegs.{cad_nearest_bins}

module _ (table : List ℕ) (ps ns : List Float) (is : List ℕ) (list : List ℤ) (x y z : ℤ) (fx : SFits w64 x) (fy : SFits w64 y) (fz : SFits w64 z) (E W : List ℕ) (a : Result ℕ ℕ)
    (v : PegFound table ps ns is list (read x) (read y) (read z) E W a) where
  -- the peg as the machine reads it
  same : at (read x) (read y) (read z) ≡ at x y z
  same = λ i. at (to_z-of_z w64 x fx i) (to_z-of_z w64 y fy i) (to_z-of_z w64 z fz i)

  pub peg_told : {r : CadNearestBins} → r ≡ cad_nearest_bins a → r ≡ cad_nearest_bins (peg_answer (lookup_of table ps ns is list (at x y z) (length E)))
  peg_told e = e ∙ ap cad_nearest_bins (v.answer ∙ ap (λ (p : Place). peg_answer (lookup_of table ps ns is list p (length E))) same)

  pub peg_left : W ≡ bins_after (lookup_of table ps ns is list (at x y z) (length E)) E
  peg_left = v.list ∙ ap (λ (p : Place). bins_after (lookup_of table ps ns is list p (length E)) E) same
