-- `stitch_tree::put_span` meets its contract. Assumes nothing.
use mathlib.Core.Path.{◌≡◌, sym, subst}
use mathlib.Core.Bool.{true}
use native.Mathlib.Omega.{arith}
use lib.Dec.{T}
use lib.Ieee.{Float, binary64, fits}
use lib.ListN.{length-set}
use Rattle.stitch_tree.proofs.WordLaws.{span_put}
use Rattle.stitch_tree.proofs.boxes.put_span.Goals as goal

-- an end is an f64
held : (x : Float) → fits binary64 x ≡ true → T (fits binary64 x)
held x e = subst T (sym e) tt

pub bounds-w-k-2 : goal.bounds-w-k-2
bounds-w-k-2 c = simp length-set (omega arith)

pub returns : goal.returns
returns c =
    span_put _ (held c.args.low c.well_formed.1.1.0.1) (held c.args.high c.well_formed.1.1.1.0.1) c.requires c.bits_of_f64-a.ensures c.bits_of_f64-b.ensures
