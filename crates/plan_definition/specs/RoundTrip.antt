-- The definitions that the theorems of this name in proofs/ speak of. Assumes nothing.
use Rattle.std.specs.Prelude.{List, [], ◌∷◌}
use Rattle.std.proofs.Math.Dec.{T}
use Rattle.plan_definition.specs.Places.{in_range}
use Rattle.plan_definition.specs.Grammar.{bin, Entry, entry}
use Rattle.plan_definition.specs.Writing.{bin_in_range}

-- every entry of a listing is in range
pub data InRange : List Entry → Type 0 where
  none_left : InRange []
  one_more : {e : Entry} {es : List Entry} → T (bin_in_range e.bin) → T (in_range e.place) → InRange es → InRange (e ∷ es)
