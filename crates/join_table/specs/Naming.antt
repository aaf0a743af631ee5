-- Where the names of joined items come from. Assumes nothing.
use Rattle.std.specs.Prelude.{List, ℕ, Float}
use Rattle.point_rules.specs.Rule.{names}
use Rattle.point_rules.specs.Points.{bits, zeros}
use Rattle.join_table.specs.declared.Source.{Source}
use Rattle.join_table.specs.declared.Source.TheVariants.{Words, Bits, Zeros}

-- the names of the items, from the positions or from the words of the table
unfoldable pub names_of : Source → List Float → List ℕ → List ℕ
names_of Words ps ws = ws
names_of Bits ps ws = names bits ps
names_of Zeros ps ws = names zeros ps
