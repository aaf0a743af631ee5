-- The joining rules of vertices: each has the names of points, and words of 64 bits that go by the names. Assumes nothing.
use Rattle.std.specs.Prelude.{◌≡◌, List, map, ℕ, ◌+◌, ◌*◌, ◌^◌, ◌<◌, ◌≤◌, length, get_or, take, drop, Float}
use Rattle.point_rules.specs.Rule as Naming
use Rattle.point_rules.specs.Rule.{names}
use Rattle.point_rules.specs.Points.{key, bits, zeros}
use Rattle.point_rules.specs.Bits.{digest}
use Rattle.join_table.specs.declared.Source.{Source}
use Rattle.join_table.specs.declared.Source.TheVariants as source
use Rattle.join_points.specs.declared.vertices.Rule.{Rule}
use Rattle.join_points.specs.declared.vertices.Rule.TheVariants.{Key, Bits, Zeros}
use Rattle.join_definition.specs.Join.{joined, first_index}

-- the rule of each case
unfoldable pub rule_of : Rule → Naming.Rule
rule_of Key = key
rule_of Bits = bits
rule_of Zeros = zeros

-- the words of the vertices: keys are words themselves, bits have digests
unfoldable pub words_of : Rule → List Float → List ℕ
words_of Key ps = names key ps
words_of Bits ps = map digest (names bits ps)
words_of Zeros ps = map digest (names zeros ps)

-- where the names are once the words are written
unfoldable pub source_of : Rule → Source
source_of Key = source.Words
source_of Bits = source.Bits
source_of Zeros = source.Zeros

-- what `join_points` requires: n vertices, and room for their table
pub record Fit (n : ℕ) (ps : List Float) (W : List ℕ) : Type 0 where
  pub whole : length ps ≡ 3 * n
  pub room : 4 * n ≤ length W
  pub few : n < 2 ^ 32

-- What joining vertices by a rule leaves of the words W: the words of the vertices, then the representatives, and all behind the table's
-- 4 * n as it was.
pub record JoinedPoints (rule : Rule) (ps : List Float) (n : ℕ) (W E : List ℕ) : Type 0 where
  pub reps : take n (drop n E) ≡ joined (names (rule_of rule) ps)
  pub rep : (i : ℕ) → i < n → get_or E (n + i) 0 ≡ first_index (names (rule_of rule) ps) i
  pub words : take n E ≡ words_of rule ps
  pub rest : drop (4 * n) E ≡ drop (4 * n) W
