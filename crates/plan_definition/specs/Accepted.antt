-- The definitions that the theorems of this name in proofs/ speak of. Assumes nothing.
use Rattle.std.specs.Prelude.{Bool, ◌++◌, ◌&&◌, ◌≡◌, ℕ, ◌+◌, ◌≤◌, T, leb, ltb}
use mathlib.Core.List.{List, [], ◌∷◌}
use Rattle.std.proofs.Math.ListN.{length}
use Rattle.body_refusals.specs.TableChecks.{most_bin}
use Rattle.plan_definition.specs.Places.{Place, total, in_range}
use Rattle.plan_definition.specs.Grammar.{Plan, bin, group, Entry, plan_text, placed, close_line, most_depth, keeps_limits, inside_limits}
use Rattle.plan_definition.specs.Reading.{entries_of}
use Rattle.plan_definition.specs.TextLaws.{end_to_end}

-- what a plan inside the limits asks of its first bin, and of its first group
pub record BinKeeps (path : List Place) (n : ℕ) (o : Place) (rest : Plan) : Type 0 where
  pub line : T (leb n most_bin && in_range o)
  pub place : T (in_range (total (o ∷ path)))
  pub after : T (keeps_limits path rest)

pub record GroupKeeps (path : List Place) (o : Place) (inner rest : Plan) : Type 0 where
  pub line : T (in_range o)
  pub deep : T (ltb (length path) most_depth)
  pub inside : T (keeps_limits (o ∷ path) inner)
  pub after : T (keeps_limits path rest)

-- what is left to read while the groups of a path are open: a plan for each of them, which its bracket ends, and a plan behind them all
unfoldable pub Rest : List Place → Type 0
Rest [] = Plan
Rest (o ∷ path) = Plan × Rest path

unfoldable pub rest_text : (path : List Place) → Rest path → List ℕ
unfolding Rest
rest_text [] plan = plan_text plan
rest_text (o ∷ path) r = plan_text r.0 ++ (close_line ++ rest_text path r.1)

unfoldable pub rest_placed : (path : List Place) → Rest path → List Entry
unfolding Rest
rest_placed [] plan = placed [] plan
rest_placed (o ∷ path) r = placed (o ∷ path) r.0 ++ rest_placed path r.1

unfoldable pub rest_keeps : (path : List Place) → Rest path → Bool
unfolding Rest
rest_keeps [] plan = keeps_limits [] plan
rest_keeps (o ∷ path) r = keeps_limits (o ∷ path) r.0 && rest_keeps path r.1

-- lines that do not offend are what is left of a plan inside the limits
pub record ReadAs (room : ℕ) (path : List Place) (count : ℕ) (ls : List (List ℕ)) : Type 0 where
  pub rest : Rest path
  pub text : rest_text path rest ≡ end_to_end ls
  pub entries : rest_placed path rest ≡ entries_of path ls
  pub keeps : T (rest_keeps path rest)
  pub few : count + length (rest_placed path rest) ≤ room

-- a text is that of a plan inside the limits, and the entries are its bins
pub record TextOf (room : ℕ) (text : List ℕ) (es : List Entry) : Type 0 where
  pub plan : Plan
  pub is : plan_text plan ≡ text
  pub inside : T (inside_limits room plan)
  pub entries : placed [] plan ≡ es
