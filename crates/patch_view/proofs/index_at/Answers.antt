-- `patch_view::index_at` meets its contract: past the end there is no index, and 0 stands for it.
-- Assumes nothing.
use mathlib.Core.Path.{◌≡◌, sym}
use mathlib.Core.List.{List}
use Prim.Native.Nat.{ℕ, ◌≤◌}
use lib.ListN.{length, get_or, get_or-eq_default}
use borrow.Author.Rules.{rules}
use Rattle.patch_view.proofs.index_at.Goals as goal

-- what stands past the end
past_the_end : (xs : List ℕ) (i : ℕ) → length xs ≤ i → 0 ≡ get_or xs i 0
past_the_end xs i h = sym (get_or-eq_default xs 0 h)

pub returns : goal.returns
returns c = search (past_the_end, rules)
