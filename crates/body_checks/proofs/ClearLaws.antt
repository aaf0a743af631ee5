-- Laws of clearing a body's words. Assumes nothing.
use mathlib.Core.Path.{◌≡◌, ap, sym, ◌∙◌, subst}
use mathlib.Core.List.{List, ◌++◌}
use Prim.Native.Nat.{ℕ, ◌≤◌}
use lib.ListN.{length, drop, replicate}
use Rattle.body_rows.specs.Body.{rows_of, work_needed, cleared}
use Rattle.body_checks.specs.Cleared.{Clearable}

-- the words that are needed are there
pub needed_held : {table W : List ℕ} {n : ℕ} → Clearable table W → n ≡ work_needed (rows_of table) → n ≤ length W
needed_held {table} {W} c e = subst (λ (k : ℕ). k ≤ length W) (sym e) c.enough

-- clearing so many leaves what the definition says
pub words_cleared : (table W : List ℕ) {Z : List ℕ} {n : ℕ} → n ≡ work_needed (rows_of table) → Z ≡ replicate n 0 ++ drop n W → Z ≡ cleared (rows_of table) W
unfolding cleared
words_cleared table W e z = z ∙ ap (λ (k : ℕ). replicate k 0 ++ drop k W) e
