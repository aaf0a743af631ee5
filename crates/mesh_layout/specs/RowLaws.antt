-- Laws of rows with their decisions: what the rows from row k on begin with, and what one row more adds. Assumes nothing.
use Rattle.std.specs.Prelude.{◌≡◌, refl, ℕ, zero, suc, ◌+◌, ◌≤◌, ◌<◌, length, take, drop}
use Rattle.std.proofs.Common.{sym, ◌∙◌, arith, length-drop, length-take-le, get_or-drop}
use Rattle.std.proofs.Math.Path.{ap}
use mathlib.Core.List.{List, [], ◌∷◌}
use Rattle.std.proofs.Math.ListN.{get_or}
use Rattle.lists.specs.Lists.{sum_of}
use Rattle.lists.specs.Any.{sum_more}
use Rattle.body_rows.specs.Body.{Row, rows_of}
use Rattle.body_rows.specs.Rows.{no_row, row_at, rows_here}
use Rattle.mesh_acceptance.specs.Judged.{decisions_in}
use Rattle.mesh_acceptance.specs.RestLaws.{decisions_here}
use Rattle.mesh_layout.specs.JudgedRows.{JudgedRow, judged_rows, judged_in}

-- a row of nothing: what lies past the end
abbrev pub no_judged : JudgedRow
no_judged = record { decision = 0; row = no_row }

-- no rows, no decisions
no_rows : (ds : List ℕ) → judged_rows ds [] ≡ []
unfolding judged_rows
no_rows [] = refl
no_rows (d ∷ ds) = refl

-- leaving rows out leaves their decisions out
drop_judged : (k : ℕ) (ds : List ℕ) (rs : List Row) → drop k (judged_rows ds rs) ≡ judged_rows (drop k ds) (drop k rs)
unfolding judged_rows
drop_judged zero ds rs = refl
drop_judged (suc k) [] rs = refl
drop_judged (suc k) (d ∷ ds) [] = sym (no_rows (drop k ds))
drop_judged (suc k) (d ∷ ds) (r ∷ rs) = drop_judged k ds rs

-- as many as both
judged_min : (ds : List ℕ) (rs : List Row) → length rs ≤ length ds → length (judged_rows ds rs) ≡ length rs
unfolding judged_rows
judged_min [] [] h = refl
judged_min [] (r ∷ rs) h = absurd (omega arith)
judged_min (d ∷ ds) [] h = refl
judged_min (d ∷ ds) (r ∷ rs) h = ap suc (judged_min ds rs (omega arith))

module _ (table W : List ℕ) (at : ℕ) (room : at + length (rows_of table) ≤ length W) where
  -- one for each row
  pub judged_long : length (judged_in table W at) ≡ length (rows_of table)
  judged_long = judged_min (decisions_in table W at) (rows_of table) (omega (arith, length-take-le (length (rows_of table)) (drop at W) (omega (arith, length-drop at W))))

  module _ (k : ℕ) (h : k < length (rows_of table)) where
    -- those from row k on begin with its own
    pub judged_here : drop k (judged_in table W at) ≡ record { decision = get_or W (at + k) 0; row = row_at table k } ∷ drop (k + 1) (judged_in table W at)
    unfolding judged_rows
    judged_here =
        drop_judged k (decisions_in table W at) (rows_of table)
        ∙ (λ j. judged_rows (decisions_here table W at k h room j) (rows_here table k h j))
        ∙ ap (λ (js : List JudgedRow). record { decision = get_or W (at + k) 0; row = row_at table k } ∷ js) (sym (drop_judged (k + 1) (decisions_in table W at) (rows_of table)))

    -- row k's own
    pub judged_at : get_or (judged_in table W at) k no_judged ≡ record { decision = get_or W (at + k) 0; row = row_at table k }
    judged_at = let z : k + 0 ≡ k = omega arith in ap (λ (n : ℕ). get_or (judged_in table W at) n no_judged) (sym z) ∙ sym (get_or-drop k (judged_in table W at) 0 no_judged)
        ∙ ap (λ (js : List JudgedRow). get_or js 0 no_judged) judged_here

    -- a row more adds its own
    pub sum_here : (f : JudgedRow → ℕ) → sum_of f (take (k + 1) (judged_in table W at)) ≡ sum_of f (take k (judged_in table W at)) + f (record { decision = get_or W (at + k) 0; row = row_at table k })
    sum_here f = sum_more f (judged_in table W at) k no_judged (omega (arith, judged_long)) ∙ ap (λ (j : JudgedRow). sum_of f (take k (judged_in table W at)) + f j) judged_at
