-- The checks that every call begins with, in their order, and those of a patch alone. Assumes nothing.
use Rattle.std.specs.Prelude.{List, [], ◌∷◌, ◌++◌, ℕ, ◌/◌, length, ltb, Float}
use Rattle.body_rows.specs.Body.{rows_of, patches_of, Check, check, work_needed}
use Rattle.body_refusals.specs.TableChecks.{table_checks}
use Rattle.body_refusals.specs.PatchChecks.{patch_checks}

-- 11 to 24: the checks of a call that needs no work area
unfoldable pub before_work : List ℕ → List Float → List Float → List ℕ → List Check
before_work table ps ns is = let rows = rows_of table in table_checks table rows ps ns is ++ patch_checks (patches_of rows ps ns is)

-- the checks that all three calls begin with: 11 to 24, and 31 for a work area of so many words
unfoldable pub body_checks : List ℕ → List Float → List Float → List ℕ → ℕ → List Check
body_checks table ps ns is words = before_work table ps ns is ++ check 31 (ltb words (work_needed (rows_of table))) ∷ []

-- A patch asked about alone is a body of one row of bin 0: this is its table.
unfoldable pub lone_table : List Float → List ℕ → List ℕ
lone_table ps is = 0 ∷ 0 ∷ 0 ∷ (length ps / 3) ∷ length is ∷ 0 ∷ []

-- A patch alone needs no work area.
unfoldable pub lone_checks : List Float → List Float → List ℕ → List Check
lone_checks ps ns is = before_work (lone_table ps is) ps ns is
