-- The refusal of a line by the place and by how much has been read, and what a line that isn't refused has passed. Assumes nothing.
use Rattle.std.specs.Prelude.{Bool, true, false, not, ◌||◌, cond, List, ◌≡◌, refl, ℕ, ◌*◌, length}
use Rattle.std.proofs.Common.{arith}
use Rattle.body_rows.specs.Body.{row_width, first_failing}
use Rattle.sheet_lines.specs.Forms.{Line}
use Rattle.sheet_lines.specs.declared.Kind.{Kind}
use Rattle.sheet_line_order.specs.declared.Limits.{Limits}
use Rattle.sheet_line_order.specs.Reading.{Patterns, State, fails_with_zero, in_order, line_refusal, passes_limit}

-- a sheet of so many rows, vertices and indices
pub record SheetCounts (rows vertices corners : ℕ) (x : Patterns) : Type 0 where
  pub table : length x.table ≡ row_width * rows
  pub positions : length x.positions ≡ 3 * vertices
  pub indices : length x.indices ≡ corners

-- b says whether a line passes a limit
pub record Limit (limits : Limits) (rows vertices indices : ℕ) (k : Kind) (ns : List ℕ) (b : Bool) : Type 0 where
  pub is : (x : Patterns) → SheetCounts rows vertices indices x → b ≡ passes_limit limits k ns x

-- n is the refusal of a line, 0 for none
pub record LineRefusal (limits : Limits) (place rows vertices indices : ℕ) (k : Kind) (ns : List ℕ) (n : ℕ) : Type 0 where
  pub is : (refusal : ℕ) (x : Patterns) → SheetCounts rows vertices indices x
      → n ≡ line_refusal (record { kind = k; numbers = ns }) (record { limits = limits; refusal = refusal; place = place; sheet = x })

-- what a line that isn't refused has passed
pub record Passed (l : Line) (s : State) : Type 0 where
  pub order : in_order s.place l.kind ≡ true
  pub limit : passes_limit s.limits l.kind l.numbers s.sheet ≡ false

-- the refusal by its two tests
of_tests : Bool → Bool → ℕ
of_tests bad limit = cond bad 51 (cond limit 52 0)

bad_line : (a b c : Bool) → of_tests (not a || b) c ≡ 0 → (a ≡ true) × (c ≡ false)
unfolding of_tests
bad_line true false false e = (refl, refl)
bad_line true false true e = absurd (omega arith)
bad_line true true c e = absurd (omega arith)
bad_line false b c e = absurd (omega arith)

pub passed : (l : Line) (s : State) → line_refusal l s ≡ 0 → Passed l s
unfolding line_refusal first_failing of_tests
passed l s e =
    let r = bad_line (in_order s.place l.kind) (fails_with_zero l.kind l.numbers) (passes_limit s.limits l.kind l.numbers s.sheet) e in
    record { order = r.0; limit = r.1 }
