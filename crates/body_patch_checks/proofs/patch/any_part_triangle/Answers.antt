-- `body_patch_checks::patch::any_part_triangle` meets its contract. The first k rows have whole triangles. Assumes nothing.
use Prim.Native.Nat.{ℕ, ◌-◌, ◌%◌}
use native.Mathlib.Omega.{arith}
use mathlib.Core.Path.{sym, ap, ◌∙◌}
use mathlib.Core.Bool.{not}
use lib.Dec.{eqb}
use borrow.Author.Tests.{eq-eqb, ne_eqb}
use Rattle.lists.specs.Any.{searched_none, searched_more, searched_hit, searched_all}
use Rattle.body_patch_checks.specs.PatchTests.{part_triangle}
use Rattle.body_rows.specs.Rows.{no_row, row_at}
use Rattle.body_patch_checks.proofs.patch.any_part_triangle.Goals as goal

pub loop-k-init : goal.loop-k-init
loop-k-init c = searched_none part_triangle _

pub returns-then-indices-ne0 : goal.returns-then-indices-ne0
unfolding row_at
returns-then-indices-ne0 c = searched_hit no_row c.loop-k.invariant (omega arith) (ap (λ (n : ℕ). not (eqb (n % 3) 0)) (sym c.indices.ensures) ∙ ap not (ne_eqb _ _ c.if-indices-ne0.true))

pub loop-k-preserved : goal.loop-k-preserved
unfolding row_at
loop-k-preserved c = searched_more no_row c.loop-k.invariant (omega arith) (ap (λ (n : ℕ). not (eqb (n % 3) 0)) (sym c.indices.ensures) ∙ ap not (eq-eqb _ _ c.if-indices-ne0.false))

pub returns : goal.returns
returns c = searched_all c.loop-k.invariant (omega arith)
