-- `read_hex` meets its contract. Assumes nothing.
use Rattle.sheet_digit_reading.proofs.ReadLaws.{hexed_none, hexed_room, hexed_short, hexed_other, hexed_more, hexed_all}
use Prim.Native.Nat.{◌<◌}
use mathlib.Core.Logic.{inl, inr}
use native.Mathlib.Omega.{arith}
use borrow.Author.Rules.{rules}
use Rattle.sheet_digit_reading.proofs.read_hex.Goals as goal

pub returns-in_err-c-items : goal.returns-in_err-c-items
returns-in_err-c-items c = rw c.from_residual.ensures (elim c.in_err-c-items.ensures.lookup.0 [ inl h ↦ absurd (omega arith) | inr h ↦ hexed_short _ _ _ h ])

pub loop-c-init : goal.loop-c-init
loop-c-init c = search (rules, hexed_none)

pub returns-in_err-d : goal.returns-in_err-d
returns-in_err-d c = rw c.from_residual-in_err-d.ensures (hexed_other _ _ _ _ _ c.loop-c.invariant _ c.in_ok-c-items.ensures.lookup.0 c.loop-c-test.true c.in_err-d.ensures)

pub overflow_mul-value : goal.overflow_mul-value
overflow_mul-value c = let h : c.loop-c.c-index < c.args.k = omega (arith, c.in_ok-c-items.ensures.lookup.0) in omega (arith, hexed_room _ _ _ _ _ c.loop-c.invariant h (search rules))

pub overflow_add-value : goal.overflow_add-value
overflow_add-value c = let h : c.loop-c.c-index < c.args.k = omega (arith, c.in_ok-c-items.ensures.lookup.0) in let d : c.in_ok-d.d < 16 = c.in_ok-d.ensures.1 in omega (arith, hexed_room _ _ _ _ _ c.loop-c.invariant h (search rules))

pub loop-c-preserved : goal.loop-c-preserved
loop-c-preserved c = hexed_more _ _ _ _ _ c.loop-c.invariant _ c.in_ok-c-items.ensures.lookup.0 c.loop-c-test.true _ c.in_ok-d.ensures

pub returns : goal.returns
returns c = hexed_all _ _ _ _ _ c.loop-c.invariant (omega (arith, c.in_ok-c-items.ensures.lookup.0))
