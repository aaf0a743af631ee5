-- `float_sqrt::root::root_by_digits` meets its contract. Assumes nothing.
use mathlib.Core.Path.{sym, subst}
use Prim.Native.Nat.{ℕ, ◌+◌, ◌*◌, ◌/◌, ◌%◌, ◌<◌}
use native.Mathlib.Omega.{arith}
use Rattle.float_sqrt.proofs.Digits.{Taken, start, root_lt, step_yes, step_no, done, root_up, root_down}
use Rattle.float_sqrt.proofs.root.root_by_digits.Goals as goal
use Rattle.float_sqrt.proofs.root.root_by_digits.Goals.{then-t-r, else-t-r}

pub overflow_mul-left : goal.overflow_mul-left
overflow_mul-left c = omega arith

pub loop-i-init : goal.loop-i-init
loop-i-init c = start c.args.n (omega arith)

pub overflow_mul-r : goal.overflow_mul-r
overflow_mul-r c = omega (arith, root_lt c.loop-i.invariant)

pub overflow_add-r : goal.overflow_add-r
overflow_add-r c = omega (arith, root_lt c.loop-i.invariant)

pub overflow_mul-left-in-loop-i : goal.overflow_mul-left-in-loop-i
overflow_mul-left-in-loop-i c = omega (arith, root_lt c.loop-i.invariant)

pub overflow_mul-t : goal.overflow_mul-t
overflow_mul-t c = omega (arith, root_lt c.loop-i.invariant)

pub overflow_add-t : goal.overflow_add-t
overflow_add-t c = omega (arith, root_lt c.loop-i.invariant)

pub overflow_mul-s : goal.overflow_mul-s
overflow_mul-s c = omega (arith, root_lt c.loop-i.invariant)

pub overflow_add-s : goal.overflow_add-s
overflow_add-s c = omega (arith, root_lt c.loop-i.invariant)

pub loop-i-preserved : goal.loop-i-preserved
loop-i-preserved c =
    let a = c.loop-i in
    let n = c.args.n in
    let rest = a.left % 4611686018427387904 * 4 in
    let now = a.r * 4 + a.left / 4611686018427387904 in
    let l : a.i < 53 = omega arith in
    elim c.if-t-r.branch [
      | then-t-r w ↦ subst (λ (x : ℕ). Taken n rest x c.if-t-r.r (a.i + 1)) (sym w.s-is) (subst (λ (x : ℕ). Taken n rest (a.s * 2 + 1) x (a.i + 1)) (sym w.r-is) (step_yes a.invariant l w.if-t-r.true))
      | else-t-r w ↦ subst (λ (x : ℕ). Taken n rest x c.if-t-r.r (a.i + 1)) (sym w.s-is) (subst (λ (x : ℕ). Taken n rest (a.s * 2) x (a.i + 1)) (sym w.r-is) (step_no a.invariant l w.if-t-r.false))
    ]

pub overflow_add-result : goal.overflow_add-result
overflow_add-result c = omega (arith, root_lt c.loop-i.invariant)

pub returns-then-s-r : goal.returns-then-s-r
returns-then-s-r c =
    let a = c.loop-i in
    let n = c.args.n in
    root_up (n * 4503599627370496) a.s a.r (omega arith) (done a.invariant c.loop-i-test.false) a.invariant.rest c.if-s-r.true

pub returns-else-s-r : goal.returns-else-s-r
returns-else-s-r c =
    let a = c.loop-i in
    let n = c.args.n in
    root_down (n * 4503599627370496) a.s a.r (omega arith) (done a.invariant c.loop-i-test.false) a.invariant.rest c.if-s-r.false
