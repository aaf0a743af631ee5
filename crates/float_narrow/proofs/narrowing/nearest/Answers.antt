-- `narrowing::narrowing::nearest` meets its contract. Assumes nothing.
use mathlib.Core.Path.{◌≡◌, sym, ap, ◌∙◌, subst}
use Prim.Native.Nat.{ℕ, ◌+◌, ◌-◌, ◌/◌, ◌%◌, ◌^◌, ◌<◌}
use native.Mathlib.Omega.{arith}
use lib.Pow.{pow_pos, pow_mono}
use lib.Ieee.Nearest.{closest}
use Rattle.float_rounding.specs.Near.{twice}
use Rattle.float_narrow.proofs.NarrowBits.{nearest_sum}
use Rattle.float_narrow.proofs.narrowing.nearest.Goals as goal

pub overflow_sub-result : goal.overflow_sub-result
overflow_sub-result c = omega (arith, c.power-half.ensures, pow_pos (c.args.k - 1))

pub overflow_add-result : goal.overflow_add-result
overflow_add-result c = omega (arith, c.power-half.ensures, (pow_mono {i = c.args.k - 1} {j = 61} (omega arith)))

pub overflow_add-result-2 : goal.overflow_add-result-2
overflow_add-result-2 c = omega (arith, c.power-half.ensures, (pow_mono {i = c.args.k - 1} {j = 61} (omega arith)))

pub returns : goal.returns
returns c = let a = c.args in
    let k : 0 < a.k = omega arith in
    ap (λ (h : ℕ). (a.m + (h - 1) + a.m / 2 ^ a.k % 2) / 2 ^ a.k) c.power-half.ensures
    ∙ subst (λ (u : ℕ). (a.m + (2 ^ (a.k - 1) - 1) + a.m / u % 2) / u ≡ closest a.m u) (sym (twice a.k k)) (nearest_sum a.m (2 ^ (a.k - 1)) (pow_pos (a.k - 1)))
