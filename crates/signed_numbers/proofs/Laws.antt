-- The laws of the range and of words, as the machine reads signed numbers. Assumes nothing.
use mathlib.Core.Path.{◌≡◌, sym, ap, ◌∙◌, subst}
use Prim.Native.Nat.{ℕ, ◌^◌, ◌≤◌}
use native.Mathlib.Omega.{arith}
use lib.Dec.{T}
use lib.IntN.{ℤ, pos, nat_abs, ◌+ℤ◌, ◌-ℤ◌}
use lib.Signed.{non_neg, pos-nat_abs}
use mir.Syntax.{w64}
use mir.Val.{Fits, SFits, to_z}
use mir.ValLaws.{to_z_pos}
use Rattle.signed_numbers.specs.Range.{farthest}
use Rattle.signed_numbers.specs.Linear.{down, alone, abs, plus, minus}
use Rattle.signed_numbers.specs.Bits.{read, small_fits, small_read, not_negative}

-- ---- the word of a number in range
module _ (x : ℤ) (l : nat_abs x ≤ farthest) where
  word_small : nat_abs (x +ℤ pos farthest) ≤ 2 ^ 62
  word_small = omega (arith, plus x (pos farthest), alone (x +ℤ pos farthest), abs x, abs (x +ℤ pos farthest))

  pub word_fits : SFits w64 (x +ℤ pos farthest)
  word_fits = small_fits (x +ℤ pos farthest) word_small

  pub word_sign : T (non_neg (x +ℤ pos farthest))
  word_sign = not_negative (x +ℤ pos farthest) (let e : down (x +ℤ pos farthest) ≡ 0 = omega (arith, plus x (pos farthest), alone (x +ℤ pos farthest), abs x) in e)

  pub word_size : Fits w64 (nat_abs (x +ℤ pos farthest))
  word_size = record { fits = omega (arith, word_small) }

  pub word_is : pos (nat_abs (x +ℤ pos farthest)) ≡ x +ℤ pos farthest
  word_is = pos-nat_abs (x +ℤ pos farthest) word_sign

-- ---- a bias less than a word
module _ (n bias : ℕ) (l : n ≤ 2 ^ 62) (m : bias ≤ 2 ^ 62) where
  less_plain : to_z w64 n -ℤ to_z w64 bias ≡ pos n -ℤ pos bias
  less_plain = ap (λ (y : ℤ). y -ℤ to_z w64 bias) (to_z_pos w64 n (omega arith)) ∙ ap (λ (y : ℤ). pos n -ℤ y) (to_z_pos w64 bias (omega arith))

  less_small : nat_abs (pos n -ℤ pos bias) ≤ 2 ^ 62
  less_small = omega (arith, minus (pos n) (pos bias), alone (pos n -ℤ pos bias), abs (pos n -ℤ pos bias))

  pub less_fits : SFits w64 (to_z w64 n -ℤ to_z w64 bias)
  less_fits = subst (SFits w64) (sym less_plain) (small_fits _ less_small)

  pub less_is : read (to_z w64 n -ℤ to_z w64 bias) ≡ pos n -ℤ pos bias
  less_is = ap read less_plain ∙ small_read _ less_small
