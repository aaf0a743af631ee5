-- Narrowing by the value of its operand, and its error: the facts of rounding at 24 binary digits. Assumes nothing.
use Rattle.float_narrow.specs.Narrowing.{Narrowed}
use Rattle.std.specs.Prelude.{◌≡◌, ◌⊎◌, Bool, ℕ, ◌*◌, ◌^◌, ◌<◌, Float}
use Rattle.std.proofs.Common.{sym, ap, ◌∙◌, subst}
use Rattle.std.specs.Float.{nan, inf, fin, binary32}
use Rattle.std.specs.Float.Ieee.{up, down, round}
use Rattle.std.specs.Float.Ieee.Exact.{HasValue}
use Rattle.std.specs.Float.Ieee.Fits.{down_pos}
use Rattle.std.specs.Float.Ieee.Scale.{round_same, grid, overflow}
use Rattle.float_rounding.specs.Near.{Within, grid_near, round_val}
use Rattle.float_narrow.specs.Narrow.{narrow}

-- a / c, whatever the fraction
pub narrow_value : (x : Float) (s : Bool) (a c : ℕ) → 0 < c → HasValue x s a c → narrow x ≡ round binary32 s a c
unfolding narrow
narrow_value nan s a c C h = absurd h
narrow_value (inf t) s a c C h = absurd h
narrow_value (fin t m e) s a c C h = ap (λ (b : Bool). round binary32 b (m * up e) (down e)) h.0 ∙ round_same binary32 s (m * up e) (down e) a c (down_pos e) C h.1

pub narrow_near : (x : Float) (s : Bool) (a c : ℕ) → 0 < c → HasValue x s a c → grid binary32 a c < overflow binary32 → Narrowed x s a c
narrow_near x s a c C h l = record {
  is = subst (λ (y : Float). HasValue y s (grid binary32 a c) (2 ^ 149)) (sym (narrow_value x s a c C h)) (round_val binary32 s a c l);
  near = grid_near binary32 a c C;
}
