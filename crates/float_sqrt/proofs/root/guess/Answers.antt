-- `float_sqrt::root::guess` is safe, and its answer has 53 bits. Assumes nothing.
use native.Mathlib.Omega.{arith}
use lib.Ieee.{binary64}
use Rattle.float_rounding.specs.Fields.{no_nan_bits}
use Rattle.float_sqrt.proofs.root.guess.Goals as goal

pub float_from_bits-x : goal.float_from_bits-x
float_from_bits-x c = no_nan_bits binary64 _ (omega arith)

pub float_from_bits-y0 : goal.float_from_bits-y0
float_from_bits-y0 c = no_nan_bits binary64 _ (omega arith)
