-- The program's arrays are as long as its limits ask, and the small ones as the smaller limits ask. Assumes nothing.
use mathlib.Core.Path.{◌≡◌, refl}
use native.Mathlib.Omega.{arith}
use Rattle.body_refusals.specs.TableChecks.{too_large}
use Rattle.sheet_line_order.specs.Limits.{yard_limits}
use Rattle.sheet_reader_state.specs.Slices.{of_bodies}
use Rattle.bench_run.specs.Lengths.{Lengths}
use Rattle.bench_run.specs.Smaller.{bin_limits}

pub limits_are : record { rows = 256; vertices = 4096; indices = 12288; face = 4095; result_vertices = 8192; result_indices = 24576 } ≡ yard_limits
unfolding yard_limits
limits_are = refl

pub bin_limits_are : record { rows = 64; vertices = 768; indices = 2304; face = 4095; result_vertices = 1024; result_indices = 3072 } ≡ bin_limits
unfolding bin_limits
bin_limits_are = refl

pub lengths : Lengths yard_limits 108 1536 12288 12288 4096 24576 24576 768 1024 1280 430080
unfolding yard_limits of_bodies too_large
lengths =
    record {
      few = refl;
      longest = omega arith;
      table_is = refl;
      coordinates_are = refl;
      indices_are = refl;
      materials_are = refl;
      results_are = refl;
      corners_are = refl;
      parts_are = refl;
      ranges_are = refl;
      failures_are = refl;
      words_are = refl;
    }

pub bin_lengths : Lengths bin_limits 108 384 2304 2304 4096 3072 3072 192 256 320 54272
unfolding bin_limits of_bodies too_large
bin_lengths =
    record {
      few = refl;
      longest = omega arith;
      table_is = refl;
      coordinates_are = refl;
      indices_are = refl;
      materials_are = refl;
      results_are = refl;
      corners_are = refl;
      parts_are = refl;
      ranges_are = refl;
      failures_are = refl;
      words_are = refl;
    }
