-- The program's arrays are as long as its limits ask. Assumes nothing.
use mathlib.Core.Path.{◌≡◌, refl}
use native.Mathlib.Omega.{arith}
use Rattle.body_refusals.specs.TableChecks.{too_large}
use Rattle.sheet_line_order.specs.Limits.{bench_limits}
use Rattle.sheet_reader_state.specs.Slices.{of_bodies}
use Rattle.bench_run.specs.Lengths.{Lengths}

pub limits_are : record { rows = 16; vertices = 96; indices = 96; face = 63; result_vertices = 192; result_indices = 192 } ≡ bench_limits
unfolding bench_limits
limits_are = refl

pub lengths : Lengths bench_limits 108 96 288 96 64 576 192 48 64 80 4096
unfolding bench_limits of_bodies too_large
lengths =
    record {
      few = refl;
      longest = omega arith;
      table_is = refl;
      coordinates_are = refl;
      indices_are = refl;
      materials_are = refl;
      results_are = refl;
      corners_are = refl;
      parts_are = refl;
      ranges_are = refl;
      failures_are = refl;
      words_are = refl;
    }
