-- The smaller limits in whose arrays the yard program finishes most bodies. Assumes nothing.
use Rattle.std.specs.Prelude.{true, ◌≡◌, refl}
use Rattle.std.proofs.Common.{arith}
use Rattle.body_refusals.specs.TableChecks.{too_large}
use Rattle.sheet_line_order.specs.declared.Limits.{Limits}
use Rattle.sheet_line_order.specs.Limits.{yard_limits}
use Rattle.sheet_reader_state.specs.Slices.{of_bodies}
use Rattle.bench_agreement.specs.Within.{Spacious, Within}

-- 64 rows, 768 vertices, 2,304 indices, results to 1,024 vertices and 3,072 indices; face numbers as the yard program takes them
unfoldable pub bin_limits : Limits
bin_limits = record { rows = 64; vertices = 768; indices = 2304; face = 4095; result_vertices = 1024; result_indices = 3072 }

-- None is above the yard program's.
pub bin_within : Within bin_limits yard_limits
unfolding bin_limits yard_limits
bin_within = omega arith

-- Results may be as large as bodies.
pub bin_spacious : Spacious bin_limits
unfolding bin_limits
bin_spacious = omega arith

-- The face numbers are the same.
pub bin_faces : bin_limits.face ≡ yard_limits.face
unfolding bin_limits yard_limits
bin_faces = refl

-- A body may be as large as the yard program takes it.
pub yard_bodies : of_bodies yard_limits ≡ true
unfolding of_bodies too_large yard_limits
yard_bodies = refl
