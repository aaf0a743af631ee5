-- The limits of the programs. Assumes nothing.
use Rattle.sheet_line_order.specs.declared.Limits.{Limits}

-- The bench program takes 16 rows, 96 vertices, 96 indices, face numbers to 63, results to 192 vertices and 192 indices.
unfoldable pub bench_limits : Limits
bench_limits = record { rows = 16; vertices = 96; indices = 96; face = 63; result_vertices = 192; result_indices = 192 }

-- The yard program takes 256 rows, 4,096 vertices, 12,288 indices, face numbers to 4,095, results to 8,192 vertices and 24,576 indices.
unfoldable pub yard_limits : Limits
yard_limits = record { rows = 256; vertices = 4096; indices = 12288; face = 4095; result_vertices = 8192; result_indices = 24576 }
