-- The sheet that was read, its bits as floats. Assumes nothing.
use Rattle.std.specs.Prelude.{List, ℕ}
use Rattle.float_steps.specs.Floats.{f64}
use Rattle.patch_geometry.specs.declared.Aabb.{Aabb}
use Rattle.bench_definition.specs.Finish.{Sheet}
use Rattle.sheet_line_order.specs.Reading.{Patterns, at}

-- box (minimum, maximum)
unfoldable pub box_of : List ℕ → Aabb
box_of ns =
    record {
      min = record { x = f64 (at ns 0); y = f64 (at ns 1); z = f64 (at ns 2) };
      max = record { x = f64 (at ns 3); y = f64 (at ns 4); z = f64 (at ns 5) };
    }

-- the sheet with its box and sag as floats; positions and normals become floats where the body is turned
unfoldable pub meant : Patterns → Sheet
meant x =
    record {
      box = box_of x.box;
      sag = f64 x.sag;
      default = x.default;
      materials = x.materials;
      table = x.table;
      positions = x.positions;
      normals = x.normals;
      indices = x.indices;
    }
