-- The slices that stitch is lent, checks 33 and 32, and the stitched body written to them or refused. Assumes nothing.
use Rattle.std.specs.Prelude.{true, false, ◌||◌, ℕ, ◌*◌, length, ltb, eqb, Float}
use mathlib.Core.List.{List, [], ◌∷◌, map, flat_map}
use Rattle.lists.specs.Lists.{written}
use Rattle.body_rows.specs.Body.{row_width, Row, Check, check, table_of, first_failing, all_vertices, all_indices, cleared}
use Rattle.body_refusals.specs.TableChecks.{too_large}
use Rattle.stitch_definition.specs.StitchedBody.{StitchedBody}

-- the slices that stitch is lent
pub record StitchSlices : Type 0 where
  pub table : List ℕ
  pub positions : List Float
  pub normals : List Float
  pub indices : List ℕ
  pub work : List ℕ

-- what stitch answers (the refusal's number or 0; V, I and the splits) and what it leaves in the lent slices
pub record AfterStitch : Type 0 where
  pub refusal : ℕ
  pub vertices : ℕ
  pub indices : ℕ
  pub splits : ℕ
  pub slices : StitchSlices

-- 33, then 32: the stitched V or I passes the limit of 13; an output slice is shorter than the stitched body needs
unfoldable pub stitch_checks : List Row → StitchSlices → List Check
stitch_checks rows out =
    let v = all_vertices rows in
    let i = all_indices rows in
    check 33 (too_large v i)
    ∷ check 32 (ltb (length out.table) (row_width * length rows) || ltb (length out.positions) (3 * v) || ltb (length out.normals) (3 * v) || ltb (length out.indices) i)
    ∷ []

-- the stitched body written to the slices, output beyond the written part unchanged
unfoldable pub write_body : List Row → StitchedBody → StitchSlices → AfterStitch
write_body rows s out =
    record {
      refusal = 0;
      vertices = all_vertices rows;
      indices = all_indices rows;
      splits = s.splits;
      slices = record {
        table = written (table_of rows) out.table;
        positions = written (flat_map (λ p. p.positions) s.patches) out.positions;
        normals = written (flat_map (λ p. p.normals) s.patches) out.normals;
        indices = written (flat_map (λ p. p.indices) s.patches) out.indices;
        work = out.work;
      };
    }

-- A refusal is its number only; the slices are unchanged.
unfoldable pub refuse_stitch : ℕ → StitchSlices → AfterStitch
refuse_stitch n out = record { refusal = n; vertices = 0; indices = 0; splits = 0; slices = out }

-- the slices with the words of 31 cleared
unfoldable pub cleared_slices : List Row → StitchSlices → StitchSlices
cleared_slices rows out =
    record { table = out.table; positions = out.positions; normals = out.normals; indices = out.indices; work = cleared rows out.work }

-- the call for a body that passed the checks up to 31, its stitched body being s
unfoldable pub stitch_or_refuse : StitchedBody → StitchSlices → AfterStitch
stitch_or_refuse s out =
    let rows = map (λ p. p.row) s.patches in
    let n = first_failing (stitch_checks rows out) in
    elim (eqb n 0) [ true ↦ write_body rows s out | false ↦ refuse_stitch n out ]
