-- The round trips as what the calls promise: of a file that was written, and of a file that was read. Assumes nothing.
use Rattle.std.specs.Prelude.{◌≡◌, false, cond, List, map, ℕ, ◌≤◌, Float}
use Rattle.lists.specs.Lists.{any}
use Rattle.float_steps.specs.Floats.{bits32}
use Rattle.point_rules.specs.Points.{clamps}
use Rattle.body_rows.specs.Body.{first_failing}
use Rattle.stl_definition.specs.File.{corners_of, triangle_count}
use Rattle.stl_definition.specs.Write.{in_two, mesh_checks, write_of}
use Rattle.stl_definition.specs.Read.{file_corners, most_triangles, ReadSlices, no_room, AfterRead, write_corners, read_of}
use Rattle.stl_definition.specs.ByteLaws.{F32s}
use Rattle.stl_definition.specs.CallLaws.{file_left, mesh_left, indices_left, rewrite_of}
use Rattle.stl_definition.specs.RoundTrip.{read_written, read_bits, write_again, read_again, rewrite_checks}
use Rattle.stl_definition.specs.Rewritten.{Bytes, blanked, rewritten}

-- Up to 32,000 triangles, reading the file of a mesh into slices with room returns the corners of the mesh triangle by triangle, bit by bit, and writing that
-- again returns the same file, whatever slice is lent.
pub record ReadsBack (ps ns : List Float) (is file : List ℕ) : Type 0 where
  pub corners : triangle_count is ≤ most_triangles → (lent : ReadSlices) → no_room (triangle_count is) lent ≡ false
      → read_of file lent ≡ write_corners (triangle_count is) (corners_of 3 ps is) lent
  pub bits : triangle_count is ≤ most_triangles → (lent : ReadSlices) → no_room (triangle_count is) lent ≡ false
      → map bits32 (mesh_left (read_of file lent)).positions ≡ map bits32 (corners_of 3 ps is)
  pub again : triangle_count is ≤ most_triangles → (lent : ReadSlices) → no_room (triangle_count is) lent ≡ false → (out : List ℕ)
      → rewrite_of (read_of file lent) out ≡ write_of (in_two ps ns) is out

-- so does every file that the writer left
pub reads_back : (ps ns : List Float) (is out : List ℕ) → F32s ps → (write_of (in_two ps ns) is out).refusal ≡ 0 → ReadsBack ps ns is (file_left (write_of (in_two ps ns) is out))
reads_back ps ns is out f e =
    record {
      corners = λ few lent room. read_written (in_two ps ns) is out f e few lent room;
      bits = λ few lent room. read_bits (in_two ps ns) is out f e few lent room;
      again = λ few lent room out₂. write_again (in_two ps ns) is out f e few lent room out₂;
    }

-- What was read of a file is refused by the writer's checks only where a corner's cell is clamped, with 24; written, it is the file with its header, normals
-- and last two bytes made zero; and reading that is reading the file.
pub record WritesBack (file : List ℕ) (r : AfterRead) : Type 0 where
  pub checks : first_failing (mesh_checks (mesh_left r) (indices_left r)) ≡ cond (any clamps (file_corners file)) 24 0
  pub bytes : (out : List ℕ) → (rewrite_of r out).refusal ≡ 0 → file_left (rewrite_of r out) ≡ blanked file
  pub again : (out : List ℕ) → (rewrite_of r out).refusal ≡ 0 → (lent : ReadSlices) → read_of (file_left (rewrite_of r out)) lent ≡ read_of file lent

-- so is it of every file that the reader took
pub writes_back : (file : List ℕ) (lent : ReadSlices) → Bytes file → (read_of file lent).refusal ≡ 0 → WritesBack file (read_of file lent)
writes_back file lent b e =
    record {
      checks = rewrite_checks file lent e;
      bytes = λ out q. rewritten file lent b e out q;
      again = λ out q lent₂. read_again file lent e out q lent₂;
    }
