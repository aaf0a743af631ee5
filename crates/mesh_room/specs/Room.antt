-- What check 41 asks of the lengths of the lent slices, and which of 42 and 41 fails first. Assumes nothing.
use Rattle.std.specs.Prelude.{◌≡◌, refl, Bool, true, false, ◌||◌, List, ℕ, ◌*◌, ◌≤◌, length}
use Rattle.std.proofs.Math.Path.{ap}
use Rattle.std.proofs.Math.Bool.{cond}
use Rattle.std.proofs.Math.Dec.{ltb}
use borrow.Author.Tests.{ltb-false}
use Rattle.lists.specs.Both.{or_left, or_right}
use Rattle.body_rows.specs.Body.{first_failing}
use Rattle.mesh_acceptance.specs.Acceptance.{failure_width, Accepted, accepted_vertices, accepted_indices}
use Rattle.mesh_materials.specs.Materials.{bad_materials}
use Rattle.mesh_layout.specs.Mesh.{part_width, range_width}
use Rattle.mesh_room.specs.Slices.{MeshSlices, too_short, mesh_too_short, mesh_checks}

-- sizes whose needs can be counted
pub record RoomAsked (vertices m : ℕ) : Type 0 where
  pub few_vertices : vertices ≤ 262144
  pub few_rows : m ≤ 4096

-- slices of these lengths are too short for so many vertices and indices, or a table for m rows
unfoldable pub short_by : ℕ → ℕ → ℕ → ℕ → ℕ → ℕ → ℕ → ℕ → ℕ → Bool
short_by v i m p n is parts ranges failures = (ltb p (3 * v) || ltb n (3 * v)) || ltb is i || ltb parts (part_width * m) || ltb ranges (range_width * m) || ltb failures (failure_width * m)

-- that is check 41
pub short_is : (m : ℕ) (accepted : List Accepted) (out : MeshSlices)
    → mesh_too_short m accepted out ≡ short_by (accepted_vertices accepted) (accepted_indices accepted) m (length out.vertices.positions) (length out.vertices.normals) (length out.indices)
    (length out.parts) (length out.ranges) (length out.failures)
unfolding mesh_too_short too_short short_by
short_is m accepted out = refl

-- ---- 42, then 41

module _ (F : ℕ) (materials : List ℕ) (default : ℕ) (accepted : List Accepted) (out : MeshSlices) where
  pub fails_42 : bad_materials materials default ≡ true → first_failing (mesh_checks F materials default accepted out) ≡ 42
  unfolding mesh_checks first_failing
  fails_42 e = ap (λ (b : Bool). cond b 42 (cond (mesh_too_short F accepted out) 41 0)) e

  pub fails_41 : bad_materials materials default ≡ false → mesh_too_short F accepted out ≡ true → first_failing (mesh_checks F materials default accepted out) ≡ 41
  unfolding mesh_checks first_failing
  fails_41 e f = λ j. cond (e j) 42 (cond (f j) 41 0)

  pub fails_none : bad_materials materials default ≡ false → mesh_too_short F accepted out ≡ false → first_failing (mesh_checks F materials default accepted out) ≡ 0
  unfolding mesh_checks first_failing
  fails_none e f = λ j. cond (e j) 42 (cond (f j) 41 0)

-- ---- a slice that is not too short

module _ (v i m p n is parts ranges failures : ℕ) where
  -- slices that are long enough
  pub record Fits : Type 0 where
    pub positions : 3 * v ≤ p
    pub normals : 3 * v ≤ n
    pub indices : i ≤ is
    pub parts_fit : part_width * m ≤ parts
    pub ranges_fit : range_width * m ≤ ranges
    pub failures_fit : failure_width * m ≤ failures

  -- if none is too short
  pub fits : short_by v i m p n is parts ranges failures ≡ false → Fits
  unfolding short_by
  fits h =
      let a = or_left ((ltb p (3 * v) || ltb n (3 * v)) || ltb is i || ltb parts (part_width * m) || ltb ranges (range_width * m)) (ltb failures (failure_width * m)) h in
      let b = or_left ((ltb p (3 * v) || ltb n (3 * v)) || ltb is i || ltb parts (part_width * m)) (ltb ranges (range_width * m)) a in
      let c = or_left ((ltb p (3 * v) || ltb n (3 * v)) || ltb is i) (ltb parts (part_width * m)) b in
      let d = or_left (ltb p (3 * v) || ltb n (3 * v)) (ltb is i) c in
      record {
        positions = ltb-false p (3 * v) (or_left (ltb p (3 * v)) (ltb n (3 * v)) d);
        normals = ltb-false n (3 * v) (or_right (ltb p (3 * v)) (ltb n (3 * v)) d);
        indices = ltb-false is i (or_right (ltb p (3 * v) || ltb n (3 * v)) (ltb is i) c);
        parts_fit = ltb-false parts (part_width * m) (or_right ((ltb p (3 * v) || ltb n (3 * v)) || ltb is i) (ltb parts (part_width * m)) b);
        ranges_fit = ltb-false ranges (range_width * m) (or_right ((ltb p (3 * v) || ltb n (3 * v)) || ltb is i || ltb parts (part_width * m)) (ltb ranges (range_width * m)) a);
        failures_fit = ltb-false failures (failure_width * m)
            (or_right ((ltb p (3 * v) || ltb n (3 * v)) || ltb is i || ltb parts (part_width * m) || ltb ranges (range_width * m)) (ltb failures (failure_width * m)) h);
      }
