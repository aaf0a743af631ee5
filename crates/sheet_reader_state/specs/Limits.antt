-- What the test of the limits gives. Assumes nothing.
use Rattle.std.specs.Prelude.{true, ◌≡◌, ℕ, ◌*◌, ◌≤◌, ◌<◌, leb, ltb}
use Rattle.std.proofs.Common.{le-leb, leb-true, lt-ltb, ltb-false, ltb-true}
use Rattle.std.proofs.lemmas.Bool.{not-true}
use Rattle.body_rows.specs.Body.{row_width}
use Rattle.body_refusals.specs.TableChecks.{most_indices, most_rows, most_vertices, too_large}
use Rattle.sheet_line_order.specs.declared.Limits.{Limits}
use Rattle.sheet_reader_state.specs.declared.Reader.{Reader}
use Rattle.sheet_reader_state.specs.Slices.{counts_in, in_limits, of_bodies, room_for}
use Rattle.lists.specs.Both.{and_left, and_right, or_left, or_right}

-- limits that a body may have
pub record Small (limits : Limits) : Type 0 where
  pub rows : limits.rows ≤ most_rows
  pub vertices : limits.vertices ≤ most_vertices
  pub indices : limits.indices ≤ most_indices

pub small : (limits : Limits) → of_bodies limits ≡ true → Small limits
unfolding of_bodies too_large
small limits e =
    let few = not-true (too_large limits.vertices limits.indices) (and_right (leb limits.rows most_rows) _ e) in
    record {
      rows = leb-true limits.rows most_rows (and_left _ _ e);
      vertices = ltb-false most_vertices limits.vertices (or_left _ (ltb most_indices limits.indices) few);
      indices = ltb-false most_indices limits.indices (or_right (ltb most_vertices limits.vertices) _ few);
    }

-- slices of these lengths have room for so much
pub record SheetRoom (limits : Limits) (t p n i m : ℕ) : Type 0 where
  pub table : row_width * limits.rows ≤ t
  pub positions : 3 * limits.vertices ≤ p
  pub normals : 3 * limits.vertices ≤ n
  pub indices : limits.indices ≤ i
  pub materials : limits.face < m

pub sheet_room : (limits : Limits) (t p n i m : ℕ) → room_for limits t p n i m ≡ true → SheetRoom limits t p n i m
unfolding room_for
sheet_room limits t p n i m e0 =
    let e1 = and_right (leb (row_width * limits.rows) t) _ e0 in
    let e2 = and_right (leb (3 * limits.vertices) p) _ e1 in
    let e3 = and_right (leb (3 * limits.vertices) n) _ e2 in
    record {
      table = leb-true (row_width * limits.rows) t (and_left _ _ e0);
      positions = leb-true (3 * limits.vertices) p (and_left _ _ e1);
      normals = leb-true (3 * limits.vertices) n (and_left _ _ e2);
      indices = leb-true limits.indices i (and_left _ _ e3);
      materials = ltb-true limits.face m (and_right (leb limits.indices i) _ e3);
    }

pub room_holds : (limits : Limits) (t p n i m : ℕ) → SheetRoom limits t p n i m → room_for limits t p n i m ≡ true
unfolding room_for
room_holds limits t p n i m v =
    rw (
      le-leb (row_width * limits.rows) t v.table,
      le-leb (3 * limits.vertices) p v.positions,
      le-leb (3 * limits.vertices) n v.normals,
      le-leb limits.indices i v.indices,
      lt-ltb limits.face m v.materials,
    )

pub counts_hold : (limits : Limits) (rows vertices indices : ℕ) → rows ≤ limits.rows → vertices ≤ limits.vertices → indices ≤ limits.indices → counts_in limits rows vertices indices ≡ true
unfolding counts_in
counts_hold limits rows vertices indices a b c = rw (le-leb rows limits.rows a, le-leb vertices limits.vertices b, le-leb indices limits.indices c)

-- the limits are a body's, slices of these lengths have room for them, and the reader counts no more
pub record Limited (r : Reader) (t p n i m : ℕ) : Type 0 where
  pub few : Small r.limits
  pub room : SheetRoom r.limits t p n i m
  pub rows : r.rows ≤ r.limits.rows
  pub vertices : r.vertices ≤ r.limits.vertices
  pub counted : r.indices ≤ r.limits.indices

pub limited : (r : Reader) (t p n i m : ℕ) → in_limits r t p n i m ≡ true → Limited r t p n i m
unfolding in_limits counts_in
limited r t p n i m e0 =
    let l : Limits = r.limits in
    let e1 = and_right (of_bodies l) _ e0 in
    let e2 = and_right (room_for l t p n i m) _ e1 in
    let e3 = and_right (leb r.rows l.rows) _ e2 in
    record {
      few = small l (and_left _ _ e0);
      room = sheet_room l t p n i m (and_left _ _ e1);
      rows = leb-true r.rows l.rows (and_left _ _ e2);
      vertices = leb-true r.vertices l.vertices (and_left _ _ e3);
      counted = leb-true r.indices l.indices (and_right (leb r.vertices l.vertices) _ e3);
    }
