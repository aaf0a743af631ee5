-- Laws of the volume of a row and of a group. Assumes nothing.
use mathlib.Core.Path.{◌≡◌, refl, sym, ap, ◌∙◌, subst}
use mathlib.Core.Bool.{Bool}
use mathlib.Core.List.{List, ◌∷◌}
use Prim.Native.Nat.{ℕ, suc, ◌+◌, ◌-◌, ◌*◌, ◌≤◌, ◌<◌}
use native.Mathlib.Omega.{arith}
use lib.ListN.{length, get_or, take, drop, length-take, length-drop, drop_of_length-le}
use lib.Seq.{get_or-take, get_or-drop, length-take-le, drop-cons}
use lib.Dec.{eqb}
use lib.Ieee.{Float}
use borrow.Author.Tests.{eq-eqb, ne_eqb}
use Rattle.body_rows.specs.Patches.{shapes}
use Rattle.lists.specs.Lists.{sum_of}
use Rattle.body_rows.specs.Body.{Patch, rows_of}
use Rattle.body_rows.specs.Rows.{row_at, vertices_before, indices_before}
use Rattle.patch_measures.specs.Volume.{CornersInside, patch_volume}
use Rattle.patch_geometry.specs.Geometry.{add, zero64}
use Rattle.turn_walk.specs.Walk.{unvisited}
use Rattle.turn_walk.specs.Group.{queue_of, Queue}
use Rattle.turn_definition.specs.Inversion.{patch_at, volume_from}
use Rattle.turn_inversion.specs.Measured.{vertex_bases_at, index_bases_at, RowMeasurable, weight_of}
use Rattle.turn_inversion.specs.RowPatch.{row_in, v_is, i_is, v_room, patch_is}

-- ---- one row

module _ {table : List ℕ} {ps : List Float} {is W : List ℕ} {n m x : ℕ} (r : RowMeasurable table ps is W n m x) {vs count : ℕ} (evs : vs ≡ (row_at table x).vertices)
    (ecount : count ≡ (row_at table x).indices) where
  abbrev v : ℕ
  v = 3 * get_or W (vertex_bases_at n m + x) 0

  abbrev vend : ℕ
  vend = 3 * get_or W (vertex_bases_at n m + x) 0 + 3 * vs

  abbrev i : ℕ
  i = get_or W (index_bases_at n m + x) 0

  abbrev iend : ℕ
  iend = get_or W (index_bases_at n m + x) 0 + count

  positions_are : take (vend - v) (drop v ps) ≡ (patch_at (shapes table ps is) x).positions
  positions_are =
      let a : vend - v ≡ 3 * (row_at table x).vertices = omega arith in
      let b : v ≡ 3 * vertices_before (rows_of table) x = omega (arith, v_is r) in
      ap (λ k. take k (drop v ps)) a ∙ ap (λ k. take (3 * (row_at table x).vertices) (drop k ps)) b ∙ sym (ap (λ (p : Patch). p.positions) (patch_is r))

  indices_are : take (iend - i) (drop i is) ≡ (patch_at (shapes table ps is) x).indices
  indices_are =
      let a : iend - i ≡ (row_at table x).indices = omega arith in
      let b : i ≡ indices_before (rows_of table) x = omega (arith, i_is r) in
      ap (λ k. take k (drop i is)) a ∙ ap (λ k. take (row_at table x).indices (drop k is)) b ∙ sym (ap (λ (p : Patch). p.indices) (patch_is r))

  pub row_within : CornersInside (take (3 * get_or W (vertex_bases_at n m + x) 0 + 3 * vs - 3 * get_or W (vertex_bases_at n m + x) 0) (drop (3 * get_or W (vertex_bases_at n m + x) 0) ps))
      (take (get_or W (index_bases_at n m + x) 0 + count - get_or W (index_bases_at n m + x) 0) (drop (get_or W (index_bases_at n m + x) 0) is))
  row_within k h =
      let a : vend - v ≡ 3 * (row_at table x).vertices = omega arith in
      let b : iend - i ≡ (row_at table x).indices = omega arith in
      let l : length (take (vend - v) (drop v ps)) ≡ vend - v = length-take-le (vend - v) (drop v ps) (omega (arith, length-drop v ps, v_room r)) in
      let j : k < (row_at table x).indices = omega (arith, length-take (iend - i) (drop i is)) in
      let q : indices_before (rows_of table) x + k ≡ i + k = omega (arith, i_is r) in
      let low : get_or is (i + k) 0 < (row_at table x).vertices = subst (λ z. get_or is z 0 < (row_at table x).vertices) q (r.given.inside x k (row_in r) j) in
      let e : get_or (take (iend - i) (drop i is)) k 0 ≡ get_or is (i + k) 0 = get_or-take (iend - i) (drop i is) k 0 (omega arith) ∙ get_or-drop i is k 0 in
      omega (arith, l, a, low, e)

  pub row_volume_is : (flip : Bool) {z : Float} → z ≡ patch_volume (take (3 * get_or W (vertex_bases_at n m + x) 0 + 3 * vs - 3 * get_or W (vertex_bases_at n m + x) 0)
      (drop (3 * get_or W (vertex_bases_at n m + x) 0) ps)) (take (get_or W (index_bases_at n m + x) 0 + count - get_or W (index_bases_at n m + x) 0) (drop (get_or W (index_bases_at n m + x) 0) is)) flip
      → z ≡ patch_volume (patch_at (shapes table ps is) x).positions (patch_at (shapes table ps is) x).indices flip
  row_volume_is flip {z} e = e ∙ ap (λ q. patch_volume q (take (iend - i) (drop i is)) flip) positions_are ∙ ap (λ q. patch_volume (patch_at (shapes table ps is) x).positions q flip) indices_are

-- ---- a group

-- the row after the first k of the queue
module _ {W : List ℕ} {n m t k : ℕ} (q : Queue n m t W) (room : 5 * n + 3 * m ≤ length W) (more : k < t) where
  pub queue_row : get_or W (5 * n + m + k) 0 < m
  queue_row = q.rows k more

  pub queue_here : drop k (queue_of n m t W) ≡ get_or W (5 * n + m + k) 0 ∷ drop (k + 1) (queue_of n m t W)
  queue_here =
      let l : length (queue_of n m t W) ≡ t = length-take-le t (drop (5 * n + m) W) (omega (arith, length-drop (5 * n + m) W, q.low)) in
      let e : suc k ≡ k + 1 = omega arith in
      drop-cons (queue_of n m t W) k 0 (omega (arith, l))
      ∙ ap (λ j. get_or (queue_of n m t W) k 0 ∷ drop j (queue_of n m t W)) e
      ∙ ap (λ y. y ∷ drop (k + 1) (queue_of n m t W)) (get_or-take t (drop (5 * n + m) W) k 0 more ∙ get_or-drop (5 * n + m) W k 0)

-- the rest of a sum of volumes, with the rows before the k-th added up to v
pub record Summing (patches : List Patch) (colours queue : List ℕ) (k : ℕ) (v : Float) : Type 0 where
  pub rest : volume_from patches colours v (drop k queue) ≡ volume_from patches colours zero64 queue

pub summing_none : (patches : List Patch) (colours queue : List ℕ) → Summing patches colours queue 0 zero64
summing_none patches colours queue = record { rest = refl }

pub summing_more : {patches : List Patch} {colours queue : List ℕ} {k x y c : ℕ} {v z : Float} → Summing patches colours queue k v
    → drop k queue ≡ y ∷ drop (k + 1) queue → x ≡ y → c ≡ get_or colours x unvisited → z ≡ patch_volume (patch_at patches x).positions (patch_at patches x).indices (eqb c 2)
    → Summing patches colours queue (k + 1) (add v z)
unfolding volume_from
summing_more {patches} {colours} {queue} {k} {x} {y} {c} {v} {z} s e ex ec ez =
    record {
      rest =
          ap (λ q. volume_from patches colours (add v q) (drop (k + 1) queue)) (ez ∙ ap (λ d. patch_volume (patch_at patches x).positions (patch_at patches x).indices (eqb d 2)) ec)
          ∙ ap (λ q. volume_from patches colours v (q ∷ drop (k + 1) queue)) ex
          ∙ ap (volume_from patches colours v) (sym e)
          ∙ s.rest;
    }

pub summing_all : {patches : List Patch} {colours queue : List ℕ} {k : ℕ} {v : Float} → Summing patches colours queue k v → length queue ≤ k → v ≡ volume_from patches colours zero64 queue
unfolding volume_from
summing_all {patches} {colours} {queue} {k} {v} s l = ap (volume_from patches colours v) (sym (drop_of_length-le queue l)) ∙ s.rest

pub queue_long : (n m t : ℕ) (W : List ℕ) {k : ℕ} → t ≤ k → length (queue_of n m t W) ≤ k
queue_long n m t W h = omega (arith, length-take t (drop (5 * n + m) W))

-- ---- weighing

pub weight_yes : (table colours : List ℕ) (x : ℕ) {c d r : ℕ} → d ≡ get_or colours x unvisited → d ≡ c → r ≡ (row_at table x).indices → r ≡ weight_of table colours c x
weight_yes table colours x {c} {d} {r} ed ec er = rw (eq-eqb (get_or colours x unvisited) c (sym ed ∙ ec)) er

pub weight_no : (table colours : List ℕ) (x : ℕ) {c d : ℕ} → d ≡ get_or colours x unvisited → (d ≡ c → ⊥) → 0 ≡ weight_of table colours c x
weight_no table colours x {c} {d} ed ec = rw (ne_eqb (get_or colours x unvisited) c (λ z. ec (ed ∙ z)))

-- the rest of a sum of weights, with the rows before the k-th added up to `sum`
pub record Weighing (table colours queue : List ℕ) (c k sum : ℕ) : Type 0 where
  pub rest : sum + sum_of (weight_of table colours c) (drop k queue) ≡ sum_of (weight_of table colours c) queue
  pub low : sum ≤ k * 4294967296

pub weighing_none : (table colours queue : List ℕ) (c : ℕ) → Weighing table colours queue c 0 0
weighing_none table colours queue c = record { rest = omega arith; low = omega arith }

pub weighing_more : {table colours queue : List ℕ} {c k x y r sum : ℕ} → Weighing table colours queue c k sum → drop k queue ≡ y ∷ drop (k + 1) queue → x ≡ y → r ≡ weight_of table colours c x
    → r < 4294967296
    → Weighing table colours queue c (k + 1) (sum + r)
unfolding sum_of
weighing_more {table} {colours} {queue} {c} {k} {x} {y} {r} {sum} w e ex er l =
    record { rest = omega (arith, w.rest, ap (sum_of (weight_of table colours c)) e, er ∙ ap (weight_of table colours c) ex); low = omega (arith, w.low) }

pub weighing_all : {table colours queue : List ℕ} {c k sum : ℕ} → Weighing table colours queue c k sum → length queue ≤ k → sum ≡ sum_of (weight_of table colours c) queue
unfolding sum_of
weighing_all {table} {colours} {queue} {c} {k} {sum} w l = omega (arith, w.rest, ap (sum_of (weight_of table colours c)) (drop_of_length-le queue l))
