-- Places in a list, the stretch between two of them, and which of two lists it is of. Assumes nothing.
use mathlib.Core.Path.{◌≡◌, refl, sym, ap, ◌∙◌, subst}
use mathlib.Core.Bool.{Bool, true, false, ◌&&◌, cond}
use mathlib.Core.List.{List, [], ◌++◌}
use Prim.Native.Nat.{ℕ, ◌+◌, ◌-◌, ◌≤◌, ◌<◌}
use native.Mathlib.Omega.{arith}
use borrow.Author.Tests.{lt-ltb, le-ltb, ltb-true, ltb-false}
use lib.ListN.{length, take, drop, length-drop, drop_of_length-le, get_or-eq_default}
use lib.Seq.{take_all, take-nil}
use lib.Dec.{ltb}
use Rattle.body_rows.specs.Body.{Row, rows_of}
use Rattle.body_rows.specs.Rows.{no_row, row_at, indices_before}
use Rattle.body_rows.specs.Patches.{indices_first, indices_next}
use Rattle.stitch_faces.specs.Faces.{row_indices, is_stitched, face_indices, left_face, copy_face}
use Rattle.stitch_faces.specs.Places.{Place}

-- ---- places

-- n past a place
pub place_on : (n : ℕ) {m end at r : ℕ} → Place m end at → Place (at + n) end r → Place (m + n) end r
place_on n {m} {end} {at} {r} p q =
    record {
      inside = q.inside;
      low = omega (arith, p.low, q.low);
      here = λ l. let e = q.here l in let f = p.here (omega arith) in omega arith;
    }

-- it is not before the place
pub place_order : (n : ℕ) {end at r : ℕ} → at ≤ end → Place (at + n) end r → at ≤ r
place_order n {end} {at} {r} l q = go (ltb r end) refl
  where
    go : (b : Bool) → ltb r end ≡ b → at ≤ r
    go true e = let f = q.here (ltb-true r end e) in omega arith
    go false e = let f = ltb-false r end e in omega arith

-- where the first row's indices start
pub place_first : (table : List ℕ) (end : ℕ) → Place (indices_before (rows_of table) 0) end 0
place_first table end = let e = indices_first (rows_of table) in record { inside = omega arith; low = omega arith; here = λ l. e }

-- where the next row's do
pub place_next : (table : List ℕ) (j : ℕ) {n end at r : ℕ} → Place (indices_before (rows_of table) j) end at → j < length (rows_of table) → n ≡ (row_at table j).indices → Place (at + n) end r
    → Place (indices_before (rows_of table) (j + 1)) end r
place_next table j {n} {end} {at} {r} p h e q =
    let next = indices_next table j h in
    let on = place_on n p q in
    record { inside = on.inside; low = omega (arith, on.low); here = λ l. let f = on.here l in omega arith }

-- all rows before row k are passed
pub place_last : (table : List ℕ) (j k : ℕ) {end at : ℕ} → Place (indices_before (rows_of table) j) end at → j ≤ k → k ≤ j → Place (indices_before (rows_of table) k) end at
place_last table j k {end} {at} p l h = let e : j ≡ k = omega arith in subst (λ (i : ℕ). Place (indices_before (rows_of table) i) end at) e p

-- ---- the stretch between two places

module _ (n : ℕ) {m start stop : ℕ} (xs : List ℕ) (p : Place m (length xs) start) (q : Place (start + n) (length xs) stop) where
  -- it begins at the list's end
  at_end : length xs ≤ start → take (stop - start) (drop start xs) ≡ take n (drop m xs)
  at_end h =
      ap (take (stop - start)) (drop_of_length-le xs h)
      ∙ take-nil (stop - start)
      ∙ sym (ap (take n) (drop_of_length-le xs {i = m} (omega (arith, p.low))) ∙ take-nil n)

  -- it ends there
  to_end : start ≡ m → length xs ≤ stop → take (stop - start) (drop start xs) ≡ take n (drop m xs)
  to_end e h =
      let low : stop ≤ start + n = q.low in
      take_all (stop - start) (drop start xs) (omega (arith, length-drop start xs))
      ∙ ap (λ (i : ℕ). drop i xs) e
      ∙ sym (take_all n (drop m xs) (omega (arith, length-drop m xs)))

  -- it does neither
  amid : start ≡ m → stop ≡ start + n → take (stop - start) (drop start xs) ≡ take n (drop m xs)
  amid e f = let d : stop - start ≡ n = omega arith in λ i. take (d i) (drop (e i) xs)

  -- it is the n numbers from place m on, as far as there are any
  pub stretch_is : take (stop - start) (drop start xs) ≡ take n (drop m xs)
  stretch_is = go (ltb start (length xs)) (ltb stop (length xs)) refl refl
    where
      go : (b c : Bool) → ltb start (length xs) ≡ b → ltb stop (length xs) ≡ c → take (stop - start) (drop start xs) ≡ take n (drop m xs)
      go false c e f = at_end (ltb-false start (length xs) e)
      go true false e f = to_end (p.here (ltb-true start (length xs) e)) (ltb-false stop (length xs) f)
      go true true e f = amid (p.here (ltb-true start (length xs) e)) (q.here (ltb-true stop (length xs) f))

-- row k's indices
pub row_stretch : (table xs : List ℕ) (k : ℕ) {n start stop : ℕ} → Place (indices_before (rows_of table) k) (length xs) start → n ≡ (row_at table k).indices
    → Place (start + n) (length xs) stop → take (stop - start) (drop start xs) ≡ row_indices table xs k
unfolding row_indices
row_stretch table xs k {n} p e q = stretch_is n xs p q ∙ ap (λ (i : ℕ). take i (drop (indices_before (rows_of table) k) xs)) e

-- past the end there is no row
no_row_lem : (table : List ℕ) (k : ℕ) → length (rows_of table) ≤ k → no_row ≡ row_at table k
unfolding row_at
no_row_lem table k h = sym (get_or-eq_default (rows_of table) no_row h)

-- so it has no vertices
pub no_vertices : (table : List ℕ) (k : ℕ) → length (rows_of table) ≤ k → 0 ≡ (row_at table k).vertices
no_vertices table k h = ap (λ (r : Row). r.vertices) (no_row_lem table k h)

-- and no indices
pub no_indices : (table xs : List ℕ) (k : ℕ) → length (rows_of table) ≤ k → [] ≡ row_indices table xs k
unfolding row_indices
no_indices table xs k h = ap (λ (r : Row). take r.indices (drop (indices_before (rows_of table) k) xs)) (no_row_lem table k h)

-- ---- which of the two lists

-- a row of the table is stitched where it has more vertices
pub stitched_by : (before after : List ℕ) (k : ℕ) {n m : ℕ} → k < length (rows_of before) → n ≡ (row_at before k).vertices → m ≡ (row_at after k).vertices → ltb n m ≡ is_stitched before after k
unfolding is_stitched
stitched_by before after k h e f =
    let grown = ltb (row_at before k).vertices (row_at after k).vertices in (λ i. ltb (e i) (f i)) ∙ ap (λ (b : Bool). b && grown) (sym (lt-ltb k (length (rows_of before)) h))

-- none past the end is
pub stitched_none : (before after : List ℕ) (k : ℕ) → length (rows_of before) ≤ k → false ≡ is_stitched before after k
unfolding is_stitched
stitched_none before after k h =
    let grown = ltb (row_at before k).vertices (row_at after k).vertices in ap (λ (b : Bool). b && grown) (sym (le-ltb k (length (rows_of before)) h))

module _ (before after old new : List ℕ) (k : ℕ) {b : Bool} {r : List ℕ} (e : b ≡ is_stitched before after k) where
  -- a stretch of the new list
  pub face_new : b ≡ true → r ≡ row_indices after new k → r ≡ face_indices before after old new k
  unfolding face_indices
  face_new t f = f ∙ sym (ap (λ (c : Bool). cond c (row_indices after new k) (row_indices before old k)) (sym e ∙ t))

  -- a stretch of the old one
  pub face_old : b ≡ false → r ≡ row_indices before old k → r ≡ face_indices before after old new k
  unfolding face_indices
  face_old t f = f ∙ sym (ap (λ (c : Bool). cond c (row_indices after new k) (row_indices before old k)) (sym e ∙ t))

-- the copy of a face's indices, and how many there are
pub face_copied : (out : List ℕ) {is fs new : List ℕ} {n : ℕ} → fs ≡ is → new ≡ take (length out) fs ++ drop (length fs) out → n ≡ length fs → left_face n new ≡ copy_face is out
unfolding copy_face
face_copied out {is} {fs} {new} {n} e f g = (λ i. left_face (g i) (f i)) ∙ (λ i. left_face (length (e i)) (take (length out) (e i) ++ drop (length (e i)) out))
