-- Laws of joining the rows by face number. Assumes nothing.
use mathlib.Core.Path.{◌≡◌, refl, sym, ap, ◌∙◌, subst}
use mathlib.Core.List.{List, [], ◌∷◌, ◌++◌, append_assoc}
use Prim.Native.Nat.{ℕ, zero, suc, ◌+◌, ◌*◌, ◌≤◌, ◌<◌}
use native.Mathlib.Nat.{le_antisymm, not-suc-le-zero, le_of_suc-le-suc}
use native.Mathlib.Numerals.{add-one}
use native.Mathlib.Omega.{arith}
use borrow.Author.Count.{below_more}
use lib.ListN.{length, get_or, take, drop, set, length-set, length-map}
use lib.Seq.{paste, paste-zero, paste-suc, drop-paste, length-take-le, take_all, take_at, drop_at}
use Rattle.lists.specs.Stretches.{rest_less}
use Rattle.body_rows.specs.Body.{Row, rows_of}
use Rattle.body_rows.specs.Rows.{no_row, row_at}
use Rattle.join_definition.specs.Join.{joined, JoinedAt}
use Rattle.report_audit.specs.Faces.{faces_of, FacesReady, FacesListed, FacesJoined}

-- a number for each row
pub faces_long : (rows : List Row) → length (faces_of rows) ≡ length rows
faces_long rows = length-map rows (λ r. r.face)

-- the number of row k
face_at : (rows : List Row) (k : ℕ) → k < length rows → get_or (faces_of rows) k 0 ≡ (get_or rows k no_row).face
face_at [] k h = absurd (not-suc-le-zero h)
face_at (r ∷ rs) zero h = refl
face_at (r ∷ rs) (suc k) h = face_at rs k (le_of_suc-le-suc h)

-- the numbers of the rows before row k are written: W became E
pub record Listing (table W : List ℕ) (at k : ℕ) (E : List ℕ) : Type 0 where
  pub low : k ≤ length (rows_of table)
  pub list : E ≡ paste W at (faces_of (rows_of table)) k
  pub small : (q : ℕ) → q < k → get_or (faces_of (rows_of table)) q 0 < 4294967296
  pub long : length E ≡ length W

-- none is written yet
pub listing_none : (table W : List ℕ) (at : ℕ) → Listing table W at 0 W
listing_none table W at = record { low = omega arith; list = paste-zero W at (faces_of (rows_of table)); small = λ q h. absurd (omega arith); long = refl }

-- one more is
pub listing_more : {table W E : List ℕ} {at m k s : ℕ} → FacesReady table W at → m ≡ length (rows_of table) → Listing table W at k E → k < m → s ≡ (row_at table k).face → s < 4294967296
    → Listing table W at (k + 1) (set E (at + k) s)
unfolding row_at
listing_more {table} {W} {E} {at} {m} {k} {s} r c n h e narrow =
    let l : k < length (rows_of table) = omega arith in
    let here : s ≡ get_or (faces_of (rows_of table)) k 0 = e ∙ sym (face_at (rows_of table) k l) in
    record {
      low = omega arith;
      list =
          ap (λ (x : ℕ). set E (at + k) x) here
          ∙ ap (λ (v : List ℕ). set v (at + k) (get_or (faces_of (rows_of table)) k 0)) n.list
          ∙ rw add-one (paste-suc W at (faces_of (rows_of table)) k 0 (omega (arith, r.room, faces_long (rows_of table))) (omega (arith, r.room, faces_long (rows_of table))));
      small = below_more (λ (q : ℕ). get_or (faces_of (rows_of table)) q 0 < 4294967296) k n.small (omega arith);
      long = simp length-set n.long;
    }

-- all are
pub listing_all : {table W E : List ℕ} {at c k : ℕ} → FacesReady table W at → c ≡ length (rows_of table) → Listing table W at k E → c ≤ k → FacesListed table at W E
listing_all {table} {W} {E} {at} {c} {k} r e n h =
    let l : length (rows_of table) ≤ k = omega arith in
    let m = length (rows_of table) in
    let S = faces_of (rows_of table) in
    let long = faces_long (rows_of table) in
    let is : E ≡ paste W at S m = subst (λ (j : ℕ). E ≡ paste W at S j) (le_antisymm n.low l) n.list in
    let whole : take m S ≡ S = take_all m S (omega arith) in
    let front : length (take at W) ≡ at = length-take-le at W (omega (arith, r.room)) in
    record {
      faces =
          ap (λ (v : List ℕ). take m (drop at v)) is
          ∙ ap (take m) (ap (drop at) (append_assoc (take at W) (take m S) (drop (at + m) W)) ∙ drop_at (take at W) (take m S ++ drop (at + m) W) at front)
          ∙ take_at (take m S) (drop (at + m) W) m (ap length whole ∙ long)
          ∙ whole;
      narrow = record { small = λ q p. n.small q (omega arith) };
      front = ap (take at) is ∙ ap (take at) (append_assoc (take at W) (take m S) (drop (at + m) W)) ∙ take_at (take at W) (take m S ++ drop (at + m) W) at front;
      rest = ap (drop (at + m)) is ∙ drop-paste W at S m (omega (arith, r.room)) (omega arith);
    }

-- the rows are joined by their numbers
pub faces_joined : {table W X E : List ℕ} {at m : ℕ} → m ≡ length (rows_of table) → FacesListed table at W X → JoinedAt at m X E → FacesJoined table at W E
faces_joined {table} {W} {X} {E} {at} {m} c s i =
    let j : JoinedAt at (length (rows_of table)) X E = subst (λ (k : ℕ). JoinedAt at k X E) c i in
    record {
      faces = j.names ∙ s.faces;
      heads = j.reps ∙ ap joined s.faces;
      narrow = s.narrow;
      front = j.front ∙ s.front;
      rest = j.rest ∙ rest_less (at + length (rows_of table)) (at + 4 * length (rows_of table)) W X s.rest (omega arith);
    }
