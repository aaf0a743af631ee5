-- Laws of joining the rows by shell. Assumes nothing.
use mathlib.Core.Path.{◌≡◌, refl, sym, ap, ◌∙◌, subst}
use mathlib.Core.List.{List, [], ◌∷◌, ◌++◌, append_assoc}
use Prim.Native.Nat.{ℕ, zero, suc, ◌+◌, ◌*◌, ◌≤◌, ◌<◌}
use native.Mathlib.Nat.{le_antisymm, not-suc-le-zero, le_of_suc-le-suc}
use native.Mathlib.Numerals.{add-one}
use native.Mathlib.Omega.{arith}
use lib.ListN.{length, get_or, take, drop, set, length-set, length-map}
use lib.Seq.{paste, paste-zero, paste-suc, drop-paste, length-take-le, take_all, take_at, drop_at}
use Rattle.lists.specs.Stretches.{rest_less}
use Rattle.body_rows.specs.Body.{Row, rows_of}
use Rattle.body_rows.specs.Rows.{no_row, row_at}
use Rattle.join_definition.specs.Join.{joined, JoinedAt}
use Rattle.turn_pairs.specs.Laid.{shells_of, ShellsRoom, ShellsListed, ShellsJoined}

-- a number for each row
shells_long : (rows : List Row) → length (shells_of rows) ≡ length rows
shells_long rows = length-map rows (λ r. r.shell)

-- the number of row k
pub shell_at : (rows : List Row) (k : ℕ) → k < length rows → get_or (shells_of rows) k 0 ≡ (get_or rows k no_row).shell
shell_at [] k h = absurd (not-suc-le-zero h)
shell_at (r ∷ rs) zero h = refl
shell_at (r ∷ rs) (suc k) h = shell_at rs k (le_of_suc-le-suc h)

-- the numbers of the rows before row k are written: W became E
pub record Listing (table W : List ℕ) (at k : ℕ) (E : List ℕ) : Type 0 where
  pub low : k ≤ length (rows_of table)
  pub list : E ≡ paste W at (shells_of (rows_of table)) k
  pub long : length E ≡ length W

-- none is written yet
pub listing_none : (table W : List ℕ) (at : ℕ) → Listing table W at 0 W
listing_none table W at = record { low = omega arith; list = paste-zero W at (shells_of (rows_of table)); long = refl }

-- one more is
pub listing_more : {table W E : List ℕ} {at m k s : ℕ} → ShellsRoom table W at → m ≡ length (rows_of table) → Listing table W at k E → k < m → s ≡ (row_at table k).shell
    → Listing table W at (k + 1) (set E (at + k) s)
unfolding row_at
listing_more {table} {W} {E} {at} {m} {k} {s} r c n h e =
    let l : k < length (rows_of table) = omega arith in
    record {
      low = omega arith;
      list =
          ap (λ (x : ℕ). set E (at + k) x) (e ∙ sym (shell_at (rows_of table) k l))
          ∙ ap (λ (v : List ℕ). set v (at + k) (get_or (shells_of (rows_of table)) k 0)) n.list
          ∙ rw add-one (paste-suc W at (shells_of (rows_of table)) k 0 (omega (arith, r.room, shells_long (rows_of table))) (omega (arith, r.room, shells_long (rows_of table))));
      long = simp length-set n.long;
    }

-- all are
pub listing_all : {table W E : List ℕ} {at c k : ℕ} → ShellsRoom table W at → c ≡ length (rows_of table) → Listing table W at k E → c ≤ k → ShellsListed table at W E
listing_all {table} {W} {E} {at} {c} {k} r e n h =
    let l : length (rows_of table) ≤ k = omega arith in
    let m = length (rows_of table) in
    let S = shells_of (rows_of table) in
    let long = shells_long (rows_of table) in
    let is : E ≡ paste W at S m = subst (λ (j : ℕ). E ≡ paste W at S j) (le_antisymm n.low l) n.list in
    let whole : take m S ≡ S = take_all m S (omega arith) in
    let front : length (take at W) ≡ at = length-take-le at W (omega (arith, r.room)) in
    record {
      shells =
          ap (λ (v : List ℕ). take m (drop at v)) is
          ∙ ap (take m) (ap (drop at) (append_assoc (take at W) (take m S) (drop (at + m) W)) ∙ drop_at (take at W) (take m S ++ drop (at + m) W) at front)
          ∙ take_at (take m S) (drop (at + m) W) m (ap length whole ∙ long)
          ∙ whole;
      front = ap (take at) is ∙ ap (take at) (append_assoc (take at W) (take m S) (drop (at + m) W)) ∙ take_at (take at W) (take m S ++ drop (at + m) W) at front;
      rest = ap (drop (at + m)) is ∙ drop-paste W at S m (omega (arith, r.room)) (omega arith);
    }

-- the rows are joined by their numbers
pub shells_joined : {table W X E : List ℕ} {at m : ℕ} → m ≡ length (rows_of table) → ShellsListed table at W X → JoinedAt at m X E → ShellsJoined table at W E
shells_joined {table} {W} {X} {E} {at} {m} c s i =
    let j : JoinedAt at (length (rows_of table)) X E = subst (λ (k : ℕ). JoinedAt at k X E) c i in
    record {
      firsts = j.reps ∙ ap joined s.shells;
      front = j.front ∙ s.front;
      rest = j.rest ∙ rest_less (at + length (rows_of table)) (at + 4 * length (rows_of table)) W X s.rest (omega arith);
    }
