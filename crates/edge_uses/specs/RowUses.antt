-- Laws of a table's rows and of their uses: what these depend on, how many there are, and the words listed of them. Assumes nothing.
use Rattle.std.specs.Prelude.{◌≡◌, refl, List, [], ◌∷◌, ◌++◌, map, ℕ, suc, ◌+◌, ◌-◌, ◌%◌, ◌≤◌, ◌<◌, length, get_or, take, drop, replicate}
use Rattle.std.proofs.Common.{sym, ap, ◌∙◌, subst, zero-add, not-suc-le-zero, arith, length-append, length-take, length-drop, get_or-drop, get_or-take, length-take-le}
use Rattle.std.proofs.lemmas.List.{map-append}
use Rattle.lists.specs.Lists.{sum_of}
use Rattle.lists.specs.Any.{each_append, each_copy}
use Rattle.body_rows.specs.Body.{Row, Triangle, rows_of, triangles_of, all_vertices, all_indices}
use Rattle.body_rows.specs.Rows.{no_row, row_at, indices_before}
use Rattle.edge_uses.specs.Edges.{Use, triangle_uses}
use Rattle.edge_uses.specs.Named.{use_name, use_run, use_row, row_uses, row_numbers}

-- ---- row k of a table

-- its indices, by their places among all from i up to `end`, are of its vertices
pub row_inside : (table is : List ℕ) (k : ℕ) → ((j : ℕ) → j < (row_at table k).indices → get_or is (indices_before (rows_of table) k + j) 0 < (row_at table k).vertices)
    → {i end vertices : ℕ} → i ≡ indices_before (rows_of table) k → end ≡ i + (row_at table k).indices → vertices ≡ (row_at table k).vertices
    → (j : ℕ) → i ≤ j → j < end → get_or is j 0 < vertices
row_inside table is k below {i} {end} {vertices} ei ee ev j a b =
    let q : indices_before (rows_of table) k + (j - i) ≡ j = omega arith in
    omega (arith, ap (λ (n : ℕ). get_or is n 0) q, below (j - i) (omega arith))

-- ---- what a row's uses depend on

-- only the points of vertices that the indices are of
pub uses_agree : (shell row n : ℕ) (P Q : List ℕ) → ((x : ℕ) → x < n → get_or P x 0 ≡ get_or Q x 0) → (xs : List ℕ) → ((j : ℕ) → j < length xs → get_or xs j 0 < n)
    → triangle_uses shell row P (triangles_of xs) ≡ triangle_uses shell row Q (triangles_of xs)
unfolding triangle_uses triangles_of
uses_agree shell row n P Q e [] b = refl
uses_agree shell row n P Q e (x ∷ []) b = refl
uses_agree shell row n P Q e (x ∷ y ∷ []) b = refl
uses_agree shell row n P Q e (x ∷ y ∷ z ∷ xs) b =
    let ex = e x (b 0 (omega arith)) in
    let ey = e y (b 1 (omega arith)) in
    let ez = e z (b 2 (omega arith)) in
    let rest = uses_agree shell row n P Q e xs (λ j h. b (suc (suc (suc j))) (omega arith)) in
    rw (ex, ey, ez, rest)

-- a use's name has nothing of its row
pub names_any_row : (shell row other : ℕ) (P : List ℕ) (ts : List Triangle) → map use_name (triangle_uses shell row P ts) ≡ map use_name (triangle_uses shell other P ts)
unfolding triangle_uses
names_any_row shell row other P [] = refl
names_any_row shell row other P (t ∷ ts) = rw (names_any_row shell row other P ts)

-- the way a use runs has nothing of its shell and row
pub runs_any : (shell row s r : ℕ) (P : List ℕ) (ts : List Triangle) → map use_run (triangle_uses shell row P ts) ≡ map use_run (triangle_uses s r P ts)
unfolding triangle_uses
runs_any shell row s r P [] = refl
runs_any shell row s r P (t ∷ ts) = rw (runs_any shell row s r P ts)

-- three uses a triangle
pub uses_count : (shell row : ℕ) (P xs : List ℕ) → length xs % 3 ≡ 0 → length (triangle_uses shell row P (triangles_of xs)) ≡ length xs
unfolding triangle_uses triangles_of
uses_count shell row P [] e = refl
uses_count shell row P (x ∷ []) e = absurd (omega arith)
uses_count shell row P (x ∷ y ∷ []) e = absurd (omega arith)
uses_count shell row P (x ∷ y ∷ z ∷ xs) e = let h = uses_count shell row P xs (omega arith) in omega arith

-- ---- the uses of all rows

-- a use for each index
pub uses_all : (shells : List ℕ) (row : ℕ) (P : List ℕ) (rows : List Row) (is : List ℕ) → ((k : ℕ) → k < length rows → (get_or rows k no_row).indices % 3 ≡ 0) → all_indices rows ≤ length is
    → length rows ≤ length shells
    → length (row_uses shells row P rows is) ≡ all_indices rows
unfolding row_uses all_indices sum_of
uses_all shells row P [] is w l e = refl
uses_all [] row P (r ∷ rs) is w l e = absurd (omega arith)
uses_all (s ∷ ss) row P (r ∷ rs) is w l e =
    let c : length (take r.indices is) ≡ r.indices = length-take-le r.indices is (omega arith) in
    let h = uses_all ss (suc row) (drop r.vertices P) rs (drop r.indices is) (λ k q. w (suc k) (omega arith)) (omega (arith, length-drop r.indices is)) (omega arith) in
    length-append (triangle_uses s row P (triangles_of (take r.indices is))) (row_uses ss (suc row) (drop r.vertices P) rs (drop r.indices is))
    ∙ ap (λ m. m + length (row_uses ss (suc row) (drop r.vertices P) rs (drop r.indices is))) (uses_count s row P (take r.indices is) (ap (λ m. m % 3) c ∙ w 0 (omega arith)) ∙ c)
    ∙ ap (λ m. r.indices + m) h

-- each row's indices are of its vertices
pub record Inside (rows : List Row) (is : List ℕ) : Type 0 where
  pub below : (k : ℕ) → k < length rows → (j : ℕ) → j < (get_or rows k no_row).indices → get_or is (indices_before rows k + j) 0 < (get_or rows k no_row).vertices

-- so are those of the rows behind the first
pub inside_rest : (r : Row) (rs : List Row) (is : List ℕ) → Inside (r ∷ rs) is → Inside rs (drop r.indices is)
unfolding indices_before all_indices sum_of
inside_rest r rs is h =
    record {
      below = λ k l j m.
          let e : r.indices + indices_before rs k + j ≡ r.indices + (indices_before rs k + j) = omega arith in
          subst (λ (x : ℕ). x < (get_or rs k no_row).vertices) (ap (λ (x : ℕ). get_or is x 0) e ∙ sym (get_or-drop r.indices is (indices_before rs k + j) 0)) (h.below (suc k) (omega arith) j m);
    }

-- the first row's indices are of its vertices
pub inside_first : (r : Row) (rs : List Row) (is : List ℕ) → Inside (r ∷ rs) is → (j : ℕ) → j < length (take r.indices is) → get_or (take r.indices is) j 0 < r.vertices
unfolding indices_before all_indices sum_of
inside_first r rs is h j l =
    let m : j < r.indices = omega (arith, length-take r.indices is) in
    subst (λ (x : ℕ). x < r.vertices) (ap (λ (x : ℕ). get_or is x 0) (zero-add j) ∙ sym (get_or-take r.indices is j 0 m)) (h.below 0 (omega arith) j m)

-- The uses depend on a number for each row's shell and on the points of the rows' vertices alone.
pub row_uses_agree : (S S' : List ℕ) (row : ℕ) (P P' : List ℕ) (rows : List Row) (is : List ℕ)
    → length rows ≤ length S → length rows ≤ length S' → ((k : ℕ) → k < length rows → get_or S k 0 ≡ get_or S' k 0)
    → ((x : ℕ) → x < all_vertices rows → get_or P x 0 ≡ get_or P' x 0) → Inside rows is
    → row_uses S row P rows is ≡ row_uses S' row P' rows is
unfolding row_uses all_vertices sum_of
row_uses_agree S S' row P P' [] is a b e f h = refl
row_uses_agree [] S' row P P' (r ∷ rs) is a b e f h = absurd (omega arith)
row_uses_agree (s ∷ S) [] row P P' (r ∷ rs) is a b e f h = absurd (omega arith)
row_uses_agree (s ∷ S) (t ∷ S') row P P' (r ∷ rs) is a b e f h =
    let v = r.vertices in
    let rest = row_uses_agree S S' (suc row) (drop v P) (drop v P') rs (drop r.indices is) (omega arith) (omega arith) (λ k l. e (suc k) (omega arith))
    (λ x l. get_or-drop v P x 0 ∙ f (v + x) (omega arith) ∙ sym (get_or-drop v P' x 0)) (inside_rest r rs is h) in
    let here = uses_agree t row v P P' (λ x l. f x (omega arith)) (take r.indices is) (inside_first r rs is h) in
    ap (λ (n : ℕ). triangle_uses n row P (triangles_of (take r.indices is)) ++ row_uses S (suc row) (drop v P) rs (drop r.indices is)) (e 0 (omega arith))
    ∙ ap (λ (us : List Use). us ++ row_uses S (suc row) (drop v P) rs (drop r.indices is)) here
    ∙ ap (λ (us : List Use). triangle_uses t row P' (triangles_of (take r.indices is)) ++ us) rest

-- ---- the words listed of them

-- a row's uses are of the row
rows_of_lem : (shell row : ℕ) (P xs : List ℕ) → length xs % 3 ≡ 0 → map use_row (triangle_uses shell row P (triangles_of xs)) ≡ replicate (length xs) row
unfolding triangle_uses triangles_of
rows_of_lem shell row P [] e = refl
rows_of_lem shell row P (x ∷ []) e = absurd (omega arith)
rows_of_lem shell row P (x ∷ y ∷ []) e = absurd (omega arith)
rows_of_lem shell row P (x ∷ y ∷ z ∷ xs) e = rw (rows_of_lem shell row P xs (omega arith))

-- the rows of all uses are the numbers of the rows
pub rows_listed : (S : List ℕ) (row : ℕ) (P : List ℕ) (rows : List Row) (is : List ℕ) → ((k : ℕ) → k < length rows → (get_or rows k no_row).indices % 3 ≡ 0)
    → all_indices rows ≤ length is → length rows ≤ length S → map use_row (row_uses S row P rows is) ≡ row_numbers row rows
unfolding row_uses row_numbers all_indices sum_of
rows_listed S row P [] is w l e = refl
rows_listed [] row P (r ∷ rs) is w l e = absurd (omega arith)
rows_listed (s ∷ S) row P (r ∷ rs) is w l e =
    let c : length (take r.indices is) ≡ r.indices = length-take-le r.indices is (omega arith) in
    map-append use_row (triangle_uses s row P (triangles_of (take r.indices is))) (row_uses S (suc row) (drop r.vertices P) rs (drop r.indices is))
    ∙ ap (λ (l : List ℕ). l ++ map use_row (row_uses S (suc row) (drop r.vertices P) rs (drop r.indices is)))
    (rows_of_lem s row P (take r.indices is) (ap (λ (m : ℕ). m % 3) c ∙ w 0 (omega arith)) ∙ ap (λ (m : ℕ). replicate m row) c)
    ∙ ap (λ (l : List ℕ). replicate r.indices row ++ l)
    (rows_listed S (suc row) (drop r.vertices P) rs (drop r.indices is) (λ k q. w (suc k) (omega arith)) (omega (arith, length-drop r.indices is)) (omega arith))

-- the ways they run are the same in any shells
pub runs_listed : (S S' : List ℕ) (row : ℕ) (P : List ℕ) (rows : List Row) (is : List ℕ) → length rows ≤ length S → length rows ≤ length S'
    → map use_run (row_uses S row P rows is) ≡ map use_run (row_uses S' row P rows is)
unfolding row_uses
runs_listed S S' row P [] is a b = refl
runs_listed [] S' row P (r ∷ rs) is a b = absurd (omega arith)
runs_listed (s ∷ S) [] row P (r ∷ rs) is a b = absurd (omega arith)
runs_listed (s ∷ S) (t ∷ S') row P (r ∷ rs) is a b =
    let us = triangles_of (take r.indices is) in
    map-append use_run (triangle_uses s row P us) (row_uses S (suc row) (drop r.vertices P) rs (drop r.indices is))
    ∙ ap (λ (l : List ℕ). l ++ map use_run (row_uses S (suc row) (drop r.vertices P) rs (drop r.indices is))) (runs_any s row t row P us)
    ∙ ap (λ (l : List ℕ). map use_run (triangle_uses t row P us) ++ l) (runs_listed S S' (suc row) (drop r.vertices P) rs (drop r.indices is) (omega arith) (omega arith))
    ∙ sym (map-append use_run (triangle_uses t row P us) (row_uses S' (suc row) (drop r.vertices P) rs (drop r.indices is)))

-- a row's number is below the number behind the last
pub numbers_below : (row : ℕ) (rows : List Row) (i : ℕ) → i < length (row_numbers row rows) → get_or (row_numbers row rows) i 0 < row + length rows
unfolding row_numbers
numbers_below row [] i h = absurd (not-suc-le-zero h)
numbers_below row (r ∷ rs) i h =
    each_append (λ x. x < row + suc (length rs)) 0 (replicate r.indices row) (row_numbers (suc row) rs)
    (each_copy (λ x. x < row + suc (length rs)) 0 row r.indices (omega arith))
    (λ k l. omega (arith, numbers_below (suc row) rs k l)) i h
