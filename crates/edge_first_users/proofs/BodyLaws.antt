-- Laws of the loops over all rows, whatever word they write for a use. Assumes nothing.
use mathlib.Core.Path.{◌≡◌, refl, sym, ap, ◌∙◌, subst}
use mathlib.Core.List.{List, [], ◌∷◌, ◌++◌, map, append_assoc, append-nil, map-append}
use Prim.Native.Nat.{ℕ, suc, ◌+◌, ◌-◌, ◌%◌, ◌≤◌, ◌<◌}
use native.Mathlib.Omega.{arith}
use lib.ListN.{length, get_or, take, drop, replicate, length-append, length-take, length-drop, length-replicate, drop_of_length-le}
use lib.Seq.{sets, length-sets, drop-cons, drop-drop, get_or-drop, get_or-take, length-take-le}
use Rattle.lists.specs.Any.{sum_all}
use Rattle.lists.specs.Sets.{get_d_sets_below, sets_append}
use Rattle.body_rows.specs.Body.{Row, rows_of, triangles_of, all_vertices, all_indices}
use Rattle.body_rows.specs.Rows.{row_at, vertices_before, indices_before, rows_here}
use Rattle.body_rows.specs.Patches.{before_none, indices_front, indices_next, vertices_front, vertices_next}
use Rattle.edge_uses.specs.Edges.{Use, triangle_uses}
use Rattle.edge_uses.specs.RowUses.{row_inside, uses_agree, names_any_row, runs_any, uses_count}
use Rattle.edge_uses.specs.Named.{use_name, use_run, row_uses, row_numbers, RowReady, NameReady, BodyReady, NamesReady, RowsRoom}
use Rattle.edge_uses.proofs.UseLaws.{length_named}

-- ---- where the rows before row k end

pub indices_end : (rows : List Row) (k : ℕ) → length rows ≤ k → indices_before rows k ≡ all_indices rows
unfolding indices_before all_indices
indices_end rows k h = sum_all (λ r. r.indices) rows k h

-- ---- the loop

-- the uses of the rows from row k on, whose shells' numbers are `shells`, whose points start at v and whose indices at i
abbrev pub uses_from_row : List ℕ → List ℕ → List ℕ → List ℕ → ℕ → ℕ → ℕ → List Use
uses_from_row table is W shells k v i = row_uses (drop k shells) k (drop v W) (drop k (rows_of table)) (drop i is)

-- with the words of the rows before row k written: W became w
pub record WritingBody (word : Use → ℕ) (table is W shells : List ℕ) (points at k v i : ℕ) (w : List ℕ) : Type 0 where
  pub done : List Use
  pub low : k ≤ length (rows_of table)
  pub at_v : v ≡ points + vertices_before (rows_of table) k
  pub at_i : i ≡ indices_before (rows_of table) k
  pub count : length done ≡ i
  pub list : w ≡ sets W at (map word done)
  pub long : length w ≡ length W
  pub rest : done ++ uses_from_row table is W shells k v i ≡ uses_from_row table is W shells 0 points 0

pub body_none : (word : Use → ℕ) (table is W shells : List ℕ) (points at : ℕ) → WritingBody word table is W shells points at 0 points 0 W
body_none word table is W shells points at =
    let z = before_none (rows_of table) in
    record { done = []; low = omega arith; at_v = omega (arith, z.0); at_i = omega (arith, z.1); count = refl; list = refl; long = refl; rest = refl }

module _ {word : Use → ℕ} {table is W w shells : List ℕ} {points at k v i : ℕ} (r : BodyReady table is W points at) (n : WritingBody word table is W shells points at k v i w)
    (more : k < length (rows_of table)) where
  -- the row's vertices and indices lie within the body's
  pub v_end : v + (row_at table k).vertices ≤ points + all_vertices (rows_of table)
  v_end = omega (arith, n.at_v, vertices_next table k more, vertices_front (rows_of table) (k + 1))

  pub i_end : i + (row_at table k).indices ≤ all_indices (rows_of table)
  i_end = omega (arith, n.at_i, indices_next table k more, indices_front (rows_of table) (k + 1))

  -- what lies in front of the words has not been written
  pub unwritten : (m : ℕ) → m < at → get_or w m 0 ≡ get_or W m 0
  unwritten m h = ap (λ (l : List ℕ). get_or l m 0) n.list ∙ get_d_sets_below W at (map word n.done) m 0 h

  pub row_ready : {vs e : ℕ} → vs ≡ (row_at table k).vertices → e ≡ i + (row_at table k).indices → RowReady is w v vs i e at
  row_ready {vs} {e} ev ee =
      record {
        ordered = omega arith;
        whole = ap (λ (m : ℕ). m % 3) sum ∙ r.whole k more;
        inside = omega (arith, r.inside, i_end);
        below = row_inside table is k (r.below k more) n.at_i ee ev;
        apart = omega (arith, r.apart, v_end);
        room = omega (arith, r.room, n.long, i_end);
        low = λ x h. subst (λ (m : ℕ). m < 262144) (sym (unwritten (v + x) (omega (arith, r.apart, v_end)))) (low x (omega arith));
      }
    where
      sum : e - i ≡ (row_at table k).indices
      sum = omega arith

      low : (x : ℕ) → x < (row_at table k).vertices → get_or W (v + x) 0 < 262144
      low x h =
          let q : points + (vertices_before (rows_of table) k + x) ≡ v + x = omega (arith, n.at_v) in
          subst (λ (m : ℕ). get_or W m 0 < 262144) q (r.low (vertices_before (rows_of table) k + x) (omega (arith, n.at_v, v_end)))

  -- the indices of row k
  abbrev indices_here : List ℕ
  indices_here = take (row_at table k).indices (drop i is)

  -- the uses of row k
  abbrev pub uses_here : List Use
  uses_here = triangle_uses (get_or shells k 0) k (drop v W) (triangles_of (take (row_at table k).indices (drop i is)))

  here_count : length uses_here ≡ (row_at table k).indices
  here_count =
      let l : length indices_here ≡ (row_at table k).indices = length-take-le (row_at table k).indices (drop i is) (omega (arith, length-drop i is, r.inside, i_end)) in
      uses_count (get_or shells k 0) k (drop v W) indices_here (ap (λ (m : ℕ). m % 3) l ∙ r.whole k more) ∙ l

  -- the indices of row k are of its vertices
  here_below : (j : ℕ) → j < length indices_here → get_or indices_here j 0 < (row_at table k).vertices
  here_below j h =
      let l : j < (row_at table k).indices = omega (arith, length-take (row_at table k).indices (drop i is)) in
      let q : indices_before (rows_of table) k + j ≡ i + j = omega (arith, n.at_i) in
      subst (λ (m : ℕ). m < (row_at table k).vertices) (sym (get_or-take (row_at table k).indices (drop i is) j 0 l ∙ get_or-drop i is j 0))
      (subst (λ (m : ℕ). get_or is m 0 < (row_at table k).vertices) q (r.below k more j l))

  same_points : (x : ℕ) → x < (row_at table k).vertices → get_or (drop v w) x 0 ≡ get_or (drop v W) x 0
  same_points x h = get_or-drop v w x 0 ∙ unwritten (v + x) (omega (arith, r.apart, v_end)) ∙ sym (get_or-drop v W x 0)

  -- the uses that a pass over row k meets in w are those in W
  pub uses_here_lem : {e : ℕ} → e ≡ i + (row_at table k).indices → (shell row : ℕ)
      → triangle_uses shell row (drop v w) (triangles_of (take (e - i) (drop i is))) ≡ triangle_uses shell row (drop v W) (triangles_of (take (row_at table k).indices (drop i is)))
  uses_here_lem {e} ee shell row =
      let c : e - i ≡ (row_at table k).indices = omega arith in
      ap (λ (m : ℕ). triangle_uses shell row (drop v w) (triangles_of (take m (drop i is)))) c
      ∙ uses_agree shell row (row_at table k).vertices (drop v w) (drop v W) same_points indices_here here_below

  module _ (some : length (rows_of table) ≤ length shells) where
    -- the uses from row k on begin with its own
    rest_here : uses_from_row table is W shells k v i ≡ uses_here ++ uses_from_row table is W shells (k + 1) (v + (row_at table k).vertices) (i + (row_at table k).indices)
    unfolding row_uses
    rest_here =
        let a : k < length shells = omega arith in
        let f : suc k ≡ k + 1 = omega arith in
        ap (λ (l : List Row). row_uses (drop k shells) k (drop v W) l (drop i is)) (rows_here table k more)
        ∙ ap (λ (l : List ℕ). row_uses l k (drop v W) (row_at table k ∷ drop (k + 1) (rows_of table)) (drop i is)) (drop-cons shells k 0 a)
        ∙ ap (λ (m : ℕ). uses_here ++ row_uses (drop m shells) m (drop (row_at table k).vertices (drop v W)) (drop (k + 1) (rows_of table)) (drop (row_at table k).indices (drop i is))) f
        ∙ ap (λ (l : List ℕ). uses_here ++ row_uses (drop (k + 1) shells) (k + 1) l (drop (k + 1) (rows_of table)) (drop (row_at table k).indices (drop i is))) (drop-drop (row_at table k).vertices v W)
        ∙ ap (λ (l : List ℕ). uses_here ++ row_uses (drop (k + 1) shells) (k + 1) (drop (v + (row_at table k).vertices) W) (drop (k + 1) (rows_of table)) l) (drop-drop (row_at table k).indices i is)

    pub body_more : {vs e : ℕ} {x : List ℕ} → vs ≡ (row_at table k).vertices → e ≡ i + (row_at table k).indices → x ≡ sets w (at + i) (map word uses_here)
        → WritingBody word table is W shells points at (k + 1) (v + vs) e x
    body_more {vs} {e} {x} ev ee ex =
        record {
          done = n.done ++ uses_here;
          low = omega arith;
          at_v = omega (arith, n.at_v, vertices_next table k more);
          at_i = omega (arith, n.at_i, indices_next table k more);
          count = omega (arith, n.count, length-append n.done uses_here, here_count);
          list =
              ex
              ∙ ap (λ (l : List ℕ). sets l (at + i) (map word uses_here)) n.list
              ∙ ap (λ (m : ℕ). sets (sets W at (map word n.done)) m (map word uses_here)) place
              ∙ sym (sets_append W at (map word n.done) (map word uses_here))
              ∙ ap (sets W at) (sym (map-append word n.done uses_here));
          long = ap length ex ∙ length-sets w (at + i) (map word uses_here) ∙ n.long;
          rest =
              append_assoc n.done uses_here (uses_from_row table is W shells (k + 1) (v + vs) e)
              ∙ ap (λ (m : ℕ). n.done ++ (uses_here ++ uses_from_row table is W shells (k + 1) (v + m) e)) ev
              ∙ ap (λ (m : ℕ). n.done ++ (uses_here ++ uses_from_row table is W shells (k + 1) (v + (row_at table k).vertices) m)) ee
              ∙ ap (λ (l : List Use). n.done ++ l) (sym rest_here)
              ∙ n.rest;
        }
      where
        place : at + i ≡ at + length (map word n.done)
        place = omega (arith, n.count, length_named word n.done)

pub body_all : {word : Use → ℕ} {table is W w shells : List ℕ} {points at k v i : ℕ} → WritingBody word table is W shells points at k v i w → length (rows_of table) ≤ k
    → w ≡ sets W at (map word (row_uses shells 0 (drop points W) (rows_of table) is))
unfolding row_uses
body_all {word} {table} {is} {W} {w} {shells} {points} {at} {k} {v} {i} n h =
    let none : uses_from_row table is W shells k v i ≡ [] = ap (λ (l : List Row). row_uses (drop k shells) k (drop v W) l (drop i is)) (drop_of_length-le (rows_of table) h) in
    n.list ∙ ap (λ (l : List Use). sets W at (map word l)) (sym (append-nil n.done) ∙ ap (λ (l : List Use). n.done ++ l) (sym none) ∙ n.rest)

-- ---- names: a number of each row's shell stands in the work area

module _ {table is W w : List ℕ} {points shells at k v i : ℕ} (r : NamesReady table is W points shells at) (n : WritingBody use_name table is W (drop shells W) points at k v i w)
    (more : k < length (rows_of table)) where
  enough : length (rows_of table) ≤ length (drop shells W)
  enough = omega (arith, length-drop shells W, r.shells_apart, r.body.room)

  shell_is : get_or w (shells + k) 0 ≡ get_or (drop shells W) k 0
  shell_is = unwritten r.body n more (shells + k) (omega (arith, r.shells_apart)) ∙ sym (get_or-drop shells W k 0)

  pub name_ready : {vs e s : ℕ} → vs ≡ (row_at table k).vertices → e ≡ i + (row_at table k).indices → s ≡ get_or w (shells + k) 0 → NameReady is w v vs i e at s
  name_ready ev ee es =
      record {
        row = row_ready r.body n more ev ee;
        shell_low = subst (λ (m : ℕ). m < 4096) (sym (es ∙ unwritten r.body n more (shells + k) (omega (arith, r.shells_apart)))) (r.shells_low k more);
      }

  pub names_more : {vs e s : ℕ} {x : List ℕ} → vs ≡ (row_at table k).vertices → e ≡ i + (row_at table k).indices → s ≡ get_or w (shells + k) 0
      → x ≡ sets w (at + i) (map use_name (triangle_uses s 0 (drop v w) (triangles_of (take (e - i) (drop i is)))))
      → WritingBody use_name table is W (drop shells W) points at (k + 1) (v + vs) e x
  names_more {vs} {e} {s} {x} ev ee es ex =
      body_more r.body n more enough ev ee
      (ex
      ∙ ap (λ (us : List Use). sets w (at + i) (map use_name us)) (uses_here_lem r.body n more ee s 0)
      ∙ ap (λ (m : ℕ). sets w (at + i) (map use_name (triangle_uses m 0 (drop v W) (triangles_of (take (row_at table k).indices (drop i is)))))) (es ∙ shell_is)
      ∙ ap (sets w (at + i)) (names_any_row (get_or (drop shells W) k 0) 0 k (drop v W) (triangles_of (take (row_at table k).indices (drop i is)))))

-- ---- runs

pub runs_more : {table is W w : List ℕ} {points at k v i : ℕ} (r : BodyReady table is W points at) (n : WritingBody use_run table is W (replicate (length (rows_of table)) 0) points at k v i w)
    (more : k < length (rows_of table))
    {vs e : ℕ} {x : List ℕ} → vs ≡ (row_at table k).vertices → e ≡ i + (row_at table k).indices
    → x ≡ sets w (at + i) (map use_run (triangle_uses 0 0 (drop v w) (triangles_of (take (e - i) (drop i is)))))
    → WritingBody use_run table is W (replicate (length (rows_of table)) 0) points at (k + 1) (v + vs) e x
runs_more {table} {is} {W} {w} {points} {at} {k} {v} {i} r n more {vs} {e} {x} ev ee ex =
    body_more r n more (omega (arith, length-replicate {A = ℕ} (length (rows_of table)) 0)) ev ee
    (ex
    ∙ ap (λ (us : List Use). sets w (at + i) (map use_run us)) (uses_here_lem r n more ee 0 0)
    ∙ ap (sets w (at + i)) (runs_any 0 0 (get_or (replicate (length (rows_of table)) 0) k 0) k (drop v W) (triangles_of (take (row_at table k).indices (drop i is)))))

-- ---- row numbers

-- with the numbers of the rows before row k written: W became w
pub record Numbering (table W : List ℕ) (at k i : ℕ) (w : List ℕ) : Type 0 where
  pub done : List ℕ
  pub low : k ≤ length (rows_of table)
  pub at_i : i ≡ at + indices_before (rows_of table) k
  pub count : at + length done ≡ i
  pub list : w ≡ sets W at done
  pub long : length w ≡ length W
  pub rest : done ++ row_numbers k (drop k (rows_of table)) ≡ row_numbers 0 (rows_of table)

pub numbering_none : (table W : List ℕ) (at : ℕ) → Numbering table W at 0 at W
numbering_none table W at =
    record { done = []; low = omega arith; at_i = omega (arith, (before_none (rows_of table)).1); count = omega arith; list = refl; long = refl; rest = refl }

module _ {table W w : List ℕ} {at k i : ℕ} (r : RowsRoom table W at) (n : Numbering table W at k i w) (more : k < length (rows_of table)) where
  pub number_end : i + (row_at table k).indices ≤ length w
  number_end = omega (arith, n.at_i, n.long, r.room, indices_next table k more, indices_front (rows_of table) (k + 1))

  pub numbering_more : {e : ℕ} {x : List ℕ} → e ≡ i + (row_at table k).indices → x ≡ sets w i (replicate (e - i) k) → Numbering table W at (k + 1) e x
  unfolding row_numbers
  numbering_more {e} {x} ee ex =
      let c : e - i ≡ (row_at table k).indices = omega arith in
      let own = replicate (row_at table k).indices k in
      let f : suc k ≡ k + 1 = omega arith in
      record {
        done = n.done ++ own;
        low = omega arith;
        at_i = omega (arith, n.at_i, indices_next table k more);
        count = omega (arith, n.count, length-append n.done own, length-replicate (row_at table k).indices k);
        list =
            ex
            ∙ ap (λ (m : ℕ). sets w i (replicate m k)) c
            ∙ ap (λ (l : List ℕ). sets l i own) n.list
            ∙ ap (λ (m : ℕ). sets (sets W at n.done) m own) (sym n.count)
            ∙ sym (sets_append W at n.done own);
        long = ap length ex ∙ length-sets w i (replicate (e - i) k) ∙ n.long;
        rest =
            append_assoc n.done own (row_numbers (k + 1) (drop (k + 1) (rows_of table)))
            ∙ ap (λ (m : ℕ). n.done ++ (own ++ row_numbers m (drop (k + 1) (rows_of table)))) (sym f)
            ∙ ap (λ (l : List Row). n.done ++ row_numbers k l) (sym (rows_here table k more))
            ∙ n.rest;
      }

pub numbering_all : {table W w : List ℕ} {at k i : ℕ} → Numbering table W at k i w → length (rows_of table) ≤ k → w ≡ sets W at (row_numbers 0 (rows_of table))
unfolding row_numbers
numbering_all {table} {W} {w} {at} {k} {i} n h =
    n.list
    ∙ ap (sets W at) (sym (append-nil n.done) ∙ ap (λ (l : List Row). n.done ++ row_numbers k l) (sym (drop_of_length-le (rows_of table) h)) ∙ n.rest)
