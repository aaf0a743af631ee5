-- Laws of the loop that reverses coloured rows one after another. Assumes nothing.
use mathlib.Core.Path.{◌≡◌, refl, sym, ap, ◌∙◌, subst}
use mathlib.Core.Bool.{Bool, true, false, cond}
use mathlib.Core.List.{List, [], ◌∷◌, ◌++◌, map, append_assoc}
use Prim.Native.Nat.{ℕ, suc, ◌+◌, ◌-◌, ◌*◌, ◌%◌, ◌≤◌, ◌<◌}
use native.Mathlib.Omega.{arith}
use lib.ListN.{length, get_or, take, drop, length-append, length-drop, drop_of_length-le, length-map}
use lib.Seq.{drop-cons, drop-drop, get_or-take, get_or-drop, take_at, drop_at, length-take-le}
use borrow.Rule.Slice.PartMut.{mid_of, put_mid, mid_len, same_len_mid}
use lib.Dec.{eqb}
use lib.Ieee.{Float, neg}
use Rattle.lists.specs.Lists.{count_if, sum_of}
use Rattle.lists.specs.Any.{sum_front}
use Rattle.body_rows.specs.Body.{Row, rows_of, all_vertices, all_indices}
use Rattle.body_rows.specs.Rows.{no_row, row_at, vertices_before, indices_before}
use Rattle.body_rows.specs.Patches.{vertices_next, indices_next}
use Rattle.turn_walk.specs.Walk.{coloured}
use Rattle.turn_definition.specs.Reversal.{swapped, length_swapped}
use Rattle.turn_reversal.specs.Reversed.{changed, changed_rows, coordinates, index_count, RowReversed, Reversible, Reversed}

-- ---- one slice, whatever its items

-- with the rows before row k changed: X became xs, and row k's stretch starts at `from`
pub record Changing {A : Type 0} (f : List A → List A) (size : Row → ℕ) (cs : List ℕ) (rows : List Row) (X : List A) (k from : ℕ) (xs : List A) : Type 0 where
  pub done : List A
  pub count : length done ≡ from
  pub list : xs ≡ done ++ drop from X
  pub rest : done ++ changed_rows f size (drop k cs) (drop k rows) (drop from X) ≡ changed_rows f size cs rows X

pub changing_none : {A : Type 0} (f : List A → List A) (size : Row → ℕ) (cs : List ℕ) (rows : List Row) (X : List A) → Changing f size cs rows X 0 0 X
changing_none f size cs rows X = record { done = []; count = refl; list = refl; rest = refl }

-- a change of a stretch keeps its length
changed_long : {A : Type 0} (f : List A → List A) → ((ys : List A) → length (f ys) ≡ length ys) → (c : ℕ) (ys : List A) → length (changed f c ys) ≡ length ys
changed_long f l c ys = go (eqb c coloured)
  where
    go : (b : Bool) → length (cond b (f ys) ys) ≡ length ys
    go true = l ys
    go false = refl

module _ {A : Type 0} {f : List A → List A} {size : Row → ℕ} {cs : List ℕ} {rows : List Row} {X xs : List A} {k from : ℕ} (keeps : (ys : List A) → length (f ys) ≡ length ys)
    (h : Changing f size cs rows X k from xs) where
  -- what is not yet changed is as it was
  drop_same : drop from xs ≡ drop from X
  drop_same = ap (drop from) h.list ∙ drop_at h.done (drop from X) from h.count

  pub changing_more : {n c : ℕ} {r : Row} {ys : List A} → c ∷ drop (k + 1) cs ≡ drop k cs → r ∷ drop (k + 1) rows ≡ drop k rows → size r ≡ n → from + n ≤ length X
      → ys ≡ put_mid from n xs (changed f c (mid_of from n xs)) → Changing f size cs rows X (k + 1) (from + n) ys
  unfolding changed_rows
  changing_more {n} {c} {r} {ys} ec er en room e =
      record {
        done = h.done ++ new;
        count = omega (arith, h.count, length-append h.done new, new_long);
        list =
            e
            ∙ ap (λ v. take from xs ++ (changed f c (take n v) ++ drop n v)) drop_same
            ∙ ap (λ v. v ++ (new ++ drop n (drop from X))) (ap (take from) h.list ∙ take_at h.done (drop from X) from h.count)
            ∙ ap (λ v. h.done ++ (new ++ v)) (drop-drop n from X)
            ∙ sym (append_assoc h.done new (drop (from + n) X));
        rest =
            append_assoc h.done new (changed_rows f size (drop (k + 1) cs) (drop (k + 1) rows) (drop (from + n) X))
            ∙ ap (λ v. h.done ++ (new ++ changed_rows f size (drop (k + 1) cs) (drop (k + 1) rows) v)) (sym (drop-drop n from X))
            ∙ ap (λ m. h.done ++ (changed f c (take m (drop from X)) ++ changed_rows f size (drop (k + 1) cs) (drop (k + 1) rows) (drop m (drop from X)))) (sym en)
            ∙ ap (λ v. h.done ++ changed_rows f size (c ∷ drop (k + 1) cs) v (drop from X)) er
            ∙ ap (λ v. h.done ++ changed_rows f size v (drop k rows) (drop from X)) ec
            ∙ h.rest;
      }
    where
      new : List A
      new = changed f c (take n (drop from X))

      new_long : length new ≡ n
      new_long = changed_long f keeps c (take n (drop from X)) ∙ length-take-le n (drop from X) (omega (arith, length-drop from X))

pub changing_all : {A : Type 0} {f : List A → List A} {size : Row → ℕ} {cs : List ℕ} {rows : List Row} {X xs : List A} {k from : ℕ} → Changing f size cs rows X k from xs → length cs ≤ k
    → xs ≡ changed_rows f size cs rows X
unfolding changed_rows
changing_all {A} {f} {size} {cs} {rows} {X} {xs} {k} {from} h l =
    h.list ∙ ap (λ v. h.done ++ changed_rows f size v (drop k rows) (drop from X)) (sym (drop_of_length-le cs l)) ∙ h.rest

-- ---- both slices

-- the colours of the rows
abbrev pub colours_in : List ℕ → List ℕ → ℕ → List ℕ
colours_in table W colours = take (length (rows_of table)) (drop colours W)

-- `reverse_rows` with the rows before row k done
pub record Reversing (table W : List ℕ) (colours : ℕ) (N : List Float) (I : List ℕ) (k v i turned : ℕ) (ns : List Float) (is : List ℕ) : Type 0 where
  pub low : k ≤ length (rows_of table)
  pub at_v : v ≡ 3 * vertices_before (rows_of table) k
  pub at_i : i ≡ indices_before (rows_of table) k
  pub normals : Changing (map neg) coordinates (colours_in table W colours) (rows_of table) N k v ns
  pub indices : Changing swapped index_count (colours_in table W colours) (rows_of table) I k i is
  pub count : turned + count_if (eqb coloured) (drop k (colours_in table W colours)) ≡ count_if (eqb coloured) (colours_in table W colours)
  pub few : turned ≤ k
  pub long_normals : length ns ≡ length N
  pub long_indices : length is ≡ length I

pub reversing_none : (table W : List ℕ) (colours : ℕ) (N : List Float) (I : List ℕ) → Reversing table W colours N I 0 0 0 0 N I
unfolding vertices_before indices_before all_vertices all_indices sum_of
reversing_none table W colours N I =
    record {
      low = omega arith;
      at_v = refl;
      at_i = refl;
      normals = changing_none (map neg) coordinates (colours_in table W colours) (rows_of table) N;
      indices = changing_none swapped index_count (colours_in table W colours) (rows_of table) I;
      count = omega arith;
      few = omega arith;
      long_normals = refl;
      long_indices = refl;
    }

module _ {table W : List ℕ} {colours : ℕ} {N : List Float} {I : List ℕ} {k v i turned : ℕ} {ns : List Float} {is : List ℕ} (r : Reversible table N I W colours)
    (h : Reversing table W colours N I k v i turned ns is) (more : k < length (rows_of table)) where
  vertices_front : vertices_before (rows_of table) (k + 1) ≤ all_vertices (rows_of table)
  unfolding vertices_before all_vertices
  vertices_front = sum_front (λ r. r.vertices) (rows_of table) (k + 1)

  indices_front : indices_before (rows_of table) (k + 1) ≤ all_indices (rows_of table)
  unfolding indices_before all_indices
  indices_front = sum_front (λ r. r.indices) (rows_of table) (k + 1)

  pub normals_end : v + 3 * (row_at table k).vertices ≤ length N
  normals_end = omega (arith, h.at_v, vertices_next table k more, vertices_front, r.all_normals)

  pub indices_end : i + (row_at table k).indices ≤ length I
  indices_end = omega (arith, h.at_i, indices_next table k more, indices_front, r.all_indices_lem)

  row_here : row_at table k ∷ drop (k + 1) (rows_of table) ≡ drop k (rows_of table)
  unfolding row_at
  row_here = let e : suc k ≡ k + 1 = omega arith in sym (drop-cons (rows_of table) k no_row more ∙ ap (λ n. get_or (rows_of table) k no_row ∷ drop n (rows_of table)) e)

  colours_long : length (colours_in table W colours) ≡ length (rows_of table)
  colours_long = length-take-le (length (rows_of table)) (drop colours W) (omega (arith, length-drop colours W, r.room))

  colour_here : {c : ℕ} → c ≡ get_or W (colours + k) 0 → c ∷ drop (k + 1) (colours_in table W colours) ≡ drop k (colours_in table W colours)
  colour_here {c} e =
      let f : suc k ≡ k + 1 = omega arith in
      let q : get_or (colours_in table W colours) k 0 ≡ c = get_or-take (length (rows_of table)) (drop colours W) k 0 more ∙ get_or-drop colours W k 0 ∙ sym e in
      sym
      (drop-cons (colours_in table W colours) k 0 (omega (arith, colours_long))
      ∙ ap (λ n. get_or (colours_in table W colours) k 0 ∷ drop n (colours_in table W colours)) f
      ∙ ap (λ x. x ∷ drop (k + 1) (colours_in table W colours)) q)

  -- the row's indices are whole triangles
  pub row_whole : {iend : ℕ} → iend ≡ i + (row_at table k).indices → length (mid_of i (iend - i) is) % 3 ≡ 0
  row_whole {iend} ei =
      let c : length (mid_of i (iend - i) is) ≡ (row_at table k).indices = mid_len i iend is (omega (arith, indices_end, h.long_indices)) ∙ omega arith in
      ap (λ n. n % 3) c ∙ r.threes k more

  pub reversing_more : {vend iend c t : ℕ} {ns' : List Float} {is' : List ℕ} → vend ≡ v + 3 * (row_at table k).vertices → iend ≡ i + (row_at table k).indices → c ≡ get_or W (colours + k) 0
      → RowReversed c (mid_of v (vend - v) ns) (mid_of i (iend - i) is) ns' is' t
      → Reversing table W colours N I (k + 1) vend iend (turned + t) (put_mid v (vend - v) ns ns') (put_mid i (iend - i) is is')
  unfolding count_if
  reversing_more {vend} {iend} {c} {t} {ns'} {is'} ev ei ec q =
      let a : vend - v ≡ 3 * (row_at table k).vertices = omega arith in
      let b : iend - i ≡ (row_at table k).indices = omega arith in
      let one = go (eqb coloured c) in
      record {
        low = omega arith;
        at_v = omega (arith, h.at_v, vertices_next table k more);
        at_i = omega (arith, h.at_i, indices_next table k more);
        normals =
            subst (λ n. Changing (map neg) coordinates (colours_in table W colours) (rows_of table) N (k + 1) n (put_mid v (vend - v) ns ns')) (sym ev)
            (changing_more (λ ys. length-map ys neg) h.normals (colour_here ec) row_here refl normals_end
            (ap (put_mid v (vend - v) ns) q.normals ∙ ap (λ n. put_mid v n ns (changed (map neg) c (mid_of v n ns))) a));
        indices =
            subst (λ n. Changing swapped index_count (colours_in table W colours) (rows_of table) I (k + 1) n (put_mid i (iend - i) is is')) (sym ei)
            (changing_more length_swapped h.indices (colour_here ec) row_here refl indices_end
            (ap (put_mid i (iend - i) is) q.indices ∙ ap (λ n. put_mid i n is (changed swapped c (mid_of i n is))) b));
        count = omega (arith, h.count, q.count, one (count_if (eqb coloured) (drop (k + 1) (colours_in table W colours))), ap (count_if (eqb coloured)) (sym (colour_here ec)));
        few = omega (arith, h.few, q.count, small (eqb coloured c));
        long_normals =
            same_len_mid v (vend - v) ns ns' (ap length q.normals ∙ changed_long (map neg) (λ ys. length-map ys neg) c (mid_of v (vend - v) ns)) ∙ h.long_normals;
        long_indices = same_len_mid i (iend - i) is is' (ap length q.indices ∙ changed_long swapped length_swapped c (mid_of i (iend - i) is)) ∙ h.long_indices;
      }
    where
      go : (b : Bool) (n : ℕ) → cond b (suc n) n ≡ n + cond b 1 0
      go true n = omega arith
      go false n = omega arith

      small : (b : Bool) → cond b 1 0 ≤ 1
      small true = omega arith
      small false = omega arith

pub reversing_all : {table W : List ℕ} {colours : ℕ} {N : List Float} {I : List ℕ} {k v i turned : ℕ} {ns : List Float} {is : List ℕ} → Reversible table N I W colours
    → Reversing table W colours N I k v i turned ns is → length (rows_of table) ≤ k
    → Reversed (colours_in table W colours) table N I ns is turned
unfolding count_if
reversing_all {table} {W} {colours} {N} {I} {k} {v} {i} {turned} {ns} {is} r h l =
    let e : length (colours_in table W colours) ≤ k = omega (arith, length-take-le (length (rows_of table)) (drop colours W) (omega (arith, length-drop colours W, r.room))) in
    record {
      normals = changing_all h.normals e;
      indices = changing_all h.indices e;
      count = omega (arith, h.count, ap (count_if (eqb coloured)) (drop_of_length-le (colours_in table W colours) e));
    }
