-- Entries that are sorted and dropped in one list are those sorted and dropped edge by edge. Assumes nothing.
use Rattle.stitch_splits.specs.Sorted.{insert_at, sort_at, drop_near_at, drop_close_at, on_edge, kept_at, insert_all, EdgesEach, Sorts}
use Rattle.std.specs.Prelude.{◌≡◌, Bool, ◌&&◌, ◌||◌, ℕ, zero, suc, ◌≤◌, ◌<◌, Float}
use Rattle.std.proofs.Math.Path.{refl, ap}
use Rattle.std.proofs.Common.{sym, ◌∙◌, arith, lt-ltb, le-ltb, eq-eqb, ne_eqb, eqb-true}
use Rattle.std.proofs.Math.Bool.{true, false, cond}
use mathlib.Core.List.{List, [], ◌∷◌, ◌++◌, map, map-append, append-nil, append_assoc}
use Rattle.std.proofs.Math.Dec.{eqb}
use Rattle.std.specs.Float.Ieee.{lt}
use Rattle.lists.specs.Lists.{filter}
use Rattle.float_steps.specs.Floats.{absolute}
use Rattle.patch_geometry.specs.Geometry.{sub}
use Rattle.stitch_loose_points.specs.Loose.{Facet}
use Rattle.stitch_splits.specs.Splits.{near_last, Placed, insert_placed, sort_placed, drop_near, drop_close, kept_on}
use Rattle.stitch_splits.specs.Entries.{Entry, insert_entry, drop_after, kept_entries}
use Rattle.stitch_splits.specs.Filters.{filter_map_lem}
use Rattle.stitch_splits.specs.Places.{OnEdges, placed_of}
use Rattle.lists.specs.Each.{Each, each_both, each_then}

-- ---- one edge

module _ (f : Facet) (ps : List Float) where
  -- an entry is inserted as its placed point is
  insert_placed_lem : (x : Entry) (S : List Entry) → insert_placed (placed_of f ps x) (map (placed_of f ps) S) ≡ map (placed_of f ps) (insert_at x S)
  unfolding insert_placed insert_at placed_of
  insert_placed_lem x [] = refl
  insert_placed_lem x (y ∷ S) = go (lt x.t y.t) (insert_placed_lem x S)
    where
      go : (b : Bool) → insert_placed (placed_of f ps x) (map (placed_of f ps) S) ≡ map (placed_of f ps) (insert_at x S)
          → cond b (placed_of f ps x ∷ placed_of f ps y ∷ map (placed_of f ps) S) (placed_of f ps y ∷ insert_placed (placed_of f ps x) (map (placed_of f ps) S))
          ≡ map (placed_of f ps) (cond b (x ∷ y ∷ S) (y ∷ insert_at x S))
      go true e = refl
      go false e = ap (λ (l : List Placed). placed_of f ps y ∷ l) e

  -- entries are sorted as their placed points are
  sort_placed_lem : (S xs : List Entry) → sort_placed (map (placed_of f ps) S) (map (placed_of f ps) xs) ≡ map (placed_of f ps) (sort_at S xs)
  unfolding sort_placed sort_at
  sort_placed_lem S [] = refl
  sort_placed_lem S (x ∷ xs) = ap (λ (l : List Placed). sort_placed l (map (placed_of f ps) xs)) (insert_placed_lem x S) ∙ sort_placed_lem (insert_at x S) xs

  -- entries are dropped as their placed points are
  drop_placed : (last : Entry) (xs : List Entry) → drop_near (placed_of f ps last) (map (placed_of f ps) xs) ≡ map (placed_of f ps) (drop_near_at last xs)
  unfolding drop_near drop_near_at placed_of
  drop_placed last [] = refl
  drop_placed last (y ∷ xs) = go (lt (absolute (sub y.t last.t)) near_last) (drop_placed last xs) (drop_placed y xs)
    where
      go : (b : Bool) → drop_near (placed_of f ps last) (map (placed_of f ps) xs) ≡ map (placed_of f ps) (drop_near_at last xs)
          → drop_near (placed_of f ps y) (map (placed_of f ps) xs) ≡ map (placed_of f ps) (drop_near_at y xs)
          → elim b [ true ↦ drop_near (placed_of f ps last) (map (placed_of f ps) xs) | false ↦ placed_of f ps y ∷ drop_near (placed_of f ps y) (map (placed_of f ps) xs) ]
          ≡ map (placed_of f ps) (elim b [ true ↦ drop_near_at last xs | false ↦ y ∷ drop_near_at y xs ])
      go true d e = d
      go false d e = ap (λ (l : List Placed). placed_of f ps y ∷ l) e

  -- the first is kept of both
  close_placed : (xs : List Entry) → drop_close (map (placed_of f ps) xs) ≡ map (placed_of f ps) (drop_close_at xs)
  unfolding drop_close drop_close_at
  close_placed [] = refl
  close_placed (x ∷ xs) = ap (λ (l : List Placed). placed_of f ps x ∷ l) (drop_placed x xs)

  -- an edge keeps the placed points of the entries that it keeps
  edge_kept : (xs : List Entry) (k : ℕ) → kept_on (map (placed_of f ps) xs) k ≡ map (placed_of f ps) (kept_at xs k)
  unfolding kept_on placed_of
  edge_kept xs k =
      ap (λ (l : List Placed). drop_close (sort_placed [] l)) (filter_map_lem (λ p. eqb p.e k) (placed_of f ps) xs)
      ∙ ap drop_close (sort_placed_lem [] (on_edge k xs))
      ∙ close_placed (sort_at [] (on_edge k xs))

-- ---- all edges

module _ (Q : ℕ → Type 0) where
  -- of an entry and those that it is inserted into
  each_insert : (x : Entry) (S : List Entry) → Q x.e → EdgesEach Q S → EdgesEach Q (insert_at x S)
  unfolding insert_at
  each_insert x [] q r = (q, tt)
  each_insert x (y ∷ S) q r = go (lt x.t y.t) (each_insert x S q r.1)
    where
      go : (b : Bool) → EdgesEach Q (insert_at x S) → EdgesEach Q (cond b (x ∷ y ∷ S) (y ∷ insert_at x S))
      go true i = (q, r)
      go false i = (r.0, i)

  -- of entries and those that they are sorted into
  each_sort : (S xs : List Entry) → EdgesEach Q S → EdgesEach Q xs → EdgesEach Q (sort_at S xs)
  unfolding sort_at
  each_sort S [] q r = q
  each_sort S (x ∷ xs) q r = each_sort (insert_at x S) xs (each_insert x S r.0 q) r.1

-- the entries of edge k are on it
each_on : (k : ℕ) (xs : List Entry) → EdgesEach (λ j. j ≡ k) (on_edge k xs)
unfolding filter
each_on k [] = tt
each_on k (x ∷ xs) = go (eqb x.e k) refl (each_on k xs)
  where
    go : (b : Bool) → eqb x.e k ≡ b → EdgesEach (λ j. j ≡ k) (on_edge k xs) → EdgesEach (λ j. j ≡ k) (cond b (x ∷ on_edge k xs) (on_edge k xs))
    go true e r = (eqb-true x.e k e, r)
    go false e r = r

-- entries of one edge are on a higher edge than another
each_above : (i k : ℕ) → i < k → (xs : List Entry) → EdgesEach (λ j. j ≡ k) xs → EdgesEach (λ j. i < j) xs
each_above i k h = each_then (λ x. x.e ≡ k) (λ x. i < x.e) (λ x e. above x.e e)
  where
    above : (j : ℕ) → j ≡ k → i < j
    above j e = omega arith

-- and on a lower one than another
each_below : (i k : ℕ) → k < i → (xs : List Entry) → EdgesEach (λ j. j ≡ k) xs → EdgesEach (λ j. j < i) xs
each_below i k h = each_then (λ x. x.e ≡ k) (λ x. x.e < i) (λ x e. below x.e e)
  where
    below : (j : ℕ) → j ≡ k → j < i
    below j e = omega arith

-- ---- sorting

-- an entry goes behind all of lower edges
insert_behind : (x : Entry) (A B : List Entry) → EdgesEach (λ k. k < x.e) A → insert_entry x (A ++ B) ≡ A ++ insert_entry x B
unfolding insert_entry
insert_behind x [] B a = refl
insert_behind x (y ∷ A) B a =
    (λ i. elim (le-ltb x.e y.e (low a.0) i || (ne_eqb x.e y.e (λ e. differ a.0 e) i && lt x.t y.t)) [ true ↦ x ∷ y ∷ (A ++ B) | false ↦ y ∷ insert_entry x (A ++ B) ])
    ∙ ap (λ (l : List Entry). y ∷ l) (insert_behind x A B a.1)
  where
    low : y.e < x.e → y.e ≤ x.e
    low h = omega arith

    differ : y.e < x.e → x.e ≡ y.e → ⊥
    differ h e = omega arith

-- an entry goes in front of all of higher edges
insert_front : (x : Entry) (B : List Entry) → EdgesEach (λ k. x.e < k) B → insert_entry x B ≡ x ∷ B
unfolding insert_entry
insert_front x [] b = refl
insert_front x (y ∷ B) b =
    λ i. elim (lt-ltb x.e y.e b.0 i || (eqb x.e y.e && lt x.t y.t)) [ true ↦ x ∷ y ∷ B | false ↦ y ∷ insert_entry x B ]

-- among those of its edge it goes by parameter
insert_among : (x : Entry) (A B : List Entry) → EdgesEach (λ k. k ≡ x.e) A → EdgesEach (λ k. x.e < k) B → insert_entry x (A ++ B) ≡ insert_at x A ++ B
unfolding insert_entry insert_at
insert_among x [] B a b = insert_front x B b
insert_among x (y ∷ A) B a b =
    (λ i. elim (le-ltb x.e y.e (low a.0) i || (eq-eqb x.e y.e (sym a.0) i && lt x.t y.t)) [ true ↦ x ∷ y ∷ (A ++ B) | false ↦ y ∷ insert_entry x (A ++ B) ])
    ∙ go (lt x.t y.t) (insert_among x A B a.1 b)
  where
    low : y.e ≡ x.e → y.e ≤ x.e
    low h = omega arith

    go : (c : Bool) → insert_entry x (A ++ B) ≡ insert_at x A ++ B
        → elim c [ true ↦ x ∷ y ∷ (A ++ B) | false ↦ y ∷ insert_entry x (A ++ B) ] ≡ cond c (x ∷ y ∷ A) (y ∷ insert_at x A) ++ B
    go true e = refl
    go false e = ap (λ (l : List Entry). y ∷ l) e

-- entries inserted into one list are sorted edge by edge
sorts : (xs : List Entry) → OnEdges xs → Sorts xs
unfolding insert_all sort_at filter
sorts [] o S₀ S₁ S₂ a₀ a₁ a₂ = refl
sorts (x ∷ xs) o S₀ S₁ S₂ a₀ a₁ a₂ = go x.e x.t x.vertex o.0 (sorts xs o.1)
  where
    go : (e : ℕ) (t : Float) (v : ℕ) → e ≤ 2 → Sorts xs
        → let y : Entry = record { e = e; t = t; vertex = v } in
        insert_all (insert_entry y (S₀ ++ S₁ ++ S₂)) xs
        ≡ sort_at S₀ (cond (eqb e 0) (y ∷ on_edge 0 xs) (on_edge 0 xs))
        ++ sort_at S₁ (cond (eqb e 1) (y ∷ on_edge 1 xs) (on_edge 1 xs))
        ++ sort_at S₂ (cond (eqb e 2) (y ∷ on_edge 2 xs) (on_edge 2 xs))
    go zero t v h r =
        let y : Entry = record { e = 0; t = t; vertex = v } in
        let higher = each_both (λ x. 0 < x.e) S₁ S₂ (each_above 0 1 (omega arith) S₁ a₁) (each_above 0 2 (omega arith) S₂ a₂) in
        ap (λ (l : List Entry). insert_all l xs) (ap (insert_entry y) (append_assoc S₀ S₁ S₂) ∙ insert_among y S₀ (S₁ ++ S₂) a₀ higher ∙ sym (append_assoc (insert_at y S₀) S₁ S₂))
        ∙ r (insert_at y S₀) S₁ S₂ (each_insert (λ k. k ≡ 0) y S₀ refl a₀) a₁ a₂
    go (suc zero) t v h r =
        let y : Entry = record { e = 1; t = t; vertex = v } in
        ap
        (λ (l : List Entry). insert_all l xs)
        (ap (insert_entry y) (append_assoc S₀ S₁ S₂)
        ∙ insert_behind y S₀ (S₁ ++ S₂) (each_below 1 0 (omega arith) S₀ a₀)
        ∙ ap (λ (l : List Entry). S₀ ++ l) (insert_among y S₁ S₂ a₁ (each_above 1 2 (omega arith) S₂ a₂))
        ∙ sym (append_assoc S₀ (insert_at y S₁) S₂))
        ∙ r S₀ (insert_at y S₁) S₂ a₀ (each_insert (λ k. k ≡ 1) y S₁ refl a₁) a₂
    go (suc (suc zero)) t v h r =
        let y : Entry = record { e = 2; t = t; vertex = v } in
        let lower = each_both (λ x. x.e < 2) S₀ S₁ (each_below 2 0 (omega arith) S₀ a₀) (each_below 2 1 (omega arith) S₁ a₁) in
        ap
        (λ (l : List Entry). insert_all l xs)
        (insert_behind y (S₀ ++ S₁) S₂ lower
        ∙ ap (λ (l : List Entry). S₀ ++ S₁ ++ l) (ap (insert_entry y) (sym (append-nil S₂)) ∙ insert_among y S₂ [] a₂ tt ∙ append-nil (insert_at y S₂)))
        ∙ r S₀ S₁ (insert_at y S₂) a₀ a₁ (each_insert (λ k. k ≡ 2) y S₂ refl a₂)
    go (suc (suc (suc e))) t v h r = absurd (omega arith)

-- ---- dropping

-- an entry on another edge than the last kept is not dropped
drop_other : (last : Entry) (k : ℕ) → last.e ≡ k → (B : List Entry) → EdgesEach (λ j. k < j) B → drop_after last B ≡ kept_entries B
unfolding drop_after kept_entries
drop_other last k e [] b = refl
drop_other last k e (y ∷ B) b =
    λ i. elim (ne_eqb y.e last.e (λ q. differ b.0 q) i && lt (absolute (sub y.t last.t)) near_last) [ true ↦ drop_after last B | false ↦ y ∷ drop_after y B ]
  where
    differ : k < y.e → y.e ≡ last.e → ⊥
    differ h q = omega arith

-- the entries of an edge are dropped by parameter, whatever is on higher edges
drop_append : (last : Entry) (k : ℕ) → last.e ≡ k → (A B : List Entry) → EdgesEach (λ j. j ≡ k) A → EdgesEach (λ j. k < j) B
    → drop_after last (A ++ B) ≡ drop_near_at last A ++ kept_entries B
unfolding drop_after drop_near_at
drop_append last k e [] B a b = drop_other last k e B b
drop_append last k e (y ∷ A) B a b =
    (λ i. elim (eq-eqb y.e last.e (a.0 ∙ sym e) i && lt (absolute (sub y.t last.t)) near_last) [ true ↦ drop_after last (A ++ B) | false ↦ y ∷ drop_after y (A ++ B) ])
    ∙ go (lt (absolute (sub y.t last.t)) near_last) (drop_append last k e A B a.1 b) (drop_append y k a.0 A B a.1 b)
  where
    go : (c : Bool) → drop_after last (A ++ B) ≡ drop_near_at last A ++ kept_entries B → drop_after y (A ++ B) ≡ drop_near_at y A ++ kept_entries B
        → elim c [ true ↦ drop_after last (A ++ B) | false ↦ y ∷ drop_after y (A ++ B) ]
        ≡ elim c [ true ↦ drop_near_at last A | false ↦ y ∷ drop_near_at y A ] ++ kept_entries B
    go true p q = p
    go false p q = ap (λ (l : List Entry). y ∷ l) q

-- so are those kept
kept_append : (k : ℕ) (A B : List Entry) → EdgesEach (λ j. j ≡ k) A → EdgesEach (λ j. k < j) B → kept_entries (A ++ B) ≡ drop_close_at A ++ kept_entries B
unfolding kept_entries drop_close_at
kept_append k [] B a b = refl
kept_append k (x ∷ A) B a b = ap (λ (l : List Entry). x ∷ l) (drop_append x k a.0 A B a.1 b)

-- entries inserted into one list are kept edge by edge
kept_edges : (xs : List Entry) → OnEdges xs → kept_entries (insert_all [] xs) ≡ kept_at xs 0 ++ kept_at xs 1 ++ kept_at xs 2
unfolding kept_entries
kept_edges xs o =
    let S₀ = sort_at [] (on_edge 0 xs) in
    let S₁ = sort_at [] (on_edge 1 xs) in
    let S₂ = sort_at [] (on_edge 2 xs) in
    let a₀ = each_sort (λ j. j ≡ 0) [] (on_edge 0 xs) tt (each_on 0 xs) in
    let a₁ = each_sort (λ j. j ≡ 1) [] (on_edge 1 xs) tt (each_on 1 xs) in
    let a₂ = each_sort (λ j. j ≡ 2) [] (on_edge 2 xs) tt (each_on 2 xs) in
    let higher = each_both (λ x. 0 < x.e) S₁ S₂ (each_above 0 1 (omega arith) S₁ a₁) (each_above 0 2 (omega arith) S₂ a₂) in
    let last : kept_entries S₂ ≡ drop_close_at S₂ = ap kept_entries (sym (append-nil S₂)) ∙ kept_append 2 S₂ [] a₂ tt ∙ append-nil (drop_close_at S₂) in
    ap kept_entries (sorts xs o [] [] [] tt tt tt ∙ append_assoc S₀ S₁ S₂)
    ∙ kept_append 0 S₀ (S₁ ++ S₂) a₀ higher
    ∙ ap (λ (l : List Entry). drop_close_at S₀ ++ l) (kept_append 1 S₁ S₂ a₁ (each_above 1 2 (omega arith) S₂ a₂) ∙ ap (λ (l : List Entry). drop_close_at S₁ ++ l) last)
    ∙ sym (append_assoc (drop_close_at S₀) (drop_close_at S₁) (drop_close_at S₂))

-- The points that the edges of a triangle keep are those of the entries that are kept of one list.
pub kept_placed : (f : Facet) (ps : List Float) (xs : List Entry) → OnEdges xs
    → let placed = map (placed_of f ps) xs in
    kept_on placed 0 ++ kept_on placed 1 ++ kept_on placed 2 ≡ map (placed_of f ps) (kept_entries (insert_all [] xs))
kept_placed f ps xs o =
    (λ i. edge_kept f ps xs 0 i ++ edge_kept f ps xs 1 i ++ edge_kept f ps xs 2 i)
    ∙ sym
    (ap (map (placed_of f ps)) (kept_edges xs o)
    ∙ map-append (placed_of f ps) (kept_at xs 0 ++ kept_at xs 1) (kept_at xs 2)
    ∙ (λ i. map-append (placed_of f ps) (kept_at xs 0) (kept_at xs 1) i ++ map (placed_of f ps) (kept_at xs 2)))
