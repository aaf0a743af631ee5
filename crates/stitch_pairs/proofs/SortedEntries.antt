-- The found points as rising pairs are the entries that the definition inserts one by one by edge and parameter. Assumes nothing.
use Rattle.stitch_pairs.specs.SortedEntries.{PairBelow}
use Rattle.std.specs.Prelude.{◌≡◌, Bool, ◌&&◌, ◌||◌, cond, ℕ, suc, ◌+◌, ◌*◌, ◌/◌, ◌%◌, ◌≤◌, ◌<◌, length, get_or, ltb, eqb, Float}
use Rattle.std.proofs.Math.Path.{refl, ap, subst}
use Rattle.std.proofs.Common.{sym, ◌∙◌, lt-ltb, le-ltb, eq-eqb, ne_eqb}
use Rattle.std.proofs.Math.Bool.{true, false}
use mathlib.Core.List.{List, [], ◌∷◌, ◌++◌, map}
use Rattle.std.proofs.Math.Option.{Option, none, some}
use Rattle.std.proofs.Math.Decide.{dec_lt, ℕ_discrete}
use native.Mathlib.Omega.{arith}
use Rattle.std.specs.Float.{binary64}
use Rattle.std.specs.Float.Ieee.Bits.{of_bits-to_bits}
use Rattle.lists.specs.Lists.{filter_map}
use Rattle.lists.specs.Each.{Each, each_then}
use Rattle.slice_pairs.specs.Rearranged.{Rearranged, same_turned, same_then}
use Rattle.slice_pairs.specs.Rising.{Rises, rises_only}
use Rattle.slice_pairs.specs.Pairs.{pair_of}
use Rattle.float_steps.specs.Floats.{f64, bits64}
use Rattle.patch_geometry.specs.Geometry.{point_at}
use Rattle.stitch_splits.specs.declared.sides.Sides.{Sides}
use Rattle.stitch_splits.specs.Entries.{Entry, after, insert_entry}
use Rattle.stitch_splits.specs.Filters.{map_option}
use Rattle.stitch_splits.specs.declared.sides.Spot.{Spot}
use Rattle.stitch_splits.specs.Found.{found_only, spot_of, with_spot, with_vertex, entries_on}
use Rattle.stitch_pairs.specs.FoundPairs.{ranked_at, ranked_from, place_key, found_word, found_pair, found_pairs, entry_of_pair}
use Rattle.stitch_pairs.specs.BitOrder.{Inside, inside_order, inside_bits}
use Rattle.stitch_pairs.specs.Spots.{SpotInside, SpotsInside, spot_inside}
use Rattle.stitch_pairs.specs.Inserted.{insert_number, insert_numbers, numbers_append, each_number, each_inserted, inserted_rises, inserted_same}

-- ---- the entry of a pair

-- the words of a pair
higher : (k w : ℕ) → w < 18446744073709551616 → (18446744073709551616 * k + w) / 18446744073709551616 ≡ k
higher k w l = omega arith

vertex_of : (k w : ℕ) → (18446744073709551616 * k + w) % 262144 ≡ w % 262144
vertex_of k w = omega arith

-- the edge and the bits in the higher word
edge_of : (e b : ℕ) → b < 4611686018427387904 → (4611686018427387904 * e + b) / 4611686018427387904 ≡ e
edge_of e b l = omega arith

bits_of : (e b : ℕ) → b < 4611686018427387904 → (4611686018427387904 * e + b) % 4611686018427387904 ≡ b
bits_of e b l = omega arith

-- the entry of a place and a word
pair_entry : (e : ℕ) (t : Float) (w : ℕ) → Inside t → w < 18446744073709551616 → entry_of_pair (pair_of (place_key e t) w) ≡ record { e = e; t = t; vertex = w % 262144 }
pair_entry e t w i l =
    let k = higher (place_key e t) w l in
    ap (λ (a : ℕ). make (a / 4611686018427387904) (f64 (a % 4611686018427387904)) (pair_of (place_key e t) w % 262144)) k
    ∙ ap (λ (a : ℕ). make a (f64 (place_key e t % 4611686018427387904)) (pair_of (place_key e t) w % 262144)) (edge_of e (bits64 t) (inside_bits t i))
    ∙ ap (λ (a : Float). make e a (pair_of (place_key e t) w % 262144)) (ap f64 (bits_of e (bits64 t) (inside_bits t i)) ∙ of_bits-to_bits binary64 t i.fit)
    ∙ ap (make e t) (vertex_of (place_key e t) w)
  where
    make : ℕ → Float → ℕ → Entry
    make e t g = record { e = e; t = t; vertex = g }

-- ---- which of two comes after

-- pairs of one higher word are ordered by the lower
pair_order : (k l v w : ℕ) → w < v → v < 18446744073709551616 → ltb (18446744073709551616 * k + v) (18446744073709551616 * l + w) ≡ ltb k l
pair_order k l v w h s = go (dec_lt k l)
  where
    go : Dec (k < l) → ltb (18446744073709551616 * k + v) (18446744073709551616 * l + w) ≡ ltb k l
    go (yes z) = lt-ltb (18446744073709551616 * k + v) (18446744073709551616 * l + w) (omega arith) ∙ sym (lt-ltb k l z)
    go (no z) = le-ltb (18446744073709551616 * k + v) (18446744073709551616 * l + w) (omega arith) ∙ sym (le-ltb k l (omega arith))

-- keys are ordered by edge, then by bits
key_order : (e f b c : ℕ) → b < 4611686018427387904 → c < 4611686018427387904 → ltb (4611686018427387904 * e + b) (4611686018427387904 * f + c) ≡ (ltb e f || (eqb e f && ltb b c))
key_order e f b c hb hc = go (dec_lt e f) (ℕ_discrete e f)
  where
    same : e ≡ f → Dec (b < c) → ltb (4611686018427387904 * e + b) (4611686018427387904 * f + c) ≡ ltb b c
    same z (yes l) = lt-ltb (4611686018427387904 * e + b) (4611686018427387904 * f + c) (omega arith) ∙ sym (lt-ltb b c l)
    same z (no l) = le-ltb (4611686018427387904 * e + b) (4611686018427387904 * f + c) (omega arith) ∙ sym (le-ltb b c (omega arith))

    go : Dec (e < f) → Dec (e ≡ f) → ltb (4611686018427387904 * e + b) (4611686018427387904 * f + c) ≡ (ltb e f || (eqb e f && ltb b c))
    go (yes l) d = lt-ltb (4611686018427387904 * e + b) (4611686018427387904 * f + c) (omega arith) ∙ sym (ap (λ (x : Bool). x || (eqb e f && ltb b c)) (lt-ltb e f l))
    go (no l) (yes z) =
        same z (dec_lt b c) ∙ sym (ap (λ (x : Bool). x || (eqb e f && ltb b c)) (le-ltb e f (omega arith)) ∙ ap (λ (x : Bool). x && ltb b c) (eq-eqb e f z))
    go (no l) (no n) =
        le-ltb (4611686018427387904 * e + b) (4611686018427387904 * f + c) (omega arith)
        ∙ sym (ap (λ (x : Bool). x || (eqb e f && ltb b c)) (le-ltb e f (omega arith)) ∙ ap (λ (x : Bool). x && ltb b c) (ne_eqb e f n))

-- a higher bound
below_more : (b c : ℕ) → b ≤ c → (x : ℕ) → PairBelow b x → PairBelow c x
below_more b c l x h = record { e = h.e; t = h.t; word = h.word; is = h.is; inside = h.inside; low = omega (arith, h.low) }

-- a pair that came before comes after in the order exactly if its entry does
after_pair : (b e : ℕ) (t : Float) (w v : ℕ) → Inside t → b ≤ w → w < 18446744073709551616 → (y : ℕ) → PairBelow b y
    → ltb (pair_of (place_key e t) w) y ≡ after (record { e = e; t = t; vertex = v }) (entry_of_pair y)
after_pair b e t w v i l s y h =
    ap (ltb (pair_of (place_key e t) w)) h.is
    ∙ pair_order (place_key e t) (place_key h.e h.t) w h.word (omega (arith, h.low)) s
    ∙ key_order e h.e (bits64 t) (bits64 h.t) (inside_bits t i) (inside_bits h.t h.inside)
    ∙ ap (λ (x : Bool). ltb e h.e || (eqb e h.e && x)) (sym (inside_order t h.t i h.inside))
    ∙ ap (after (record { e = e; t = t; vertex = v })) (sym (ap entry_of_pair h.is ∙ pair_entry h.e h.t h.word h.inside (omega (arith, h.low))))

-- a pair is inserted as its entry is
insert_pair : (b e : ℕ) (t : Float) (w v : ℕ) → Inside t → b ≤ w → w < 18446744073709551616 → w % 262144 ≡ v → (C : List ℕ) → Each (PairBelow b) C
    → map entry_of_pair (insert_number (pair_of (place_key e t) w) C) ≡ insert_entry (record { e = e; t = t; vertex = v }) (map entry_of_pair C)
unfolding insert_number insert_entry
insert_pair b e t w v i l s g [] c = ap (λ (x : Entry). x ∷ []) (pair_entry e t w i s ∙ ap (λ (k : ℕ). record { e = e; t = t; vertex = k }) g)
insert_pair b e t w v i l s g (y ∷ C) c =
    go (ltb (pair_of (place_key e t) w) y) (insert_pair b e t w v i l s g C c.1)
    ∙ (λ k. elim (after_pair b e t w v i l s y c.0 k) [ true ↦ new ∷ entry_of_pair y ∷ map entry_of_pair C | false ↦ entry_of_pair y ∷ insert_entry new (map entry_of_pair C) ])
  where
    new : Entry
    new = record { e = e; t = t; vertex = v }

    go : (d : Bool) → map entry_of_pair (insert_number (pair_of (place_key e t) w) C) ≡ insert_entry new (map entry_of_pair C)
        → map entry_of_pair (elim d [ true ↦ pair_of (place_key e t) w ∷ y ∷ C | false ↦ y ∷ insert_number (pair_of (place_key e t) w) C ])
        ≡ elim d [ true ↦ new ∷ entry_of_pair y ∷ map entry_of_pair C | false ↦ entry_of_pair y ∷ insert_entry new (map entry_of_pair C) ]
    go true r = ap (λ (x : Entry). x ∷ entry_of_pair y ∷ map entry_of_pair C) (pair_entry e t w i s ∙ ap (λ (k : ℕ). record { e = e; t = t; vertex = k }) g)
    go false r = ap (λ (x : List Entry). entry_of_pair y ∷ x) r

-- ---- the vertices found on an edge

module _ (sag : Float) (ps : List Float) (ns : List ℕ) (s : Sides) (e : ℕ) (small : e ≤ 2) where
  -- the pair of a vertex, if it is found, by the vertex
  abbrev pair_for : ℕ → ℕ → Bool → Option Spot → Option ℕ
  pair_for j g found q = cond found (map_option (λ p. pair_of (place_key p.e p.t) (found_word e (ranked_at j g))) q) none

  pair_for_lem : (j g : ℕ) → g < 262144 → found_pair sag ps ns s e (ranked_at j g) ≡ pair_for j g (found_only sag s e (get_or ns g 0) (point_at ps g)) (spot_of s (point_at ps g))
  unfolding found_pair
  pair_for_lem j g l =
      let v : (262144 * j + g) % 262144 ≡ g = omega arith in
      ap (λ (k : ℕ). pair_for j g (found_only sag s e (get_or ns k 0) (point_at ps k)) (spot_of s (point_at ps k))) v

  -- such a pair is below the next edge's
  below_next : (j g : ℕ) → j < 786432 → g < 262144 → (q : Spot) → SpotInside q → PairBelow (found_word (e + 1) 0) (pair_of (place_key q.e q.t) (found_word e (ranked_at j g)))
  below_next j g l m q i = record { e = q.e; t = q.t; word = found_word e (ranked_at j g); is = refl; inside = i.inside; low = omega arith }

  -- so are all from a place on
  edge_below : (j : ℕ) (gs : List ℕ) → j + length gs ≤ 786432 → ((i : ℕ) → i < length gs → get_or gs i 0 < 262144) → Each (PairBelow (found_word (e + 1) 0)) (found_pairs sag ps ns s e (ranked_from j gs))
  unfolding found_pairs filter_map ranked_from
  edge_below j [] m l = tt
  edge_below j (g ∷ gs) m l =
      let rest = found_pairs sag ps ns s e (ranked_from (suc j) gs) in
      subst (λ (o : Option ℕ). Each (PairBelow (found_word (e + 1) 0)) (elim o [ none ↦ rest | some y ↦ y ∷ rest ])) (sym (pair_for_lem j g (l 0 (omega arith))))
      (go (found_only sag s e (get_or ns g 0) (point_at ps g)) (spot_of s (point_at ps g)) (spot_inside s (point_at ps g))
      (edge_below (suc j) gs (omega arith) (λ i h. l (suc i) (omega arith))))
    where
      go : (b : Bool) (q : Option Spot) → SpotsInside q → Each (PairBelow (found_word (e + 1) 0)) (found_pairs sag ps ns s e (ranked_from (suc j) gs))
          → let rest = found_pairs sag ps ns s e (ranked_from (suc j) gs) in
          Each (PairBelow (found_word (e + 1) 0)) (elim (pair_for j g b q) [ none ↦ rest | some y ↦ y ∷ rest ])
      go false q i r = r
      go true none i r = r
      go true (some q) i r = (below_next j g (omega arith) (l 0 (omega arith)) q i, r)

  -- the pairs from a place on are inserted as their entries are
  edge_entries : (j : ℕ) (gs : List ℕ) → j + length gs ≤ 786432 → ((i : ℕ) → i < length gs → get_or gs i 0 < 262144)
      → (C : List ℕ) → Each (PairBelow (found_word e (ranked_at j 0))) C
      → map entry_of_pair (insert_numbers C (found_pairs sag ps ns s e (ranked_from j gs))) ≡ entries_on sag ps ns s e gs (map entry_of_pair C)
  unfolding found_pairs filter_map ranked_from insert_numbers entries_on with_vertex
  edge_entries j [] m l C c = refl
  edge_entries j (g ∷ gs) m l C c =
      let rest = found_pairs sag ps ns s e (ranked_from (suc j) gs) in
      ap (λ (o : Option ℕ). map entry_of_pair (insert_numbers C (elim o [ none ↦ rest | some y ↦ y ∷ rest ]))) (pair_for_lem j g (l 0 (omega arith)))
      ∙ go (found_only sag s e (get_or ns g 0) (point_at ps g)) (spot_of s (point_at ps g)) (spot_inside s (point_at ps g)) (edge_entries (suc j) gs (omega arith) (λ i h. l (suc i) (omega arith)))
    where
      more : (x : ℕ) → PairBelow (found_word e (ranked_at j 0)) x → PairBelow (found_word e (ranked_at (suc j) 0)) x
      more = below_more (found_word e (ranked_at j 0)) (found_word e (ranked_at (suc j) 0)) (omega arith)

      C-more : Each (PairBelow (found_word e (ranked_at (suc j) 0))) C
      C-more = each_then (PairBelow (found_word e (ranked_at j 0))) (PairBelow (found_word e (ranked_at (suc j) 0))) more C c

      go : (b : Bool) (q : Option Spot) → SpotsInside q
          → ((D : List ℕ) → Each (PairBelow (found_word e (ranked_at (suc j) 0))) D
          → map entry_of_pair (insert_numbers D (found_pairs sag ps ns s e (ranked_from (suc j) gs))) ≡ entries_on sag ps ns s e gs (map entry_of_pair D))
          → let rest = found_pairs sag ps ns s e (ranked_from (suc j) gs) in
          map entry_of_pair (insert_numbers C (elim (pair_for j g b q) [ none ↦ rest | some y ↦ y ∷ rest ]))
          ≡ entries_on sag ps ns s e gs (elim b [ true ↦ with_spot g q (map entry_of_pair C) | false ↦ map entry_of_pair C ])
      go false q i r = r C C-more
      go true none i r = r C C-more
      go true (some q) i r =
          let w = found_word e (ranked_at j g) in
          let x = pair_of (place_key q.e q.t) w in
          let h : g < 262144 = l 0 (omega arith) in
          let new : PairBelow (found_word e (ranked_at (suc j) 0)) x = record { e = q.e; t = q.t; word = w; is = refl; inside = i.inside; low = omega arith } in
          r (insert_number x C) (each_number (PairBelow (found_word e (ranked_at (suc j) 0))) x C new C-more)
          ∙ ap (entries_on sag ps ns s e gs) (insert_pair (found_word e (ranked_at j 0)) q.e q.t w g i.inside (omega arith) (omega arith) (omega arith) C c)

-- Rising pairs that are those of all vertices found are the entries that the definition inserts.
pub sorted_entries : (sag : Float) (ps : List Float) (ns : List ℕ) (s : Sides) (gs : List ℕ) → length gs ≤ 786432 → ((j : ℕ) → j < length gs → get_or gs j 0 < 262144)
    → (xs : List ℕ) → Rises xs
    → Rearranged xs (found_pairs sag ps ns s 0 (ranked_from 0 gs) ++ found_pairs sag ps ns s 1 (ranked_from 0 gs) ++ found_pairs sag ps ns s 2 (ranked_from 0 gs))
    → map entry_of_pair xs ≡ entries_on sag ps ns s 2 gs (entries_on sag ps ns s 1 gs (entries_on sag ps ns s 0 gs []))
sorted_entries sag ps ns s gs n l xs up r =
    let P₀ = found_pairs sag ps ns s 0 (ranked_from 0 gs) in
    let P₁ = found_pairs sag ps ns s 1 (ranked_from 0 gs) in
    let P₂ = found_pairs sag ps ns s 2 (ranked_from 0 gs) in
    let C₁ = insert_numbers [] P₀ in
    let C₂ = insert_numbers C₁ P₁ in
    let m : 0 + length gs ≤ 786432 = omega arith in
    let c₁ = each_inserted (PairBelow (found_word 1 0)) [] P₀ tt (edge_below sag ps ns s 0 (omega arith) 0 gs m l) in
    let c₂ = each_inserted (PairBelow (found_word 2 0)) C₁ P₁
    (each_then (PairBelow (found_word 1 0)) (PairBelow (found_word 2 0)) (below_more (found_word 1 0) (found_word 2 0) (omega arith)) C₁ c₁)
    (edge_below sag ps ns s 1 (omega arith) 0 gs m l) in
    ap (map entry_of_pair)
    (rises_only xs (insert_numbers [] (P₀ ++ P₁ ++ P₂)) up (inserted_rises (P₀ ++ P₁ ++ P₂)) (same_then r (same_turned (inserted_same (P₀ ++ P₁ ++ P₂))))
    ∙ numbers_append [] (P₀ ++ P₁) P₂
    ∙ ap (λ (C : List ℕ). insert_numbers C P₂) (numbers_append [] P₀ P₁))
    ∙ edge_entries sag ps ns s 2 (omega arith) 0 gs m l C₂ c₂
    ∙ ap (entries_on sag ps ns s 2 gs) (edge_entries sag ps ns s 1 (omega arith) 0 gs m l C₁ c₁)
    ∙ ap (λ (C : List Entry). entries_on sag ps ns s 2 gs (entries_on sag ps ns s 1 gs C)) (edge_entries sag ps ns s 0 (omega arith) 0 gs m l [] tt)
