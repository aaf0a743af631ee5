-- The laws of a placed body's rows: where each stands, and the vertices of the first k. Assumes nothing.
use mathlib.Core.Path.{◌≡◌, refl, sym, ap, ◌∙◌, subst}
use mathlib.Core.Logic.{◌⊎◌, inl, inr}
use mathlib.Core.Bool.{Bool, true, false, ◌&&◌, cond}
use mathlib.Core.List.{List, [], ◌∷◌, ◌++◌, append_assoc, append-nil}
use Prim.Native.Nat.{ℕ, zero, suc, ◌+◌, ◌-◌, ◌*◌, ◌≤◌, ◌<◌, min}
use native.Mathlib.Numerals.{add-one}
use native.Mathlib.Omega.{arith}
use borrow.Author.Tests.{leb-true}
use lib.Dec.{leb}
use lib.IntN.{ℤ, pos, nat_abs, ◌+ℤ◌, ◌-ℤ◌}
use lib.ListN.{length, get_or, take, drop, length-take, take-append-drop}
use lib.Seq.{take-suc, take_all, length-take-le}
use lib.Ieee.{Float}
use Rattle.signed_numbers.specs.Range.{farthest, within}
use Rattle.signed_numbers.specs.Linear.{up, down, plus, minus, equal}
use Rattle.point_rules.specs.Points.{nearest}
use Rattle.lists.specs.Both.{and_left, and_right}
use Rattle.body_rows.specs.Body.{Patch, rows_of, patches_of, all_vertices}
use Rattle.body_rows.specs.Rows.{row_at, no_row, vertices_before}
use Rattle.body_rows.specs.Patches.{no_patch, patch_at_lem, length_patches, before_none, vertices_next, vertices_room, vertices_front}
use Rattle.plan_definition.specs.Places.{Place}
use Rattle.peg_definition.specs.PlaceLaws.{place_at, places_here}
use Rattle.peg_definition.specs.Peg.{Hit, apart, hits_of, micrometres, near, places_of, reach, row_hits, squares_sum, standing}
use Rattle.peg_distance.specs.Words.{Aimed, AxisAim, RowAim, RowRange, apart_from, beyond, least_to, middle, square_to}
use Rattle.plan_definition.specs.declared.PlaceWords.{PlaceWords}
use Rattle.peg_distance.specs.declared.target.Target.{Target}
use Rattle.peg_search.specs.Hits.{Ties, least_of, least_append, least_most, row_bin, row_least_bin, ties_either, ties_left}
use Rattle.peg_search.specs.Search.{Placed, RowThere, body_hits, peg_of}

-- ---- a row's vertices, by the peg less its place

-- how far a coordinate is from the peg
axis_same : (list : List ℤ) (i peg t : ℕ) (v : Float) → AxisAim list i peg t → apart_from t v ≡ apart (get_or list i (pos 0) +ℤ nearest micrometres v) (pos peg -ℤ pos farthest)
axis_same list i peg t v e =
    ap nat_abs
    (equal ((m +ℤ pos middle) -ℤ pos t) ((q +ℤ m) -ℤ p)
    (omega (arith, ap up e.is, ap down e.is, plus m (pos middle), minus (m +ℤ pos middle) (pos t), plus q m, minus (q +ℤ m) p, plus (pos t) q, plus p (pos middle))))
  where
    q : ℤ
    q = get_or list i (pos 0)

    m : ℤ
    m = nearest micrometres v

    p : ℤ
    p = pos peg -ℤ pos farthest

module _ (list : List ℤ) (k : ℕ) (peg : PlaceWords) (t : Target) (e : RowAim list k peg t) where
  -- a vertex
  vertex_same : (x y z : Float)
      → square_to t x y z ≡ cond (near (peg_of peg) (standing (place_at list k) x y z)) (squares_sum (peg_of peg) (standing (place_at list k) x y z)) beyond
  unfolding square_to
  vertex_same x y z =
      λ i. both (axis_same list (3 * k) peg.x t.x x e.on_x i) (axis_same list (3 * k + 1) peg.y t.y y e.on_y i) (axis_same list (3 * k + 2) peg.z t.z z e.on_z i)
    where
      both : ℕ → ℕ → ℕ → ℕ
      both a b c = cond (leb a reach && (leb b reach && leb c reach)) (a * a + b * b + c * c) beyond

  -- all of them
  pub row_same : (bin : ℕ) (ps : List Float) → least_to t ps ≡ least_of (row_hits (peg_of peg) bin (place_at list k) ps)
  unfolding least_to least_of row_hits
  row_same bin [] = refl
  row_same bin (x ∷ []) = refl
  row_same bin (x ∷ y ∷ []) = refl
  row_same bin (x ∷ y ∷ z ∷ ps) =
      (λ i. min (vertex_same x y z i) (row_same bin ps i))
      ∙ go (near (peg_of peg) (standing (place_at list k) x y z)) (squares_sum (peg_of peg) (standing (place_at list k) x y z)) (row_hits (peg_of peg) bin (place_at list k) ps)
    where
      go : (c : Bool) (s : ℕ) (hs : List Hit) → min (cond c s beyond) (least_of hs) ≡ least_of (cond c (record { bin = bin; square = s } ∷ hs) hs)
      go true s hs = refl
      go false s hs = let l = least_most hs in omega arith

-- a row's target may be aimed at
pub row_aimed : (list : List ℤ) (k : ℕ) (peg : PlaceWords) (t : Target) → RowAim list k peg t → Aimed t
row_aimed list k peg t e = record { on_x = e.on_x.near; on_y = e.on_y.near; on_z = e.on_z.near }

pub row_made : (list : List ℤ) (k : ℕ) (peg : PlaceWords) (t : Target) (ps : List Float) {r : ℕ} → RowAim list k peg t → r ≡ least_to t ps → r ≡ least_of (row_hits (peg_of peg) 0 (place_at list k) ps)
row_made list k peg t ps e q = q ∙ row_same list k peg t e 0 ps

-- a number in range
within_most : (z : ℤ) → within z ≡ true → nat_abs z ≤ farthest
within_most z e = leb-true (nat_abs z) farthest e

-- ---- the vertices of some rows

hits_none : (peg : Place) (patches : List Patch) → hits_of peg patches [] ≡ []
unfolding hits_of
hits_none peg [] = refl
hits_none peg (p ∷ patches) = refl

hits_append : (peg : Place) (ps qs : List Patch) (places : List Place) → hits_of peg (ps ++ qs) places ≡ hits_of peg ps places ++ hits_of peg qs (drop (length ps) places)
unfolding hits_of
hits_append peg [] qs places = refl
hits_append peg (p ∷ ps) qs [] = sym (hits_none peg qs)
hits_append peg (p ∷ ps) qs (q ∷ places) =
    ap (λ (l : List Hit). row_hits peg p.row.bin q p.positions ++ l) (hits_append peg ps qs places)
    ∙ sym (append_assoc (row_hits peg p.row.bin q p.positions) (hits_of peg ps places) (hits_of peg qs (drop (length ps) places)))

module _ (table : List ℕ) (ps : List Float) (list : List ℤ) (peg : PlaceWords) where
  abbrev patches : List Patch
  patches = patches_of (rows_of table) ps [] []

  -- those of the first k
  abbrev pub front : ℕ → List Hit
  front k = hits_of (peg_of peg) (take k patches) (places_of list)

  -- those of row k
  abbrev pub row_of : ℕ → List Hit
  row_of k = row_hits (peg_of peg) (row_at table k).bin (place_at list k) (take (3 * (row_at table k).vertices) (drop (3 * vertices_before (rows_of table) k) ps))

  pub front_none : front 0 ≡ []
  unfolding hits_of
  front_none = refl

  -- all rows
  pub front_all : (k : ℕ) → length (rows_of table) ≤ k → front k ≡ body_hits table ps list peg
  front_all k h = ap (λ (l : List Patch). hits_of (peg_of peg) l (places_of list)) (take_all k patches (omega (arith, length_patches (rows_of table) ps [] [])))

  -- no row has less than all
  pub front_least : (k : ℕ) → least_of (body_hits table ps list peg) ≤ least_of (front k)
  front_least k =
      let e : least_of (body_hits table ps list peg) ≡ min (least_of (front k)) (least_of (hits_of (peg_of peg) (drop k patches) (drop (length (take k patches)) (places_of list)))) =
      ap least_of (ap (λ (l : List Patch). hits_of (peg_of peg) l (places_of list)) (sym (take-append-drop k patches)) ∙ hits_append (peg_of peg) (take k patches) (drop k patches) (places_of list))
      ∙ least_append (front k) (hits_of (peg_of peg) (drop k patches) (drop (length (take k patches)) (places_of list))) in
      omega arith

  -- what those of the first k have, all have
  pub front_ties : (s b k : ℕ) → Ties s b (front k) → Ties s b (body_hits table ps list peg)
  front_ties s b k t =
      subst (Ties s b)
      (sym (ap (λ (l : List Patch). hits_of (peg_of peg) l (places_of list)) (sym (take-append-drop k patches)) ∙ hits_append (peg_of peg) (take k patches) (drop k patches) (places_of list)))
      (ties_left s b (front k) (hits_of (peg_of peg) (drop k patches) (drop (length (take k patches)) (places_of list))) t)

  module _ (p : Placed table ps list peg) (k : ℕ) (h : k < length (rows_of table)) where
    place_there : 3 * k + 2 < length list
    place_there = omega (arith, p.places)

    -- one row more
    pub front_more : front (k + 1) ≡ front k ++ row_of k
    unfolding hits_of row_at
    front_more =
        ap (λ (n : ℕ). hits_of (peg_of peg) (take n patches) (places_of list)) (add-one k)
        ∙ ap (λ (l : List Patch). hits_of (peg_of peg) l (places_of list)) (take-suc patches k no_patch k_there)
        ∙ hits_append (peg_of peg) (take k patches) (get_or patches k no_patch ∷ []) (places_of list)
        ∙ ap (λ (l : List Place). front k ++ hits_of (peg_of peg) (get_or patches k no_patch ∷ []) l)
        (ap (λ (n : ℕ). drop n (places_of list)) (length-take-le k patches (omega (arith, k_there))) ∙ places_here list k place_there)
        ∙ ap (λ (l : List Hit). front k ++ l)
        (append-nil (row_hits (peg_of peg) (get_or patches k no_patch).row.bin (place_at list k) (get_or patches k no_patch).positions)
        ∙ ap (λ (q : Patch). row_hits (peg_of peg) q.row.bin (place_at list k) q.positions) (patch_at_lem (rows_of table) ps [] [] k h))
      where
        k_there : k < length patches
        k_there = omega (arith, length_patches (rows_of table) ps [] [])

    -- its place is in range
    pub row_range : RowRange list k peg
    row_range = record {
      there = place_there;
      on_x = within_most (place_at list k).x in_x;
      on_y = within_most (place_at list k).y (and_left (within (place_at list k).y) (within (place_at list k).z) in_yz);
      on_z = within_most (place_at list k).z (and_right (within (place_at list k).y) (within (place_at list k).z) in_yz);
      peg_x = p.peg_x;
      peg_y = p.peg_y;
      peg_z = p.peg_z;
    }
      where
        in_x : within (place_at list k).x ≡ true
        in_x = and_left (within (place_at list k).x) (within (place_at list k).y && within (place_at list k).z) (p.range k h)

        in_yz : (within (place_at list k).y && within (place_at list k).z) ≡ true
        in_yz = and_right (within (place_at list k).x) (within (place_at list k).y && within (place_at list k).z) (p.range k h)

-- ---- where a row stands

-- the loop is at row k, whose coordinates begin at `from`
pub record AtRow (table : List ℕ) (n k from : ℕ) : Type 0 where
  pub all : n ≡ length (rows_of table)
  pub low : k ≤ n
  pub begins : from ≡ 3 * vertices_before (rows_of table) k

pub at_first : (table : List ℕ) {n : ℕ} → n ≡ length (rows_of table) → AtRow table n 0 0
at_first table e = record { all = e; low = omega arith; begins = omega (arith, (before_none (rows_of table)).0) }

module _ (table : List ℕ) (ps : List Float) (list : List ℤ) (peg : PlaceWords) (p : Placed table ps list peg) (n k from : ℕ) (at : AtRow table n k from) (h : k < n) where
  pub row_there : k < length (rows_of table)
  row_there = omega (arith, at.all)

  module _ {v : ℕ} (e : v ≡ (row_at table k).vertices) where
    row_few : vertices_before (rows_of table) k + v ≤ all_vertices (rows_of table)
    unfolding row_at
    row_few = subst (λ (m : ℕ). vertices_before (rows_of table) k + m ≤ all_vertices (rows_of table)) (sym e) (vertices_room (rows_of table) k row_there)

    pub coordinates_fit : 3 * v < 18446744073709551616
    coordinates_fit = omega (arith, row_few, p.few)

    pub end_fits : from + 3 * v < 18446744073709551616
    end_fits = omega (arith, row_few, p.few, at.begins)

    pub end_there : from + 3 * v ≤ length ps
    end_there = omega (arith, row_few, p.positions, at.begins)

    pub whole_row : RowThere table ps list peg k from (from + 3 * v)
    whole_row = record { row = row_there; order = omega arith; inside = end_there; range = row_range table ps list peg p k row_there }

    pub at_next : AtRow table n (k + 1) (from + 3 * v)
    at_next = record { all = at.all; low = omega arith; begins = omega (arith, at.begins, e, vertices_next table k row_there) }

    -- what row k comes to
    pub row_is : {m : ℕ} → m ≡ least_of (row_hits (peg_of peg) 0 (place_at list k) (take (from + 3 * v - from) (drop from ps))) → m ≡ least_of (row_of table ps list peg k)
    row_is q =
        q
        ∙ (λ i. least_of (row_hits (peg_of peg) 0 (place_at list k) (take (span i) (drop (at.begins i) ps))))
        ∙ row_least_bin (peg_of peg) 0 (row_at table k).bin (place_at list k) (take (3 * (row_at table k).vertices) (drop (3 * vertices_before (rows_of table) k) ps))
      where
        span : from + 3 * v - from ≡ 3 * (row_at table k).vertices
        span = omega (arith, e)

-- ---- the bins of the vertices

-- each vertex is of a row, and has its bin
pub record OfRow (table : List ℕ) (b : ℕ) : Type 0 where
  pub row : ℕ
  pub there : row < length (rows_of table)
  pub is : (row_at table row).bin ≡ b

pub ties_row : (table : List ℕ) (ps : List Float) (list : List ℤ) (peg : PlaceWords) → Placed table ps list peg → (s b : ℕ) → Ties s b (body_hits table ps list peg) → OfRow table b
ties_row table ps list peg p s b t = upto (length (rows_of table)) (omega arith) (subst (Ties s b) (sym (front_all table ps list peg (length (rows_of table)) (omega arith))) t)
  where
    upto : (k : ℕ) → k ≤ length (rows_of table) → Ties s b (front table ps list peg k) → OfRow table b
    upto zero l u = absurd (subst (Ties s b) (front_none table ps list peg) u)
    upto (suc k) l u =
        go (ties_either s b (front table ps list peg k) (row_of table ps list peg k)
        (subst (Ties s b) (front_more table ps list peg p k l) (subst (λ (n : ℕ). Ties s b (front table ps list peg n)) (sym (add-one k)) u))) (λ v. upto k (omega arith) v)
      where
        go : Ties s b (front table ps list peg k) ⊎ Ties s b (row_of table ps list peg k) → (Ties s b (front table ps list peg k) → OfRow table b) → OfRow table b
        go (inl v) r = r v
        go (inr v) r = record { row = k; there = l; is = sym (row_bin (peg_of peg) (row_at table k).bin (place_at list k) _ s b v) }
