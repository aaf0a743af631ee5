-- Laws of counting splits: the sides of a triangle, one triangle, one row, all rows. Assumes nothing.
use mathlib.Core.Path.{◌≡◌, refl, sym, ap, ◌∙◌}
use mathlib.Core.Bool.{Bool, true, false, not, ◌||◌}
use mathlib.Core.List.{List, [], ◌∷◌}
use Prim.Native.Nat.{ℕ, zero, suc, ◌+◌, ◌*◌, ◌<◌}
use native.Mathlib.Omega.{arith}
use lib.ListN.{get_or, take, drop}
use lib.Seq.{get_or-take}
use lib.Dec.{eqb}
use lib.Ieee.{Float}
use Rattle.lists.specs.Lists.{count_if}
use Rattle.patch_geometry.specs.declared.Vec3.{Vec3}
use Rattle.patch_geometry.specs.Geometry.{vertex_at, point_at}
use Rattle.stitch_projection.specs.declared.Edge.{Edge}
use Rattle.stitch_projection.specs.Projection.{edge_of}
use Rattle.stitch_loose_points.specs.Listed.{any_set}
use Rattle.stitch_splits.specs.declared.sides.TriangleEdge.{TriangleEdge}
use Rattle.stitch_splits.specs.declared.sides.Sides.{Sides}
use Rattle.stitch_splits.specs.Entries.{Entry, entries_of, kept_entries}
use Rattle.stitch_splits.specs.Found.{counts, counts_on, found_only, spot_of, with_spot, with_vertex, entries_on, found_count, triangle_found, triangle_kept}
use Rattle.stitch_triangle.specs.Triangle.{PointEdge, Splittable, Split}
use Rattle.stitch_count.specs.Views.{edge_at}
use Rattle.stitch_count.specs.Counting.{EdgeReady, SidesReady, sides_in, TriangleReady, TriangleDone}

-- ---- the sides of a triangle

-- an edge of two points
pub edge_made : (ps : List Float) (g h s t : ℕ) (o : Bool) {p q : Vec3} {e : Edge} → p ≡ vertex_at ps (3 * g) → q ≡ vertex_at ps (3 * h) → e ≡ edge_of p q
    → ◌≡◌ {A = TriangleEdge} (record { edge = e; start = s; end = t; is_open = o }) (record { edge = edge_of (point_at ps g) (point_at ps h); start = s; end = t; is_open = o })
edge_made ps g h s t o {p} {q} {e} ep eq ee = λ i. record { edge = (ee ∙ (λ j. edge_of (ep j) (eq j))) i; start = s; end = t; is_open = o }

module _ {ps : List Float} {is : List ℕ} {v flags base k : ℕ} {W : List ℕ} (g : SidesReady ps is v flags base k W) where
  module _ {a b c : ℕ} (ea : a ≡ base + get_or is k 0) (eb : b ≡ base + get_or is (k + 1) 0) (ec : c ≡ base + get_or is (k + 2) 0) where
    pub a_low : a < v
    a_low = omega (arith, g.in_a.low)

    pub b_low : b < v
    b_low = omega (arith, g.in_b.low)

    pub c_low : c < v
    c_low = omega (arith, g.in_c.low)

    pub third_edge : EdgeReady ps v c a W
    third_edge = record { all = g.all; names = g.names; start = c_low; end = a_low }

    -- an edge by the body's vertices
    at : {x y s t : ℕ} (o : ℕ) {z : TriangleEdge} → s < v → t < v → x ≡ s → y ≡ t
        → z ≡ record { edge = edge_of (point_at ps x) (point_at ps y); start = get_or W x 0; end = get_or W y 0; is_open = not (eqb o 0) } → z ≡ edge_at ps (take v W) s t o
    at {x} {y} {s} {t} o {z} ls lt ex ey ez =
        ez
        ∙ (λ i. record { edge = edge_of (point_at ps (ex i)) (point_at ps (ey i)); start = get_or W (ex i) 0; end = get_or W (ey i) 0; is_open = not (eqb o 0) })
        ∙ (λ i. record { edge = edge_of (point_at ps s) (point_at ps t); start = sym (get_or-take v W s 0 ls) i; end = sym (get_or-take v W t 0 lt) i; is_open = not (eqb o 0) })

    pub sides_made : {x y z : TriangleEdge}
        → x ≡ record { edge = edge_of (point_at ps a) (point_at ps b); start = get_or W a 0; end = get_or W b 0; is_open = not (eqb (get_or W (flags + k) 0) 0) }
        → y ≡ record { edge = edge_of (point_at ps b) (point_at ps c); start = get_or W b 0; end = get_or W c 0; is_open = not (eqb (get_or W (flags + k + 1) 0) 0) }
        → z ≡ record { edge = edge_of (point_at ps c) (point_at ps a); start = get_or W c 0; end = get_or W a 0; is_open = not (eqb (get_or W (flags + k + 2) 0) 0) }
        → ◌≡◌ {A = Sides} (record { first = x; second = y; third = z }) (sides_in ps is v flags base k W)
    sides_made {x} {y} {z} ex ey ez =
        λ i. record {
          first = at (get_or W (flags + k) 0) g.in_a.low g.in_b.low ea eb ex i;
          second = at (get_or W (flags + k + 1) 0) g.in_b.low g.in_c.low eb ec ey i;
          third = at (get_or W (flags + k + 2) 0) g.in_c.low g.in_a.low ec ea ez i;
        }

-- ---- a triangle without an open edge

-- no point counts for an edge that is not open
closed_counts : (sag : Float) (s : TriangleEdge) (name : ℕ) (r : Vec3) → s.is_open ≡ false → counts sag s name r ≡ false
closed_counts sag s name r e = rw e

module _ (sag : Float) (ps : List Float) (ns : List ℕ) (s : Sides) (a : s.first.is_open ≡ false) (b : s.second.is_open ≡ false) (c : s.third.is_open ≡ false) where
  closed_found : (e name : ℕ) (r : Vec3) → found_only sag s e name r ≡ false
  unfolding found_only counts_on
  closed_found zero name r = closed_counts sag s.first name r a
  closed_found (suc zero) name r = rw (closed_counts sag s.second name r b)
  closed_found (suc (suc e)) name r = rw (closed_counts sag s.third name r c)

  closed_count : (e : ℕ) (gs : List ℕ) → found_count sag ps ns s e gs ≡ 0
  unfolding found_count count_if
  closed_count e [] = refl
  closed_count e (g ∷ gs) = rw (closed_found e (get_or ns g 0) (point_at ps g)) (closed_count e gs)

  closed_entries : (e : ℕ) (gs : List ℕ) (C : List Entry) → entries_on sag ps ns s e gs C ≡ C
  unfolding entries_on with_vertex
  closed_entries e [] C = refl
  closed_entries e (g ∷ gs) C =
      ap (λ (t : Bool). entries_on sag ps ns s e gs (elim t [ true ↦ with_spot g (spot_of s (point_at ps g)) C | false ↦ C ])) (closed_found e (get_or ns g 0) (point_at ps g)) ∙ closed_entries e gs C

  pub closed_triangle : (gs : List ℕ) → 0 ≡ triangle_found sag ps ns s gs
  unfolding triangle_found
  closed_triangle gs = sym (λ i. closed_count 0 gs i + closed_count 1 gs i + closed_count 2 gs i)

  pub closed_kept : (gs : List ℕ) → [] ≡ triangle_kept sag ps ns s gs
  unfolding triangle_kept kept_entries
  closed_kept gs =
      sym (ap kept_entries (ap (entries_on sag ps ns s 2 gs) (ap (entries_on sag ps ns s 1 gs) (closed_entries 0 gs []) ∙ closed_entries 1 gs []) ∙ closed_entries 2 gs []))

-- ---- one triangle

-- none of three flags is set
none_set : (o p q : ℕ) → any_set o p q ≡ false → (not (eqb o 0) ≡ false) × ((not (eqb p 0) ≡ false) × (not (eqb q 0) ≡ false))
none_set o p q = go (not (eqb o 0)) (not (eqb p 0)) (not (eqb q 0))
  where
    go : (a b c : Bool) → (a || b || c) ≡ false → (a ≡ false) × ((b ≡ false) × (c ≡ false))
    go false false false e = (refl, (refl, refl))
    go false false true e = absurd (let z : ◌≡◌ {A = ℕ} 0 1 = cc in omega arith)
    go false true c e = absurd (let z : ◌≡◌ {A = ℕ} 0 1 = cc in omega arith)
    go true b c e = absurd (let z : ◌≡◌ {A = ℕ} 0 1 = cc in omega arith)

module _ {ps : List Float} {is : List ℕ} {sag beyond : Float} {n v list count at ts flags order boxes top base k : ℕ} {W : List ℕ}
    (g : TriangleReady ps is sag beyond n v list count at ts flags order boxes top base k W) where
  -- an edge of its sides runs between two points
  edge_pointed : (x y : ℕ) {e : Edge} → x < v → y < v → e ≡ edge_of (point_at ps x) (point_at ps y) → PointEdge e
  edge_pointed x y a b h = record { p = point_at ps x; q = point_at ps y; is = h; start = g.stands.points x a; end = g.stands.points y b }

  -- it can be split
  pub triangle_splittable : {s : Sides} → s ≡ sides_in ps is v flags base k W → Splittable ps sag beyond s v list count at ts order boxes top W
  triangle_splittable {s} e =
      let t = g.stands in
      record {
        listed = t.listed;
        few = t.few;
        all = t.all;
        points = t.points;
        list_behind = omega (arith, t.flags_behind, t.behind);
        order_names = t.order_names;
        behind = omega (arith, t.order_behind, t.behind);
        apart = t.apart;
        room = t.room;
        long = t.long;
        boxes_room = t.boxes_room;
        small = t.small;
        ranked = t.ranked;
        boxed = t.boxed;
        low = t.low;
        first = edge_pointed (base + get_or is k 0) (base + get_or is (k + 1) 0) g.in_a.low g.in_b.low (ap (λ (x : Sides). x.first.edge) e);
        second = edge_pointed (base + get_or is (k + 1) 0) (base + get_or is (k + 2) 0) g.in_b.low g.in_c.low (ap (λ (x : Sides). x.second.edge) e);
        third = edge_pointed (base + get_or is (k + 2) 0) (base + get_or is k 0) g.in_c.low g.in_a.low (ap (λ (x : Sides). x.third.edge) e);
        far = t.far;
      }

  -- it was split
  pub triangle_done : {s : Sides} {E : List ℕ} {found kept : ℕ} → s ≡ sides_in ps is v flags base k W → Split ps sag s v list count at ts W E found kept
      → TriangleDone ps is sag v list count at ts flags base k W E found kept
  triangle_done {s} {E} {found} {kept} e d =
      record {
        found_is = d.found_is ∙ ap (λ (x : Sides). triangle_found sag ps (take v W) x (take count (drop list W))) e;
        kept_are = d.kept_are ∙ ap (λ (x : Sides). triangle_kept sag ps (take v W) x (take count (drop list W))) e;
        few_found = omega (arith, d.few_found, g.stands.small);
        few_kept = omega (arith, d.few, g.stands.small);
        held = d.few;
        front = d.front;
        rest = d.rest;
      }

  -- it has no open edge
  pub triangle_closed : {b : Bool} → b ≡ any_set (get_or W (flags + k) 0) (get_or W (flags + k + 1) 0) (get_or W (flags + k + 2) 0) → b ≡ false
      → TriangleDone ps is sag v list count at ts flags base k W W 0 0
  unfolding entries_of
  triangle_closed {b} e f =
      let z = none_set (get_or W (flags + k) 0) (get_or W (flags + k + 1) 0) (get_or W (flags + k + 2) 0) (sym e ∙ f) in
      record {
        found_is = closed_triangle sag ps (take v W) (sides_in ps is v flags base k W) z.0 z.1.0 z.1.1 (take count (drop list W));
        kept_are = closed_kept sag ps (take v W) (sides_in ps is v flags base k W) z.0 z.1.0 z.1.1 (take count (drop list W));
        few_found = omega arith;
        few_kept = omega arith;
        held = omega arith;
        front = refl;
        rest = refl;
      }
