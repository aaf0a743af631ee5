-- Where the new vertices of a stitched body come from: each has the point of a loose point, that is of a corner, and lies on an edge between two corners of its triangle.
-- Assumes nothing.
use Rattle.std.specs.Prelude.{◌≡◌, Bool, ◌&&◌, cond, ℕ, suc, ◌<◌, length, drop, ltb, eqb, Float}
use Rattle.std.proofs.Math.Path.{refl}
use Rattle.std.proofs.Math.Bool.{true, false, not}
use mathlib.Core.List.{List, [], ◌∷◌, ◌++◌, map, flat_map}
use Rattle.std.proofs.Math.Option.{Option, none, some}
use Rattle.std.proofs.Common.{arith}
use Rattle.std.specs.Float.Ieee.{lt, eq}
use Rattle.lists.specs.Lists.{any, filter, filter_map}
use Rattle.lists.specs.Each.{Each, each_filter, each_both, each_then}
use Rattle.float_steps.specs.Floats.{absolute}
use Rattle.join_definition.specs.Join.{joined}
use Rattle.body_rows.specs.Body.{Patch, triangles_of}
use Rattle.patch_geometry.specs.declared.Vec3.{Vec3}
use Rattle.patch_geometry.specs.Geometry.{sub, div, sub_v, scale, dot, length_v, zero64, point_at}
use Rattle.edge_uses.specs.Edges.{Use, uses_from, is_open}
use Rattle.stitch_projection.specs.declared.Edge.{Edge}
use Rattle.stitch_projection.specs.declared.Hit.{Hit}
use Rattle.stitch_projection.specs.Projection.{near_end, far_end, project}
use Rattle.stitch_loose_points.specs.Loose.{Corner, Facet, Loose, corner_of, facets_of, body_facets, insert_loose, insert_corner, insert_open, loose_from, facets_in, loose_in}
use Rattle.stitch_splits.specs.Splits.{Side, side_of, sides_of, same_cell, splits, found_on, found_from}
use Rattle.stitch_splits.specs.Splits.{Placed, near_last, nearer, place_on, place_from, place, insert_placed, sort_placed, drop_near, drop_close, kept_on, SplitTriangle, split_triangle}

-- the triangles of each row with their splits, as the stitched body has them
unfoldable pub splits_in : Float → List ℕ → List Patch → List (List SplitTriangle)
splits_in sag ns patches =
    let fss = facets_in ns patches in
    let ls = loose_in fss in
    map (λ fs. map (split_triangle sag ls) fs) fss

-- what holds of a point's coordinates
abbrev pub OfPoint : (Float → Type 0) → Vec3 → Type 0
OfPoint Q v = Q v.x × Q v.y × Q v.z

-- a parameter between those that count
pub record Between (t : Float) : Type 0 where
  pub above : lt near_end t ≡ true
  pub below : lt t far_end ≡ true

-- a hit, if there is one, has such a parameter
abbrev HitBetween : Option Hit → Type 0
HitBetween none = Unit {0}
HitBetween (some h) = Between h.t

-- so of every projection
hit_between : (s : Edge) (r : Vec3) → HitBetween (project s r)
unfolding project
hit_between s r = go (not (eq s.squared zero64)) (lt near_end t) (lt t far_end) refl refl
  where
    w : Vec3
    w = sub_v r s.start

    t : Float
    t = div (dot (sub_v r s.start) s.along) s.squared

    go : (a b c : Bool) → lt near_end t ≡ b → lt t far_end ≡ c
        → HitBetween (cond (a && b && c) (some (record { t = t; distance = length_v (sub_v (sub_v r s.start) (scale s.along t)) })) none)
    go true true true e f = record { above = e; below = f }
    go true true false e f = tt
    go true false c e f = tt
    go false b c e f = tt

-- ---- the points that an edge keeps

-- what holds of each point placed holds of each that is kept
module _ (Q : Placed → Type 0) where
  -- points with one more
  insert_each : (p : Placed) (xs : List Placed) → Q p → Each Q xs → Each Q (insert_placed p xs)
  unfolding insert_placed
  insert_each p [] o os = (o, tt)
  insert_each p (x ∷ xs) o os = go (lt p.t x.t) (insert_each p xs o os.1)
    where
      go : (b : Bool) → Each Q (insert_placed p xs) → Each Q (cond b (p ∷ x ∷ xs) (x ∷ insert_placed p xs))
      go true r = (o, os)
      go false r = (os.0, r)

  -- points sorted
  sort_each : (sorted xs : List Placed) → Each Q sorted → Each Q xs → Each Q (sort_placed sorted xs)
  unfolding sort_placed
  sort_each sorted [] os rs = os
  sort_each sorted (p ∷ xs) os rs = sort_each (insert_placed p sorted) xs (insert_each p sorted rs.0 os) rs.1

  -- points without those close to the last kept
  near_each : (last : Placed) (xs : List Placed) → Each Q xs → Each Q (drop_near last xs)
  unfolding drop_near
  near_each last [] os = tt
  near_each last (p ∷ xs) os = go (lt (absolute (sub p.t last.t)) near_last) (near_each last xs os.1) (near_each p xs os.1)
    where
      go : (b : Bool) → Each Q (drop_near last xs) → Each Q (drop_near p xs) → Each Q (elim b [ true ↦ drop_near last xs | false ↦ p ∷ drop_near p xs ])
      go true r s = r
      go false r s = (os.0, s)

  -- the first is kept
  close_each : (xs : List Placed) → Each Q xs → Each Q (drop_close xs)
  unfolding drop_close
  close_each [] os = tt
  close_each (p ∷ xs) os = (os.0, near_each p xs os.1)

-- What holds of each point placed holds of each that edge e keeps.
kept_each : (Q : Placed → Type 0) (placed : List Placed) (e : ℕ) → Each Q placed → Each Q (kept_on placed e)
unfolding kept_on
kept_each Q placed e qs =
    let here = filter (λ p. eqb p.e e) placed in
    close_each Q (sort_placed [] here) (sort_each Q [] here tt (each_filter Q Q (λ p. eqb p.e e) (λ p h q. q) placed qs))

module _ (Q : Vec3 → Type 0) where
  -- ---- loose points

  -- a loose point's point
  abbrev GoodLoose : Loose → Type 0
  GoodLoose l = Q l.point

  -- a triangle of the first n vertices, and its points
  record GoodFacet (n : ℕ) (f : Facet) : Type 0 where
    low₀ : f.c₀.index < n
    low₁ : f.c₁.index < n
    low₂ : f.c₂.index < n
    point₀ : Q f.c₀.point
    point₁ : Q f.c₁.point
    point₂ : Q f.c₂.point

  -- its points
  abbrev GoodPoints : Facet → Type 0
  GoodPoints f = Q f.c₀.point × Q f.c₁.point × Q f.c₂.point

  -- loose points with one more
  insert_good : (l : Loose) (xs : List Loose) → GoodLoose l → Each GoodLoose xs → Each GoodLoose (insert_loose l xs)
  unfolding insert_loose
  insert_good l [] g gs = (g, tt)
  insert_good l (x ∷ xs) g gs = go (ltb l.name x.name) (eqb l.name x.name) (insert_good l xs g gs.1)
    where
      go : (b c : Bool) → Each GoodLoose (insert_loose l xs) → Each GoodLoose (cond b (l ∷ x ∷ xs) (cond c (l ∷ xs) (x ∷ insert_loose l xs)))
      go true c r = (g, gs)
      go false true r = (g, gs.1)
      go false false r = (gs.0, r)

  -- with the corners of an open edge's triangle
  open_good : (f : Facet) (c : Corner) (ls : List Loose) → GoodPoints f → Each GoodLoose ls → Each GoodLoose (insert_open f c ls)
  unfolding insert_open insert_corner
  open_good f c ls g gs = go c.is_open
    where
      one : List Loose
      one = insert_loose (record { name = f.c₀.name; point = f.c₀.point }) ls

      two : List Loose
      two = insert_loose (record { name = f.c₁.name; point = f.c₁.point }) (insert_loose (record { name = f.c₀.name; point = f.c₀.point }) ls)

      go : (b : Bool) → Each GoodLoose (cond b (insert_corner f.c₂ (insert_corner f.c₁ (insert_corner f.c₀ ls))) ls)
      go true =
          insert_good (record { name = f.c₂.name; point = f.c₂.point }) two g.2
          (insert_good (record { name = f.c₁.name; point = f.c₁.point }) one g.1 (insert_good (record { name = f.c₀.name; point = f.c₀.point }) ls g.0 gs))
      go false = gs

  -- the loose points of some triangles
  from_good : (fs : List Facet) (ls : List Loose) → Each GoodPoints fs → Each GoodLoose ls → Each GoodLoose (loose_from fs ls)
  unfolding loose_from
  from_good [] ls g gs = gs
  from_good (f ∷ fs) ls g gs =
      let a = open_good f f.c₀ ls g.0 gs in
      let b = open_good f f.c₁ (insert_open f f.c₀ ls) g.0 a in
      let c = open_good f f.c₂ (insert_open f f.c₁ (insert_open f f.c₀ ls)) g.0 b in
      from_good fs (insert_open f f.c₂ (insert_open f f.c₁ (insert_open f f.c₀ ls))) g.1 c

  -- ---- found points

  -- the points found on an edge
  found_on_lem : (sag : Float) (s : Side) (ls : List Loose) (found : List Vec3) → Each GoodLoose ls → Each Q found → Each Q (found_on sag s ls found)
  unfolding found_on
  found_on_lem sag s [] found g gs = gs
  found_on_lem sag s (l ∷ ls) found g gs =
      let more = each_both Q found (l.point ∷ []) gs (g.0, tt) in
      go (splits sag s l && not (any (same_cell l.point) found)) (found_on_lem sag s ls (found ++ l.point ∷ []) g.1 more) (found_on_lem sag s ls found g.1 gs)
    where
      go : (b : Bool) → Each Q (found_on sag s ls (found ++ l.point ∷ [])) → Each Q (found_on sag s ls found)
          → Each Q (elim b [ true ↦ found_on sag s ls (found ++ l.point ∷ []) | false ↦ found_on sag s ls found ])
      go true p q = p
      go false p q = q

  -- on some edges
  found_from_lem : (sag : Float) (ls : List Loose) (ss : List Side) (found : List Vec3) → Each GoodLoose ls → Each Q found → Each Q (found_from sag ls ss found)
  unfolding found_from
  found_from_lem sag ls [] found g gs = gs
  found_from_lem sag ls (s ∷ ss) found g gs = go s.start.is_open (found_from_lem sag ls ss (found_on sag s ls found) g (found_on_lem sag s ls found g gs)) (found_from_lem sag ls ss found g gs)
    where
      go : (b : Bool) → Each Q (found_from sag ls ss (found_on sag s ls found)) → Each Q (found_from sag ls ss found)
          → Each Q (elim b [ true ↦ found_from sag ls ss (found_on sag s ls found) | false ↦ found_from sag ls ss found ])
      go true p q = p
      go false p q = q

  -- ---- placed points

  -- a point placed on an edge between two of the first n vertices
  pub record Sited (n : ℕ) (p : Placed) : Type 0 where
    pub point : Q p.point
    pub start : p.side.start.index < n
    pub end : p.side.end.index < n
    pub between : Between p.t

  -- an edge between two of the first n vertices
  abbrev SideIn : ℕ → Side → Type 0
  SideIn n s = (s.start.index < n) × (s.end.index < n)

  -- a place, if there is one
  abbrev IfSited : ℕ → Option Placed → Type 0
  IfSited n none = Unit {0}
  IfSited n (some p) = Sited n p

  -- the nearer of two
  nearer_sited : (n : ℕ) (best other : Option Placed) → IfSited n best → IfSited n other → IfSited n (nearer best other)
  unfolding nearer
  nearer_sited n none none a b = tt
  nearer_sited n (some p) none a b = a
  nearer_sited n none (some q) a b = b
  nearer_sited n (some p) (some q) a b = go (lt q.distance p.distance)
    where
      go : (c : Bool) → IfSited n (cond c (some q) (some p))
      go true = b
      go false = a

  -- the place on an edge
  on_sited : (n : ℕ) (r : Vec3) (e : ℕ) (s : Side) → Q r → SideIn n s → IfSited n (place_on r e s)
  unfolding place_on
  on_sited n r e s g i = go (project s.edge r) (hit_between s.edge r)
    where
      go : (o : Option Hit) → HitBetween o → IfSited n (elim o [ none ↦ none | some h ↦ some (record { e = e; side = s; t = h.t; distance = h.distance; point = r }) ])
      go none b = tt
      go (some h) b = record { point = g; start = i.0; end = i.1; between = b }

  -- the place on the nearest of some edges
  from_sited : (n : ℕ) (r : Vec3) (e : ℕ) (ss : List Side) (best : Option Placed) → Q r → Each (SideIn n) ss → IfSited n best → IfSited n (place_from r e ss best)
  unfolding place_from
  from_sited n r e [] best g i b = b
  from_sited n r e (s ∷ ss) best g i b = from_sited n r (suc e) ss (nearer best (place_on r e s)) g i.1 (nearer_sited n best (place_on r e s) b (on_sited n r e s g i.0))

  -- the places of some points
  place_sited : (n : ℕ) (ss : List Side) → Each (SideIn n) ss → (found : List Vec3) → Each Q found → Each (Sited n) (filter_map (place ss) found)
  unfolding filter_map place
  place_sited n ss i [] g = tt
  place_sited n ss i (r ∷ rs) g = go (place_from r 0 ss none) (from_sited n r 0 ss none g.0 i tt) (place_sited n ss i rs g.1)
    where
      go : (o : Option Placed) → IfSited n o → Each (Sited n) (filter_map (place ss) rs) → Each (Sited n) (elim o [ none ↦ filter_map (place ss) rs | some y ↦ y ∷ filter_map (place ss) rs ])
      go none b q = q
      go (some y) b q = (b, q)

  -- ---- new vertices

  -- a triangle of the first n vertices, each of whose new vertices is placed on an edge between two of them
  pub record SplitWell (n : ℕ) (x : SplitTriangle) : Type 0 where
    pub low₀ : x.facet.c₀.index < n
    pub low₁ : x.facet.c₁.index < n
    pub low₂ : x.facet.c₂.index < n
    pub kept : Each (Sited n) x.kept

  -- so is one that is split
  triangle_well : (sag : Float) (ls : List Loose) → Each GoodLoose ls → (n : ℕ) (f : Facet) → GoodFacet n f → SplitWell n (split_triangle sag ls f)
  unfolding split_triangle sides_of side_of
  triangle_well sag ls gs n f g =
      let ss = sides_of f in
      let placed = filter_map (place ss) (found_from sag ls ss []) in
      let sited : Each (Sited n) placed =
      place_sited n ss ((g.low₀, g.low₁), ((g.low₁, g.low₂), ((g.low₂, g.low₀), tt))) (found_from sag ls ss []) (found_from_lem sag ls ss [] gs tt) in
      record {
        low₀ = g.low₀;
        low₁ = g.low₁;
        low₂ = g.low₂;
        kept =
            each_both (Sited n) (kept_on placed 0 ++ kept_on placed 1) (kept_on placed 2)
            (each_both (Sited n) (kept_on placed 0) (kept_on placed 1) (kept_each (Sited n) placed 0 sited) (kept_each (Sited n) placed 1 sited)) (kept_each (Sited n) placed 2 sited);
      }

  -- those of some triangles
  facets_well : (sag : Float) (ls : List Loose) → Each GoodLoose ls → (n : ℕ) (fs : List Facet) → Each (GoodFacet n) fs → Each (SplitWell n) (map (split_triangle sag ls) fs)
  facets_well sag ls gs n [] g = tt
  facets_well sag ls gs n (f ∷ fs) g = (triangle_well sag ls gs n f g.0, facets_well sag ls gs n fs g.1)

  -- ---- the triangles of patches

  -- a patch's points, of whole triangles of its own vertices
  pub record GoodPatch (p : Patch) : Type 0 where
    pub points : (i : ℕ) → i < p.row.vertices → Q (point_at p.positions i)
    pub inside : Each (λ i. i < p.row.vertices) p.indices

  -- its triangles
  facets_good : (n : ℕ) (ps : List Float) (ns : List ℕ) (areOpen : List Bool) (is : List ℕ) → ((i : ℕ) → i < n → Q (point_at ps i)) → Each (λ i. i < n) is
      → Each (GoodFacet n) (facets_of ps ns areOpen (triangles_of is))
  unfolding facets_of triangles_of corner_of
  facets_good n ps ns areOpen [] g e = tt
  facets_good n ps ns areOpen (a ∷ []) g e = tt
  facets_good n ps ns areOpen (a ∷ b ∷ []) g e = tt
  facets_good n ps ns [] (a ∷ b ∷ c ∷ is) g e = tt
  facets_good n ps ns (o ∷ []) (a ∷ b ∷ c ∷ is) g e = tt
  facets_good n ps ns (o ∷ p ∷ []) (a ∷ b ∷ c ∷ is) g e = tt
  facets_good n ps ns (o ∷ p ∷ q ∷ areOpen) (a ∷ b ∷ c ∷ is) g e = (
    record { low₀ = e.0; low₁ = e.1.0; low₂ = e.1.1.0; point₀ = g a e.0; point₁ = g b e.1.0; point₂ = g c e.1.1.0 },
    facets_good n ps ns areOpen is g e.1.1.1,
  )

  -- the points of all triangles
  all_points : (ns : List ℕ) (areOpen : List Bool) (patches : List Patch) → Each GoodPatch patches → Each GoodPoints (flat_map (λ fs. fs) (body_facets ns areOpen patches))
  unfolding body_facets flat_map
  all_points ns areOpen [] g = tt
  all_points ns areOpen (p ∷ ps) g =
      let fs = facets_of p.positions ns areOpen (triangles_of p.indices) in
      each_both GoodPoints fs (flat_map (λ fs. fs) (body_facets (drop p.row.vertices ns) (drop (length p.indices) areOpen) ps))
      (each_then (GoodFacet p.row.vertices) GoodPoints (λ f h. (h.point₀, h.point₁, h.point₂)) fs
      (facets_good p.row.vertices p.positions ns areOpen p.indices g.0.points g.0.inside))
      (all_points (drop p.row.vertices ns) (drop (length p.indices) areOpen) ps g.1)

  -- a row with its triangles' splits; without indices it has none
  pub record RowSplit (p : Patch) (xs : List SplitTriangle) : Type 0 where
    pub well : Each (SplitWell p.row.vertices) xs
    pub none : length p.indices ≡ 0 → length xs ≡ 0

  -- all rows
  abbrev pub AllSplit : List Patch → List (List SplitTriangle) → Type 0
  AllSplit [] xss = Unit {0}
  AllSplit (p ∷ ps) [] = Unit {0}
  AllSplit (p ∷ ps) (xs ∷ xss) = RowSplit p xs × AllSplit ps xss

  -- no triangles without indices
  no_facets : (split : Facet → SplitTriangle) (ps : List Float) (ns : List ℕ) (areOpen : List Bool) (is : List ℕ) → length is ≡ 0
      → length (map split (facets_of ps ns areOpen (triangles_of is))) ≡ 0
  unfolding facets_of triangles_of
  no_facets split ps ns areOpen [] e = refl
  no_facets split ps ns areOpen (i ∷ is) e = absurd (omega arith)

  -- so are those of a body
  rows_split : (sag : Float) (ls : List Loose) → Each GoodLoose ls → (ns : List ℕ) (areOpen : List Bool) (patches : List Patch) → Each GoodPatch patches
      → AllSplit patches (map (λ fs. map (split_triangle sag ls) fs) (body_facets ns areOpen patches))
  unfolding body_facets
  rows_split sag ls gs ns areOpen [] g = tt
  rows_split sag ls gs ns areOpen (p ∷ ps) g = (
    record {
      well = facets_well sag ls gs p.row.vertices (facets_of p.positions ns areOpen (triangles_of p.indices))
          (facets_good p.row.vertices p.positions ns areOpen p.indices g.0.points g.0.inside);
      none = no_facets (split_triangle sag ls) p.positions ns areOpen p.indices;
    },
    rows_split sag ls gs (drop p.row.vertices ns) (drop (length p.indices) areOpen) ps g.1,
  )

  -- The new vertices of a body are sited among those of their rows, with points that its patches have.
  pub body_split : (sag : Float) (ns : List ℕ) (patches : List Patch) → Each GoodPatch patches → AllSplit patches (splits_in sag ns patches)
  unfolding splits_in facets_in loose_in
  body_split sag ns patches g =
      let us : List Use = uses_from (λ r. 0) 0 (joined ns) patches in
      let areOpen = map (is_open us) us in
      rows_split sag (loose_from (flat_map (λ fs. fs) (body_facets ns areOpen patches)) [])
      (from_good (flat_map (λ fs. fs) (body_facets ns areOpen patches)) [] (all_points ns areOpen patches g) tt) ns areOpen patches g
