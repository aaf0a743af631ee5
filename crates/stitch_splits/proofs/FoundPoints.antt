-- The points that the definition finds for a triangle are those of the vertices that the code finds, in order. Assumes nothing.
use Rattle.stitch_splits.specs.FoundPoints.{Distinct, all_found}
use Rattle.std.specs.Prelude.{◌≡◌, ◌&&◌, ◌||◌, cond, length, get_or, eqb, Float}
use Rattle.std.proofs.Math.Path.{refl, sym, ap}
use Rattle.std.proofs.Common.{◌∙◌, le_of_suc-le-suc, not-suc-le-zero, arith}
use Rattle.std.proofs.Math.Bool.{Bool, true, false, not, or-false}
use mathlib.Core.List.{List, [], ◌∷◌, ◌++◌, map, append-nil, append_assoc, map-append}
use Prim.Native.Nat.{ℕ, zero, suc, ◌+◌, ◌<◌}
use Rattle.std.proofs.Math.Decide.{dec_lt}
use Rattle.std.proofs.Math.ListN.{length-append, length-map}
use Rattle.lists.specs.Lists.{any, count_if, filter}
use Rattle.lists.specs.Any.{any_append, any_one}
use Rattle.patch_geometry.specs.declared.Vec3.{Vec3}
use Rattle.patch_geometry.specs.Geometry.{point_at}
use Rattle.stitch_projection.specs.Projection.{edge_of, within_sag}
use Rattle.stitch_loose_points.specs.Loose.{Corner, Facet}
use Rattle.stitch_loose_points.specs.Listed.{loose_of}
use Rattle.stitch_splits.specs.declared.sides.Sides.{Sides}
use Rattle.stitch_splits.specs.Splits.{Side, side_of, sides_of, same_cell, splits, found_on, found_from}
use Rattle.stitch_splits.specs.Found.{edge_from, sides_from, counts, counts_on, found_only, found_count, triangle_found}
use Rattle.stitch_splits.specs.Filters.{filter_none, filter_same, filter_length}
use Rattle.stitch_splits.specs.Cells.{cell_self}

module _ (ps : List Float) where
  -- no two of the vertices lie in one cell
  abbrev Apart : List ℕ → Type 0
  Apart gs = (j k : ℕ) → j < length gs → k < length gs → (j ≡ k → ⊥) → same_cell (point_at ps (get_or gs j 0)) (point_at ps (get_or gs k 0)) ≡ false

  -- the vertices that have a point in the cell among those found before are those that m tells
  abbrev Told : (ℕ → Bool) → List ℕ → List Vec3 → Type 0
  Told m gs found = (k : ℕ) → k < length gs → any (same_cell (point_at ps (get_or gs k 0))) found ≡ m (get_or gs k 0)

  -- distinct vertices are apart
  apart : {ns gs : List ℕ} → Distinct ps ns gs → Apart gs
  apart {ns} {gs} d j k hj hk n = go (same_cell (point_at ps (get_or gs j 0)) (point_at ps (get_or gs k 0))) (d.named j k hj hk) (dec_lt j k) (dec_lt k j)
    where
      go : (b : Bool) → (b ≡ true → get_or ns (get_or gs j 0) 0 ≡ get_or ns (get_or gs k 0) 0) → Dec (j < k) → Dec (k < j) → b ≡ false
      go false e l r = refl
      go true e (yes l) r = absurd (omega (arith, e refl, d.rising j k l hk))
      go true e (no l) (yes r) = absurd (omega (arith, e refl, d.rising k j r hj))
      go true e (no l) (no r) = absurd (n (omega arith))

  -- the rest of vertices that are apart
  apart_rest : (g : ℕ) (gs : List ℕ) → Apart (g ∷ gs) → Apart gs
  apart_rest g gs a j k hj hk n = a (suc j) (suc k) (omega arith) (omega arith) (λ e. n (omega arith))

  -- no vertex that passes a test lies in a point's cell, if none at all does
  none_passes : (r : Vec3) (p : ℕ → Bool) (gs : List ℕ) → ((k : ℕ) → k < length gs → same_cell r (point_at ps (get_or gs k 0)) ≡ false)
      → any (same_cell r) (map (point_at ps) (filter p gs)) ≡ false
  unfolding any filter
  none_passes r p [] h = refl
  none_passes r p (g ∷ gs) h = go (p g) (h 0 (omega arith)) (none_passes r p gs (λ k l. h (suc k) (omega arith)))
    where
      go : (b : Bool) → same_cell r (point_at ps g) ≡ false → any (same_cell r) (map (point_at ps) (filter p gs)) ≡ false
          → any (same_cell r) (map (point_at ps) (cond b (g ∷ filter p gs) (filter p gs))) ≡ false
      go true e i = rw (e, any) i
      go false e i = i

  -- of vertices that are apart, one lies in a cell of those that pass exactly if it passes
  passes : (p : ℕ → Bool) (gs : List ℕ) → Apart gs → (k : ℕ) → k < length gs → any (same_cell (point_at ps (get_or gs k 0))) (map (point_at ps) (filter p gs)) ≡ p (get_or gs k 0)
  unfolding any filter
  passes p [] a k h = absurd (not-suc-le-zero h)
  passes p (g ∷ gs) a zero h = go (p g) (none_passes (point_at ps g) p gs (λ k l. a 0 (suc k) (omega arith) (omega arith) (λ e. omega arith)))
    where
      go : (b : Bool) → any (same_cell (point_at ps g)) (map (point_at ps) (filter p gs)) ≡ false
          → any (same_cell (point_at ps g)) (map (point_at ps) (cond b (g ∷ filter p gs) (filter p gs))) ≡ b
      go true i = rw (cell_self (point_at ps g), any)
      go false i = i
  passes p (g ∷ gs) a (suc k) h =
      go (p g) (a (suc k) 0 h (omega arith) (λ e. omega arith)) (passes p gs (apart_rest g gs a) k (le_of_suc-le-suc h))
    where
      go : (b : Bool) → same_cell (point_at ps (get_or gs k 0)) (point_at ps g) ≡ false
          → any (same_cell (point_at ps (get_or gs k 0))) (map (point_at ps) (filter p gs)) ≡ p (get_or gs k 0)
          → any (same_cell (point_at ps (get_or gs k 0))) (map (point_at ps) (cond b (g ∷ filter p gs) (filter p gs))) ≡ p (get_or gs k 0)
      go true e i = rw (e, any) i
      go false e i = i

  module _ (ns : List ℕ) (sag : Float) where
    -- what an open edge finds behind what was found before: the vertices that split it and that were not found
    edge_found : (s : Side) (m : ℕ → Bool) (gs : List ℕ) (found : List Vec3) → Apart gs → Told m gs found
        → found_on sag s (map (loose_of ps ns) gs) found ≡ found ++ map (point_at ps) (filter (λ g. splits sag s (loose_of ps ns g) && not (m g)) gs)
    unfolding found_on filter
    edge_found s m [] found a t = sym (append-nil found)
    edge_found s m (g ∷ gs) found a t =
        rw (t 0 (omega arith), found_on)
        (go (splits sag s (loose_of ps ns g) && not (m g))
        (edge_found s m gs (found ++ point_at ps g ∷ []) (apart_rest g gs a) more)
        (edge_found s m gs found (apart_rest g gs a) (λ k l. t (suc k) (omega arith))))
      where
        more : Told m gs (found ++ point_at ps g ∷ [])
        more k l =
            any_append (same_cell (point_at ps (get_or gs k 0))) found (point_at ps g ∷ [])
            ∙ (λ i. t (suc k) (omega arith) i || (any_one (same_cell (point_at ps (get_or gs k 0))) (point_at ps g) ∙ a (suc k) 0 (omega arith) (omega arith) (λ e. omega arith)) i)
            ∙ or-false (m (get_or gs k 0))

        go : (b : Bool)
            → found_on sag s (map (loose_of ps ns) gs) (found ++ point_at ps g ∷ [])
            ≡ found ++ point_at ps g ∷ [] ++ map (point_at ps) (filter (λ g. splits sag s (loose_of ps ns g) && not (m g)) gs)
            → found_on sag s (map (loose_of ps ns) gs) found ≡ found ++ map (point_at ps) (filter (λ g. splits sag s (loose_of ps ns g) && not (m g)) gs)
            → elim b [ true ↦ found_on sag s (map (loose_of ps ns) gs) (found ++ point_at ps g ∷ []) | false ↦ found_on sag s (map (loose_of ps ns) gs) found ]
            ≡ found ++ map (point_at ps) (cond b (g ∷ filter (λ g. splits sag s (loose_of ps ns g) && not (m g)) gs) (filter (λ g. splits sag s (loose_of ps ns g) && not (m g)) gs))
        go true e i = e ∙ append_assoc found (point_at ps g ∷ []) (map (point_at ps) (filter (λ g. splits sag s (loose_of ps ns g) && not (m g)) gs))
        go false e i = i

    -- if the edge is open; else nothing
    step_found : (o : Bool) (s : Side) (m : ℕ → Bool) (gs : List ℕ) (found : List Vec3) → Apart gs → Told m gs found
        → elim o [ true ↦ found_on sag s (map (loose_of ps ns) gs) found | false ↦ found ]
        ≡ found ++ map (point_at ps) (filter (λ g. o && splits sag s (loose_of ps ns g) && not (m g)) gs)
    step_found true s m gs found a t = edge_found s m gs found a t
    step_found false s m gs found a t = sym (append-nil found) ∙ (λ i. found ++ map (point_at ps) (sym (filter_none gs) i))

    -- then the vertices told are those told before and those found
    told_more : (m p : ℕ → Bool) (gs : List ℕ) (found : List Vec3) → Apart gs → Told m gs found
        → Told (λ g. m g || p g) gs (found ++ map (point_at ps) (filter p gs))
    told_more m p gs found a t k h =
        any_append (same_cell (point_at ps (get_or gs k 0))) found (map (point_at ps) (filter p gs)) ∙ (λ i. t k h i || passes p gs a k h i)

    -- one edge, and the edges behind it
    from_found : (s : Side) (ss : List Side) (m : ℕ → Bool) (gs : List ℕ) (found : List Vec3) → Apart gs → Told m gs found
        → found_from sag (map (loose_of ps ns) gs) (s ∷ ss) found
        ≡ found_from sag (map (loose_of ps ns) gs) ss (found ++ map (point_at ps) (filter (λ g. s.start.is_open && splits sag s (loose_of ps ns g) && not (m g)) gs))
    unfolding found_from
    from_found s ss m gs found a t =
        pull s.start.is_open ∙ ap (found_from sag (map (loose_of ps ns) gs) ss) (step_found s.start.is_open s m gs found a t)
      where
        pull : (o : Bool)
            → elim o [ true ↦ found_from sag (map (loose_of ps ns) gs) ss (found_on sag s (map (loose_of ps ns) gs) found) | false ↦ found_from sag (map (loose_of ps ns) gs) ss found ]
            ≡ found_from sag (map (loose_of ps ns) gs) ss (elim o [ true ↦ found_on sag s (map (loose_of ps ns) gs) found | false ↦ found ])
        pull true = refl
        pull false = refl

-- ---- the tests of the three edges

-- a test before three others
and_three : (o a b c : Bool) → (o && (a && b && c)) ≡ (o && a && b && c)
and_three true a b c = refl
and_three false a b c = refl

-- found on the first edge
first_only : (a : Bool) → (a && not false) ≡ a
first_only true = refl
first_only false = refl

-- found on the second edge, and not before
second_only : (a b : Bool) → (b && not (false || (a && not false))) ≡ (b && not a)
second_only a b = ap (λ (t : Bool). b && not t) (first_only a)

-- found on the third edge, and not before
third_only : (a b c : Bool) → (c && not (false || (a && not false) || (b && not (false || (a && not false))))) ≡ (c && not a && not b)
third_only true b true = refl
third_only true b false = refl
third_only false true true = refl
third_only false true false = refl
third_only false false true = refl
third_only false false false = refl

module _ (sag : Float) (ps : List Float) (ns : List ℕ) where
  -- a vertex counts for an edge in the code as in the definition
  side_counts : (c d : Corner) (g : ℕ) → (c.is_open && splits sag (side_of c d) (loose_of ps ns g)) ≡ counts sag (edge_from c d) (get_or ns g 0) (point_at ps g)
  unfolding splits side_of
  side_counts c d g =
      and_three c.is_open (not (eqb (get_or ns g 0) c.name)) (not (eqb (get_or ns g 0) d.name)) (within_sag sag (edge_of c.point d.point) (point_at ps g))

  -- The points that split a triangle are those of the vertices that the code finds, in order.
  pub found_points : (f : Facet) (gs : List ℕ) → Distinct ps ns gs
      → found_from sag (map (loose_of ps ns) gs) (sides_of f) [] ≡ map (point_at ps) (all_found sag ps ns (sides_from f) gs)
  unfolding found_from sides_of side_of found_only counts_on any
  found_points f gs d =
      let a = apart ps d in
      let s₀ = side_of f.c₀ f.c₁ in
      let s₁ = side_of f.c₁ f.c₂ in
      let s₂ = side_of f.c₂ f.c₀ in
      let m₀ : ℕ → Bool = λ g. false in
      let p₀ : ℕ → Bool = λ g. f.c₀.is_open && splits sag s₀ (loose_of ps ns g) && not (m₀ g) in
      let m₁ : ℕ → Bool = λ g. m₀ g || p₀ g in
      let p₁ : ℕ → Bool = λ g. f.c₁.is_open && splits sag s₁ (loose_of ps ns g) && not (m₁ g) in
      let m₂ : ℕ → Bool = λ g. m₁ g || p₁ g in
      let p₂ : ℕ → Bool = λ g. f.c₂.is_open && splits sag s₂ (loose_of ps ns g) && not (m₂ g) in
      let t₀ : Told ps m₀ gs [] = λ k h. refl in
      let F₁ = map (point_at ps) (filter p₀ gs) in
      let t₁ : Told ps m₁ gs F₁ = told_more ps ns sag m₀ p₀ gs [] a t₀ in
      let F₂ = F₁ ++ map (point_at ps) (filter p₁ gs) in
      let t₂ : Told ps m₂ gs F₂ = told_more ps ns sag m₁ p₁ gs F₁ a t₁ in
      let c₀ = side_counts f.c₀ f.c₁ in
      let c₁ = side_counts f.c₁ f.c₂ in
      let c₂ = side_counts f.c₂ f.c₀ in
      let C : ℕ → ℕ → Bool = λ e g. counts_on sag (sides_from f) e (get_or ns g 0) (point_at ps g) in
      let q₀ : ℕ → Bool = λ g. C 0 g in
      let q₁ : ℕ → Bool = λ g. C 1 g && not (C 0 g) in
      let q₂ : ℕ → Bool = λ g. C 2 g && not (C 0 g) && not (C 1 g) in
      let e₀ : (g : ℕ) → p₀ g ≡ q₀ g = λ g. (λ i. c₀ g i && not false) ∙ first_only (C 0 g) in
      let e₁ : (g : ℕ) → p₁ g ≡ q₁ g = λ g. (λ i. c₁ g i && not (false || (c₀ g i && not false))) ∙ second_only (C 0 g) (C 1 g) in
      let n₂ : Bool → Bool → Bool → Bool = λ x y z. z && not (false || (x && not false) || (y && not (false || (x && not false)))) in
      let e₂ : (g : ℕ) → p₂ g ≡ q₂ g = λ g. (λ i. n₂ (c₀ g i) (c₁ g i) (c₂ g i)) ∙ third_only (C 0 g) (C 1 g) (C 2 g) in
      from_found ps ns sag s₀ (s₁ ∷ s₂ ∷ []) m₀ gs [] a t₀
      ∙ from_found ps ns sag s₁ (s₂ ∷ []) m₁ gs F₁ a t₁
      ∙ from_found ps ns sag s₂ [] m₂ gs F₂ a t₂
      ∙ (λ i. map (point_at ps) (filter_same p₀ q₀ e₀ gs i) ++ map (point_at ps) (filter_same p₁ q₁ e₁ gs i) ++ map (point_at ps) (filter_same p₂ q₂ e₂ gs i))
      ∙ sym (map-append (point_at ps) (filter q₀ gs ++ filter q₁ gs) (filter q₂ gs) ∙ (λ i. map-append (point_at ps) (filter q₀ gs) (filter q₁ gs) i ++ map (point_at ps) (filter q₂ gs)))

  -- As many points split a triangle as the code counts.
  pub found_count_lem : (s : Sides) (gs : List ℕ) → length (map (point_at ps) (all_found sag ps ns s gs)) ≡ triangle_found sag ps ns s gs
  unfolding triangle_found found_count
  found_count_lem s gs =
      let p : ℕ → ℕ → Bool = λ e g. found_only sag s e (get_or ns g 0) (point_at ps g) in
      length-map (all_found sag ps ns s gs) (point_at ps)
      ∙ length-append (filter (p 0) gs ++ filter (p 1) gs) (filter (p 2) gs)
      ∙ (λ i. length-append (filter (p 0) gs) (filter (p 1) gs) i + filter_length (p 2) gs i)
      ∙ (λ i. filter_length (p 0) gs i + filter_length (p 1) gs i + count_if (p 2) gs)
