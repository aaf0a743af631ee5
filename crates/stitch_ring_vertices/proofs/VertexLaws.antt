-- Laws of the loops that write three numbers for each entry. Assumes nothing.
use mathlib.Core.Path.{◌≡◌, refl, sym, ap, ◌∙◌, subst}
use mathlib.Core.List.{List, [], ◌∷◌, ◌++◌, append_assoc, append-nil}
use Prim.Native.Nat.{ℕ, zero, suc, ◌+◌, ◌*◌, ◌/◌, ◌%◌, ◌<◌, ◌≤◌}
use native.Mathlib.Omega.{arith}
use lib.ListN.{length, get_or, length-append}
use lib.Seq.{sets, length-sets}
use lib.Ieee.{Float}
use Rattle.lists.specs.Sets.{sets_append}
use Rattle.float_steps.specs.Floats.{f64}
use Rattle.patch_geometry.specs.declared.Vec3.{Vec3}
use Rattle.patch_geometry.specs.Geometry.{vertex_at, point_at}
use Rattle.patch_measures.specs.Volume.{Corners}
use Rattle.stitch_normals.specs.declared.Normal.{Normal}
use Rattle.stitch_normals.specs.Answers.{normal_of}
use Rattle.stitch_projection.specs.Projection.{mixed}
use Rattle.stitch_splits.specs.Entries.{Entry, entries_in, entries_of, entry_at, entries_more}
use Rattle.stitch_rings.specs.Rings.{coordinates_at, new_positions, new_normals, start_of, end_of}
use Rattle.slice_append.specs.Appended.{Appended, appended_sets}
use Rattle.stitch_rings.specs.Added.{VerticesReady, NormalsReady}
use Rattle.stitch_ring_vertices.specs.VertexSteps.{PointReady}

-- ---- the corners of an edge

-- ---- one entry more

-- the position of one entry more
positions_append : (ps : List Float) (xs : List Entry) (x : Entry) → new_positions ps (xs ++ x ∷ []) ≡ new_positions ps xs ++ coordinates_at ps x.vertex
unfolding new_positions
positions_append ps [] x = refl
positions_append ps (y ∷ xs) x =
    ap (λ (r : List Float). coordinates_at ps y.vertex ++ r) (positions_append ps xs x)

-- the normal of one entry more
normals_append : (ns : List Float) (a b c : ℕ) (xs : List Entry) (x : Entry)
    → new_normals ns a b c (xs ++ x ∷ []) ≡ new_normals ns a b c xs ++ mixed (point_at ns (start_of a b c x.e)) (point_at ns (end_of a b c x.e)) x.t
unfolding new_normals
normals_append ns a b c [] x = append-nil (mixed (point_at ns (start_of a b c x.e)) (point_at ns (end_of a b c x.e)) x.t)
normals_append ns a b c (y ∷ xs) x =
    let m = mixed (point_at ns (start_of a b c y.e)) (point_at ns (end_of a b c y.e)) y.t in
    let n = mixed (point_at ns (start_of a b c x.e)) (point_at ns (end_of a b c x.e)) x.t in
    ap (λ (r : List Float). m ++ r) (normals_append ns a b c xs x) ∙ sym (append_assoc m (new_normals ns a b c xs) n)

-- ---- three numbers for each of j entries

-- the numbers xs of j entries are written from place o on: `out` became `new`
pub record Adding (o j kept : ℕ) (xs out new : List Float) : Type 0 where
  pub few : j ≤ kept
  pub count : length xs ≡ 3 * j
  pub list : new ≡ sets out o xs
  pub long : length new ≡ length out

module _ {o j kept : ℕ} {xs out new : List Float} (s : Adding o j kept xs out new) where
  -- there is room for three more
  pub three_room : o + 3 * kept ≤ length out → j < kept → o + 3 * j + 3 ≤ length new
  three_room l m = omega (arith, s.long)

  -- three more are written
  adding_more : (ys zs : List Float) {v : List Float} → length ys ≡ 3 → zs ≡ xs ++ ys → j < kept → v ≡ sets new (o + 3 * j) ys → Adding o (j + 1) kept zs out v
  adding_more ys zs {v} l e m h =
      let place : o + 3 * j ≡ o + length xs = omega (arith, s.count) in
      record {
        few = omega arith;
        count = ap length e ∙ length-append xs ys ∙ omega (arith, s.count);
        list =
            h
            ∙ ap (λ (w : List Float). sets w (o + 3 * j) ys) s.list
            ∙ ap (λ (k : ℕ). sets (sets out o xs) k ys) place
            ∙ sym (sets_append out o xs ys)
            ∙ ap (sets out o) (sym e);
        long = ap length h ∙ length-sets new (o + 3 * j) ys ∙ s.long;
      }

  -- what was written when all are
  adding_all : o + length xs ≤ length out → Appended o xs out new
  adding_all l = appended_sets l s.list

-- ---- the positions

-- the positions of the first j entries are written
abbrev pub PositionsAdded : List Float → List ℕ → ℕ → ℕ → ℕ → ℕ → ℕ → List Float → List Float → Type 0
PositionsAdded ps W at ts kept o j out new = Adding o j kept (new_positions ps (entries_in W at ts j)) out new

-- none is written yet
pub positions_none : (ps : List Float) (W : List ℕ) (at ts kept o : ℕ) (out : List Float) → PositionsAdded ps W at ts kept o 0 out out
unfolding new_positions entries_of
positions_none ps W at ts kept o out = record { few = omega arith; count = refl; list = refl; long = refl }

module _ {ps : List Float} {W : List ℕ} {at ts kept o j : ℕ} {out new : List Float} (r : VerticesReady ps W at ts kept o out) (s : PositionsAdded ps W at ts kept o j out new) where
  -- the vertex of the next entry is there, and room for it
  pub point_ready : {g : ℕ} → j < kept → g ≡ get_or W (at + j) 0 % 262144 → PointReady ps g (o + 3 * j) new
  point_ready m e = record { inside = subst (λ (n : ℕ). 3 * n + 2 < length ps) (sym e) (r.inside j m); room = three_room s r.room m }

  -- one more is written
  pub positions_more : {g : ℕ} {v : List Float} → j < kept → g ≡ get_or W (at + j) 0 % 262144 → v ≡ sets new (o + 3 * j) (coordinates_at ps g) → PositionsAdded ps W at ts kept o (j + 1) out v
  positions_more {g} {v} m e h =
      adding_more s (coordinates_at ps (get_or W (at + j) 0 % 262144)) (new_positions ps (entries_in W at ts (j + 1))) refl
      (ap (new_positions ps) (entries_more W at ts j (omega (arith, r.words)) (omega (arith, r.parameters))) ∙ positions_append ps (entries_in W at ts j) (entry_at W at ts j))
      m
      (h ∙ ap (λ (n : ℕ). sets new (o + 3 * j) (coordinates_at ps n)) e)

  -- all are written
  pub positions_all : kept ≤ j → Appended o (new_positions ps (entries_in W at ts kept)) out new
  positions_all l =
      let e : j ≡ kept = omega (arith, s.few) in
      subst (λ (n : ℕ). Appended o (new_positions ps (entries_in W at ts n)) out new) e (adding_all s (omega (arith, s.count, s.few, r.room)))

-- ---- the normals

-- the normals of the first j entries are written
abbrev pub NormalsAdded : List Float → ℕ → ℕ → ℕ → List ℕ → ℕ → ℕ → ℕ → ℕ → ℕ → List Float → List Float → Type 0
NormalsAdded ns a b c W at ts kept o j out new = Adding o j kept (new_normals ns a b c (entries_in W at ts j)) out new

-- none is written yet
pub normals_none : (ns : List Float) (a b c : ℕ) (W : List ℕ) (at ts kept o : ℕ) (out : List Float) → NormalsAdded ns a b c W at ts kept o 0 out out
unfolding new_normals entries_of
normals_none ns a b c W at ts kept o out = record { few = omega arith; count = refl; list = refl; long = refl }

-- the normals of the corners are there
pub corners_ready : {ns : List Float} {a b c : ℕ} {W : List ℕ} {at ts kept o : ℕ} {out : List Float} → NormalsReady ns a b c W at ts kept o out → Corners ns a b c
corners_ready r = record { in_a = r.in_a; in_b = r.in_b; in_c = r.in_c }

module _ {ns : List Float} {a b c : ℕ} {W : List ℕ} {at ts kept o j : ℕ} {out new : List Float} (r : NormalsReady ns a b c W at ts kept o out)
    (s : NormalsAdded ns a b c W at ts kept o j out new) where
  -- one more is written
  pub normals_more : {e : ℕ} {t : Float} {n : Normal} {v : List Float} → j < kept → e ≡ get_or W (at + j) 0 / 262144 → t ≡ f64 (get_or W (ts + j) 0)
      → normal_of n ≡ mixed (point_at ns (start_of a b c e)) (point_at ns (end_of a b c e)) t → v ≡ sets new (o + 3 * j) (normal_of n) → NormalsAdded ns a b c W at ts kept o (j + 1) out v
  normals_more {e} {t} {n} {v} m p q k h =
      adding_more s (normal_of n) (new_normals ns a b c (entries_in W at ts (j + 1))) refl
      (ap (new_normals ns a b c) (entries_more W at ts j (omega (arith, r.words)) (omega (arith, r.parameters)))
      ∙ normals_append ns a b c (entries_in W at ts j) (entry_at W at ts j)
      ∙ ap (λ (x : List Float). new_normals ns a b c (entries_in W at ts j) ++ x) (sym mix))
      m
      h
    where
      mix : normal_of n ≡ mixed (point_at ns (start_of a b c (get_or W (at + j) 0 / 262144))) (point_at ns (end_of a b c (get_or W (at + j) 0 / 262144))) (f64 (get_or W (ts + j) 0))
      mix =
          k
          ∙ ap (λ (x : ℕ). mixed (point_at ns (start_of a b c x)) (point_at ns (end_of a b c x)) t) p
          ∙ ap (mixed (point_at ns (start_of a b c (get_or W (at + j) 0 / 262144))) (point_at ns (end_of a b c (get_or W (at + j) 0 / 262144)))) q

  -- all are written
  pub normals_all : kept ≤ j → Appended o (new_normals ns a b c (entries_in W at ts kept)) out new
  normals_all l =
      let e : j ≡ kept = omega (arith, s.few) in
      subst (λ (n : ℕ). Appended o (new_normals ns a b c (entries_in W at ts n)) out new) e (adding_all s (omega (arith, s.count, s.few, r.room)))
