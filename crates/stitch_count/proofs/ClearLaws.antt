-- Laws of counting one triangle: its flags are cleared if no point splits it, and its view is the same. Assumes nothing.
use mathlib.Core.Path.{◌≡◌, refl, sym, ap, ◌∙◌, subst}
use mathlib.Core.Bool.{Bool, true, false, cond}
use mathlib.Core.List.{List, [], ◌∷◌}
use Prim.Native.Nat.{ℕ, suc, ◌+◌, ◌-◌, ◌*◌, ◌≤◌}
use native.Mathlib.Omega.{arith}
use lib.ListN.{length, get_or, take, drop, replicate}
use lib.Seq.{sets}
use lib.Ieee.{Float}
use Rattle.lists.specs.Lists.{count_if}
use Rattle.lists.specs.Sets.{get_d_sets_in, take_sets, drop_sets}
use Rattle.lists.specs.Stretches.{stretch_kept, front_at, front_less, rest_at}
use Rattle.body_rows.specs.Body.{Triangle}
use Rattle.patch_geometry.specs.Geometry.{point_at}
use Rattle.stitch_splits.specs.declared.sides.Sides.{Sides}
use Rattle.stitch_splits.specs.Entries.{Entry, kept_entries}
use Rattle.stitch_splits.specs.Found.{found_only, spot_of, with_spot, with_vertex, entries_on, found_count, triangle_found, triangle_kept}
use Rattle.stitch_count.specs.Views.{sides_at, view_of}
use Rattle.stitch_count.specs.Counting.{TriangleReady, TriangleDone, view_in, TriangleCounted}
use Rattle.stitch_count.specs.RowLaws.{entries_long}
use Rattle.stitch_loose_points.specs.Listed.{any_set}
use Rattle.stitch_count.proofs.CountLaws.{closed_triangle, closed_kept, triangle_closed}

-- ---- a triangle that no point splits

module _ (sag : Float) (ps : List Float) (ns : List ℕ) (s : Sides) where
  -- where no vertex is found, none is entered
  unfound_entries : (e : ℕ) (gs : List ℕ) (C : List Entry) → count_if (λ g. found_only sag s e (get_or ns g 0) (point_at ps g)) gs ≡ 0 → entries_on sag ps ns s e gs C ≡ C
  unfolding count_if entries_on with_vertex
  unfound_entries e [] C z = refl
  unfound_entries e (g ∷ gs) C z = go (found_only sag s e (get_or ns g 0) (point_at ps g)) z (unfound_entries e gs C)
    where
      go : (t : Bool) → (let n = count_if (λ x. found_only sag s e (get_or ns x 0) (point_at ps x)) gs in cond t (suc n) n) ≡ 0
          → (count_if (λ x. found_only sag s e (get_or ns x 0) (point_at ps x)) gs ≡ 0 → entries_on sag ps ns s e gs C ≡ C)
          → entries_on sag ps ns s e gs (elim t [ true ↦ with_spot g (spot_of s (point_at ps g)) C | false ↦ C ]) ≡ C
      go true h more = absurd (omega arith)
      go false h more = more h

  -- so none is kept
  unfound_kept : (gs : List ℕ) → triangle_found sag ps ns s gs ≡ 0 → [] ≡ triangle_kept sag ps ns s gs
  unfolding triangle_found found_count triangle_kept kept_entries
  unfound_kept gs z =
      let on : (e : ℕ) (C : List Entry) → found_count sag ps ns s e gs ≡ 0 → entries_on sag ps ns s e gs C ≡ C = λ e C h. unfound_entries e gs C h in
      let a : entries_on sag ps ns s 0 gs [] ≡ [] = on 0 [] (omega arith) in
      let b : entries_on sag ps ns s 1 gs [] ≡ [] = on 1 [] (omega arith) in
      let c : entries_on sag ps ns s 2 gs [] ≡ [] = on 2 [] (omega arith) in
      sym (ap kept_entries (ap (entries_on sag ps ns s 2 gs) (ap (entries_on sag ps ns s 1 gs) a ∙ b) ∙ c))

-- its view is that with no flag set
cleared_view : (sag : Float) (ps : List Float) (ns gs : List ℕ) (base o p q : ℕ) (t : Triangle)
    → triangle_found sag ps ns (sides_at ps ns (base + t.a) (base + t.b) (base + t.c) o p q) gs ≡ 0
    → view_of sag ps ns gs base 0 0 0 t ≡ view_of sag ps ns gs base o p q t
cleared_view sag ps ns gs base o p q t z =
    let s = sides_at ps ns (base + t.a) (base + t.b) (base + t.c) o p q in
    let c = sides_at ps ns (base + t.a) (base + t.b) (base + t.c) 0 0 0 in
    let found : triangle_found sag ps ns c gs ≡ triangle_found sag ps ns s gs = sym (closed_triangle sag ps ns c refl refl refl gs) ∙ sym z in
    let kept : triangle_kept sag ps ns c gs ≡ triangle_kept sag ps ns s gs = sym (closed_kept sag ps ns c refl refl refl gs) ∙ unfound_kept sag ps ns s gs z in
    λ i. record { a = t.a; b = t.b; c = t.c; found = found i; kept = kept i }

-- ---- one triangle counted

module _ {ps : List Float} {is : List ℕ} {sag beyond : Float} {n v list count at ts flags order boxes top base k : ℕ} {W : List ℕ}
    (g : TriangleReady ps is sag beyond n v list count at ts flags order boxes top base k W) where
  -- the triangle
  abbrev t : Triangle
  t = record { a = get_or is k 0; b = get_or is (k + 1) 0; c = get_or is (k + 2) 0 }

  -- its flags end before the entries
  flags_low : flags + k + 3 ≤ at
  flags_low = omega (arith, g.inside, g.stands.behind)

  -- so they stand in the area
  pub flags_inside : flags + k + 3 ≤ length W
  flags_inside = omega (arith, flags_low, g.stands.apart, g.stands.long)

  -- names and loose vertices by what stands in front of the flags
  names_kept : (F : List ℕ) → take flags F ≡ take flags W → take v F ≡ take v W
  names_kept F e = front_less v flags W F e (omega (arith, g.stands.listed.behind, g.stands.flags_behind))

  list_kept : (F : List ℕ) → take flags F ≡ take flags W → take count (drop list F) ≡ take count (drop list W)
  list_kept F e = stretch_kept list count flags W F e g.stands.flags_behind

  module _ {E : List ℕ} {found kept : ℕ} (d : TriangleDone ps is sag v list count at ts flags base k W E found kept) (long : length E ≡ length W) where
    kept_many : kept ≡ length (view_in ps is sag v list count flags base k W).kept
    kept_many =
        sym (entries_long E at ts kept (omega (arith, d.held, g.stands.apart, g.stands.long)) (omega (arith, d.held, g.stands.long)))
        ∙ ap length d.kept_are

    before : take flags E ≡ take flags W
    before = front_less flags at W E d.front (omega (arith, flags_low))

    -- some point splits it
    pub triangle_counted : TriangleCounted ps is sag v list count at ts flags base k W E found kept
    triangle_counted =
        let f0 : get_or E (flags + k) 0 ≡ get_or W (flags + k) 0 = front_at at (flags + k) W E 0 d.front (omega (arith, flags_low)) in
        let f1 : get_or E (flags + k + 1) 0 ≡ get_or W (flags + k + 1) 0 = front_at at (flags + k + 1) W E 0 d.front (omega (arith, flags_low)) in
        let f2 : get_or E (flags + k + 2) 0 ≡ get_or W (flags + k + 2) 0 = front_at at (flags + k + 2) W E 0 d.front (omega (arith, flags_low)) in
        record {
          found_is = d.found_is;
          kept_is = kept_many;
          few_found = d.few_found;
          few_kept = d.few_kept;
          view = λ i. view_of sag ps (names_kept E before i) (list_kept E before i) base (f0 i) (f1 i) (f2 i) t;
          front = front_less (flags + k) at W E d.front (omega (arith, flags_low));
          behind = λ j a b. front_at at (flags + j) W E 0 d.front b;
          rest = d.rest;
        }

    -- none does, and its flags are cleared
    pub triangle_cleared : {F : List ℕ} → F ≡ sets E (flags + k) (replicate (flags + k + 3 - (flags + k)) 0) → found ≡ 0
        → TriangleCounted ps is sag v list count at ts flags base k W F found kept
    triangle_cleared {F} e z =
        let three : flags + k + 3 - (flags + k) ≡ 3 = omega arith in
        let H = sets E (flags + k) (0 ∷ 0 ∷ 0 ∷ []) in
        let cleared : H ≡ F = sym (e ∙ ap (λ (m : ℕ). sets E (flags + k) (replicate m 0)) three) in
        let room : flags + k + 3 ≤ length E = omega (arith, flags_inside) in
        let front : take (flags + k) H ≡ take (flags + k) W = take_sets E (flags + k) (0 ∷ 0 ∷ 0 ∷ []) ∙ front_less (flags + k) at W E d.front (omega (arith, flags_low)) in
        let rest : (b : ℕ) → flags + k + 3 ≤ b → drop b H ≡ drop b E = λ b l. drop_sets E (flags + k) (0 ∷ 0 ∷ 0 ∷ []) b l in
        let names : take flags H ≡ take flags W = front_less flags (flags + k) W H front (omega arith) in
        let here : flags + k + 0 ≡ flags + k = omega arith in
        let f0 : get_or H (flags + k) 0 ≡ 0 = ap (λ (j : ℕ). get_or H j 0) (sym here) ∙ get_d_sets_in E (flags + k) (0 ∷ 0 ∷ 0 ∷ []) 0 0 (omega arith) (omega arith) in
        let f1 : get_or H (flags + k + 1) 0 ≡ 0 = get_d_sets_in E (flags + k) (0 ∷ 0 ∷ 0 ∷ []) 1 0 (omega arith) (omega arith) in
        let f2 : get_or H (flags + k + 2) 0 ≡ 0 = get_d_sets_in E (flags + k) (0 ∷ 0 ∷ 0 ∷ []) 2 0 (omega arith) (omega arith) in
        subst (λ (X : List ℕ). TriangleCounted ps is sag v list count at ts flags base k W X found kept) cleared
        (record {
          found_is = d.found_is;
          kept_is = kept_many;
          few_found = d.few_found;
          few_kept = d.few_kept;
          view = (λ i. view_of sag ps (names_kept H names i) (list_kept H names i) base (f0 i) (f1 i) (f2 i) t)
              ∙ cleared_view sag ps (take v W) (take count (drop list W)) base (get_or W (flags + k) 0) (get_or W (flags + k + 1) 0) (get_or W (flags + k + 2) 0) t (sym d.found_is ∙ z);
          front = front;
          behind = λ j a b. rest_at (flags + k + 3) (flags + j) E H 0 (rest (flags + k + 3) (omega arith)) (omega arith) ∙ front_at at (flags + j) W E 0 d.front b;
          rest = rest (ts + 3 * count) (omega (arith, flags_low, g.stands.apart)) ∙ d.rest;
        })

-- a triangle without an open edge is counted as it stands
pub closed_counted : {ps : List Float} {is : List ℕ} {sag beyond : Float} {n v list count at ts flags order boxes top base k : ℕ} {W : List ℕ}
    → TriangleReady ps is sag beyond n v list count at ts flags order boxes top base k W → {b : Bool}
    → b ≡ any_set (get_or W (flags + k) 0) (get_or W (flags + k + 1) 0) (get_or W (flags + k + 2) 0) → b ≡ false
    → TriangleCounted ps is sag v list count at ts flags base k W W 0 0
closed_counted g e f = triangle_counted g (triangle_closed g e f) refl
