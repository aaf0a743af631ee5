-- The entries that a triangle keeps have loose vertices, so those are below what all loose vertices are below. Assumes nothing.
use Rattle.std.specs.Prelude.{◌≡◌, Bool, true, false, ◌&&◌, List, [], ◌∷◌, ℕ, zero, suc, ◌+◌, ◌%◌, ◌<◌, ◌≤◌, length, get_or, take, drop, eqb, Float}
use Rattle.std.proofs.Common.{subst, arith, length-drop, length-take-le}
use Rattle.std.proofs.Math.Option.{Option, none, some}
use Rattle.std.specs.Float.Ieee.{lt}
use Rattle.float_steps.specs.Floats.{absolute}
use Rattle.lists.specs.Stretches.{stretch_at}
use Rattle.patch_geometry.specs.Geometry.{sub, point_at}
use Rattle.stitch_splits.specs.declared.sides.Sides.{Sides}
use Rattle.stitch_splits.specs.Splits.{near_last}
use Rattle.stitch_splits.specs.Entries.{Entry, entries_of, entries_in, after, insert_entry, drop_after, kept_entries}
use Rattle.stitch_splits.specs.declared.sides.Spot.{Spot}
use Rattle.stitch_splits.specs.Found.{found_only, spot_of, with_spot, with_vertex, entries_on, triangle_kept}

-- entries of vertices below v
abbrev pub AllBelow : ℕ → List Entry → Type 0
AllBelow v [] = Unit {0}
AllBelow v (x ∷ xs) = (x.vertex < v) × AllBelow v xs

-- entries with one more
insert_below : (v : ℕ) (x : Entry) (C : List Entry) → x.vertex < v → AllBelow v C → AllBelow v (insert_entry x C)
unfolding insert_entry
insert_below v x [] l o = (l, tt)
insert_below v x (y ∷ C) l o = go (after x y) (insert_below v x C l o.1)
  where
    go : (b : Bool) → AllBelow v (insert_entry x C) → AllBelow v (elim b [ true ↦ x ∷ y ∷ C | false ↦ y ∷ insert_entry x C ])
    go true i = (l, o)
    go false i = (o.0, i)

-- entries with a vertex, if it is found
vertex_below : (v : ℕ) (sag : Float) (ps : List Float) (ns : List ℕ) (s : Sides) (e g : ℕ) (C : List Entry) → g < v → AllBelow v C → AllBelow v (with_vertex sag ps ns s e g C)
unfolding with_vertex
vertex_below v sag ps ns s e g C l o = go (found_only sag s e (get_or ns g 0) (point_at ps g))
  where
    at : (p : Option Spot) → AllBelow v (with_spot g p C)
    at none = o
    at (some p) = insert_below v (record { e = p.e; t = p.t; vertex = g }) C l o

    go : (b : Bool) → AllBelow v (elim b [ true ↦ with_spot g (spot_of s (point_at ps g)) C | false ↦ C ])
    go true = at (spot_of s (point_at ps g))
    go false = o

-- entries with all vertices found on an edge
found_below : (v : ℕ) (sag : Float) (ps : List Float) (ns : List ℕ) (s : Sides) (e : ℕ) (gs : List ℕ) (C : List Entry) → ((j : ℕ) → j < length gs → get_or gs j 0 < v) → AllBelow v C
    → AllBelow v (entries_on sag ps ns s e gs C)
unfolding entries_on
found_below v sag ps ns s e [] C l o = o
found_below v sag ps ns s e (g ∷ gs) C l o =
    found_below v sag ps ns s e gs (with_vertex sag ps ns s e g C) (λ j b. l (suc j) (omega (arith, b))) (vertex_below v sag ps ns s e g C (l 0 (omega arith)) o)

-- entries without those close to the last kept
drop_below : (v : ℕ) (last : Entry) (C : List Entry) → AllBelow v C → AllBelow v (drop_after last C)
unfolding drop_after
drop_below v last [] o = tt
drop_below v last (y ∷ C) o = go (eqb y.e last.e && lt (absolute (sub y.t last.t)) near_last) (drop_below v last C o.1) (drop_below v y C o.1)
  where
    go : (b : Bool) → AllBelow v (drop_after last C) → AllBelow v (drop_after y C) → AllBelow v (elim b [ true ↦ drop_after last C | false ↦ y ∷ drop_after y C ])
    go true p q = p
    go false p q = (o.0, q)

-- the entries that are kept
dropped_below : (v : ℕ) (C : List Entry) → AllBelow v C → AllBelow v (kept_entries C)
unfolding kept_entries
dropped_below v [] o = tt
dropped_below v (x ∷ C) o = (o.0, drop_below v x C o.1)

-- The entries that a triangle keeps have vertices below v, if all loose vertices are.
pub kept_below : (v : ℕ) (sag : Float) (ps : List Float) (ns : List ℕ) (s : Sides) (gs : List ℕ) → ((j : ℕ) → j < length gs → get_or gs j 0 < v) → AllBelow v (triangle_kept sag ps ns s gs)
unfolding triangle_kept
kept_below v sag ps ns s gs l =
    let C₀ = entries_on sag ps ns s 0 gs [] in
    let C₁ = entries_on sag ps ns s 1 gs C₀ in
    let C₂ = entries_on sag ps ns s 2 gs C₁ in
    dropped_below v C₂ (found_below v sag ps ns s 2 gs C₁ l (found_below v sag ps ns s 1 gs C₀ l (found_below v sag ps ns s 0 gs [] l tt)))

-- the words of such entries
words_below : (v : ℕ) (xs ys : List ℕ) → length xs ≡ length ys → AllBelow v (entries_of xs ys) → (j : ℕ) → j < length xs → get_or xs j 0 % 262144 < v
unfolding entries_of
words_below v [] ys e o j b = absurd (omega (arith, b))
words_below v (x ∷ xs) [] e o j b = absurd (omega (arith, e))
words_below v (x ∷ xs) (y ∷ ys) e o zero b = o.0
words_below v (x ∷ xs) (y ∷ ys) e o (suc j) b = words_below v xs ys (omega (arith, e)) o.1 j (omega (arith, b))

-- The vertices of such entries in the work area are below v.
pub entry_below : (v : ℕ) (W : List ℕ) (at ts kept : ℕ) → at + kept ≤ length W → ts + kept ≤ length W → AllBelow v (entries_in W at ts kept) → (j : ℕ) → j < kept → get_or W (at + j) 0 % 262144 < v
entry_below v W at ts kept a b o j l =
    let x : length (take kept (drop at W)) ≡ kept = length-take-le kept (drop at W) (omega (arith, length-drop at W)) in
    let y : length (take kept (drop ts W)) ≡ kept = length-take-le kept (drop ts W) (omega (arith, length-drop ts W)) in
    let z : get_or (take kept (drop at W)) j 0 ≡ get_or W (at + j) 0 = stretch_at at kept W j 0 l in
    let w = words_below v (take kept (drop at W)) (take kept (drop ts W)) (omega (arith, x, y)) o j (omega (arith, x)) in
    subst (λ (u : ℕ). u % 262144 < v) z w
