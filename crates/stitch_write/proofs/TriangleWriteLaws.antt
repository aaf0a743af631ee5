-- Laws of writing one triangle: what its new vertices, their normals and its fan ask, and what they leave together. Assumes nothing.
use mathlib.Core.Path.{◌≡◌, sym, ap, ◌∙◌, subst}
use mathlib.Core.List.{List}
use Prim.Native.Nat.{ℕ, ◌+◌, ◌*◌, ◌%◌, ◌<◌, ◌≤◌}
use native.Mathlib.Omega.{arith}
use lib.ListN.{length, get_or, take, drop, length-drop}
use lib.Seq.{length-take-le}
use lib.Ieee.{Float}
use Rattle.lists.specs.Stretches.{stretch_at}
use Rattle.stitch_splits.specs.Entries.{Entry, entries_in}
use Rattle.stitch_rings.specs.Rings.{new_positions, new_normals}
use Rattle.slice_append.specs.Appended.{Appended}
use Rattle.stitch_rings.specs.Added.{VerticesReady, NormalsReady, FanReady, FanWritten}
use Rattle.stitch_count.specs.Counting.{sides_in, TriangleDone}
use Rattle.stitch_write.specs.KeptVertices.{AllBelow, kept_below, entry_below}
use Rattle.stitch_write.specs.Writing.{kept_at, fan_at, TriangleWritable, TriangleWritten}
use Rattle.stitch_count.specs.RowLaws.{entries_long}

module _ {ps ns : List Float} {is : List ℕ} {sag beyond : Float} {n v list count at ts flags order boxes top base k next vo io : ℕ} {W : List ℕ} {P N : List Float} {I : List ℕ}
    (g : TriangleWritable ps ns is sag beyond n v list count at ts flags order boxes top base k next vo io W P N I) where
  module _ {E : List ℕ} {found kept : ℕ} (d : TriangleDone ps is sag v list count at ts flags base k W E found kept) (long : length E ≡ length W) where
    -- the entries and their parameters stand in the work area
    words_room : at + kept ≤ length E
    words_room = omega (arith, d.held, g.ready.stands.apart, g.ready.stands.long)

    parameters_room : ts + kept ≤ length E
    parameters_room = omega (arith, d.held, g.ready.stands.long)

    -- as many as the triangle keeps
    pub kept_many : kept ≡ length (kept_at ps is sag v list count flags base k W)
    kept_many = sym (entries_long E at ts kept words_room parameters_room) ∙ ap length d.kept_are

    -- the loose vertices are below v
    loose_below : (j : ℕ) → j < length (take count (drop list W)) → get_or (take count (drop list W)) j 0 < v
    loose_below j b =
        let x : length (take count (drop list W)) ≡ count = length-take-le count (drop list W) (omega (arith, length-drop list W, g.ready.stands.listed.room)) in
        let l : j < count = omega (arith, b, x) in
        subst (λ (u : ℕ). u < v) (sym (stretch_at list count W j 0 l)) (g.ready.stands.listed.below j l)

    -- so are those of the entries
    vertex_low : (j : ℕ) → j < kept → get_or E (at + j) 0 % 262144 < v
    vertex_low =
        entry_below v E at ts kept words_room parameters_room
        (subst (AllBelow v) (sym d.kept_are) (kept_below v sag ps (take v W) (sides_in ps is v flags base k W) (take count (drop list W)) loose_below))

    -- the new positions can be written
    pub positions_ready : VerticesReady ps E at ts kept (3 * vo) P
    positions_ready =
        record {
          words = words_room;
          parameters = parameters_room;
          inside = λ j b. omega (arith, vertex_low j b, g.ready.stands.all);
          room = omega (arith, kept_many, g.room_positions);
        }

    -- so can the new normals
    pub normals_ready : {a b c : ℕ} → a ≡ base + get_or is k 0 → b ≡ base + get_or is (k + 1) 0 → c ≡ base + get_or is (k + 2) 0 → NormalsReady ns a b c E at ts kept (3 * vo) N
    normals_ready ea eb ec =
        record {
          words = words_room;
          parameters = parameters_room;
          in_a = omega (arith, ea, g.ready.in_a.low, g.all);
          in_b = omega (arith, eb, g.ready.in_b.low, g.all);
          in_c = omega (arith, ec, g.ready.in_c.low, g.all);
          room = omega (arith, kept_many, g.room_normals);
        }

    -- so can the fan
    pub fan_ready : (a b c : ℕ) → FanReady a b c next E at kept io I
    fan_ready a b c = record { words = words_room; small = omega (arith, d.few_kept, g.small); room = omega (arith, kept_many, g.room_indices) }

    -- the triangle is written
    pub triangle_written : {P' N' : List Float} {I' : List ℕ} {a b c end : ℕ} → a ≡ base + get_or is k 0 → b ≡ base + get_or is (k + 1) 0 → c ≡ base + get_or is (k + 2) 0
        → Appended (3 * vo) (new_positions ps (entries_in E at ts kept)) P P'
        → Appended (3 * vo) (new_normals ns a b c (entries_in E at ts kept)) N N'
        → FanWritten (get_or is k 0) (get_or is (k + 1) 0) (get_or is (k + 2) 0) next E at ts kept io I I' end
        → TriangleWritten ps ns is sag v list count at ts flags base k next vo io W E P P' N N' I I' (vo + kept) end
    triangle_written {P'} {N'} {I'} {a} {b} {c} {end} ea eb ec p q f =
        record {
          positions = subst (λ (C : List Entry). Appended (3 * vo) (new_positions ps C) P P') d.kept_are p;
          normals =
              subst (λ (C : List Entry). Appended (3 * vo) (new_normals ns (base + get_or is k 0) (base + get_or is (k + 1) 0) (base + get_or is (k + 2) 0) C) N N') d.kept_are
              (subst (λ (x : ℕ). Appended (3 * vo) (new_normals ns (base + get_or is k 0) (base + get_or is (k + 1) 0) x (entries_in E at ts kept)) N N') ec
              (subst (λ (x : ℕ). Appended (3 * vo) (new_normals ns (base + get_or is k 0) x c (entries_in E at ts kept)) N N') eb
              (subst (λ (x : ℕ). Appended (3 * vo) (new_normals ns x b c (entries_in E at ts kept)) N N') ea q)));
          indices_are = subst (λ (C : List Entry). Appended io (fan_at is k next C) I I') d.kept_are f.fan_is;
          vertices_end = omega (arith, kept_many);
          indices_end = f.end_is ∙ ap (λ (C : List Entry). io + length (fan_at is k next C)) d.kept_are;
          front = d.front;
          rest = d.rest;
        }
