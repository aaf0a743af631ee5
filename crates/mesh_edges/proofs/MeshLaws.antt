-- Laws of the stages: vertices joined by bits, uses named, their names joined and counted, and the words of the mesh's uses. Assumes nothing.
use mathlib.Core.Path.{◌≡◌, sym, ap, ◌∙◌, subst}
use mathlib.Core.List.{List, map}
use Prim.Native.Nat.{ℕ, ◌+◌, ◌-◌, ◌*◌, ◌%◌, ◌<◌, ◌≤◌}
use native.Mathlib.Omega.{arith}
use lib.ListN.{length, get_or, take, drop, length-drop}
use lib.Seq.{sets, get_or-drop, length-take-le, take_all}
use lib.Dec.{eqb}
use lib.Ieee.{Float}
use Rattle.lists.specs.Lists.{count_if}
use Rattle.lists.specs.Sets.{take_sets, drop_sets}
use Rattle.lists.specs.Stretches.{front_at, front_less, rest_less, stretch_at, stretch_kept, stretch_sets}
use Rattle.point_rules.specs.Rule.{names}
use Rattle.point_rules.specs.Names.{names_length}
use Rattle.body_rows.specs.Body.{triangles_of}
use Rattle.join_points.specs.declared.vertices.Rule.{Rule}
use Rattle.join_definition.specs.Join.{joined, RoomAt, JoinedAt}
use Rattle.join_definition.specs.Representatives.{joined_at, joined_low}
use Rattle.join_points.specs.Rules.{rule_of, JoinedPoints}
use Rattle.edge_uses.specs.Edges.{Use, triangle_uses}
use Rattle.edge_uses.specs.Named.{use_name, use_run, RowReady, NameReady}
use Rattle.edge_uses.specs.Counted.{CountReady, Counted}
use Rattle.edge_uses.specs.RowUses.{uses_agree, uses_count}
use Rattle.edge_uses.proofs.AreaLaws.{count_ready}
use Rattle.edge_uses.proofs.UseLaws.{low_triangles, get_d_map, length_named}
use Rattle.edge_uses.specs.UseLaws.{Apart}
use Rattle.mesh_tally.specs.declared.EdgeCounts.{EdgeCounts}
use Rattle.mesh_counts.specs.Counts.{counts_of}
use Rattle.mesh_tally.specs.Tally.{counts_in, UseWords, CountsOver, Tallied}
use Rattle.mesh_edges.specs.Mesh.{MeshReady, MeshCounted, mesh_uses, EdgesNamed, FirstsCounted}

-- ---- names joined and counted

module _ {at n : ℕ} {W : List ℕ} (g : RoomAt at n W) where
  -- the names
  abbrev there : List ℕ
  there = take n (drop at W)

  there_many : length there ≡ n
  there_many = length-take-le n (drop at W) (omega (arith, g.room, length-drop at W))

  module _ {X : List ℕ} (j : JoinedAt at n W X) (long : length X ≡ length W) where
    -- the counts have room behind the first uses
    pub counts_room : CountReady X (at + n) (at + 2 * n) n
    counts_room = count_ready at n X there there_many j.reps (omega (arith, g.room))

    -- the first uses are counted
    pub firsts_counted : {E : List ℕ} → Counted X (at + n) (at + 2 * n) n E → FirstsCounted at n W E
    firsts_counted {E} k =
        record {
          firsts = stretch_kept (at + n) n (at + 2 * n) X E k.front (omega arith) ∙ j.reps;
          count = λ i l. k.count i l ∙ ap (count_if (eqb i)) j.reps;
          front = front_less at (at + 2 * n) X E k.front (omega arith) ∙ j.front;
          rest = rest_less (at + 2 * n + n) (at + 4 * n) X E k.rest (omega arith) ∙ j.rest;
        }

-- ---- a mesh

module _ (rule : Rule) {ps : List Float} {is : List ℕ} {v : ℕ} {W : List ℕ} (g : MeshReady ps is v W) where
  -- the first vertex of each point
  abbrev points : List ℕ
  points = joined (names (rule_of rule) ps)

  points_low : (x : ℕ) → get_or points x 0 < 262144
  points_low = joined_low (names (rule_of rule) ps) 262144 (omega arith) (omega (arith, names_length (rule_of rule) ps v g.all, g.few_vertices))

  -- the uses of the mesh
  abbrev uses : List Use
  uses = mesh_uses rule ps is

  uses_many : length uses ≡ length is
  uses_many = uses_count 0 0 points is g.whole

  -- their names tell their edges apart
  apart : Apart (λ s. s) uses
  apart = record { shells = λ i j li lj e. e; low = λ i l. low_triangles 0 0 points (triangles_of is) points_low i }

  -- all indices
  indices_all : take (length is - 0) (drop 0 is) ≡ is
  indices_all = take_all (length is - 0) is (omega arith)

  -- a pass over the indices has the mesh's points before it
  module _ (X : List ℕ) (there : take v (drop v X) ≡ points) where
    point_at : (x : ℕ) → x < v → get_or X (v + x) 0 ≡ get_or points x 0
    point_at x l = sym (stretch_at v v X x 0 l) ∙ ap (λ (p : List ℕ). get_or p x 0) there

    row_ready : (at : ℕ) → v + v ≤ at → at + length is ≤ length X → RowReady is X v v 0 (length is) at
    row_ready at a room =
        record {
          ordered = omega arith;
          whole = let z : length is - 0 ≡ length is = omega arith in ap (λ (k : ℕ). k % 3) z ∙ g.whole;
          inside = omega arith;
          below = λ k l h. g.inside k h;
          apart = a;
          room = room;
          low = λ x l. subst (λ (n : ℕ). n < 262144) (sym (point_at x l)) (points_low x);
        }

    -- and meets the mesh's uses
    uses_met : triangle_uses 0 0 (drop v X) (triangles_of (take (length is - 0) (drop 0 is))) ≡ uses
    uses_met =
        ap (λ (l : List ℕ). triangle_uses 0 0 (drop v X) (triangles_of l)) indices_all
        ∙ uses_agree 0 0 v (drop v X) points (λ x l. get_or-drop v X x 0 ∙ point_at x l) is g.inside

  -- ---- the uses named

  module _ {X : List ℕ} (p : JoinedPoints rule ps v W X) (long : length X ≡ length W) where
    joined_there : take v (drop v X) ≡ points
    joined_there = p.reps

    pub name_ready : NameReady is X v v 0 (length is) (4 * v) 0
    name_ready = record { row = row_ready X joined_there (4 * v) (omega arith) (omega (arith, g.room)); shell_low = omega arith }

    -- the names of the uses
    abbrev ns : List ℕ
    ns = map use_name uses

    ns_many : length ns ≡ length is
    ns_many = length_named use_name uses ∙ uses_many

    pub edges_named : {E : List ℕ} → E ≡ sets X (4 * v + 0) (map use_name (triangle_uses 0 0 (drop v X) (triangles_of (take (length is - 0) (drop 0 is))))) → EdgesNamed rule ps is v W E
    edges_named {E} e =
        record {
          points = stretch_kept v v (4 * v) X E (ap (take (4 * v)) stored ∙ take_sets X (4 * v) ns) (omega arith) ∙ joined_there;
          named = ap (λ (l : List ℕ). take (length is) (drop (4 * v) l)) stored ∙ stretch_sets X (4 * v) ns (length is) ns_many (omega (arith, g.room));
          rest = ap (drop (4 * v + length is)) stored ∙ drop_sets X (4 * v) ns (4 * v + length is) (omega (arith, ns_many)) ∙ rest_less (4 * v) (4 * v + length is) W X p.rest (omega arith);
        }
      where
        place : 4 * v + 0 ≡ 4 * v
        place = omega arith

        stored : E ≡ sets X (4 * v) ns
        stored = e ∙ ap (λ (k : ℕ). sets X k (map use_name (triangle_uses 0 0 (drop v X) (triangles_of (take (length is - 0) (drop 0 is)))))) place
            ∙ ap (λ (us : List Use). sets X (4 * v) (map use_name us)) (uses_met X joined_there)

  -- ---- the uses counted

  module _ {X : List ℕ} (m : EdgesNamed rule ps is v W X) (x_long : length X ≡ length W) where
    module _ {Y : List ℕ} (f : FirstsCounted (4 * v) (length is) X Y) (y_long : length Y ≡ length X) where
      points_kept : take v (drop v Y) ≡ points
      points_kept = stretch_kept v v (4 * v) X Y f.front (omega arith) ∙ m.points

      -- the runs have room behind the counts
      pub runs_ready : RowReady is Y v v 0 (length is) (4 * v + 3 * length is)
      runs_ready = row_ready Y points_kept (4 * v + 3 * length is) (omega arith) (omega (arith, g.room))

      module _ {Z : List ℕ} (d : Z ≡ sets Y (4 * v + 3 * length is + 0) (map use_run (triangle_uses 0 0 (drop v Y) (triangles_of (take (length is - 0) (drop 0 is))))))
          (z-long : length Z ≡ length Y) where
        -- the ways the uses run
        abbrev runs : List ℕ
        runs = map use_run uses

        runs_many : length runs ≡ length is
        runs_many = length_named use_run uses ∙ uses_many

        stored : Z ≡ sets Y (4 * v + 3 * length is) runs
        stored =
            let place : 4 * v + 3 * length is + 0 ≡ 4 * v + 3 * length is = omega arith in
            d
            ∙ ap (λ (k : ℕ). sets Y k (map use_run (triangle_uses 0 0 (drop v Y) (triangles_of (take (length is - 0) (drop 0 is)))))) place
            ∙ ap (λ (us : List Use). sets Y (4 * v + 3 * length is) (map use_run us)) (uses_met Y points_kept)

        kept : take (4 * v + 3 * length is) Z ≡ take (4 * v + 3 * length is) Y
        kept = ap (take (4 * v + 3 * length is)) stored ∙ take_sets Y (4 * v + 3 * length is) runs

        -- the words are those of the mesh's uses
        words : UseWords uses Z (4 * v + length is) (length is)
        words =
            record {
              many = uses_many;
              apart = apart;
              first = λ i l.
                  front_at (4 * v + 3 * length is) (4 * v + length is + i) Y Z 0 kept (omega arith)
                  ∙ sym (stretch_at (4 * v + length is) (length is) Y i 0 l)
                  ∙ ap (λ (s : List ℕ). get_or s i 0) (f.firsts ∙ ap joined m.named)
                  ∙ joined_at (map use_name uses) i (omega (arith, length_named use_name uses, uses_many));
              count = λ i l.
                  let place : 4 * v + length is + length is + i ≡ 4 * v + 2 * length is + i = omega arith in
                  ap (λ (k : ℕ). get_or Z k 0) place
                  ∙ front_at (4 * v + 3 * length is) (4 * v + 2 * length is + i) Y Z 0 kept (omega arith)
                  ∙ f.count i l
                  ∙ ap (λ (s : List ℕ). count_if (eqb i) (joined s)) m.named;
              run = λ i l.
                  let place : 4 * v + length is + 2 * length is + i ≡ 4 * v + 3 * length is + i = omega arith in
                  ap (λ (k : ℕ). get_or Z k 0) place
                  ∙ sym (stretch_at (4 * v + 3 * length is) (length is) Z i 0 l)
                  ∙ ap (λ (s : List ℕ). get_or s i 0) (ap (λ (s : List ℕ). take (length is) (drop (4 * v + 3 * length is) s)) stored
                  ∙ stretch_sets Y (4 * v + 3 * length is) runs (length is) runs_many (omega (arith, g.room)))
                  ∙ get_d_map use_run uses i (omega (arith, uses_many));
            }

        counted_rest : drop (4 * v + 4 * length is) Z ≡ drop (4 * v + 4 * length is) W
        counted_rest =
            ap (drop (4 * v + 4 * length is)) stored
            ∙ drop_sets Y (4 * v + 3 * length is) runs (4 * v + 4 * length is) (omega (arith, runs_many))
            ∙ f.rest
            ∙ rest_less (4 * v + length is) (4 * v + 4 * length is) W X m.rest (omega arith)

        counts_are : {r : EdgeCounts} → CountsOver uses r → counts_in r ≡ counts_of (rule_of rule) ps is
        unfolding counts_of
        counts_are {r} c = rw (c.edges, c.opens, c.overs)

        pub mesh_counted : {r : EdgeCounts} → Tallied Z (4 * v + length is) (length is) r → MeshCounted rule ps is v W r Z
        mesh_counted t = record { counts = counts_are (t.counts uses words); rest = counted_rest }
